-- A trace fits a schedule: it is the list of the blocks of the schedule's lines, in order.
use Rattle.std.specs.Prelude.{◌≡◌, ℕ, List, [], ◌∷◌, take, flat_map}
use Rattle.mpt_trace.specs.declared.entry.Entry.{Entry}
use Rattle.mpt_wire.specs.Fits.Blocks.{IsBlock, Past, no_past, past_after}
use Rattle.mpt_wire.specs.Fits.Lines.{Line, LineTurn, turns}

-- these are the blocks of the turns
abbrev pub AreBlocks : Past → List LineTurn → List (List Entry) → Type 0
AreBlocks past [] [] = Unit {0}
AreBlocks past [] (block ∷ blocks) = ⊥
AreBlocks past (turn ∷ rest) [] = ⊥
AreBlocks past (turn ∷ rest) (block ∷ blocks) = IsBlock past turn block × AreBlocks (past_after past turn block) rest blocks

abbrev pub joined : List (List Entry) → List Entry
joined blocks = flat_map (λ block. block) blocks

-- the trace is a list of blocks of the turns
abbrev pub FitsTurns : List LineTurn → List Entry → Type 0
FitsTurns turns t = (blocks : List (List Entry)) × (t ≡ joined blocks) × AreBlocks no_past turns blocks

-- the trace fits the lines of a schedule with so many reply queues; each drain has some number of rounds
abbrev pub FitsSchedule : ℕ → List Line → List Entry → Type 0
FitsSchedule queues lines t = (drains : List ℕ) × FitsTurns (turns queues drains lines) t

-- the same of a run that went so far: the trace fits the first of the turns
abbrev pub FitsSoFar : ℕ → List Line → List Entry → Type 0
FitsSoFar queues lines t = (drains : List ℕ) × (done : ℕ) × FitsTurns (take done (turns queues drains lines)) t
