-- The lines of a schedule, as far as they say what a trace has: an input, so many steps of a choice, or a drain.
-- A schedule's lines map to these; the lines at its head, `queues`, `disk` and `expander`, have no block.
use Rattle.std.specs.Prelude.{ℕ, zero, suc, ◌-◌, List, [], ◌∷◌, ◌++◌, map, replicate}
use Rattle.std.specs.List.{range_with_len}
use Rattle.mpt_trace.specs.declared.input.Input.{Input}
use Rattle.mpt_trace.specs.declared.choice.Choice.{Choice}
use Rattle.mpt_trace.specs.declared.choice.Choice.TheVariants as choice

pub data Line : Type 0 where
  Asked : (input : Input) → Line
  Stepped : (choice : Choice) (count : ℕ) → Line
  Drained : Line

-- what a round of a drain tries: a step of a choice, or to run the oldest queued task
pub data Try : Type 0 where
  Chooses : (choice : Choice) → Try
  RunsOldest : Try

-- the reply queues above the first
abbrev pub above : ℕ → List ℕ
above queues = range_with_len 1 (queues - 1)

-- a round tries each of these once, in this order
abbrev pub tries_of_round : ℕ → List Try
tries_of_round queues =
    Chooses choice.HostPut
    ∷ Chooses choice.IocTake ∷ Chooses choice.IocHigh ∷ Chooses choice.IocNormal ∷ Chooses choice.IocOut
    ∷ Chooses choice.FabricTake ∷ RunsOldest ∷ Chooses choice.FabricSay ∷ Chooses choice.FabricPut
    ∷ Chooses choice.IocBack ∷ Chooses choice.IocPut
    ∷ map (λ queue. Chooses (choice.IocPutOn queue)) (above queues)
    ++ Chooses choice.HostTake
    ∷ map (λ queue. Chooses (choice.HostTakeOn queue)) (above queues)

-- what has one block: an input, a step of a choice, and a try of a drain, which makes no idle entry
pub data LineTurn : Type 0 where
  Asks : (input : Input) → LineTurn
  Steps : (choice : Choice) → LineTurn
  Tries : (try : Try) → LineTurn

abbrev pub rounds : ℕ → ℕ → List LineTurn
rounds queues zero = []
rounds queues (suc n) = map Tries (tries_of_round queues) ++ rounds queues n

-- the turns of the lines, with so many of a count, and given how many rounds each drain has
abbrev pub turns : ℕ → List ℕ → List Line → List LineTurn
turns queues drains [] = []
turns queues drains (Asked input ∷ lines) = Asks input ∷ turns queues drains lines
turns queues drains (Stepped choice count ∷ lines) = replicate count (Steps choice) ++ turns queues drains lines
turns queues [] (Drained ∷ lines) = turns queues [] lines
turns queues (n ∷ drains) (Drained ∷ lines) = rounds queues n ++ turns queues drains lines
