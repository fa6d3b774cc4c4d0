-- A trace fits a plan: the submitters ask their lines, the host and the fabric do theirs, and each submitter is told of
-- its own numbers.
use Rattle.std.specs.Prelude.{◌≡◌, ℕ, ◌+◌, ◌==◌, Bool, true, false, if◌then◌else◌, List, [], ◌∷◌, ◌++◌, filter_map, length, map, Option, Some, None}
use Rattle.std.specs.List.{list_any}
use Rattle.mpt_trace.specs.declared.input.Input.{Input}
use Rattle.mpt_trace.specs.declared.input.Input.TheVariants as input
use Rattle.mpt_trace.specs.declared.lane.LaneName.TheVariants as lane
use Rattle.mpt_trace.specs.declared.item.Ask.TheVariants as ask
use Rattle.mpt_trace.specs.declared.item.Tell.TheVariants as tell
use Rattle.mpt_trace.specs.declared.item.Item.{Item}
use Rattle.mpt_trace.specs.declared.item.Item.TheVariants as item
use Rattle.mpt_trace.specs.declared.entry.Entry.{Entry}
use Rattle.mpt_trace.specs.declared.entry.Entry.TheVariants as entry
use Rattle.mpt_trace.specs.declared.parties.Party.{Party}
use Rattle.mpt_trace.specs.declared.parties.Party.TheVariants as party
use Rattle.mpt_wire.specs.Walks.Ahead.{PassesAhead, is_of}
use Rattle.mpt_wire.specs.Queues.Lanes.{put_on_lane}
use Rattle.mpt_wire.specs.Ties.ToldInPlace.{TellsInPlace}

-- what a plan says of the order: the plugs before the first submitter, the lines of each submitter, and the lines of the
-- fabric's block
pub record Order : Type 0 where
  pub plugs : List Input
  pub submitters : List (List Input)
  pub fabric : List Input

-- ---- asks

-- a submitter asks its lines, and then says `bye`
abbrev pub asks_of : List Input → List Item
asks_of lines = map (λ line. item.Ask (ask.Line line)) lines ++ item.Ask ask.Bye ∷ []

-- each submitter puts its lines, in order, on its lane
abbrev pub AsksPut : ℕ → List (List Input) → List Entry → Type 0
AsksPut i [] t = Unit {0}
AsksPut i (lines ∷ submitters) t = (filter_map (put_on_lane (lane.Ask i)) t ≡ asks_of lines) × AsksPut (i + 1) submitters t

-- nothing is put on a lane of a submitter that isn't there
abbrev pub NoMoreAsks : ℕ → List Entry → Type 0
NoMoreAsks submitters t = (i : ℕ) → (filter_map (put_on_lane (lane.Ask (submitters + i))) t ≡ []) × (filter_map (put_on_lane (lane.Tell (submitters + i))) t ≡ [])

-- ---- inputs

-- an input of the party
abbrev pub input_of : Party → Entry → Option Input
input_of p (entry.Given given) = if is_of p (entry.Given given) then Some given else None
input_of p _ = None

abbrev pub inputs_of : Party → List Entry → List Input
inputs_of p t = filter_map (input_of p) t

-- the line that the host takes from a submitter
abbrev pub line_asked : Entry → Option Input
line_asked (entry.Take (lane.Ask i) (item.Ask (ask.Line line))) = Some line
line_asked _ = None

-- the host's inputs are `start` and then each line that it took
abbrev pub HostDoesAsks : List Entry → Type 0
HostDoesAsks t = inputs_of party.Host t ≡ input.Start ∷ filter_map line_asked t

-- after the taking of a line the host's next entry is that input
abbrev pub IsDoneNext : Option Input → Option Entry → Type 0
IsDoneNext None next = Unit {0}
IsDoneNext (Some line) next = next ≡ Some (entry.Given line)

abbrev pub AsksAreDone : List Entry → Type 0
AsksAreDone t = PassesAhead (λ (g : Unit {0}) e next. g) (λ g e next. IsDoneNext (line_asked e) next) tt t

-- the fabric's inputs are the plan's plugs and then its own block
abbrev pub FabricDoes : Order → List Entry → Type 0
FabricDoes order t = inputs_of party.Fabric t ≡ order.plugs ++ order.fabric

-- ---- tells

-- a submission of n
abbrev pub is_submit_of : ℕ → Input → Bool
is_submit_of n (input.Submit k address form) = k == n
is_submit_of n _ = false

-- the number is one of these lines
abbrev pub has_number : List Input → ℕ → Bool
has_number lines n = list_any (is_submit_of n) lines

-- what the submitter of these lines is told of an entry
abbrev pub tell_of : List Input → Entry → Option Item
tell_of lines (entry.Answer n outcome) = if has_number lines n then Some (item.Tell (tell.Answer n outcome)) else None
tell_of lines (entry.RefuseSubmit n cause) = if has_number lines n then Some (item.Tell (tell.RefuseSubmit n cause)) else None
tell_of lines _ = None

-- each answer and refusal of a submitter's number is put on its lane once, in their order
abbrev pub TellsPut : ℕ → List (List Input) → List Entry → Type 0
TellsPut i [] t = Unit {0}
TellsPut i (lines ∷ submitters) t = (filter_map (put_on_lane (lane.Tell i)) t ≡ filter_map (tell_of lines) t) × TellsPut (i + 1) submitters t

-- no choice was idle: a session makes none
abbrev pub is_idle : Entry → Bool
is_idle (entry.Idle choice) = true
is_idle _ = false

pub record FitsPlan (order : Order) (t : List Entry) : Type 0 where
  pub asks : AsksPut 0 order.submitters t
  pub no_more : NoMoreAsks (length order.submitters) t
  pub host : HostDoesAsks t
  pub next : AsksAreDone t
  pub fabric : FabricDoes order t
  pub tells : TellsPut 0 order.submitters t
  pub no_idle : list_any is_idle t ≡ false
  -- what is told stands right after an entry of its own party
  pub in_place : TellsInPlace t
