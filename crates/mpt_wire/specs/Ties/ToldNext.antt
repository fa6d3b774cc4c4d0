-- What a reply makes the host tell is told: it is the host's next entry.
use Rattle.std.specs.Prelude.{◌≡◌, ℕ, ◌==◌, Bool, true, false, if◌then◌else◌, List, [], ◌∷◌, Option, Some, None}
use Rattle.std.specs.Bool.{MatchBool}
use Rattle.mpi_rings.specs.declared.request_descriptor.PostKind.TheVariants as post
use Rattle.mpt_messages.specs.Function.{byte_of}
use Rattle.mpt_messages.specs.declared.function.Function.TheVariants as function
use Rattle.mpt_trace.specs.declared.input.Input.{Input}
use Rattle.mpt_trace.specs.declared.input.Input.TheVariants as input
use Rattle.mpt_trace.specs.declared.item.Item.TheVariants as item
use Rattle.mpt_trace.specs.declared.item.Up.{Up}
use Rattle.mpt_trace.specs.declared.item.Up.TheVariants as up
use Rattle.mpt_trace.specs.declared.outcome.Outcome.{Outcome}
use Rattle.mpt_trace.specs.declared.outcome.AbortOutcome.{AbortOutcome}
use Rattle.mpt_trace.specs.declared.outcome.TargetOutcome.{TargetOutcome}
use Rattle.mpt_trace.specs.declared.entry.Entry.{Entry}
use Rattle.mpt_trace.specs.declared.entry.Entry.TheVariants as entry
use Rattle.mpt_wire.specs.Walks.Ahead.{PassesAhead}
use Rattle.mpt_wire.specs.Machine.Calls.{call_of, is_call_refused}
use Rattle.mpt_wire.specs.Messages.Fields.{Change, function_in, smid_in, target_not_responding}
use Rattle.mpt_wire.specs.Handles.Names.{Disk, changes_told, page_carried}
use Rattle.mpt_wire.specs.Queues.LeastPosts.{Giving, giving_next, least_of, nothing_given}
use Rattle.mpt_wire.specs.Queues.Marks.{is_command}
use Rattle.mpt_wire.specs.Machine.State.{put_at}

-- what an open abort or a target reset that was asked from outside ends with
pub data AwaitedEnd : Type 0 where
  -- the abort of the number
  OfAbort : (n : ℕ) → AwaitedEnd
  -- the target reset of the address
  OfReset : (address : ℕ) → AwaitedEnd

pub record Awaiting : Type 0 where
  -- what was said so far, and which identifiers are open
  pub giving : Giving
  -- by high priority identifier: what its reply ends
  pub ends : ℕ → Option AwaitedEnd
  -- by handle: the address that was told as ready with it, and not as lost since
  pub ready : ℕ → Option ℕ

abbrev pub nothing_awaited : Awaiting
nothing_awaited = record { giving = nothing_given; ends = λ s. None; ready = λ h. None }

-- ---- what is awaited

-- the input asks for an abort or for a target reset
abbrev pub ends_of : Input → Option AwaitedEnd
ends_of (input.Abort n) = Some (OfAbort n)
ends_of (input.TargetReset address) = Some (OfReset address)
ends_of _ = None

abbrev pub ends_at : Option ℕ → Option AwaitedEnd → (ℕ → Option AwaitedEnd) → (ℕ → Option AwaitedEnd)
ends_at (Some s) (Some how) ends = put_at s (Some how) ends
ends_at _ _ ends = ends

-- one that isn't refused gets the least free identifier
abbrev pub asked_end : Awaiting → Input → Option Entry → (ℕ → Option AwaitedEnd)
asked_end g given ahead = if is_call_refused (call_of given) ahead then g.ends else ends_at (least_of post.HighPriority g.giving.high) (ends_of given) g.ends

abbrev pub awaiting_by : Awaiting → Entry → Option Entry → Awaiting
awaiting_by g (entry.Given given) ahead = record g { ends = asked_end g given ahead }
awaiting_by g (entry.Take lane (item.Up (up.Reply descriptor frame page sense))) ahead = record g { ends = put_at (smid_in descriptor) None g.ends }
awaiting_by g (entry.Ready address handle) ahead = record g { ready = put_at handle (Some address) g.ready }
awaiting_by g (entry.Lost address handle) ahead = record g { ready = put_at handle None g.ready }
awaiting_by g entry.ResetDone ahead = record g { ends = λ s. None; ready = λ h. None }
awaiting_by g _ ahead = g

abbrev pub awaiting_next : Awaiting → Entry → Option Entry → Awaiting
awaiting_next g e ahead = record (awaiting_by g e ahead) { giving = giving_next g.giving e ahead }

-- ---- what is told

-- the answer of the number, which has the reply's identifier
abbrev pub AnswersNumber : Option ℕ → Option Entry → Type 0
AnswersNumber None ahead = ⊥
AnswersNumber (Some n) ahead = (how : Outcome) × (ahead ≡ Some (entry.Answer n how))

-- the end of the abort or of the target reset
abbrev pub TellsEnd : Option AwaitedEnd → Option Entry → Type 0
TellsEnd None ahead = Unit {0}
TellsEnd (Some (OfAbort n)) ahead = (how : AbortOutcome) × (ahead ≡ Some (entry.AbortEnd n how))
TellsEnd (Some (OfReset address)) ahead = (how : TargetOutcome) × (ahead ≡ Some (entry.TargetEnd address how))

-- the page's disk is ready
abbrev pub TellsReady : Option Disk → Option Entry → Type 0
TellsReady None ahead = Unit {0}
TellsReady (Some disk) ahead = ahead ≡ Some (entry.Ready disk.address disk.handle)

-- the port is enabled
abbrev pub enables_port : Option (List ℕ) → Bool
enables_port None = false
enables_port (Some frame) = function_in frame == byte_of function.PortEnable

-- a disk that was ready departs
abbrev pub lost_of : (ℕ → Option ℕ) → Change → Option ℕ
lost_of ready change = if change.status == target_not_responding then ready change.handle else None

abbrev pub TellsLost : ℕ → Option ℕ → Option Entry → Type 0
TellsLost handle None ahead = Unit {0}
TellsLost handle (Some address) ahead = ahead ≡ Some (entry.Lost address handle)

abbrev pub TellsChanges : (ℕ → Option ℕ) → List Change → Option Entry → Type 0
TellsChanges ready [] ahead = Unit {0}
TellsChanges ready (change ∷ changes) ahead = TellsLost change.handle (lost_of ready change) ahead

-- what a reply makes the host tell that is no command's, abort's or target reset's: nothing while a reset is going on
abbrev pub TellsUnless : Bool → Awaiting → Up → Option (List ℕ) → Option Entry → Type 0
TellsUnless true g i frame ahead = Unit {0}
TellsUnless false g i frame ahead =
    TellsReady (page_carried i) ahead × TellsChanges g.ready (changes_told i) ahead × MatchBool (enables_port frame) (ahead ≡ Some entry.HostUp) (Unit {0})

-- the reply is a command's, whose answer is told, or another
abbrev pub AwaitingAsks : Awaiting → Entry → Option Entry → Type 0
AwaitingAsks g (entry.Take lane (item.Up (up.Reply descriptor frame page sense))) ahead =
    MatchBool (is_command (smid_in descriptor))
    (AnswersNumber (g.giving.so_far.number_of (smid_in descriptor)) ahead)
    (TellsEnd (g.ends (smid_in descriptor)) ahead × TellsUnless g.giving.so_far.resetting g (up.Reply descriptor frame page sense) frame ahead)
AwaitingAsks g _ ahead = Unit {0}

-- each completed answer, each end of an abort or of a target reset, each disk that is ready or lost, and that the host
-- is up, is told next after the reply that says it
abbrev pub RepliesAreToldNext : List Entry → Type 0
RepliesAreToldNext t = PassesAhead awaiting_next AwaitingAsks nothing_awaited t
