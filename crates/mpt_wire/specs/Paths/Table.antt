-- The table of paths: what may happen to a command, from its accept to its answer.
use Rattle.std.specs.Prelude.{◌≡◌, ℕ, ◌⊎◌, List, [], ◌∷◌}
use Rattle.scsi_disk.specs.declared.command.Command.{Command}
use Rattle.scsi_disk.specs.declared.scsi_result.ScsiResult.{ScsiResult}
use Rattle.mpt_trace.specs.declared.outcome.Outcome.{Outcome}
use Rattle.mpt_trace.specs.declared.outcome.Outcome.TheVariants as outcome
use Rattle.mpt_wire.specs.Messages.Naming.{Says, NotThere, Stopped, AResult}

-- what may happen to a command. `TakesAbort` is the taking of an abort post that names it, and `IsAcceptedAgain`
-- the accept of another command under its identifier before its answer
pub data PathMark : Type 0 where
  PutsPost : PathMark
  TakesPost : PathMark
  PutsTask : (address : ℕ) (command : Command) → PathMark
  TakesTask : (address : ℕ) (command : Command) → PathMark
  RunsAt : (address : ℕ) → PathMark
  PutsResult : (result : ScsiResult) → PathMark
  TakesResult : (result : ScsiResult) → PathMark
  PutsGone : PathMark
  TakesGone : PathMark
  PutsTerminated : PathMark
  TakesTerminated : PathMark
  PutsReply : (says : Says) → PathMark
  TakesReply : (says : Says) → PathMark
  Answers : (outcome : Outcome) → PathMark
  TakesAbort : PathMark
  IsAcceptedAgain : PathMark

-- the end of a path: the reply, and the answer
abbrev pub path_replied : Says → Outcome → List PathMark
path_replied says ending = PutsReply says ∷ TakesReply says ∷ Answers ending ∷ []

-- the command's task at the fabric
abbrev pub path_sent : ℕ → Command → List PathMark → List PathMark
path_sent address command rest = PutsTask address command ∷ TakesTask address command ∷ rest

abbrev pub path_posted : List PathMark → List PathMark
path_posted rest = PutsPost ∷ TakesPost ∷ rest

-- the disk did it, with this result
abbrev pub path_done : ℕ → Command → ScsiResult → List PathMark
path_done address command result =
    path_posted (path_sent address command (RunsAt address ∷ PutsResult result ∷ TakesResult result ∷ path_replied AResult (outcome.Done result)))

abbrev pub path_gone_at_fabric : ℕ → Command → List PathMark
path_gone_at_fabric address command = path_posted (path_sent address command (PutsGone ∷ TakesGone ∷ path_replied NotThere outcome.Gone))

abbrev pub path_stopped_at_fabric : ℕ → Command → List PathMark
path_stopped_at_fabric address command = path_posted (path_sent address command (PutsTerminated ∷ TakesTerminated ∷ path_replied Stopped outcome.Terminated))

abbrev pub path_gone_at_controller : List PathMark
path_gone_at_controller = path_posted (path_replied NotThere outcome.Gone)

abbrev pub path_stopped_in_queue : List PathMark
path_stopped_in_queue = path_posted (path_replied Stopped outcome.Terminated)

-- the marks are the first of the path; a reset answer may end it at any place. The taking of an abort is no part of
-- a path, and may stand anywhere
abbrev pub IsOn : List PathMark → List PathMark → Type 0
IsOn path [] = Unit {0}
IsOn path (TakesAbort ∷ marks) = IsOn path marks
IsOn path (Answers outcome.Reset ∷ marks) = marks ≡ []
IsOn [] (m ∷ marks) = ⊥
IsOn (place ∷ path) (m ∷ marks) = (m ≡ place) × IsOn path marks

-- no reply is put before an abort was taken
abbrev pub AbortComesFirst : List PathMark → Type 0
AbortComesFirst [] = Unit {0}
AbortComesFirst (TakesAbort ∷ marks) = Unit {0}
AbortComesFirst (PutsReply says ∷ marks) = ⊥
AbortComesFirst (m ∷ marks) = AbortComesFirst marks

-- the marks of a command for the disk of an address are on one of the five paths
abbrev pub IsOnTable : ℕ → Command → List PathMark → Type 0
IsOnTable address command marks =
    ((result : ScsiResult) × IsOn (path_done address command result) marks)
    ⊎ (IsOn (path_gone_at_fabric address command) marks
    ⊎ (IsOn (path_stopped_at_fabric address command) marks
    ⊎ (IsOn path_gone_at_controller marks
    ⊎ (IsOn path_stopped_in_queue marks × AbortComesFirst marks))))
