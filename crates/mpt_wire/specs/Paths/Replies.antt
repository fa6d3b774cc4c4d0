-- The reply of a result: what the controller tells the host of what a disk answered.
use Rattle.std.specs.Prelude.{◌≡◌, ℕ, ◌==◌, ◌&&◌, Bool, true, if◌then◌else◌, List, [], ◌∷◌, ◌++◌, length, Option, Some, None, MatchOption}
use Rattle.std.specs.Bool.{MatchBool}
use Rattle.mpi_layout.specs.Rows.{field}
use Rattle.scsi_disk.specs.Command.{moved}
use Rattle.scsi_disk.specs.declared.command.Command.{Command}
use Rattle.scsi_disk.specs.declared.scsi_result.ScsiResult.{ScsiResult}
use Rattle.scsi_disk.specs.declared.scsi_result.TheConstants.{GOOD}
use Rattle.mpt_trace.specs.declared.item.Up.TheVariants as up
use Rattle.mpt_trace.specs.declared.item.Back.TheVariants as back
use Rattle.mpt_trace.specs.declared.item.Item.TheVariants as item
use Rattle.mpt_trace.specs.declared.lane.LaneName.{LaneName}
use Rattle.mpt_trace.specs.declared.entry.Entry.{Entry}
use Rattle.mpt_trace.specs.declared.entry.Entry.TheVariants as entry
use Rattle.mpt_wire.specs.Messages.Fields.{address_flags, flags_in, ioc_status_in, scsi_status_in, sense_count_in, success_descriptor, transfer_count_in}
use Rattle.mpt_wire.specs.Messages.Naming.{data_underrun, names_command, success}
use Rattle.mpt_wire.specs.Walks.Passes.{Passes, state_after}
use Rattle.mpt_wire.specs.Paths.Commands.{Live, known_next, nothing_known}
use Rattle.mpt_wire.specs.Paths.Stages.{PathStage, HasResult, Walk, no_walk, walk_next}

-- SCSIState: mpi2_init.h, MPI2_SCSI_STATE_AUTOSENSE_VALID
abbrev pub autosense_valid : ℕ
autosense_valid = 0x01

abbrev pub scsi_state_in : List ℕ → ℕ
scsi_state_in frame = field frame 0x0d 1

-- the disk was content, and all bytes were moved
abbrev pub is_whole : Command → ScsiResult → Bool
is_whole command result = (result.status == GOOD) && (moved command result == command.len)

-- the IOCStatus of a result: an underrun where fewer bytes were moved than the command's length
abbrev pub status_of : Command → ScsiResult → ℕ
status_of command result = if moved command result == command.len then success else data_underrun

abbrev pub state_of_sense : List ℕ → ℕ
state_of_sense [] = 0
state_of_sense (byte ∷ sense) = autosense_valid

-- the frame of a result that isn't whole
pub record FrameTells (command : Command) (result : ScsiResult) (frame : List ℕ) : Type 0 where
  pub ioc_status : ioc_status_in frame ≡ status_of command result
  pub scsi_status : scsi_status_in frame ≡ result.status
  pub scsi_state : scsi_state_in frame ≡ state_of_sense result.sense
  pub moved : transfer_count_in frame ≡ moved command result
  pub sense : sense_count_in frame ≡ length result.sense

-- the reply has a frame
abbrev pub HasFrame : ℕ → Option (List ℕ) → (List ℕ → Type 0) → Type 0
HasFrame descriptor frame P = (flags_in descriptor ≡ address_flags) × MatchOption frame ⊥ P

-- the reply tells the result: by the success descriptor alone exactly where it is whole, else by a frame. Page and
-- sense are the result's data and sense
abbrev pub Tells : ℕ → Command → ScsiResult → ℕ → Option (List ℕ) → List ℕ → List ℕ → Type 0
Tells s command result descriptor frame page sense =
    (page ≡ result.payload) × (sense ≡ result.sense)
    × MatchBool (is_whole command result) ((descriptor ≡ success_descriptor s) × (frame ≡ None)) (HasFrame descriptor frame (FrameTells command result))

-- the reply of a command that has no result
abbrev pub TellsNothing : List ℕ → List ℕ → Type 0
TellsNothing page sense = (page ≡ []) × (sense ≡ [])

-- ---- the plain form

-- the result of the open command of s, once it was taken
abbrev pub result_next : ℕ → Option ScsiResult → Entry → Option ScsiResult
result_next s r (entry.Accept n address smid) = if smid == s then None else r
result_next s r (entry.Take lane (item.Back (back.Result tag result))) = if tag == s then Some result else r
result_next s r _ = r

abbrev pub result_taken : ℕ → List Entry → Option ScsiResult
result_taken s t = state_after (result_next s) None t

-- the command that is open under s
abbrev pub open_under : ℕ → List Entry → Option Live
open_under s t = (state_after (known_next s) nothing_known t).live

-- what a reply tells of a command with this result, if it has one
abbrev pub TellsOf : ℕ → Command → Option ScsiResult → ℕ → Option (List ℕ) → List ℕ → List ℕ → Type 0
TellsOf s command None descriptor frame page sense = TellsNothing page sense
TellsOf s command (Some result) descriptor frame page sense = Tells s command result descriptor frame page sense

-- each reply to a command tells the result that was taken before it
abbrev pub RepliesTell : ℕ → List Entry → Type 0
RepliesTell s t =
    (before after : List Entry) (lane : LaneName) (descriptor : ℕ) (frame : Option (List ℕ)) (page sense : List ℕ) (c : Live)
    → t ≡ before ++ entry.Put lane (item.Up (up.Reply descriptor frame page sense)) ∷ after
    → names_command s descriptor ≡ true → open_under s before ≡ Some c
    → TellsOf s c.command (result_taken s before) descriptor frame page sense

-- ---- the walking form, beside the stages of the path

-- what a reply tells at a stage
abbrev pub TellsAt : ℕ → Option Live → PathStage → ℕ → Option (List ℕ) → List ℕ → List ℕ → Type 0
TellsAt s None k descriptor frame page sense = Unit {0}
TellsAt s (Some c) (HasResult result) descriptor frame page sense = Tells s c.command result descriptor frame page sense
TellsAt s (Some c) k descriptor frame page sense = TellsNothing page sense

abbrev pub RepliesAsk : ℕ → Walk → Entry → Type 0
RepliesAsk s g (entry.Put lane (item.Up (up.Reply descriptor frame page sense))) =
    MatchBool (names_command s descriptor) (TellsAt s g.known.live g.stage descriptor frame page sense) (Unit {0})
RepliesAsk s g e = Unit {0}

abbrev pub RepliesPass : ℕ → List Entry → Type 0
RepliesPass s t = Passes (walk_next s) (RepliesAsk s) no_walk t
