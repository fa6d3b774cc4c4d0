-- Where a host has the results that it tells.
use Rattle.std.specs.Prelude.{◌≡◌, ℕ, ◌<◌, List, Contains, Option, Some, None, slice_get}
use Rattle.scsi_disk.specs.declared.scsi_result.ScsiResult.{ScsiResult}
use Rattle.scsi_disk.specs.declared.scsi_result.TheConstants.{GOOD}
use Rattle.mpt_trace.specs.declared.entry.Entry.TheVariants as entry
use Rattle.mpt_trace.specs.declared.item.Up.{Up}
use Rattle.mpt_trace.specs.declared.item.Up.TheVariants as up
use Rattle.mpt_trace.specs.declared.outcome.Outcome.TheVariants as ending
use Rattle.mpt_wire.specs.Messages.Fields.{scsi_status_in, smid_in}
use Rattle.mpt_rules.specs.Host.Parts.{new_host}
use Rattle.host_core.specs.declared.moves.HostMove.{HostMove}
use Rattle.host_core.specs.declared.moves.HostMove.TheVariants as move
use Rattle.host_core.specs.declared.moves.HostSaid.{HostSaid}
use Rattle.host_core.specs.declared.moves.HostSaid.TheVariants as said
use Rattle.law_ends.specs.HostEnds.{host_talk}

-- the item that a move brings
abbrev pub item_brought : HostMove → Option Up
item_brought (move.Input i) = None
item_brought (move.Up item) = Some item
item_brought (move.UpOn queue item) = Some item
item_brought move.PutDown = None

-- the SCSI status that a reply says: one without a frame means GOOD
abbrev pub status_said : Option (List ℕ) → ℕ
status_said None = GOOD
status_said (Some frame) = scsi_status_in frame

-- the result that a reply says: its status, its data and its sense
abbrev pub result_said : Option (List ℕ) → List ℕ → List ℕ → ScsiResult
result_said frame payload sense = record { status = status_said frame; payload = payload; sense = sense }

-- the number was accepted under an identifier at an earlier place, and the move at this place brings a reply of that
-- identifier that says this result
pub record IsOfReply (moves : List HostMove) (talk : List (ℕ × HostSaid)) (place n : ℕ) (result : ScsiResult) : Type 0 where
  pub accepted_at : ℕ
  pub address : ℕ
  pub smid : ℕ
  pub accepted : Contains talk (accepted_at, said.Told (entry.Accept n address smid))
  pub earlier : accepted_at < place
  pub played : HostMove
  pub descriptor : ℕ
  pub frame : Option (List ℕ)
  pub payload : List ℕ
  pub sense : List ℕ
  pub is_played : slice_get moves place ≡ Some played
  pub brings : item_brought played ≡ Some (up.Reply descriptor frame payload sense)
  pub names : smid_in descriptor ≡ smid
  pub says : result ≡ result_said frame payload sense

-- each result that a new host tells, over any list of moves, is of such a reply
abbrev pub ResultsAreOfReplies : Type 0
ResultsAreOfReplies =
    (q : ℕ) (moves : List HostMove) (place n : ℕ) (result : ScsiResult)
    → Contains (host_talk (new_host q) moves) (place, said.Told (entry.Answer n (ending.Done result)))
    → IsOfReply moves (host_talk (new_host q) moves) place n result
