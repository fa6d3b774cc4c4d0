-- How a contract sees a submitter.
use Rattle.std.specs.Prelude.{◌≡◌, ℕ, Bool, true, false}
use Rattle.mpt_live.specs.Recorded.{LeadsTo, Recorded, submitter_enters}
use Rattle.mpt_live.specs.Traffic.{Account, KeepsLanes, SubmitterLanes, submitter_lanes, submitter_traffic}

-- its number, and its journal with its clock
pub record NumberedRecord : Type 0 where
  pub number : ℕ
  pub recorded : Recorded (Unit {0})

-- its number, its journal with its clock, its ends of the lanes, whether it has ended, and whether memory was wanting
pub record NumberedEnd : Type 0 where
  pub number : ℕ
  pub recorded : Recorded (Unit {0})
  pub lanes : SubmitterLanes
  pub has_ended : Bool
  pub is_spent : Bool

-- its journal, and what went through its ends of the lanes
abbrev pub submitter_account : NumberedEnd → Account
submitter_account end = record { row = end.recorded.row; traffic = submitter_traffic end.number end.lanes; lanes = submitter_lanes end.lanes }

-- some list of cases was made, each recorded and each item of it through the lanes; or none was
abbrev pub SubmitterSteps : NumberedEnd → Bool → NumberedEnd → Type 0
SubmitterSteps from true to = LeadsTo (submitter_enters from.number) from.recorded to.recorded × KeepsLanes (submitter_account from) (submitter_account to)
SubmitterSteps from false to = (to.recorded ≡ from.recorded) × (to.lanes ≡ from.lanes)
