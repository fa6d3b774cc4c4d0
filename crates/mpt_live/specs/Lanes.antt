-- The lanes of a session, as the parties see them.
use Rattle.std.specs.Prelude.{◌≡◌, ◌++◌, ◌∷◌, [], ℕ, Bool, true, false, List, Option, Some}
use Rattle.atomic_table.specs.Seated.{TableId}
use Rattle.mpt_lane.specs.Lane.{IsGiverOf, IsTakerOf}
use Rattle.mpt_lane.specs.declared.lane.Giver.{Giver}
use Rattle.mpt_lane.specs.declared.lane.Lane.{Lane}
use Rattle.mpt_lane.specs.declared.lane.Taker.{Taker}
use Rattle.mpt_live.specs.declared.sent.Sent.{Sent}

-- which lane it is
abbrev pub LaneId : Type 0
LaneId = TableId

abbrev pub lane_id : {T : Type 0} → Lane T → LaneId
lane_id lane = lane.queue.table.shared.table_id

-- a party's end of a lane: which lane it is, and what went through the end, the first first
pub record LaneEnd (T : Type 0) : Type 0 where
  pub lane : LaneId
  pub items : List (Sent T)

-- the giver was opened with this lane
abbrev pub GivesOn : {T : Type 0} → LaneId → Giver (Sent T) → Type 0
GivesOn {T = T} id giver = (lane : Lane (Sent T)) → lane_id lane ≡ id → IsGiverOf lane giver

-- the taker was opened with this lane
abbrev pub TakesOn : {T : Type 0} → LaneId → Taker (Sent T) → Type 0
TakesOn {T = T} id taker = (lane : Lane (Sent T)) → lane_id lane ≡ id → IsTakerOf lane taker

module _ {T : Type 0} where
  -- the end after one more item
  abbrev pub with_item : LaneEnd T → Sent T → LaneEnd T
  with_item end sent = record { lane = end.lane; items = end.items ++ sent ∷ [] }

  -- the item was put on the lane, with this stamp, behind those that were sent before
  pub record HasSent (before : LaneEnd T) (stamp : ℕ) (item : T) (after : LaneEnd T) : Type 0 where
    pub sent : Sent T
    pub stamped : sent.stamp ≡ stamp
    pub carries : sent.item ≡ item
    pub put : after ≡ with_item before sent

  -- the item that was to be put next was put on the lane, with this stamp; or nothing was
  abbrev pub WasGiven : Option T → LaneEnd T → ℕ → Bool → LaneEnd T → Type 0
  WasGiven next before stamp true after = (item : T) × (next ≡ Some item) × HasSent before stamp item after
  WasGiven next before stamp false after = after ≡ before
