-- A giver or a taker of a lane, by which lane it is.
use Rattle.std.proofs.Common.{◌≡◌, ◌∙◌, sym}
use Rattle.mpt_lane.specs.Lane.{IsGiverOf, IsTakerOf}
use Rattle.mpt_lane.specs.declared.lane.Giver.{Giver}
use Rattle.mpt_lane.specs.declared.lane.Lane.{Lane}
use Rattle.mpt_lane.specs.declared.lane.Taker.{Taker}
use Rattle.mpt_live.specs.Lanes.{GivesOn, LaneId, TakesOn, lane_id}
use Rattle.mpt_live.specs.declared.sent.Sent.{Sent}

module _ {T : Type 0} where
  pub giver_by_id : (own : Lane (Sent T)) (giver : Giver (Sent T)) (id : LaneId) → IsGiverOf own giver → lane_id own ≡ id → GivesOn id giver
  giver_by_id own giver id h is lane same = record { passes = (h.passes.0 ∙ is ∙ sym same, h.passes.1); gives = h.gives }

  pub taker_by_id : (own : Lane (Sent T)) (taker : Taker (Sent T)) (id : LaneId) → IsTakerOf own taker → lane_id own ≡ id → TakesOn id taker
  taker_by_id own taker id h is lane same = record { passes = (h.passes.0 ∙ is ∙ sym same, h.passes.1); takes = h.takes }
