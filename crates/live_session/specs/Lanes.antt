-- Lanes that were opened, and their ends.
use Rattle.std.specs.Prelude.{◌≡◌, ℕ, List, [], length}
use Rattle.std.specs.List.{AllZip}
use Rattle.mpt_lane.specs.declared.lane.Giver.{Giver}
use Rattle.mpt_lane.specs.declared.lane.Lane.{Lane}
use Rattle.mpt_lane.specs.declared.lane.Taker.{Taker}
use Rattle.mpt_lane.specs.Lane.{IsGiverOf, IsTakerOf, received_by, sent_by}
use Rattle.mpt_live.specs.declared.sent.Sent.{Sent}
use Rattle.live_session.specs.declared.lanes.Ends.{Ends}
use Rattle.live_session.specs.declared.lanes.LaneEnds.{LaneEnds}
use Rattle.live_session.specs.declared.lanes.Lanes.{Lanes}
use Rattle.live_session.specs.declared.lanes.ManyEnds.{ManyEnds}
use Rattle.live_session.specs.declared.sides.FabricPart.{FabricPart}

module _ {T : Type 0} where
  -- the giver was opened with the lane, and nothing was sent through it
  pub record IsNewGiver (lane : Lane (Sent T)) (giver : Giver (Sent T)) : Type 0 where
    pub opened : IsGiverOf lane giver
    pub unused : sent_by giver ≡ []

  -- the taker was opened with the lane, and nothing was received through it
  pub record IsNewTaker (lane : Lane (Sent T)) (taker : Taker (Sent T)) : Type 0 where
    pub opened : IsTakerOf lane taker
    pub unused : received_by taker ≡ []

  -- each giver was opened with the lane at its place, and there are as many as lanes
  abbrev pub AreGiversOf : List (Lane (Sent T)) → List (Giver (Sent T)) → Type 0
  AreGiversOf lanes givers = AllZip IsNewGiver lanes givers

  -- each taker was opened with the lane at its place, and there are as many as lanes
  abbrev pub AreTakersOf : List (Lane (Sent T)) → List (Taker (Sent T)) → Type 0
  AreTakersOf lanes takers = AllZip IsNewTaker lanes takers

  -- these are the ends of the lane
  pub record IsOpened (lane : Lane (Sent T)) (ends : Ends T) : Type 0 where
    pub giver : IsNewGiver lane ends.giver
    pub taker : IsNewTaker lane ends.taker

  -- there are so many lanes, and these are their ends
  pub record AreOpened (n : ℕ) (lanes : List (Lane (Sent T))) (ends : ManyEnds T) : Type 0 where
    pub count : length lanes ≡ n
    pub givers : AreGiversOf lanes ends.givers.items
    pub takers : AreTakersOf lanes ends.takers.items

-- these are the ends of the lanes of a session with so many reply queues and submitters
pub record AreEndsOf (queues submitters : ℕ) (lanes : Lanes) (ends : LaneEnds) : Type 0 where
  pub down : IsOpened lanes.down ends.down
  pub out : IsOpened lanes.out ends.out
  pub back : IsOpened lanes.back ends.back
  pub ups : AreOpened queues lanes.ups.items ends.ups
  pub asks : AreOpened submitters lanes.asks.items ends.asks
  pub tells : AreOpened submitters lanes.tells.items ends.tells

-- the fabric's ends are of these lanes, and nothing has gone through them
pub record AreFabricEnds (lanes : Lanes) (part : FabricPart) : Type 0 where
  pub out : IsNewTaker lanes.out part.out
  pub back : IsNewGiver lanes.back part.back
