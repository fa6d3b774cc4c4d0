-- The two ends of each lane of a session.
use Rattle.std.specs.Prelude.{◌≡◌, List, [], ◌∷◌, length}
use Rattle.mpt_trace.specs.declared.item.Ask.{Ask}
use Rattle.mpt_trace.specs.declared.item.Tell.{Tell}
use Rattle.mpt_live.specs.Lanes.{LaneEnd}
use Rattle.mpt_live.specs.Traffic.{SubmitterLanes, lanes_of}
use Rattle.live_lanes.specs.Closed.{SessionLanes}
use Rattle.live_lanes.specs.declared.settling.SessionEnds.{SessionEnds}

-- the ends of the submitters, each with its lane ask and its lane tell
abbrev pub lanes_zipped : List (LaneEnd Ask) → List (LaneEnd Tell) → List SubmitterLanes
lanes_zipped [] tells = []
lanes_zipped (ask ∷ asks) [] = []
lanes_zipped (ask ∷ asks) (tell ∷ tells) = record { ask = ask; tell = tell } ∷ lanes_zipped asks tells

-- what went through the ends
abbrev pub lanes_in : SessionEnds → SessionLanes
lanes_in ends = record {
  host = record { down = ends.host.down; ups = ends.host.ups.items; asks = ends.host.asks.items; tells = ends.host.tells.items };
  ioc = record { down = ends.ioc.down; ups = ends.ioc.ups.items; out = ends.ioc.out; back = ends.ioc.back };
  fabric = record { out = ends.out; back = ends.back };
  submitters = lanes_zipped ends.asks.items ends.tells.items;
}

-- where one party gives another takes
pub record MeetOnLanes (ends : SessionEnds) : Type 0 where
  pub down : ends.ioc.down.lane ≡ ends.host.down.lane
  pub ups : lanes_of ends.host.ups.items ≡ lanes_of ends.ioc.ups.items
  pub out : ends.out.lane ≡ ends.ioc.out.lane
  pub back : ends.ioc.back.lane ≡ ends.back.lane
  pub asks : lanes_of ends.host.asks.items ≡ lanes_of ends.asks.items
  pub tells : lanes_of ends.tells.items ≡ lanes_of ends.host.tells.items
  pub submitters : length ends.asks.items ≡ length ends.tells.items
