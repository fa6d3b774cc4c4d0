-- What went through a party's ends of the lanes, and that its journal says the same.
use Rattle.std.specs.Prelude.{ℕ, zero, suc, ◌≡◌, ◌<◌, List, [], ◌∷◌, filter_map, get_or, if◌then◌else◌, map}
use Rattle.mpt_trace.specs.declared.entry.Entry.{Entry}
use Rattle.mpt_trace.specs.declared.item.Ask.{Ask}
use Rattle.mpt_trace.specs.declared.item.Back.{Back}
use Rattle.mpt_trace.specs.declared.item.Down.{Down}
use Rattle.mpt_trace.specs.declared.item.Item.{Item}
use Rattle.mpt_trace.specs.declared.item.Item.TheVariants as item
use Rattle.mpt_trace.specs.declared.item.Out.{Out}
use Rattle.mpt_trace.specs.declared.item.Tell.{Tell}
use Rattle.mpt_trace.specs.declared.item.Up.{Up}
use Rattle.mpt_trace.specs.declared.lane.LaneName.{LaneName}
use Rattle.mpt_trace.specs.declared.lane.LaneName.TheVariants as lane
use Rattle.mpt_wire.specs.Queues.Lanes.{same_lane}
use Rattle.mpt_rules.specs.Session.Journals.{At, Row, put_in, taken_in}
use Rattle.mpt_live.specs.Lanes.{LaneEnd, LaneId}
use Rattle.mpt_live.specs.declared.sent.Sent.{Sent}

-- what a party put on each lane and what it took from it, each with the stamp of its put
pub record Traffic : Type 0 where
  pub sent : LaneName → List (At Item)
  pub received : LaneName → List (At Item)

-- what a journal puts on a lane
abbrev pub puts_on : LaneName → Row Entry → List (At Item)
puts_on name row = filter_map (λ (m : At Entry). put_in name m.stamp m.value) row.moments

-- what it takes from a lane
abbrev pub takes_on : LaneName → Row Entry → List (At Item)
takes_on name row = filter_map (λ (m : At Entry). taken_in name m.stamp m.value) row.moments

-- one by one what was received was taken, each with a later stamp than its own
abbrev pub AreTaken : List (At Item) → List (At Item) → Type 0
AreTaken [] [] = Unit {0}
AreTaken [] (t ∷ takes) = ⊥
AreTaken (r ∷ received) [] = ⊥
AreTaken (r ∷ received) (t ∷ takes) = (r.value ≡ t.value) × (r.stamp < t.stamp) × AreTaken received takes

-- the journal puts on each lane what was sent and nothing else, and takes what was received and nothing else
pub record RecordsLanes (row : Row Entry) (traffic : Traffic) : Type 0 where
  pub puts : (name : LaneName) → puts_on name row ≡ traffic.sent name
  pub takes : (name : LaneName) → AreTaken (traffic.received name) (takes_on name row)

-- a party's journal, what went through its ends of the lanes, and which lanes these are
pub record Account : Type 0 where
  pub row : Row Entry
  pub traffic : Traffic
  pub lanes : List (List LaneId)

-- the lanes are the same, and where the journal recorded what went through them, it does still
pub record KeepsLanes (before after : Account) : Type 0 where
  pub records : RecordsLanes before.row before.traffic → RecordsLanes after.row after.traffic
  pub lanes : after.lanes ≡ before.lanes

-- ---- the items of a lane

-- the items that went through the end of a lane, of this kind
abbrev pub items_as : {T : Type 0} → (T → Item) → LaneEnd T → List (At Item)
items_as {T = T} kind end = map (λ (s : Sent T). record { stamp = s.stamp; value = kind s.item }) end.items

-- those of the lane with this number among several, which are none where there is no such lane
abbrev pub items_of : {T : Type 0} → (T → Item) → List (LaneEnd T) → ℕ → List (At Item)
items_of {T = T} kind ends i = get_or (map (items_as {T = T} kind) ends) i []

-- which lanes the ends are of
abbrev pub lanes_of : {T : Type 0} → List (LaneEnd T) → List LaneId
lanes_of {T = T} ends = map (λ (end : LaneEnd T). end.lane) ends

-- ---- the submitter

pub record SubmitterLanes : Type 0 where
  pub ask : LaneEnd Ask
  pub tell : LaneEnd Tell

abbrev pub submitter_traffic : ℕ → SubmitterLanes → Traffic
submitter_traffic number lanes = record {
  sent = λ name. if same_lane name (lane.Ask number) then items_as item.Ask lanes.ask else [];
  received = λ name. if same_lane name (lane.Tell number) then items_as item.Tell lanes.tell else [];
}

abbrev pub submitter_lanes : SubmitterLanes → List (List LaneId)
submitter_lanes lanes = (lanes.ask.lane ∷ []) ∷ (lanes.tell.lane ∷ []) ∷ []

-- ---- the fabric

pub record FabricLanes : Type 0 where
  pub out : LaneEnd Out
  pub back : LaneEnd Back

abbrev pub fabric_sent : FabricLanes → LaneName → List (At Item)
fabric_sent lanes lane.Back = items_as item.Back lanes.back
fabric_sent lanes _ = []

abbrev pub fabric_received : FabricLanes → LaneName → List (At Item)
fabric_received lanes lane.Out = items_as item.Out lanes.out
fabric_received lanes _ = []

abbrev pub fabric_traffic : FabricLanes → Traffic
fabric_traffic lanes = record { sent = fabric_sent lanes; received = fabric_received lanes }

abbrev pub fabric_lanes : FabricLanes → List (List LaneId)
fabric_lanes lanes = (lanes.out.lane ∷ []) ∷ (lanes.back.lane ∷ []) ∷ []

-- ---- the controller

pub record IocLanes : Type 0 where
  pub down : LaneEnd Down
  pub ups : List (LaneEnd Up)
  pub out : LaneEnd Out
  pub back : LaneEnd Back

abbrev pub ioc_sent : IocLanes → LaneName → List (At Item)
ioc_sent lanes lane.Out = items_as item.Out lanes.out
ioc_sent lanes lane.Up = items_of item.Up lanes.ups 0
ioc_sent lanes (lane.UpOn zero) = []
ioc_sent lanes (lane.UpOn (suc i)) = items_of item.Up lanes.ups (suc i)
ioc_sent lanes _ = []

abbrev pub ioc_received : IocLanes → LaneName → List (At Item)
ioc_received lanes lane.Down = items_as item.Down lanes.down
ioc_received lanes lane.Back = items_as item.Back lanes.back
ioc_received lanes _ = []

abbrev pub ioc_traffic : IocLanes → Traffic
ioc_traffic lanes = record { sent = ioc_sent lanes; received = ioc_received lanes }

abbrev pub ioc_lanes : IocLanes → List (List LaneId)
ioc_lanes lanes = (lanes.down.lane ∷ []) ∷ lanes_of lanes.ups ∷ (lanes.out.lane ∷ []) ∷ (lanes.back.lane ∷ []) ∷ []

-- ---- the host

pub record HostLanes : Type 0 where
  pub down : LaneEnd Down
  pub ups : List (LaneEnd Up)
  pub asks : List (LaneEnd Ask)
  pub tells : List (LaneEnd Tell)

abbrev pub host_sent : HostLanes → LaneName → List (At Item)
host_sent lanes lane.Down = items_as item.Down lanes.down
host_sent lanes (lane.Tell i) = items_of item.Tell lanes.tells i
host_sent lanes _ = []

abbrev pub host_received : HostLanes → LaneName → List (At Item)
host_received lanes lane.Up = items_of item.Up lanes.ups 0
host_received lanes (lane.UpOn zero) = []
host_received lanes (lane.UpOn (suc i)) = items_of item.Up lanes.ups (suc i)
host_received lanes (lane.Ask i) = items_of item.Ask lanes.asks i
host_received lanes _ = []

abbrev pub host_traffic : HostLanes → Traffic
host_traffic lanes = record { sent = host_sent lanes; received = host_received lanes }

abbrev pub host_lanes : HostLanes → List (List LaneId)
host_lanes lanes = (lanes.down.lane ∷ []) ∷ lanes_of lanes.ups ∷ lanes_of lanes.asks ∷ lanes_of lanes.tells ∷ []
