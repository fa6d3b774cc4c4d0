-- A journal without entries, and lanes through which nothing went.
use Rattle.std.proofs.Common.{◌≡◌, ℕ, zero, suc, Bool, true, false, List, [], ◌∷◌, ap, if◌then◌else◌, map, refl, subst, sym}
use Rattle.std.specs.Prelude.{All}
use Rattle.std.proofs.lemmas.List.Elements.{All-head, All-tail}
use Rattle.mpt_trace.specs.declared.item.Item.{Item}
use Rattle.mpt_trace.specs.declared.item.Item.TheVariants as item
use Rattle.mpt_trace.specs.declared.lane.LaneName.{LaneName}
use Rattle.mpt_trace.specs.declared.lane.LaneName.TheVariants as lane
use Rattle.mpt_trace.specs.declared.parties.Party.{Party}
use Rattle.mpt_wire.specs.Queues.Lanes.{same_lane}
use Rattle.mpt_rules.specs.Session.Journals.{At}
use Rattle.mpt_live.specs.Lanes.{LaneEnd}
use Rattle.mpt_live.specs.Traffic.{AreTaken, FabricLanes, HostLanes, IocLanes, RecordsLanes, SubmitterLanes, Traffic, fabric_received, fabric_sent, fabric_traffic, host_received, host_sent, host_traffic, ioc_received, ioc_sent, ioc_traffic, items_as, items_of, submitter_traffic}
use Rattle.mpt_live.specs.declared.sent.Sent.{Sent}
use Rattle.live_lanes.specs.Closed.{IsUnused, UnusedLanesAreRecorded}

no_items : {T : Type 0} (kind : T → Item) (end : LaneEnd T) → IsUnused end → items_as kind end ≡ []
no_items {T = T} kind end h = ap (λ items. map (λ (s : Sent T). record { stamp = s.stamp; value = kind s.item }) items) h

none_of : {T : Type 0} (kind : T → Item) (ends : List (LaneEnd T)) (i : ℕ) → All IsUnused ends → items_of kind ends i ≡ []
none_of kind [] i h = refl
none_of kind (end ∷ ends) zero h = no_items kind end (All-head IsUnused end ends h)
none_of kind (end ∷ ends) (suc i) h = none_of kind ends i (All-tail IsUnused end ends h)

unused : (party : Party) (t : Traffic) → ((name : LaneName) → t.sent name ≡ []) → ((name : LaneName) → t.received name ≡ []) → RecordsLanes (record { party = party; moments = [] }) t
unused party t sent received = record { puts = λ name. sym (sent name); takes = λ name. subst (λ xs. AreTaken xs []) (sym (received name)) tt }

of_host : (party : Party) (l : HostLanes) → IsUnused l.down → All IsUnused l.ups → All IsUnused l.asks → All IsUnused l.tells → RecordsLanes (record { party = party; moments = [] }) (host_traffic l)
of_host party l down ups asks tells = unused party (host_traffic l) sent received
  where
    sent : (name : LaneName) → host_sent l name ≡ []
    sent lane.Down = no_items item.Down l.down down
    sent (lane.Tell i) = none_of item.Tell l.tells i tells
    sent _ = refl

    received : (name : LaneName) → host_received l name ≡ []
    received lane.Up = none_of item.Up l.ups 0 ups
    received (lane.UpOn zero) = refl
    received (lane.UpOn (suc i)) = none_of item.Up l.ups (suc i) ups
    received (lane.Ask i) = none_of item.Ask l.asks i asks
    received _ = refl

of_ioc : (party : Party) (l : IocLanes) → IsUnused l.down → All IsUnused l.ups → IsUnused l.out → IsUnused l.back → RecordsLanes (record { party = party; moments = [] }) (ioc_traffic l)
of_ioc party l down ups out back = unused party (ioc_traffic l) sent received
  where
    sent : (name : LaneName) → ioc_sent l name ≡ []
    sent lane.Out = no_items item.Out l.out out
    sent lane.Up = none_of item.Up l.ups 0 ups
    sent (lane.UpOn zero) = refl
    sent (lane.UpOn (suc i)) = none_of item.Up l.ups (suc i) ups
    sent _ = refl

    received : (name : LaneName) → ioc_received l name ≡ []
    received lane.Down = no_items item.Down l.down down
    received lane.Back = no_items item.Back l.back back
    received _ = refl

of_fabric : (party : Party) (l : FabricLanes) → IsUnused l.out → IsUnused l.back → RecordsLanes (record { party = party; moments = [] }) (fabric_traffic l)
of_fabric party l out back = unused party (fabric_traffic l) sent received
  where
    sent : (name : LaneName) → fabric_sent l name ≡ []
    sent lane.Back = no_items item.Back l.back back
    sent _ = refl

    received : (name : LaneName) → fabric_received l name ≡ []
    received lane.Out = no_items item.Out l.out out
    received _ = refl

if_none : (on : Bool) (xs : List (At Item)) → xs ≡ [] → (if on then xs else []) ≡ []
if_none true xs h = h
if_none false xs h = refl

of_submitter : (party : Party) (number : ℕ) (l : SubmitterLanes) → IsUnused l.ask → IsUnused l.tell → RecordsLanes (record { party = party; moments = [] }) (submitter_traffic number l)
of_submitter party number l ask tell =
    unused party (submitter_traffic number l) (λ name. if_none (same_lane name (lane.Ask number)) (items_as item.Ask l.ask) (no_items item.Ask l.ask ask))
    (λ name. if_none (same_lane name (lane.Tell number)) (items_as item.Tell l.tell) (no_items item.Tell l.tell tell))

pub all_unused : UnusedLanesAreRecorded
all_unused = record { host = of_host; ioc = of_ioc; fabric = of_fabric; submitter = of_submitter }
