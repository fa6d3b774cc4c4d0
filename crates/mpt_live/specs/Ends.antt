-- How a contract sees an end.
use Rattle.std.specs.Prelude.{◌≡◌, Bool, true, false}
use Rattle.mpt_rules.specs.Fabric.Parts.{Fabric}
use Rattle.mpt_rules.specs.Host.Parts.{Host}
use Rattle.mpt_rules.specs.Ioc.Parts.{Ioc}
use Rattle.mpt_rules.specs.Outcome.{Happening}
use Rattle.mpt_live.specs.Recorded.{LeadsTo, Recorded}
use Rattle.mpt_live.specs.Traffic.{Account, FabricLanes, HostLanes, IocLanes, KeepsLanes, fabric_lanes, fabric_traffic, host_lanes, host_traffic, ioc_lanes, ioc_traffic}

-- its party with its journal and its clock, its ends of the lanes, whether it has ended, and whether memory was wanting
pub record End (P L : Type 0) : Type 0 where
  pub recorded : Recorded P
  pub lanes : L
  pub has_ended : Bool
  pub is_spent : Bool

-- its journal, and what went through its ends of the lanes
abbrev pub host_account : End Host HostLanes → Account
host_account end = record { row = end.recorded.row; traffic = host_traffic end.lanes; lanes = host_lanes end.lanes }

abbrev pub ioc_account : End Ioc IocLanes → Account
ioc_account end = record { row = end.recorded.row; traffic = ioc_traffic end.lanes; lanes = ioc_lanes end.lanes }

abbrev pub fabric_account : End Fabric FabricLanes → Account
fabric_account end = record { row = end.recorded.row; traffic = fabric_traffic end.lanes; lanes = fabric_lanes end.lanes }

-- some list of cases was made, each recorded and each item of it through the lanes; or none was
abbrev pub EndSteps : {P C L : Type 0} → (P → C → Happening P) → (End P L → Account) → End P L → Bool → End P L → Type 0
EndSteps does account from true to = LeadsTo does from.recorded to.recorded × KeepsLanes (account from) (account to)
EndSteps does account from false to = (to.recorded ≡ from.recorded) × (to.lanes ≡ from.lanes)
