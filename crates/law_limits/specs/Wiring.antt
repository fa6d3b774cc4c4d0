-- The limits of the controller and the fabric: of all limits those that no table of the host is needed for.
use Rattle.std.specs.Prelude.{◌≢◌, ◌≤◌, ◌<◌, ◌^◌, All, AllPairs, length}
use Rattle.mpt_rules.specs.Fabric.Parts.{FabricDisk}
use Rattle.mpt_rules.specs.World.Lines.{notice_line}
use Rattle.mpt_rules.specs.World.Settings.{IsFromTo}
use Rattle.mpt_rules.specs.World.State.{World}
use Rattle.law_facts.specs.Limits.{BindingFits, IsAddress, NoticeFits, WaitingFits}

pub record WiringFits (w : World) : Type 0 where
  pub few_disks : length w.fabric.disks ≤ 64
  pub addresses : All (λ (d : FabricDisk). IsAddress d.address) w.fabric.disks
  pub apart : AllPairs (λ (d e : FabricDisk). d.address ≢ e.address) w.fabric.disks
  pub few_expanders : length w.ioc.phys ≤ 16
  pub phys : All (IsFromTo 1 22) w.ioc.phys
  pub context : w.ioc.context < 2 ^ 32
  pub bindings : All BindingFits w.ioc.bindings
  pub waiting : All WaitingFits w.ioc.waiting
  pub notices : All NoticeFits (notice_line w)
