-- The parties as a session begins.
use Rattle.std.specs.Prelude.{◌≡◌, []}
use Rattle.live_session.specs.declared.cores.Cores.{Cores}
use Rattle.mpt_rules.specs.Fabric.Parts.{new_fabric}
use Rattle.mpt_rules.specs.Host.Parts.{new_host}
use Rattle.mpt_rules.specs.Ioc.Parts.{new_ioc}
use Rattle.mpt_rules.specs.World.Settings.{Setting}

-- the parties are those of a first world, and none has told anything
pub record AreFirst (s : Setting) (cores : Cores) : Type 0 where
  pub host : cores.host.host ≡ new_host s.queues
  pub host_told : cores.host.told ≡ []
  pub ioc : cores.ioc.part ≡ new_ioc s.phys s.queues
  pub ioc_told : cores.ioc.told ≡ []
  pub fabric : cores.fabric ≡ new_fabric s.disks s.phys
