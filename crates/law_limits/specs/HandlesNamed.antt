-- The handles that the host's records, lists and open numbers name are those of disks.
use Rattle.std.specs.Prelude.{ℕ, All}
use Rattle.removal.specs.Handles.{IsHandle}
use Rattle.smid_pool.specs.Pool.{Slot, Open}
use Rattle.mpt_rules.specs.declared.request.Request.{Request}
use Rattle.mpt_rules.specs.declared.request.Request.TheVariants as request
use Rattle.mpt_rules.specs.World.State.{World}
use Rattle.law_facts.specs.Limits.{CmdFits}

abbrev pub NamesDiskHandle : Slot Request → Type 0
NamesDiskHandle (Open (request.Leave handle)) = IsHandle handle
NamesDiskHandle (Open (request.Page handle)) = IsHandle handle
NamesDiskHandle (Open (request.Remove handle)) = IsHandle handle
NamesDiskHandle r = Unit {0}

abbrev pub WaitNamesDiskHandle : Request → Type 0
WaitNamesDiskHandle r = NamesDiskHandle (Open r)

-- of `Limits`: of records and waits what they say of handles, and all of `cmds`
pub record HandlesNamed (w : World) : Type 0 where
  pub records : All NamesDiskHandle w.host.pool
  pub waits : All WaitNamesDiskHandle w.host.wait_internal
  pub cmds : (n : ℕ) → CmdFits w n
