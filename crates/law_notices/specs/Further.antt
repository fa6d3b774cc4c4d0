-- Further facts of disks, beside the facts: where they stand at the fabric, and that what the controller knows was plugged.
use Rattle.std.specs.Prelude.{◌≡◌, ℕ, ◌≤◌, nat_lt, true, List, slice_index, Some, All}
use Rattle.mpt_wire.specs.Machine.State.{Place}
use Rattle.mpt_rules.specs.declared.binding.Binding.{Binding}
use Rattle.mpt_rules.specs.declared.binding.Binding.TheVariants as binding
use Rattle.mpt_rules.specs.declared.binding.Waiting.{Waiting}
use Rattle.mpt_rules.specs.Fabric.Disks.{stands_at}
use Rattle.mpt_rules.specs.Fabric.Parts.{FabricDisk}
use Rattle.mpt_rules.specs.World.Counts.{how_many}
use Rattle.mpt_rules.specs.World.State.{World}

-- a disk that is plugged stands at a phy that is there
abbrev pub StandsThere : List ℕ → FabricDisk → Type 0
StandsThere phys d = (p : Place) → d.at ≡ Some p → nat_lt p.phy (slice_index phys p.expander) ≡ true

-- and no other stands there
pub record StandApart (phys : List ℕ) (disks : List FabricDisk) : Type 0 where
  pub there : All (StandsThere phys) disks
  pub apart : (expander phy : ℕ) → how_many (stands_at expander phy) disks ≤ 1

abbrev pub DisksStandApart : World → Type 0
DisksStandApart w = StandApart w.fabric.phys w.fabric.disks

-- the plugs that are bound to disks that are present, and those that wait, are numbered from 1 on
abbrev pub BoundWasPlugged : Binding → Type 0
BoundWasPlugged (binding.Present address plug expander phy) = 1 ≤ plug
BoundWasPlugged b = Unit {0}

abbrev pub WaitingWasPlugged : Waiting → Type 0
WaitingWasPlugged disk = 1 ≤ disk.plug

pub record WerePlugged (bindings : List Binding) (waiting : List Waiting) : Type 0 where
  pub bound : All BoundWasPlugged bindings
  pub awaited : All WaitingWasPlugged waiting

abbrev pub DisksWerePlugged : World → Type 0
DisksWerePlugged w = WerePlugged w.ioc.bindings w.ioc.waiting
