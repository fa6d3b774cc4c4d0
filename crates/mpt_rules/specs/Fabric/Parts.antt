-- The fabric: what it has.
use Rattle.std.specs.Prelude.{ℕ, ◌*◌, Bool, false, List, [], map, replicate, Option, None}
use Rattle.mpt_trace.specs.declared.disk_spec.DiskSpec.{DiskSpec}
use Rattle.mpt_trace.specs.declared.item.Back.{Back}
pub use Rattle.mpt_wire.specs.Machine.State.{Place}
use Rattle.mpt_rules.specs.declared.task.Task.{Task}

-- a disk: its bytes, where it is plugged, and how often it was
pub record FabricDisk : Type 0 where
  pub address : ℕ
  pub bytes : List ℕ
  pub at : Option Place
  pub plugs : ℕ

pub record Fabric : Type 0 where
  -- how many phys each expander has
  pub phys : List ℕ
  -- in the order of their declaration
  pub disks : List FabricDisk
  -- plugs and unplugs make notices, and tasks are queued
  pub on : Bool
  -- the queued tasks of all disks, the oldest first
  pub tasks : List Task
  -- plugs and unplugs that aren't announced yet
  pub notices : List Back
  -- what it puts on the lane back, the next first
  pub out : List Back

-- a disk of zeros that isn't plugged
abbrev pub new_disk : DiskSpec → FabricDisk
new_disk d = record { address = d.address; bytes = replicate (512 * d.blocks) 0; at = None; plugs = 0 }

-- the fabric as it is made, with these disks and expanders
abbrev pub new_fabric : List DiskSpec → List ℕ → Fabric
new_fabric disks phys = record { phys = phys; disks = map new_disk disks; on = false; tasks = []; notices = []; out = [] }
