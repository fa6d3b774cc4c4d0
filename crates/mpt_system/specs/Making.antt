-- How the whole is made.
use Rattle.std.specs.Prelude.{◌≡◌, ℕ, nat_le, ◌&&◌, Bool, List, [], map, if◌then◌else◌, Option, Some, option_map, replicate}
use Rattle.std.specs.List.{list_all}
use Rattle.mpt_trace.specs.declared.disk_spec.DiskSpec.{DiskSpec}
use Rattle.mpt_rules.specs.Fabric.Parts.{Fabric}
use Rattle.mpt_rules.specs.Host.Parts.{new_host}
use Rattle.mpt_rules.specs.Ioc.Parts.{new_ioc}
use Rattle.mpt_rules.specs.World.State.{fresh}
use Rattle.sas_fabric.specs.Making.{making_refusal, zero_disk}
use Rattle.sas_fabric.specs.declared.faults.FabricFault.{FabricFault}
use Rattle.sas_fabric.specs.declared.faults.FabricFault.TheVariants as cause
use Rattle.mpt_system.specs.declared.faults.SystemFault.{SystemFault}
use Rattle.mpt_system.specs.declared.faults.SystemFault.TheVariants as fault
use Rattle.mpt_system.specs.Whole.{Whole}

-- the whole as it is made, with these disks, expanders and q reply queues
abbrev pub made_of : List DiskSpec → List ℕ → ℕ → Whole
made_of disks phys q = record { world = fresh disks phys q; entries = []; pending = [] }

-- the whole of this fabric, with a host that is off, a controller that is ready, and q empty lanes up
abbrev pub joined : Fabric → List ℕ → ℕ → Whole
joined fabric phys q =
    record {
      world = record { host = new_host q; ioc = new_ioc phys q; fabric = fabric; down = []; up = replicate q []; out = []; back = [] };
      entries = [];
      pending = [];
    }

-- a disk may have so many blocks
abbrev pub is_fit_count : ℕ → Bool
is_fit_count blocks = nat_le 1 blocks && nat_le blocks 1024

-- this disk has
abbrev pub has_fit_blocks : DiskSpec → Bool
has_fit_blocks disk = is_fit_count disk.blocks

-- the fabric's fault as one of the whole
abbrev pub fault_of : FabricFault → SystemFault
fault_of cause.TooManyDisks = fault.TooManyDisks
fault_of cause.SameAddress = fault.SameAddress
fault_of cause.TooManyExpanders = fault.TooManyExpanders
fault_of cause.BadPhys = fault.BadPhys
fault_of cause.OutOfMemory = fault.OutOfMemory

-- the first cause why no system is made of these disks and expanders: their blocks, and then what the fabric refuses
abbrev pub system_refusal : List DiskSpec → List ℕ → Option SystemFault
system_refusal disks phys = if list_all has_fit_blocks disks then option_map fault_of (making_refusal (map zero_disk disks) phys) else Some fault.BadBlocks

-- the fault is the first cause; want of memory may come at any time
abbrev pub IsCause : Option SystemFault → SystemFault → Type 0
IsCause cause fault.OutOfMemory = Unit {0}
IsCause cause fault.BadBlocks = cause ≡ Some fault.BadBlocks
IsCause cause fault.TooManyDisks = cause ≡ Some fault.TooManyDisks
IsCause cause fault.SameAddress = cause ≡ Some fault.SameAddress
IsCause cause fault.TooManyExpanders = cause ≡ Some fault.TooManyExpanders
IsCause cause fault.BadPhys = cause ≡ Some fault.BadPhys
