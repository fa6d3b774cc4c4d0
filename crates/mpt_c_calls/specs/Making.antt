-- What C makes a fabric of.
use Rattle.std.specs.Prelude.{◌≡◌, ℕ, ◌*◌, nat_le, Bool, false, ◌&&◌, List, [], length, map, replicate}
use Rattle.scsi_disk.specs.Disk.{Disk}
use Rattle.mpt_rules.specs.Fabric.Parts.{Fabric}
use Rattle.mpt_rules.specs.Ioc.Parts.{new_ioc}
use Rattle.sas_fabric.specs.Making.{fabric_of}
use Rattle.ioc_core.specs.Seen.{IocSeen}
use Rattle.mpt_c_messages.specs.declared.call_code.CallCode.{CallCode}
use Rattle.mpt_c_messages.specs.declared.call_code.CallCode.TheVariants as code
use Rattle.mpt_c_calls.specs.declared.making.DiskWords.{DiskWords}

-- a disk may have so many blocks
abbrev pub is_block_count : ℕ → Bool
is_block_count blocks = nat_le 1 blocks && nat_le blocks 1024

-- this disk has
abbrev pub has_block_count : DiskWords → Bool
has_block_count disk = is_block_count disk.blocks

-- a disk of zeros, as it is asked for
abbrev pub zero_disk_of : DiskWords → Disk
zero_disk_of d = record { address = d.address; bytes = replicate (512 * d.blocks) 0 }

-- a controller may have so many expanders, and so many reply queues
abbrev pub may_have : List ℕ → ℕ → Bool
may_have phys queues = nat_le (length phys) 16 && nat_le 1 queues && nat_le queues 8

-- a controller that is as it was made
abbrev pub IsNewIoc : List ℕ → ℕ → IocSeen → Type 0
IsNewIoc phys queues ioc = ioc ≡ record { part = new_ioc phys queues; told = []; room = 0 }

-- the codes with which none is made: NoSuch, where there can't be one, and want of memory
abbrev pub MakesNoIoc : List ℕ → ℕ → CallCode → Type 0
MakesNoIoc phys queues code.NoSuch = may_have phys queues ≡ false
MakesNoIoc phys queues code.NoMemory = Unit {0}
MakesNoIoc phys queues _ = ⊥

-- a fabric that is as it was made
abbrev pub IsNewFabric : List DiskWords → List ℕ → Fabric → Type 0
IsNewFabric disks phys fabric = fabric ≡ fabric_of (map zero_disk_of disks) phys

-- the codes with which none is made
abbrev pub MakesNoFabric : CallCode → Type 0
MakesNoFabric code.Refused = Unit {0}
MakesNoFabric code.NoMemory = Unit {0}
MakesNoFabric _ = ⊥
