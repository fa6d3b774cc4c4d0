-- The classes of identifiers: SCSI IO 1 to 256, high priority 257 to 264, internal 265 to 280.
use Rattle.std.specs.Prelude.{ℕ, ◌+◌, ◌<◌, ◌≤◌}
use Rattle.mpi_names.specs.declared.smid.TheConstants.{HIGH_PRIORITY_SMIDS, INTERNAL_SMIDS, SCSI_IO_SMIDS}
use Rattle.smid_pool.specs.declared.class.Class.{Class}
use Rattle.smid_pool.specs.declared.class.Class.TheVariants.{ScsiIo, High, Internal}

-- how many identifiers stand before the class's first
abbrev pub before : Class → ℕ
before ScsiIo = 0
before High = SCSI_IO_SMIDS
before Internal = SCSI_IO_SMIDS + HIGH_PRIORITY_SMIDS

-- how many identifiers the class has
abbrev pub size_of : Class → ℕ
size_of ScsiIo = SCSI_IO_SMIDS
size_of High = HIGH_PRIORITY_SMIDS
size_of Internal = INTERNAL_SMIDS

-- the identifier is of the class
abbrev pub IsIn : Class → ℕ → Type 0
IsIn class smid = (before class < smid) × (smid ≤ before class + size_of class)
