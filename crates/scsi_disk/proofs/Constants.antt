-- The statuses of SAM-5.
use Rattle.std.proofs.Common.{◌≡◌, refl}
use Rattle.scsi_disk.specs.declared.scsi_result.TheConstants.{GOOD, CHECK_CONDITION}

statuses : (GOOD ≡ 0x00) × (CHECK_CONDITION ≡ 0x02)
statuses = (refl, refl)
