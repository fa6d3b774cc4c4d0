use Rattle.scsi_disk.proofs.Writing.{other_blocks_stay, size_stays, check_changes_nothing}
use Rattle.scsi_disk.proofs.laws.other_blocks_stay.Goals as goal

pub returns : goal.returns
returns c = record { blocks = other_blocks_stay; size = size_stays; refused = check_changes_nothing }
