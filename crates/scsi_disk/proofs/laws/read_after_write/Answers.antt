use Rattle.scsi_disk.proofs.Writing.{read_after_write}
use Rattle.scsi_disk.proofs.laws.read_after_write.Goals as goal

pub returns : goal.returns
returns c = read_after_write
