use Rattle.std.proofs.Common.{refl}
use Rattle.scsi_msgs.specs.ScsiIo.{scsi_io_layout, scsi_io_values}
use Rattle.scsi_msgs.proofs.scsi_io.ScsiIo.from_values.Goals as goal

pub returns : goal.returns
unfolding scsi_io_layout scsi_io_values
returns c = refl
