use Rattle.scsi_msgs.specs.ScsiIo.{scsi_io_values}
use Rattle.scsi_msgs.proofs.scsi_io.ScsiIo.values.Goals as goal

pub returns : goal.returns
unfolding scsi_io_values
returns c = cc
