use Rattle.scsi_msgs.specs.ScsiIo.{scsi_io_layout}
use Rattle.scsi_msgs.proofs.scsi_io.ScsiIo.layout.Goals as goal

pub returns : goal.returns
unfolding scsi_io_layout
returns c = c.new.ensures
