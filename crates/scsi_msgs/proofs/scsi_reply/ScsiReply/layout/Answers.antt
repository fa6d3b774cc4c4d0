use Rattle.scsi_msgs.specs.ScsiReply.{scsi_reply_layout}
use Rattle.scsi_msgs.proofs.scsi_reply.ScsiReply.layout.Goals as goal

pub returns : goal.returns
unfolding scsi_reply_layout
returns c = c.new.ensures
