use Rattle.scsi_msgs.specs.ScsiReply.{scsi_reply_values}
use Rattle.scsi_msgs.proofs.scsi_reply.ScsiReply.values.Goals as goal

pub returns : goal.returns
unfolding scsi_reply_values
returns c = cc
