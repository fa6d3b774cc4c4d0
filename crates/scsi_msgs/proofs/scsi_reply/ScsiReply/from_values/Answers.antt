use Rattle.std.proofs.Common.{refl}
use Rattle.scsi_msgs.specs.ScsiReply.{scsi_reply_layout, scsi_reply_values}
use Rattle.scsi_msgs.proofs.scsi_reply.ScsiReply.from_values.Goals as goal

pub returns : goal.returns
unfolding scsi_reply_layout scsi_reply_values
returns c = refl
