use Rattle.scsi_msgs.specs.TaskReply.{task_reply_values}
use Rattle.scsi_msgs.proofs.task_reply.TaskReply.values.Goals as goal

pub returns : goal.returns
unfolding task_reply_values
returns c = cc
