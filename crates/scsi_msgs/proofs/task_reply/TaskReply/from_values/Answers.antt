use Rattle.std.proofs.Common.{refl}
use Rattle.scsi_msgs.specs.TaskReply.{task_reply_layout, task_reply_values}
use Rattle.scsi_msgs.proofs.task_reply.TaskReply.from_values.Goals as goal

pub returns : goal.returns
unfolding task_reply_layout task_reply_values
returns c = refl
