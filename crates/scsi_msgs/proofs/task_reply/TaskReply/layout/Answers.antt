use Rattle.scsi_msgs.specs.TaskReply.{task_reply_layout}
use Rattle.scsi_msgs.proofs.task_reply.TaskReply.layout.Goals as goal

pub returns : goal.returns
unfolding task_reply_layout
returns c = c.new.ensures
