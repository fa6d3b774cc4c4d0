use Rattle.scsi_msgs.specs.TaskAsk.{task_ask_layout}
use Rattle.scsi_msgs.proofs.task_ask.TaskAsk.layout.Goals as goal

pub returns : goal.returns
unfolding task_ask_layout
returns c = c.new.ensures
