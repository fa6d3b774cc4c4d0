use Rattle.scsi_msgs.specs.TaskAsk.{task_ask_values}
use Rattle.scsi_msgs.proofs.task_ask.TaskAsk.values.Goals as goal

pub returns : goal.returns
unfolding task_ask_values
returns c = cc
