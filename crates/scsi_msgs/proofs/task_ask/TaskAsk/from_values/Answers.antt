use Rattle.std.proofs.Common.{refl}
use Rattle.scsi_msgs.specs.TaskAsk.{task_ask_layout, task_ask_values}
use Rattle.scsi_msgs.proofs.task_ask.TaskAsk.from_values.Goals as goal

pub returns : goal.returns
unfolding task_ask_layout task_ask_values
returns c = refl
