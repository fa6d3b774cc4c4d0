-- A blank message has in each row 0 or the first number that the row's rule names.
use Rattle.std.proofs.Common.{◌≡◌, refl, replicate}
use Rattle.mpi_layout.specs.Rows.{blank_values}
use Rattle.scsi_msgs.specs.declared.scsi_io.TheConstants.ScsiIo as scsi_io
use Rattle.scsi_msgs.specs.ScsiIo.{scsi_io_layout, scsi_io_values}
use Rattle.scsi_msgs.specs.declared.task_ask.TheConstants.TaskAsk as task_ask
use Rattle.scsi_msgs.specs.TaskAsk.{task_ask_layout, task_ask_values}
use Rattle.scsi_msgs.specs.declared.scsi_reply.TheConstants.ScsiReply as scsi_reply
use Rattle.scsi_msgs.specs.ScsiReply.{scsi_reply_layout, scsi_reply_values}
use Rattle.scsi_msgs.specs.declared.task_reply.TheConstants.TaskReply as task_reply
use Rattle.scsi_msgs.specs.TaskReply.{task_reply_layout, task_reply_values}

scsi_io-blank : scsi_io_values scsi_io.BLANK ≡ blank_values scsi_io_layout
unfolding scsi_io_layout scsi_io_values
scsi_io-blank = refl

task_ask-blank : task_ask_values task_ask.BLANK ≡ blank_values task_ask_layout
unfolding task_ask_layout task_ask_values
task_ask-blank = refl

scsi_reply-blank : scsi_reply_values scsi_reply.BLANK ≡ blank_values scsi_reply_layout
unfolding scsi_reply_layout scsi_reply_values
scsi_reply-blank = refl

scsi_reply-no_tail : scsi_reply.BLANK.tail ≡ replicate 88 0
scsi_reply-no_tail = refl

task_reply-blank : task_reply_values task_reply.BLANK ≡ blank_values task_reply_layout
unfolding task_reply_layout task_reply_values
task_reply-blank = refl
