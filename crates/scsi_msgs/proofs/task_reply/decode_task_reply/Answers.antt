use Rattle.std.proofs.Common.{Ok, ap}
use Rattle.mpi_layout.proofs.Moves.{Stands-same, read_fits, read_stands}
use Rattle.scsi_msgs.specs.TaskReply.{task_reply_layout, task_reply_values}
use Rattle.scsi_msgs.proofs.TaskReplyFields.{task_reply_values-injective}
use Rattle.scsi_msgs.proofs.task_reply.decode_task_reply.Goals as goal

pub returns-clause-read : goal.returns-clause-read
returns-clause-read c =
    read_stands task_reply_layout c.layout.result c.args.bytes.now c.in_ok-values.values (task_reply_values c.from_values.result) c.layout.ensures c.in_ok-values.ensures.exact c.in_ok-values.ensures.fitting c.from_values.ensures

pub returns-clause-only : goal.returns-clause-only
returns-clause-only c =
    let stands = read_stands task_reply_layout c.layout.result c.args.bytes.now c.in_ok-values.values (task_reply_values c.from_values.result) c.layout.ensures c.in_ok-values.ensures.exact c.in_ok-values.ensures.fitting c.from_values.ensures in
    λ m other. ap Ok (task_reply_values-injective c.from_values.result m (Stands-same task_reply_layout (task_reply_values c.from_values.result) (task_reply_values m) c.args.bytes.now stands other))

pub returns-clause-fitting : goal.returns-clause-fitting
returns-clause-fitting c =
    read_fits task_reply_layout c.layout.result c.args.bytes.now c.in_ok-values.values (task_reply_values c.from_values.result) c.layout.ensures c.in_ok-values.ensures.exact c.in_ok-values.ensures.fitting c.from_values.ensures
