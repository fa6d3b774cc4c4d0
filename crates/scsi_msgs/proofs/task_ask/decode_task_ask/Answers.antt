use Rattle.std.proofs.Common.{Ok, ap}
use Rattle.mpi_layout.proofs.Moves.{Stands-same, read_fits, read_stands}
use Rattle.scsi_msgs.specs.TaskAsk.{task_ask_layout, task_ask_values}
use Rattle.scsi_msgs.proofs.TaskAskFields.{task_ask_values-injective}
use Rattle.scsi_msgs.proofs.task_ask.decode_task_ask.Goals as goal

pub returns-clause-read : goal.returns-clause-read
returns-clause-read c =
    read_stands task_ask_layout c.layout.result c.args.bytes.now c.in_ok-values.values (task_ask_values c.from_values.result) c.layout.ensures c.in_ok-values.ensures.exact c.in_ok-values.ensures.fitting c.from_values.ensures

pub returns-clause-only : goal.returns-clause-only
returns-clause-only c =
    let stands = read_stands task_ask_layout c.layout.result c.args.bytes.now c.in_ok-values.values (task_ask_values c.from_values.result) c.layout.ensures c.in_ok-values.ensures.exact c.in_ok-values.ensures.fitting c.from_values.ensures in
    λ m other. ap Ok (task_ask_values-injective c.from_values.result m (Stands-same task_ask_layout (task_ask_values c.from_values.result) (task_ask_values m) c.args.bytes.now stands other))

pub returns-clause-fitting : goal.returns-clause-fitting
returns-clause-fitting c =
    read_fits task_ask_layout c.layout.result c.args.bytes.now c.in_ok-values.values (task_ask_values c.from_values.result) c.layout.ensures c.in_ok-values.ensures.exact c.in_ok-values.ensures.fitting c.from_values.ensures
