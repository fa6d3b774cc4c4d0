use Rattle.std.proofs.Common.{sym}
use Rattle.mpi_layout.proofs.Obeyed.{field-one}
use Rattle.host_reading.proofs.reply.function_in.Goals as goal

pub returns : goal.returns
returns c = sym (field-one c.args.bytes.now 3)
