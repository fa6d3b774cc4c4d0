use Rattle.std.proofs.Common.{sym}
use Rattle.mpi_layout.proofs.Obeyed.{field-one}
use Rattle.ioc_requests.proofs.fields.function_byte.Goals as goal

pub returns : goal.returns
returns c = sym (field-one c.args.frame.now 3)
