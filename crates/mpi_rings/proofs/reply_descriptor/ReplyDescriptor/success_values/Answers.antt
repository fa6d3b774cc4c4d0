use Rattle.std.proofs.Common.{arith}
use Rattle.mpi_rings.proofs.Fitting.{success_fits}
use Rattle.mpi_rings.proofs.reply_descriptor.ReplyDescriptor.success_values.Goals as goal

pub returns-clause-fitting : goal.returns-clause-fitting
returns-clause-fitting c = success_fits _ _ _ _ (omega arith) (omega arith) (omega arith) (omega arith)
