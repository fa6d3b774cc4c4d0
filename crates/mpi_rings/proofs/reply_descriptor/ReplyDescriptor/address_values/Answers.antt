use Rattle.std.proofs.Common.{arith}
use Rattle.mpi_rings.proofs.Fitting.{address_fits}
use Rattle.mpi_rings.proofs.reply_descriptor.ReplyDescriptor.address_values.Goals as goal

pub returns-clause-fitting : goal.returns-clause-fitting
returns-clause-fitting c = address_fits _ _ _ (omega arith) (omega arith) (omega arith)
