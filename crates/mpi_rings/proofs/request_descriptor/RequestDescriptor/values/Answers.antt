use Rattle.std.proofs.Common.{◌∙◌, arith}
use Rattle.mpi_rings.specs.RequestDescriptor.{request_values}
use Rattle.mpi_rings.proofs.Fitting.{request_fits}
use Rattle.mpi_rings.proofs.request_descriptor.RequestDescriptor.values.Goals as goal

pub returns-clause-values : goal.returns-clause-values
unfolding request_values
returns-clause-values c = cc

pub returns-clause-fitting : goal.returns-clause-fitting
returns-clause-fitting c = request_fits c.args.self.now.kind _ _ _ _ _ (c.from.ensures ∙ c.flags.ensures) (omega arith) (omega arith) (omega arith) (omega arith)
