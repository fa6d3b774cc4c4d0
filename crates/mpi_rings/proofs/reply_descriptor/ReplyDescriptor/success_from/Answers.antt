use Rattle.std.proofs.Common.{refl, arith}
use Rattle.mpi_rings.specs.ReplyDescriptor.{success_layout}
use Rattle.mpi_rings.proofs.Flags.{success_cut}
use Rattle.mpi_rings.proofs.reply_descriptor.ReplyDescriptor.success_from.Goals as goal

pub returns-clause-values : goal.returns-clause-values
unfolding success_layout
returns-clause-values c = rw (success_cut c.args.values.now (omega arith) c.requires) refl
