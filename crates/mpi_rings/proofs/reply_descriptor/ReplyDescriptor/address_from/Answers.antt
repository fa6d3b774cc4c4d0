use Rattle.std.proofs.Common.{refl, arith}
use Rattle.mpi_rings.specs.ReplyDescriptor.{address_layout}
use Rattle.mpi_rings.proofs.Flags.{address_cut}
use Rattle.mpi_rings.proofs.reply_descriptor.ReplyDescriptor.address_from.Goals as goal

pub returns-clause-values : goal.returns-clause-values
unfolding address_layout
returns-clause-values c = rw (address_cut c.args.values.now (omega arith) c.requires) refl
