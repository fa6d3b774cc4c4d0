use Rattle.std.proofs.Common.{refl}
use Rattle.mpi_rings.specs.ReplyDescriptor.{unused_layout}
use Rattle.mpi_rings.proofs.reply_descriptor.ReplyDescriptor.unused_from.Goals as goal

pub returns-clause-values : goal.returns-clause-values
unfolding unused_layout
returns-clause-values c = refl
