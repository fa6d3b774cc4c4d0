use Rattle.mpi_rings.specs.ReplyDescriptor.{unused_layout}
use Rattle.mpi_rings.proofs.reply_descriptor.ReplyDescriptor.unused_layout.Goals as goal

pub returns : goal.returns
unfolding unused_layout
returns c = c.new.ensures
