use Rattle.mpi_rings.specs.ReplyDescriptor.{success_layout}
use Rattle.mpi_rings.proofs.reply_descriptor.ReplyDescriptor.success_layout.Goals as goal

pub returns : goal.returns
unfolding success_layout
returns c = c.new.ensures
