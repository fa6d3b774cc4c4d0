use Rattle.mpi_rings.specs.ReplyDescriptor.{address_layout}
use Rattle.mpi_rings.proofs.reply_descriptor.ReplyDescriptor.address_layout.Goals as goal

pub returns : goal.returns
unfolding address_layout
returns c = c.new.ensures
