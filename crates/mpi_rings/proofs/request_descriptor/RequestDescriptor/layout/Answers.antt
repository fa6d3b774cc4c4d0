use Rattle.mpi_rings.specs.RequestDescriptor.{request_layout}
use Rattle.mpi_rings.proofs.request_descriptor.RequestDescriptor.layout.Goals as goal

pub returns : goal.returns
unfolding request_layout
returns c = c.new.ensures
