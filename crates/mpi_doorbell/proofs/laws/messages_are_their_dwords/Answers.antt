use Rattle.mpi_doorbell.proofs.DoorDwords.{dwords_law}
use Rattle.mpi_doorbell.proofs.laws.messages_are_their_dwords.Goals as goal

pub returns : goal.returns
returns c = dwords_law
