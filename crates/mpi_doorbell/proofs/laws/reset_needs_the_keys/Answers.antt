use Rattle.mpi_doorbell.proofs.DoorKeys.{reset_law}
use Rattle.mpi_doorbell.proofs.laws.reset_needs_the_keys.Goals as goal

pub returns : goal.returns
returns c = reset_law
