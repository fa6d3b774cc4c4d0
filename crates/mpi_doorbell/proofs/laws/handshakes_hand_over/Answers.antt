use Rattle.mpi_doorbell.proofs.HostRuns.{hands_over}
use Rattle.mpi_doorbell.proofs.laws.handshakes_hand_over.Goals as goal

pub returns : goal.returns
returns c = hands_over
