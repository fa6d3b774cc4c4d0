use Rattle.mpi_doorbell.proofs.Meetings.{ends_meet}
use Rattle.mpi_doorbell.proofs.laws.ends_meet.Goals as goal

pub returns : goal.returns
returns c = ends_meet
