use Rattle.mpi_doorbell.specs.HostSteps.{Expects}
use Rattle.mpi_doorbell.proofs.tests.play.Given as goal

abbrev pub invariant-loop : goal.invariant-loop
invariant-loop l = Expects l.host.stage l.value
