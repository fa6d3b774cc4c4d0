-- What a turn at the doorbell leaves alone.
use Rattle.std.proofs.Common.{◌≡◌, refl}
use Rattle.mpi_doorbell.specs.declared.step.DoorStep.{DoorStep}
use Rattle.mpi_doorbell.specs.declared.step.DoorStep.TheVariants as step
use Rattle.mpi_doorbell.specs.HostDoor.{HostDoor}
use Rattle.mpt_rules.specs.Host.Parts.{Host}
use Rattle.mpt_rules.specs.Host.Doorbell.{DoorTurn, puts_step, puts_turn, puts_writes}

step_keeps_cmds : (host : Host) (door : HostDoor) (s : DoorStep) → (puts_step host door s).cmds ≡ host.cmds
step_keeps_cmds host door (step.Read reg) = refl
step_keeps_cmds host door (step.Write reg value) = refl
step_keeps_cmds host door (step.Done count bytes) = refl
step_keeps_cmds host door (step.Refused at value) = refl

step_keeps_aborts : (host : Host) (door : HostDoor) (s : DoorStep) → (puts_step host door s).aborts ≡ host.aborts
step_keeps_aborts host door (step.Read reg) = refl
step_keeps_aborts host door (step.Write reg value) = refl
step_keeps_aborts host door (step.Done count bytes) = refl
step_keeps_aborts host door (step.Refused at value) = refl

-- the open submissions
pub turn_keeps_cmds : (host : Host) (turn : DoorTurn) → (puts_turn host turn).cmds ≡ host.cmds
turn_keeps_cmds host turn = step_keeps_cmds (puts_writes host turn.writes) turn.door turn.step

-- and the open aborts
pub turn_keeps_aborts : (host : Host) (turn : DoorTurn) → (puts_turn host turn).aborts ≡ host.aborts
turn_keeps_aborts host turn = step_keeps_aborts (puts_writes host turn.writes) turn.door turn.step
