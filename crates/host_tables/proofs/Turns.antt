-- One more write of a turn.
use Rattle.std.proofs.Common.{◌≡◌, ℕ, zero, suc, ◌-◌, ◌<◌, None, [], refl, arith}
use Rattle.mpi_doorbell.specs.HostDoor.{HostDoor}
use Rattle.mpi_doorbell.specs.HostSteps.{next_step}
use Rattle.mpi_doorbell.specs.declared.step.DoorStep.{DoorStep}
use Rattle.mpi_doorbell.specs.declared.step.DoorStep.TheVariants as step
use Rattle.mpt_rules.specs.Host.Doorbell.{after_write, turn_from}

pub goes_on-write : (more : ℕ) (door : HostDoor) (reg value : ℕ) → 0 < more → turn_from more door (step.Write reg value) ≡ after_write reg value (turn_from (more - 1) (next_step door None).door (next_step door None).step)
unfolding turn_from
goes_on-write zero door reg value above = absurd (omega arith)
goes_on-write (suc more) door reg value above = let one : suc more - 1 ≡ more = omega arith in rw one refl

pub goes_on-none : (door : HostDoor) (s : DoorStep) → turn_from zero door s ≡ record { writes = []; door = door; step = s }
unfolding turn_from
goes_on-none door s = refl

-- the step is no write
pub goes_on-other : (more : ℕ) (door : HostDoor) (s : DoorStep) → ((reg value : ℕ) → s ≡ step.Write reg value → ⊥) → turn_from more door s ≡ record { writes = []; door = door; step = s }
unfolding turn_from
goes_on-other zero door s other = refl
goes_on-other (suc more) door (step.Write reg value) other = absurd (other reg value refl)
goes_on-other (suc more) door (step.Read reg) other = refl
goes_on-other (suc more) door (step.Done count bytes) other = refl
goes_on-other (suc more) door (step.Refused at value) other = refl
