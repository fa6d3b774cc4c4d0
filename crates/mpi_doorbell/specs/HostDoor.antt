-- The host's side of the doorbell: where it stands, and the forms that its steps have.
use Rattle.std.specs.Prelude.{ℕ, List, length}
use Rattle.mpi_doorbell.specs.declared.registers.TheConstants.{DOORBELL, HOST_DIAGNOSTIC, HOST_INTERRUPT_STATUS}
use Rattle.mpi_doorbell.specs.declared.stage.Reading.{Reading}
use Rattle.mpi_doorbell.specs.declared.stage.Reading.TheVariants as reading
use Rattle.mpi_doorbell.specs.declared.stage.ResetKind.{ResetKind}
use Rattle.mpi_doorbell.specs.declared.stage.ResetKind.TheVariants.{Diagnostic, MessageUnit}
use Rattle.mpi_doorbell.specs.declared.stage.Stage.{Stage}
use Rattle.mpi_doorbell.specs.declared.stage.Stage.TheVariants.{Awaits, Ended}
use Rattle.mpi_doorbell.specs.declared.step.DoorStep.{DoorStep}
use Rattle.mpi_doorbell.specs.declared.step.DoorStep.TheVariants.{Write, Read, Done, Refused}
use Rattle.mpi_doorbell.specs.Bytes.{padded}

pub record HostDoor : Type 0 where
  pub stage : Stage
  -- the bytes of the message that weren't written yet
  pub unsent : List ℕ
  -- the bytes of the reply that were read
  pub reply : List ℕ

-- the host after a step, and the step
pub record Stepped : Type 0 where
  pub door : HostDoor
  pub step : DoorStep

-- the register that it is looked for in
abbrev pub register_of : Reading → ℕ
register_of reading.Used = DOORBELL
register_of reading.LeftOver = HOST_INTERRUPT_STATUS
register_of reading.Opened = HOST_INTERRUPT_STATUS
register_of reading.Taken = HOST_INTERRUPT_STATUS
register_of reading.News = HOST_INTERRUPT_STATUS
register_of reading.Word = DOORBELL
register_of reading.Unlocked = HOST_DIAGNOSTIC
register_of reading.ResetOver = HOST_DIAGNOSTIC
register_of (reading.State kind) = DOORBELL
register_of reading.UnitReset = HOST_INTERRUPT_STATUS
register_of reading.Doorbell = DOORBELL

-- the step of the host's table that waits for READY
abbrev pub state_step : ResetKind → ℕ
state_step Diagnostic = 25
state_step MessageUnit = 31

-- it reads a register, and waits for the value; "until" is to read it again for the same
abbrev pub reads : HostDoor → Reading → Stepped
reads d x = record { door = record d { stage = Awaits x }; step = Read (register_of x) }

-- it writes a register, and then goes on
abbrev pub writes : HostDoor → Stage → ℕ → ℕ → Stepped
writes d next reg value = record { door = record d { stage = next }; step = Write reg value }

abbrev pub refuses : HostDoor → ℕ → ℕ → Stepped
refuses d step value = record { door = record d { stage = Ended }; step = Refused step value }

abbrev pub finishes : HostDoor → List ℕ → Stepped
finishes d bytes = record { door = record d { stage = Ended }; step = Done (length bytes) (padded bytes) }
