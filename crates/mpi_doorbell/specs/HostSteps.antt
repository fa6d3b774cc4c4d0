-- The host's next step, wherever it stands.
use Rattle.std.specs.Prelude.{◌≡◌, ℕ, List, [], Option, Some, None}
use Rattle.byteorder.specs.Endian.{little_bytes}
use Rattle.mpi_doorbell.specs.declared.stage.Reading.{Reading}
use Rattle.mpi_doorbell.specs.declared.stage.Reading.TheVariants as reading
use Rattle.mpi_doorbell.specs.declared.stage.Stage.{Stage}
use Rattle.mpi_doorbell.specs.declared.stage.Stage.TheVariants.{Reads, Awaits, Opens, WritesKey, Locks, ResetsUnit, Finishes, Ended}
use Rattle.mpi_doorbell.specs.declared.step.DoorStep.{DoorStep}
use Rattle.mpi_doorbell.specs.declared.step.DoorStep.TheVariants.{Write, Read, Done, Refused}
use Rattle.mpi_doorbell.specs.Bytes.{padded}
use Rattle.mpi_doorbell.specs.HostDoor.{HostDoor, Stepped, finishes, reads, register_of}
use Rattle.mpi_doorbell.specs.HostHandshake.{hears_left_over, hears_news, hears_opened, hears_taken, hears_used, hears_word, opens}
use Rattle.mpi_doorbell.specs.HostReset.{hears_reset_over, hears_state, hears_unit_reset, hears_unlocked, locks, resets_unit, writes_key}

-- where each of the four begins

abbrev pub handshake_of_message : List ℕ → HostDoor
handshake_of_message message = record { stage = Reads reading.Used; unsent = message; reply = [] }

abbrev pub diagnostic_reset : HostDoor
diagnostic_reset = record { stage = WritesKey 0; unsent = []; reply = [] }

abbrev pub unit_reset : HostDoor
unit_reset = record { stage = ResetsUnit; unsent = []; reply = [] }

abbrev pub look_at_doorbell : HostDoor
look_at_doorbell = record { stage = Reads reading.Doorbell; unsent = []; reply = [] }

-- a value is given exactly where the host waits for one, and nothing is asked of it after its end
abbrev pub Expects : Stage → Option ℕ → Type 0
Expects (Awaits x) (Some value) = Unit {0}
Expects (Awaits x) None = ⊥
Expects (Reads x) None = Unit {0}
Expects Opens None = Unit {0}
Expects (WritesKey place) None = Unit {0}
Expects Locks None = Unit {0}
Expects ResetsUnit None = Unit {0}
Expects Finishes None = Unit {0}
Expects Ended None = ⊥
Expects stage (Some value) = ⊥

abbrev pub IsWrite : DoorStep → Type 0
IsWrite (Write reg value) = Unit {0}
IsWrite (Read reg) = ⊥
IsWrite (Done count bytes) = ⊥
IsWrite (Refused step value) = ⊥

abbrev pub IsEnd : DoorStep → Type 0
IsEnd (Write reg value) = ⊥
IsEnd (Read reg) = ⊥
IsEnd (Done count bytes) = Unit {0}
IsEnd (Refused step value) = Unit {0}

-- what can't be asked changes nothing
abbrev pub stands : HostDoor → Stepped
stands d = record { door = d; step = Done 0 (padded []) }

-- the step where it waits for no value
abbrev pub acts : HostDoor → Stage → Stepped
acts d (Reads x) = reads d x
acts d (Awaits x) = stands d
acts d Opens = opens d
acts d (WritesKey place) = writes_key d place
acts d Locks = locks d
acts d ResetsUnit = resets_unit d
acts d Finishes = finishes d d.reply
acts d Ended = stands d

-- the step after the value of what it read
abbrev pub hears_reading : HostDoor → Reading → ℕ → Stepped
hears_reading d reading.Used value = hears_used d value
hears_reading d reading.LeftOver value = hears_left_over d value
hears_reading d reading.Opened value = hears_opened d value
hears_reading d reading.Taken value = hears_taken d value
hears_reading d reading.News value = hears_news d value
hears_reading d reading.Word value = hears_word d value
hears_reading d reading.Unlocked value = hears_unlocked d value
hears_reading d reading.ResetOver value = hears_reset_over d value
hears_reading d (reading.State kind) value = hears_state d kind value
hears_reading d reading.UnitReset value = hears_unit_reset d value
hears_reading d reading.Doorbell value = finishes d (little_bytes 4 value)

abbrev pub hears : HostDoor → Stage → ℕ → Stepped
hears d (Awaits x) value = hears_reading d x value
hears d (Reads x) value = stands d
hears d Opens value = stands d
hears d (WritesKey place) value = stands d
hears d Locks value = stands d
hears d ResetsUnit value = stands d
hears d Finishes value = stands d
hears d Ended value = stands d

abbrev pub next_step : HostDoor → Option ℕ → Stepped
next_step d None = acts d d.stage
next_step d (Some value) = hears d d.stage value

-- the host waits for a value exactly where its step is a read, of that register, and it has ended exactly
-- where its step is Done or Refused
abbrev pub TakesTurn : Stage → DoorStep → Type 0
TakesTurn (Awaits x) step = step ≡ Read (register_of x)
TakesTurn Ended step = IsEnd step
TakesTurn (Reads x) step = IsWrite step
TakesTurn Opens step = IsWrite step
TakesTurn (WritesKey place) step = IsWrite step
TakesTurn Locks step = IsWrite step
TakesTurn ResetsUnit step = IsWrite step
TakesTurn Finishes step = IsWrite step

-- so after a read the value is expected, and after a write none is
abbrev pub ExpectsAfter : Stage → DoorStep → Type 0
ExpectsAfter stage (Read reg) = (value : ℕ) → Expects stage (Some value)
ExpectsAfter stage (Write reg value) = Expects stage None
ExpectsAfter stage (Done count bytes) = Unit {0}
ExpectsAfter stage (Refused step value) = Unit {0}
