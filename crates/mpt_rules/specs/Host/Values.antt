-- Values that the host has read: how each machine at the doorbell ends, and what follows.
use Rattle.std.specs.Prelude.{ℕ, ◌==◌, false, List, take, bit_and, Option, Some, None, if◌then◌else◌}
use Rattle.byteorder.specs.Endian.{little_number}
use Rattle.mpi_doorbell.specs.declared.registers.TheConstants.{IOC_STATE_MASK, IOC_STATE_READY, IOC_STATE_OPERATIONAL, IOC_STATE_FAULT}
use Rattle.mpi_doorbell.specs.declared.step.DoorStep.{DoorStep}
use Rattle.mpi_doorbell.specs.declared.step.DoorStep.TheVariants as step
use Rattle.mpi_doorbell.specs.HostDoor.{HostDoor}
use Rattle.mpi_doorbell.specs.HostSteps.{diagnostic_reset, look_at_doorbell, unit_reset}
use Rattle.mpt_rules.specs.declared.request.Request.TheVariants as request
use Rattle.mpt_rules.specs.declared.stage.Stage.{Stage}
use Rattle.mpt_rules.specs.declared.stage.Stage.TheVariants as stage
use Rattle.mpt_rules.specs.Outcome.{Happening}
use Rattle.mpt_rules.specs.Host.Parts.{Host}
use Rattle.mpt_rules.specs.Host.Doorbell.{DoorTurn, begins, begins_facts, begins_init, begins_port_facts, puts_turn, next_turn}
use Rattle.mpt_rules.specs.Host.Posts.{asks_internal}
use Rattle.mpt_rules.specs.Host.Removal.{quietly}
use Rattle.mpt_rules.specs.Host.Resets.{begins_late, hears_ready}
use Rattle.mpt_rules.specs.Host.Returns.{returns_all}

-- ---- the start

-- the Doorbell is read for the state of the controller
abbrev pub looks_to_start : Host → Host
looks_to_start host = begins host stage.Start look_at_doorbell

-- a controller that is READY is started; one that is OPERATIONAL or in FAULT is reset before; RESET, and a state
-- without a name, is looked at again
abbrev pub starts_by : Host → ℕ → Host
starts_by host state =
    if state == IOC_STATE_READY then begins_facts host else
    if state == IOC_STATE_OPERATIONAL then begins host stage.StartReset unit_reset else
    if state == IOC_STATE_FAULT then begins host stage.StartReset diagnostic_reset else
    looks_to_start host

-- the state in the bytes of the Doorbell
abbrev pub state_read : List ℕ → ℕ
state_read bytes = bit_and (little_number 4 bytes) IOC_STATE_MASK

-- after IOC Init all frames are returned, and the events are asked for
abbrev pub begins_messages : Host → Host
begins_messages host = asks_internal (returns_all host) request.Notification

-- ---- the end of a machine, by what it was for

-- the steps of a start follow each other; a look ends; a reset that was asked waits for its marks
abbrev pub ends_stage : Host → Stage → List ℕ → Happening Host
ends_stage host stage.Idle bytes = quietly host
ends_stage host stage.Start bytes = quietly (starts_by host (state_read bytes))
ends_stage host stage.StartReset bytes = quietly (begins_facts host)
ends_stage host stage.Facts bytes = quietly (begins_port_facts host)
ends_stage host stage.PortFacts bytes = quietly (begins_init host)
ends_stage host stage.Init bytes = quietly (begins_messages host)
ends_stage host stage.Look bytes = quietly host
ends_stage host stage.DiagnosticReset bytes = hears_ready host
ends_stage host stage.UnitReset bytes = hears_ready host

-- ---- a value

-- after the machine's turn, which was for this
abbrev pub after_turn : Host → Stage → DoorStep → Happening Host
after_turn host stage (step.Done count bytes) = ends_stage host stage (take count bytes)
after_turn host stage (step.Read reg) = quietly host
after_turn host stage (step.Write reg value) = quietly host
after_turn host stage (step.Refused at value) = quietly host

-- the machine's turn goes into the outbox, and then its end counts
abbrev pub hears_turn : Host → DoorTurn → Happening Host
hears_turn host turn = after_turn (puts_turn host turn) host.stage turn.step

-- without a machine a reset was asked meanwhile
abbrev pub hears_value_at : Host → Option HostDoor → ℕ → Happening Host
hears_value_at host None value = quietly (begins_late host host.stage)
hears_value_at host (Some door) value = hears_turn host (next_turn door (Some value))

-- the value of the read that was outstanding
abbrev pub hears_value : Host → ℕ → Happening Host
hears_value host value = hears_value_at (record host { reading = false }) host.machine value
