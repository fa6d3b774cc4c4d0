-- The host at the doorbell: how its machine goes on, and what the host begins there.
use Rattle.std.specs.Prelude.{ℕ, zero, suc, ◌*◌, ◌^◌, ◌==◌, ◌&&◌, ◌||◌, not, Bool, true, false, List, [], ◌∷◌, ◌++◌, Option, Some, None}
use Rattle.std.specs.List.{list_any}
use Rattle.mpi_doorbell.specs.Bytes.{has}
use Rattle.mpi_doorbell.specs.declared.registers.TheConstants.{DOORBELL, HOST_DIAGNOSTIC, DIAG_RESET_ADAPTER, FUNCTION_MESSAGE_UNIT_RESET, DOORBELL_FUNCTION_SHIFT}
use Rattle.mpi_doorbell.specs.declared.step.DoorStep.{DoorStep}
use Rattle.mpi_doorbell.specs.declared.step.DoorStep.TheVariants as step
use Rattle.mpi_doorbell.specs.HostDoor.{HostDoor}
use Rattle.mpi_doorbell.specs.HostSteps.{handshake_of_message, next_step}
use Rattle.mpt_messages.specs.declared.host_ask.HostAsk.{HostAsk}
use Rattle.mpt_messages.specs.declared.host_ask.HostAsk.TheVariants as ask
use Rattle.mpt_messages.specs.HostFrames.{host_message}
use Rattle.mpt_messages.specs.FrameBytes.{message_bytes}
use Rattle.mpt_trace.specs.declared.item.Down.{Down}
use Rattle.mpt_trace.specs.declared.item.Down.TheVariants as down
use Rattle.mpt_rules.specs.declared.stage.Stage.{Stage}
use Rattle.mpt_rules.specs.declared.stage.Stage.TheVariants as stage
use Rattle.mpt_rules.specs.Host.Parts.{Host, host_queue_count}
use Rattle.mpt_wire.specs.Machine.Causes.{is_resetting}

-- ---- the machine goes on

-- what the machine does without a value: its writes, the first step that is none, and the machine after it
pub record DoorTurn : Type 0 where
  pub writes : List Down
  pub door : HostDoor
  pub step : DoorStep

-- a turn with one more write before it
abbrev pub after_write : ℕ → ℕ → DoorTurn → DoorTurn
after_write reg value turn = record turn { writes = down.Write reg value ∷ turn.writes }

-- after a write it is asked again, so often at most
unfoldable pub turn_from : ℕ → HostDoor → DoorStep → DoorTurn
turn_from zero door step = record { writes = []; door = door; step = step }
turn_from (suc more) door (step.Write reg value) = after_write reg value (turn_from more (next_step door None).door (next_step door None).step)
turn_from (suc more) door (step.Read reg) = record { writes = []; door = door; step = step.Read reg }
turn_from (suc more) door (step.Done count bytes) = record { writes = []; door = door; step = step.Done count bytes }
turn_from (suc more) door (step.Refused at value) = record { writes = []; door = door; step = step.Refused at value }

-- between two values the machine makes at most eight writes
abbrev pub most_writes : ℕ
most_writes = 8

-- the machine's turn with the value that it waits for, or at its beginning
abbrev pub next_turn : HostDoor → Option ℕ → DoorTurn
next_turn door value = turn_from most_writes (next_step door value).door (next_step door value).step

-- ---- what the host makes of a turn

-- the dword that resets the message unit
abbrev pub unit_reset_dword : ℕ
unit_reset_dword = FUNCTION_MESSAGE_UNIT_RESET * 2 ^ DOORBELL_FUNCTION_SHIFT

-- the write begins a reset: of HostDiagnostic with RESET_ADAPTER, or a message unit reset
abbrev pub is_reset_item : Down → Bool
is_reset_item (down.Write reg value) = ((reg == HOST_DIAGNOSTIC) && has value DIAG_RESET_ADAPTER) || ((reg == DOORBELL) && (value == unit_reset_dword))
is_reset_item (down.Read reg) = false
is_reset_item (down.Post descriptor frame payload) = false
is_reset_item (down.Return address index) = false
is_reset_item down.Stop = false

-- the writes go into the outbox; from the one that begins the reset that was asked no frame is returned any more
abbrev pub puts_writes : Host → List Down → Host
puts_writes host writes =
    record host {
      out = host.out ++ writes;
      returning = host.returning && not (is_resetting host.mode && list_any is_reset_item writes);
    }

-- the machine waits for the value of a read
abbrev pub puts_read : Host → HostDoor → ℕ → Host
puts_read host door reg = record host { out = host.out ++ down.Read reg ∷ []; machine = Some door; reading = true }

-- there is no machine any more
abbrev pub rests : Host → Host
rests host = record host { machine = None; stage = stage.Idle }

-- after the writes the machine reads, or it has ended
abbrev pub puts_step : Host → HostDoor → DoorStep → Host
puts_step host door (step.Read reg) = puts_read host door reg
puts_step host door (step.Write reg value) = rests host
puts_step host door (step.Done count bytes) = rests host
puts_step host door (step.Refused at value) = rests host

-- first the writes, then the step that is none
abbrev pub puts_turn : Host → DoorTurn → Host
puts_turn host turn = puts_step (puts_writes host turn.writes) turn.door turn.step

-- ---- what the host begins

-- a machine begins, for this
abbrev pub begins : Host → Stage → HostDoor → Host
begins host stage door = puts_turn (record host { stage = stage }) (next_turn door None)

-- a handshake begins with the bytes of what the host asks
abbrev pub begins_handshake : Host → Stage → HostAsk → Host
begins_handshake host stage ask = begins host stage (handshake_of_message (message_bytes (host_message ask)))

-- IOC Facts are asked
abbrev pub begins_facts : Host → Host
begins_facts host = begins_handshake host stage.Facts ask.Facts

-- Port Facts are asked
abbrev pub begins_port_facts : Host → Host
begins_port_facts host = begins_handshake host stage.PortFacts ask.PortFacts

-- IOC Init is asked, with as many reply post queues as the host has
abbrev pub begins_init : Host → Host
begins_init host = begins_handshake host stage.Init (ask.Init (host_queue_count host))
