-- Further facts of the doorbell: what no write on its way does, and what a controller that isn't OPERATIONAL knows of its host.
use Rattle.std.specs.Prelude.{◌≡◌, ◌==◌, ◌&&◌, Bool, true, false, Some, is_some}
use Rattle.mpi_doorbell.specs.Bytes.{has}
use Rattle.mpi_doorbell.specs.HostDoor.{HostDoor}
use Rattle.mpi_doorbell.specs.declared.registers.TheConstants.{DIAG_HOLD_IOC_RESET, HOST_DIAGNOSTIC}
use Rattle.mpi_doorbell.specs.declared.stage.Reading.TheVariants as reading
use Rattle.mpi_doorbell.specs.declared.stage.Stage.TheVariants as door_stage
use Rattle.mpi_doorbell.specs.declared.state.IocState.TheVariants.{Ready}
use Rattle.mpt_trace.specs.declared.host_state.HostState.TheVariants as state
use Rattle.mpt_trace.specs.declared.item.Down.{Down}
use Rattle.mpt_trace.specs.declared.item.Down.TheVariants as down
use Rattle.mpt_rules.specs.declared.said.Said.{Said}
use Rattle.mpt_rules.specs.declared.said.Said.TheVariants as said
use Rattle.mpt_rules.specs.declared.stage.Stage.TheVariants as stage
use Rattle.mpt_rules.specs.Host.Takes.{is_starting}
use Rattle.mpt_rules.specs.World.Counts.{how_many, is_register_write}
use Rattle.mpt_rules.specs.World.Lines.{down_line, up_line}
use Rattle.mpt_rules.specs.World.State.{World, queues_of}
use Rattle.mpt_rules.specs.Ioc.Tables.{is_operational}
use Rattle.law_facts.specs.Clock.{in_reset, is_live}
use Rattle.law_facts.specs.DoorAhead.{IsFresh, door_ahead, written_ahead}

-- ---- nothing holds the reset

-- a write that sets HOLD_IOC_RESET
abbrev pub is_hold_write : Down → Bool
is_hold_write (down.Write reg value) = (reg == HOST_DIAGNOSTIC) && has value DIAG_HOLD_IOC_RESET
is_hold_write _ = false

-- a value with the bit HOLD_IOC_RESET, whatever register was read
abbrev pub is_hold_value : Said → Bool
is_hold_value (said.Value value) = has value DIAG_HOLD_IOC_RESET
is_hold_value _ = false

pub record NothingHolds (w : World) : Type 0 where
  pub writes : how_many is_hold_write (down_line w) ≡ 0
  -- what is read of HostDiagnostic is written back with RESET_ADAPTER
  pub read : (d : HostDoor) → w.host.machine ≡ Some d → d.stage ≡ door_stage.Awaits reading.Unlocked → how_many is_hold_value (up_line w 0) ≡ 0
  pub hold : w.ioc.door.hold_reset ≡ false
  pub hold_ahead : (door_ahead w).hold_reset ≡ false
  pub waits : w.ioc.door.link_waits ≡ false

-- ---- no register is written

pub record NothingIsWritten (w : World) : Type 0 where
  -- as a start looks whether the controller is READY
  pub look : w.host.stage ≡ stage.Start → how_many is_register_write (down_line w) ≡ 0
  -- while the controller is RESET
  pub reset : in_reset w ≡ true → how_many is_register_write (down_line w) ≡ 0

-- ---- a start begins with a controller that is READY

abbrev pub StartFindsReady : World → Type 0
StartFindsReady w = w.host.stage ≡ stage.Start → w.ioc.door.state ≡ Ready

-- and its machine is at IOC Init once the controller is OPERATIONAL
abbrev pub LiveAtInit : World → Type 0
LiveAtInit w = is_starting w.host.mode ≡ true → is_some w.host.machine ≡ true → is_live w ≡ true → w.host.stage ≡ stage.Init

-- a host that wasn't started has nothing
abbrev pub OffIsFresh : World → Type 0
OffIsFresh w = w.host.mode ≡ state.Off → IsFresh w

-- ---- a controller that isn't OPERATIONAL knows no host

abbrev pub KnowsNoHost : World → Type 0
KnowsNoHost w = is_live w ≡ false → w.ioc.door.who_init ≡ 0

-- ---- the reply queues that IOC Init asked for

-- as many as there are, and so it will be when the writes on their way are taken
pub record QueuesAsked (w : World) : Type 0 where
  pub now : is_live w ≡ true → w.ioc.vectors ≡ queues_of w
  pub ahead : is_operational (door_ahead w).state ≡ true → (written_ahead w.ioc (down_line w)).vectors ≡ queues_of w

-- ---- all of them

pub record StartsStand (w : World) : Type 0 where
  pub nothing_holds : NothingHolds w
  pub nothing_is_written : NothingIsWritten w
  pub knows_no_host : KnowsNoHost w
  pub queues_asked : QueuesAsked w
