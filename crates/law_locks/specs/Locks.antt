-- Where the two ends of the doorbell stand in a handshake: what the host has still to write and what it has read, against the door ahead.
use Rattle.std.specs.Prelude.{◌≡◌, ℕ, ◌*◌, ◌%◌, ◌≤◌, ◌⊎◌, true, false, List, [], ◌++◌, length, Option, Some, None}
use Rattle.mpi_names.specs.declared.ioc_init.TheConstants.{MPI2_WHOINIT_HOST_DRIVER}
use Rattle.mpi_doorbell.specs.DoorRegisters.{DoorRegisters, register_value}
use Rattle.mpi_doorbell.specs.Handshake.{Handshake, Idle, Collects, Replies}
use Rattle.mpi_doorbell.specs.HostDoor.{HostDoor, register_of}
use Rattle.mpi_doorbell.specs.declared.stage.Reading.{Reading}
use Rattle.mpi_doorbell.specs.declared.stage.Reading.TheVariants as reading
use Rattle.mpi_doorbell.specs.declared.stage.Stage.TheVariants as door_stage
use Rattle.mpi_doorbell.specs.declared.state.IocState.{IocState}
use Rattle.mpi_doorbell.specs.declared.state.IocState.TheVariants.{Operational, Ready}
use Rattle.mpt_messages.specs.Function.{byte_of}
use Rattle.mpt_messages.specs.declared.function.Function.TheVariants as function
use Rattle.mpt_messages.specs.declared.host_ask.HostAsk.{HostAsk}
use Rattle.mpt_messages.specs.declared.host_ask.HostAsk.TheVariants as ask
use Rattle.mpt_messages.specs.declared.ioc_reply.IocReply.{IocReply}
use Rattle.mpt_messages.specs.declared.ioc_reply.IocReply.TheVariants as reply
use Rattle.mpt_wire.specs.Machine.Causes.{is_resetting}
use Rattle.mpt_wire.specs.Messages.DoorbellWords.{asked_bytes, replied_bytes}
use Rattle.mpt_trace.specs.declared.host_state.HostState.{HostState}
use Rattle.mpt_rules.specs.declared.stage.Stage.{Stage}
use Rattle.mpt_rules.specs.declared.stage.Stage.TheVariants as stage
use Rattle.mpt_rules.specs.declared.status.TheConstants.{IOC_STATUS_SUCCESS}
use Rattle.mpt_rules.specs.World.State.{World, queues_of}
use Rattle.law_facts.specs.DoorAhead.{door_ahead, value_coming}

-- ---- what is asked and answered, with q reply queues

-- what a start asks at each of its handshakes
abbrev pub ask_of_stage : ℕ → Stage → Option HostAsk
ask_of_stage q stage.Facts = Some ask.Facts
ask_of_stage q stage.PortFacts = Some ask.PortFacts
ask_of_stage q stage.Init = Some (ask.Init q)
ask_of_stage q _ = None

-- the reply of a controller that waits for IOC Init
abbrev pub reply_due : ℕ → HostAsk → IocReply
reply_due q ask.Facts = reply.Facts 0 q
reply_due q ask.PortFacts = reply.PortFacts 0 IOC_STATUS_SUCCESS
reply_due q _ = reply.Plain (byte_of function.IocInit) IOC_STATUS_SUCCESS

-- ---- the door before the message was asked, and behind

-- READY, and it knows no host
pub record IsUnasked (door : DoorRegisters) : Type 0 where
  pub state : door.state ≡ Ready
  pub who_init : door.who_init ≡ 0

-- IOC Init made it OPERATIONAL
abbrev pub state_behind : HostAsk → IocState
state_behind (ask.Init queues) = Operational
state_behind _ = Ready

abbrev pub who_init_behind : HostAsk → ℕ
who_init_behind (ask.Init queues) = MPI2_WHOINIT_HOST_DRIVER
who_init_behind _ = 0

pub record HasAnswered (a : HostAsk) (door : DoorRegisters) : Type 0 where
  pub state : door.state ≡ state_behind a
  pub who_init : door.who_init ≡ who_init_behind a

-- ---- bytes

-- the door has the message but for these bytes, which are whole dwords
abbrev pub Collected : List ℕ → List ℕ → Handshake → Type 0
Collected message unsent (Collects missing sent) = (sent ++ unsent ≡ message) × ((length unsent ≡ 4 * missing) × (1 ≤ missing))
Collected message unsent _ = ⊥

-- the door has the reply but for these bytes, which were read: whole words are left, or none
abbrev pub HeardOut : List ℕ → List ℕ → Handshake → Type 0
HeardOut said heard Idle = heard ≡ said
HeardOut said heard (Replies left) = (heard ++ left ≡ said) × ((length left % 2 ≡ 0) × (1 ≤ length left))
HeardOut said heard _ = ⊥

-- ---- where the host stands

-- nothing was written, and no interrupt is left over
pub record IsUnopened (a : HostAsk) (host : HostDoor) (door : DoorRegisters) : Type 0 where
  pub unsent : host.unsent ≡ asked_bytes a
  pub reply : host.reply ≡ []
  pub handshake : door.handshake ≡ Idle
  pub status : door.ioc2sys ≡ false
  pub unasked : IsUnasked door

-- dwords are still to be written
pub record IsSending (a : HostAsk) (host : HostDoor) (door : DoorRegisters) : Type 0 where
  pub reply : host.reply ≡ []
  pub collected : Collected (asked_bytes a) host.unsent door.handshake
  pub unasked : IsUnasked door

-- the message was asked, and words are still to be read, or the end
pub record IsHearing (q : ℕ) (a : HostAsk) (host : HostDoor) (door : DoorRegisters) : Type 0 where
  pub unsent : host.unsent ≡ []
  pub heard : HeardOut (replied_bytes (reply_due q a)) host.reply door.handshake
  pub interrupt : door.ioc2sys ≡ true
  pub answered : HasAnswered a door

-- by what the host waits for
abbrev pub ShakesAt : ℕ → HostAsk → HostDoor → DoorRegisters → Reading → Type 0
ShakesAt q a host door reading.Used = IsUnopened a host door
ShakesAt q a host door reading.LeftOver = IsUnopened a host door
ShakesAt q a host door reading.Opened = IsSending a host door × (door.ioc2sys ≡ true)
ShakesAt q a host door reading.Taken = IsSending a host door ⊎ IsHearing q a host door
ShakesAt q a host door reading.News = IsHearing q a host door
ShakesAt q a host door reading.Word = IsHearing q a host door
ShakesAt q a host door _ = ⊥

-- ---- of a world

-- over what of the host, of the door ahead, and of the value on its way it reads
pub record ShakesStand (q : ℕ) (machine : Option HostDoor) (mode : HostState) (stage : Stage) (door : DoorRegisters) (coming : Option ℕ) : Type 0 where
  pub stands : (host : HostDoor) (a : HostAsk) (x : Reading) → machine ≡ Some host → ask_of_stage q stage ≡ Some a → host.stage ≡ door_stage.Awaits x → ShakesAt q a host door x
  -- a value that is on its way is what the door ahead reads
  pub value : (host : HostDoor) (x : Reading) (v : ℕ) → machine ≡ Some host → is_resetting mode ≡ false → host.stage ≡ door_stage.Awaits x → coming ≡ Some v → v ≡ register_value door (register_of x)

abbrev pub HandshakesStand : World → Type 0
HandshakesStand w = ShakesStand (queues_of w) w.host.machine w.host.mode w.host.stage (door_ahead w) (value_coming w)
