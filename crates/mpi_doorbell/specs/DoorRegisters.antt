-- The adapter's side of the doorbell: its registers, and what each call does to them.
use Rattle.std.specs.Prelude.{ℕ, ◌+◌, ◌*◌, ◌/◌, ◌%◌, ◌^◌, Bool, true, false, ◌&&◌, not, ◌==◌, nat_lt, nat_le, if◌then◌else◌, List, [], drop, bit_and, Option, unwrap_or}
use Rattle.byteorder.specs.Endian.{little_number}
use Rattle.mpi_doorbell.specs.declared.effect.Effect.{Effect}
use Rattle.mpi_doorbell.specs.declared.effect.Effect.TheVariants as effect
use Rattle.mpi_doorbell.specs.declared.registers.TheConstants.{DOORBELL, WRITE_SEQUENCE, HOST_DIAGNOSTIC, HOST_INTERRUPT_STATUS, HOST_INTERRUPT_MASK, REPLY_POST_HOST_INDEX, DOORBELL_USED, DOORBELL_WHO_INIT_SHIFT, DOORBELL_FUNCTION_SHIFT, DOORBELL_ADD_DWORDS_SHIFT, FUNCTION_MESSAGE_UNIT_RESET, FUNCTION_HANDSHAKE, WRITE_SEQUENCE_KEY_MASK, DIAG_WRITE_ENABLE, DIAG_RESET_HISTORY, DIAG_RESET_ADAPTER, DIAG_HOLD_IOC_RESET, IOC2SYS_DB_STATUS}
use Rattle.mpi_doorbell.specs.declared.state.IocState.{IocState}
use Rattle.mpi_doorbell.specs.declared.state.IocState.TheVariants.{Reset, Ready, Operational, Fault}
use Rattle.mpi_doorbell.specs.Bytes.{has}
use Rattle.mpi_doorbell.specs.Handshake.{Handshake, Idle, Collects, Replies, asked_by, dword_taken, init_by, is_idle, is_replying, next_word, word_read}
use Rattle.mpi_doorbell.specs.Keys.{place_after}
use Rattle.mpi_doorbell.specs.State.{state_bits}

pub record DoorRegisters : Type 0 where
  pub state : IocState
  pub who_init : ℕ
  pub handshake : Handshake
  -- IOC2SYS_DB_STATUS
  pub ioc2sys : Bool
  -- how many keys of the unlocking sequence came in order
  pub key_place : ℕ
  -- HOLD_IOC_RESET
  pub hold_reset : Bool
  -- RESET_ADAPTER
  pub reset_adapter : Bool
  -- RESET_HISTORY
  pub reset_history : Bool
  -- the adapter was linked while HOLD_IOC_RESET was set
  pub link_waits : Bool
  pub interrupt_mask : ℕ
  pub reply_post_host_index : ℕ

-- at power-up
abbrev pub new_registers : DoorRegisters
new_registers =
    record {
      state = Ready;
      who_init = 0;
      handshake = Idle;
      ioc2sys = false;
      key_place = 0;
      hold_reset = false;
      reset_adapter = false;
      reset_history = false;
      link_waits = false;
      interrupt_mask = 0;
      reply_post_host_index = 0;
    }

-- ---- reads

abbrev pub bits_if : Bool → ℕ → ℕ
bits_if b bits = if b then bits else 0

-- the Doorbell's low 16 bits: in FAULT the code, else the word of the reply that is read
abbrev pub data_word : IocState → Handshake → ℕ
data_word Reset handshake = word_read handshake
data_word Ready handshake = word_read handshake
data_word Operational handshake = word_read handshake
data_word (Fault code) handshake = code

abbrev pub doorbell_value : DoorRegisters → ℕ
doorbell_value r =
    state_bits r.state + bits_if (not (is_idle r.handshake)) DOORBELL_USED
    + r.who_init * 2 ^ DOORBELL_WHO_INIT_SHIFT + data_word r.state r.handshake

abbrev pub is_unlocked : DoorRegisters → Bool
is_unlocked r = r.key_place == 6

abbrev pub diagnostic_value : DoorRegisters → ℕ
diagnostic_value r =
    bits_if (is_unlocked r) DIAG_WRITE_ENABLE + bits_if r.reset_history DIAG_RESET_HISTORY
    + bits_if r.reset_adapter DIAG_RESET_ADAPTER + bits_if r.hold_reset DIAG_HOLD_IOC_RESET

-- what a register reads: every other one reads 0
abbrev pub register_value : DoorRegisters → ℕ → ℕ
register_value r reg =
    if reg == DOORBELL then doorbell_value r else
    if reg == HOST_DIAGNOSTIC then diagnostic_value r else
    if reg == HOST_INTERRUPT_STATUS then bits_if r.ioc2sys IOC2SYS_DB_STATUS else
    if reg == HOST_INTERRUPT_MASK then r.interrupt_mask else
    if reg == REPLY_POST_HOST_INDEX then r.reply_post_host_index else 0

-- ---- writes

-- the registers after a write, and what it asks of the adapter
pub record Written : Type 0 where
  pub registers : DoorRegisters
  pub effect : Effect

abbrev pub quietly : DoorRegisters → Written
quietly r = record { registers = r; effect = effect.None }

abbrev pub key_written : DoorRegisters → ℕ → DoorRegisters
key_written r value = record r { key_place = place_after r.key_place (bit_and value WRITE_SEQUENCE_KEY_MASK) }

-- RESET_ADAPTER begins a reset
abbrev pub reset_begun : DoorRegisters → Written
reset_begun r = record { registers = record r { reset_adapter = true; reset_history = true; link_waits = false }; effect = effect.AdapterReset }

-- an adapter that was linked meanwhile is READY as soon as HOLD_IOC_RESET is clear
abbrev pub released : DoorRegisters → DoorRegisters
released r = if r.link_waits && not r.hold_reset then record r { state = Ready; link_waits = false } else r

-- a write to HostDiagnostic acts only where it is unlocked
abbrev pub diagnostic_written : DoorRegisters → ℕ → Written
diagnostic_written r value =
    let held : DoorRegisters = record r { hold_reset = has value DIAG_HOLD_IOC_RESET } in
    if is_unlocked r then
    (if has value DIAG_RESET_ADAPTER then reset_begun held else quietly (released held))
    else quietly r

-- function 0x42 begins a handshake of 1 to 32 dwords
abbrev pub handshake_opened : DoorRegisters → ℕ → Written
handshake_opened r dwords =
    if nat_lt 0 dwords && nat_le dwords 32 then
    quietly (record r { handshake = Collects dwords []; ioc2sys = true })
    else record { registers = r; effect = effect.Fault 1 }

-- a function is written to the Doorbell
abbrev pub function_written : DoorRegisters → ℕ → ℕ → Written
function_written r function dwords =
    if function == FUNCTION_HANDSHAKE then handshake_opened r dwords else
    if function == FUNCTION_MESSAGE_UNIT_RESET then record { registers = r; effect = effect.UnitReset }
    else record { registers = r; effect = effect.Fault 2 }

-- a write to the Doorbell is a function, or during a handshake the message's next dword
abbrev pub doorbell_written : DoorRegisters → ℕ → Written
doorbell_written r value =
    if is_idle r.handshake then
    function_written r (value / 2 ^ DOORBELL_FUNCTION_SHIFT) (value / 2 ^ DOORBELL_ADD_DWORDS_SHIFT % 256)
    else
    record {
      registers = record r { handshake = dword_taken r.handshake value };
      effect = asked_by r.handshake value;
    }

-- a write to HostInterruptStatus clears IOC2SYS_DB_STATUS; while a reply is read it goes on to the next
-- word or ends the handshake, and so sets it once more
abbrev pub status_written : DoorRegisters → DoorRegisters
status_written r = record r { handshake = next_word r.handshake; ioc2sys = is_replying r.handshake }

abbrev pub is_fault : IocState → Bool
is_fault Reset = false
is_fault Ready = false
is_fault Operational = false
is_fault (Fault code) = true

-- a value is written to another register than the two that reset an adapter
abbrev pub working_written : DoorRegisters → ℕ → ℕ → Written
working_written r reg value =
    if reg == DOORBELL then doorbell_written r value else
    if reg == HOST_INTERRUPT_STATUS then quietly (status_written r) else
    if reg == HOST_INTERRUPT_MASK then quietly (record r { interrupt_mask = value }) else
    if reg == REPLY_POST_HOST_INDEX then quietly (record r { reply_post_host_index = value }) else quietly r

-- a value is written to a register: in FAULT only WriteSequence and HostDiagnostic take it
abbrev pub register_written : DoorRegisters → ℕ → ℕ → Written
register_written r reg value =
    if reg == WRITE_SEQUENCE then quietly (key_written r value) else
    if reg == HOST_DIAGNOSTIC then diagnostic_written r value else
    if is_fault r.state then quietly r else working_written r reg value

-- ---- the adapter's own steps

abbrev pub who_init_after : ℕ → Option ℕ → ℕ → ℕ
who_init_after who_init init status = if status == 0 then unwrap_or init who_init else who_init

-- the message is answered: the reply's first word is read; an IOC Init with IOCStatus 0, at byte 0E,
-- sets WhoInit
abbrev pub answered : DoorRegisters → List ℕ → DoorRegisters
answered r reply =
    record r {
      who_init = who_init_after r.who_init (init_by r.handshake) (little_number 2 (drop 14 reply));
      handshake = Replies reply;
      ioc2sys = true;
    }

-- a reset begins
abbrev pub restarted : DoorRegisters → DoorRegisters
restarted r = record r { state = Reset; who_init = 0; handshake = Idle; ioc2sys = false; link_waits = false }

-- the reset is over, as soon as HOLD_IOC_RESET is clear
abbrev pub linked_up : DoorRegisters → DoorRegisters
linked_up r = released (record r { reset_adapter = false; link_waits = true })
