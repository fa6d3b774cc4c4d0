-- Further facts of the interrupt status: the door is a handshake's or idle, and what is on its way to it is one write of a handshake at most.
use Rattle.std.specs.Prelude.{◌≡◌, ℕ, ◌≤◌, ◌==◌, ◌&&◌, ◌||◌, ◌⊎◌, not, Bool, true, false, [], ◌∷◌, Some, None}
use Rattle.mpi_doorbell.specs.Handshake.{Handshake, Idle, Collects, Asked, Replies, is_idle}
use Rattle.mpi_doorbell.specs.HostDoor.{HostDoor, register_of}
use Rattle.mpi_doorbell.specs.declared.registers.TheConstants.{DOORBELL, DOORBELL_USED, HOST_INTERRUPT_STATUS}
use Rattle.mpi_doorbell.specs.declared.stage.Reading.{Reading}
use Rattle.mpi_doorbell.specs.declared.stage.Stage.TheVariants as door_stage
use Rattle.mpt_wire.specs.Messages.Registers.{Bell, has_bit}
use Rattle.mpt_trace.specs.declared.item.Down.{Down}
use Rattle.mpt_trace.specs.declared.item.Down.TheVariants as down
use Rattle.mpt_rules.specs.Host.Doorbell.{unit_reset_dword}
use Rattle.mpt_rules.specs.World.Counts.{how_many}
use Rattle.mpt_rules.specs.World.Lines.{down_line}
use Rattle.mpt_rules.specs.World.State.{World}
use Rattle.law_facts.specs.DoorAhead.{value_coming}

-- a write of the Doorbell, but the message unit reset: it opens a handshake, or is a dword of its message
abbrev pub is_word_write : Down → Bool
is_word_write (down.Write reg value) = (reg == DOORBELL) && not (value == unit_reset_dword)
is_word_write _ = false

-- a write of a handshake
abbrev pub is_talk_write : Down → Bool
is_talk_write (down.Write reg value) = ((reg == DOORBELL) && not (value == unit_reset_dword)) || (reg == HOST_INTERRUPT_STATUS)
is_talk_write _ = false

-- dwords are missing where some are collected, no message waits for its reply, and while a reply is read the interrupt is set
abbrev pub DoorFits : Handshake → Bool → Type 0
DoorFits Idle status = Unit {0}
DoorFits (Collects missing message) status = 1 ≤ missing
DoorFits (Asked message) status = ⊥
DoorFits (Replies left) status = status ≡ true

-- the value of a machine's read of another register: it isn't put, or the rule has heard of it
abbrev pub IsHeard : Bell → ℕ → Type 0
IsHeard b value = (b.reads ≡ None ∷ []) ⊎ ((b.reads ≡ []) × (b.used ≡ has_bit value DOORBELL_USED))

pub record BellStands (w : World) (b : Bell) : Type 0 where
  pub fits : DoorFits w.ioc.door.handshake w.ioc.door.ioc2sys
  pub one : how_many is_talk_write (down_line w) ≤ 1
  -- no handshake is opened while the end of one isn't written
  pub opens : (is_idle w.ioc.door.handshake && w.ioc.door.ioc2sys) ≡ true → how_many is_word_write (down_line w) ≡ 0
  pub heard : (d : HostDoor) (x : Reading) (v : ℕ) → w.host.machine ≡ Some d → d.stage ≡ door_stage.Awaits x → (register_of x == HOST_INTERRUPT_STATUS) ≡ false → value_coming w ≡ Some v → IsHeard b v
