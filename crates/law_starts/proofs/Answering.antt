-- What the answer to a handshake's message leaves of the door.
use Rattle.std.proofs.Common.{◌≡◌, ℕ, ◌==◌, Bool, true, false, if◌then◌else◌, List, slice_index, Option, Some, None, refl}
use Rattle.mpi_doorbell.specs.DoorRegisters.{DoorRegisters}
use Rattle.mpt_messages.specs.Function.{function_of}
use Rattle.mpt_messages.specs.Refusal.{request_refusal_as}
use Rattle.mpt_messages.specs.declared.fault.MsgFault.{MsgFault}
use Rattle.mpt_messages.specs.declared.function.Function.{Function}
use Rattle.mpt_messages.specs.declared.function.Function.TheVariants as function
use Rattle.mpt_messages.specs.declared.function.Kind.TheVariants as kind
use Rattle.mpt_rules.specs.declared.status.TheConstants.{IOC_STATUS_SUCCESS}
use Rattle.mpt_rules.specs.Ioc.Parts.{Ioc}
use Rattle.mpt_rules.specs.Ioc.Registers as registers

-- state, WhoInit, handshake and interrupt are all that it writes
pub record AnswerLeaves (r s : DoorRegisters) : Type 0 where
  pub key_place : s.key_place ≡ r.key_place
  pub hold : s.hold_reset ≡ r.hold_reset
  pub adapter : s.reset_adapter ≡ r.reset_adapter
  pub history : s.reset_history ≡ r.reset_history
  pub waits : s.link_waits ≡ r.link_waits

module _ (i : Ioc) (message : List ℕ) where
  inits : (n : ℕ) → AnswerLeaves i.door (registers.inits i message n).door
  inits n = by_test (n == IOC_STATUS_SUCCESS)
    where
      by_test : (b : Bool) → AnswerLeaves i.door (if b then registers.operates (registers.ends_init i n) message else registers.ends_init i n).door
      by_test true = record { key_place = refl; hold = refl; adapter = refl; history = refl; waits = refl }
      by_test false = record { key_place = refl; hold = refl; adapter = refl; history = refl; waits = refl }

  serves : (f : Option Function) → AnswerLeaves i.door (registers.serves_handshake i message f).door
  serves None = record { key_place = refl; hold = refl; adapter = refl; history = refl; waits = refl }
  serves (Some function.IocInit) = inits (registers.init_status i message)
  serves (Some function.IocFacts) = record { key_place = refl; hold = refl; adapter = refl; history = refl; waits = refl }
  serves (Some function.PortFacts) = record { key_place = refl; hold = refl; adapter = refl; history = refl; waits = refl }
  serves (Some function.ScsiIo) = record { key_place = refl; hold = refl; adapter = refl; history = refl; waits = refl }
  serves (Some function.TaskManagement) = record { key_place = refl; hold = refl; adapter = refl; history = refl; waits = refl }
  serves (Some function.Config) = record { key_place = refl; hold = refl; adapter = refl; history = refl; waits = refl }
  serves (Some function.PortEnable) = record { key_place = refl; hold = refl; adapter = refl; history = refl; waits = refl }
  serves (Some function.EventNotification) = record { key_place = refl; hold = refl; adapter = refl; history = refl; waits = refl }
  serves (Some function.EventAck) = record { key_place = refl; hold = refl; adapter = refl; history = refl; waits = refl }
  serves (Some function.UnitControl) = record { key_place = refl; hold = refl; adapter = refl; history = refl; waits = refl }

  pub answer_leaves : AnswerLeaves i.door (registers.handshakes i message).door
  answer_leaves = by_refusal (request_refusal_as kind.Handshake message (function_of (slice_index message 3)))
    where
      by_refusal : (o : Option MsgFault) → AnswerLeaves i.door (registers.handshakes_if i message o).door
      by_refusal None = serves (function_of (slice_index message 3))
      by_refusal (Some refusal) = record { key_place = refl; hold = refl; adapter = refl; history = refl; waits = refl }
