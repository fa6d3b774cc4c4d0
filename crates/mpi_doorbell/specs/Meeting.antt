-- The host plays against the adapter: what it reads is what the adapter's registers read, and what it
-- writes is written to them.
use Rattle.std.specs.Prelude.{◌≡◌, ℕ, zero, suc, List, length, Option, Some, None}
use Rattle.mpi_doorbell.specs.declared.effect.Effect.{Effect}
use Rattle.mpi_doorbell.specs.declared.effect.Effect.TheVariants as effect
use Rattle.mpi_doorbell.specs.declared.step.DoorStep.{DoorStep}
use Rattle.mpi_doorbell.specs.declared.step.DoorStep.TheVariants.{Write, Read, Done, Refused}
use Rattle.mpi_doorbell.specs.Bytes.{padded}
use Rattle.mpi_doorbell.specs.DoorRegisters.{DoorRegisters, Written, answered, quietly, register_value, register_written}
use Rattle.mpi_doorbell.specs.HostDoor.{HostDoor}
use Rattle.mpi_doorbell.specs.HostSteps.{handshake_of_message, next_step}

pub record Talk : Type 0 where
  pub host : HostDoor
  -- what the host is given next
  pub value : Option ℕ
  pub registers : DoorRegisters

abbrev pub value_given : DoorStep → DoorRegisters → Option ℕ
value_given (Write reg value) r = None
value_given (Read reg) r = Some (register_value r reg)
value_given (Done count bytes) r = None
value_given (Refused step value) r = None

abbrev pub step_taken : DoorStep → DoorRegisters → Written
step_taken (Write reg value) r = register_written r reg value
step_taken (Read reg) r = quietly r
step_taken (Done count bytes) r = quietly r
step_taken (Refused step value) r = quietly r

-- the host's next step, and what it asks of the adapter
abbrev pub step_of : Talk → DoorStep
step_of t = (next_step t.host t.value).step

abbrev pub effect_on : Talk → Effect
effect_on t = (step_taken (step_of t) t.registers).effect

-- the next step is taken
abbrev pub round : Talk → Talk
round t =
    record {
      host = (next_step t.host t.value).door;
      value = value_given (step_of t) t.registers;
      registers = (step_taken (step_of t) t.registers).registers;
    }

-- after so many rounds that ask nothing of the adapter, P holds
abbrev pub LeadsIn : (Talk → Type 0) → ℕ → Talk → Type 0
LeadsIn P zero t = P t
LeadsIn P (suc n) t = (effect_on t ≡ effect.None) × LeadsIn P n (round t)

abbrev pub LeadsTo : (Talk → Type 0) → Talk → Type 0
LeadsTo P t = (n : ℕ) × LeadsIn P n t

-- the host begins a handshake
abbrev pub talk : List ℕ → DoorRegisters → Talk
talk message r = record { host = handshake_of_message message; value = None; registers = r }

-- the next step asks the message, and the host is done with the reply after the adapter answered it
abbrev pub IsDoneWith : List ℕ → Talk → Type 0
IsDoneWith reply t = step_of t ≡ Done (length reply) (padded reply)

abbrev pub with_answer : List ℕ → Talk → Talk
with_answer reply t = record t { registers = answered t.registers reply }

pub record AsksAndEnds (message reply : List ℕ) (t : Talk) : Type 0 where
  pub asked : effect_on t ≡ effect.Asked (length message) (padded message)
  pub ends : LeadsTo (IsDoneWith reply) (with_answer reply (round t))
