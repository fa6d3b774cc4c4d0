-- Worked cases that compute.
use Rattle.std.proofs.Common.{◌≡◌, ℕ, Some, None, List, [], ◌∷◌, replicate, refl}
use Rattle.mpi_doorbell.specs.declared.effect.Effect.TheVariants as effect
use Rattle.mpi_doorbell.specs.declared.state.IocState.TheVariants.{Operational}
use Rattle.mpi_doorbell.specs.declared.registers.TheConstants.{DOORBELL, WRITE_SEQUENCE, HOST_DIAGNOSTIC, HOST_INTERRUPT_STATUS}
use Rattle.mpi_doorbell.specs.DoorRegisters.{DoorRegisters, answered, new_registers, register_value, register_written}
use Rattle.mpi_doorbell.specs.declared.step.DoorStep.{DoorStep}
use Rattle.mpi_doorbell.specs.declared.step.DoorStep.TheVariants.{Write}
use Rattle.mpi_doorbell.specs.HostRun.{after_steps}
use Rattle.mpi_doorbell.specs.HostSteps.{handshake_of_message, next_step, unit_reset}

-- the registers after these values were written to one of them
abbrev after_each : DoorRegisters → ℕ → List ℕ → DoorRegisters
after_each r reg [] = r
after_each r reg (v ∷ vs) = after_each (register_written r reg v).registers reg vs

powered_up : register_value new_registers DOORBELL ≡ 0x10000000
powered_up = refl

abbrev wrong_key : DoorRegisters
wrong_key = after_each new_registers WRITE_SEQUENCE (0xF ∷ 4 ∷ 0xB ∷ 2 ∷ 7 ∷ 0xC ∷ 0xD ∷ [])

locked : register_value wrong_key HOST_DIAGNOSTIC ≡ 0
locked = refl

no_reset : (register_written wrong_key HOST_DIAGNOSTIC 4).effect ≡ effect.None
no_reset = refl

abbrev all_keys : DoorRegisters
all_keys = after_each wrong_key WRITE_SEQUENCE (0 ∷ 0xF ∷ 4 ∷ 0xB ∷ 2 ∷ 7 ∷ 0xD ∷ [])

unlocked : register_value all_keys HOST_DIAGNOSTIC ≡ 0x80
unlocked = refl

reset : (register_written all_keys HOST_DIAGNOSTIC 0x84).effect ≡ effect.AdapterReset
reset = refl

-- IOC Init by WhoInit 4, answered with IOCStatus 0
abbrev asked_init : DoorRegisters
asked_init = after_each new_registers DOORBELL (0x42030000 ∷ 0x02000004 ∷ 0 ∷ 0 ∷ [])

abbrev answered_init : DoorRegisters
answered_init = answered asked_init (4 ∷ 0 ∷ 5 ∷ 2 ∷ 0 ∷ 0 ∷ 0 ∷ 0 ∷ 0 ∷ 0 ∷ 0 ∷ 0 ∷ 0 ∷ 0 ∷ 0 ∷ 0 ∷ 0 ∷ 0 ∷ 0 ∷ 0 ∷ [])

initialised : register_value (record (after_each answered_init HOST_INTERRUPT_STATUS (0 ∷ 0 ∷ 0 ∷ 0 ∷ 0 ∷ 0 ∷ 0 ∷ 0 ∷ 0 ∷ 0 ∷ [])) { state = Operational }) DOORBELL ≡ 0x24000000
initialised = refl

-- the host's words: IOC Facts has 12 bytes, IOC Init 72
abbrev first_word : ℕ → DoorStep
first_word count = (next_step (after_steps (handshake_of_message (replicate count 0)) (None ∷ Some 0x10000000 ∷ [])) (Some 0)).step

facts_opening : first_word 12 ≡ Write 0 0x42030000
facts_opening = refl

init_opening : first_word 72 ≡ Write 0 0x42120000
init_opening = refl

unit_word : (next_step unit_reset None).step ≡ Write 0 0x40000000
unit_word = refl
