-- The place of the adapter's side is that of the keys that were written to it.
use Rattle.std.proofs.Common.{◌≡◌, ℕ, true, false, List, [], ◌∷◌, ◌++◌, take, refl, ap, sym, ◌∙◌, arith}
use Rattle.std.proofs.lemmas.Bool.Decides.{nat_tests}
use Rattle.mpi_doorbell.specs.declared.effect.Effect.TheVariants as effect
use Rattle.mpi_doorbell.specs.DoorCalls.{DoorCall, Writes, Answers, SetsState, Restarts, Links, after_calls, called, key_of, keys_written}
use Rattle.mpi_doorbell.specs.DoorRegisters.{DoorRegisters, doorbell_written, diagnostic_written, new_registers, register_written, released, working_written}
use Rattle.mpi_doorbell.specs.Handshake.{Handshake, asked_by}
use Rattle.mpi_doorbell.specs.Keys.{IsUnlocking, place_of, unlock_keys}
use Rattle.mpi_doorbell.proofs.KeyLaw.{Entered, entered, place_of-append}

released_place : (r : DoorRegisters) → (released r).key_place ≡ r.key_place
released_place r = grind arith

diagnostic_place : (r : DoorRegisters) (value : ℕ) → (diagnostic_written r value).registers.key_place ≡ r.key_place
diagnostic_place r value = grind (arith, released_place)

doorbell_place : (r : DoorRegisters) (value : ℕ) → (doorbell_written r value).registers.key_place ≡ r.key_place
doorbell_place r value = grind arith

working_place : (r : DoorRegisters) (reg value : ℕ) → (working_written r reg value).registers.key_place ≡ r.key_place
working_place r reg value = grind (arith, doorbell_place)

written_place : (r : DoorRegisters) (reg value : ℕ) → (register_written r reg value).registers.key_place ≡ place_of r.key_place (key_of (Writes reg value))
written_place r reg value = grind (arith, working_place, diagnostic_place)

call_place : (r : DoorRegisters) (c : DoorCall) → (called r c).key_place ≡ place_of r.key_place (key_of c)
call_place r (Writes reg value) = written_place r reg value
call_place r (Answers reply) = refl
call_place r (SetsState state) = refl
call_place r Restarts = refl
call_place r Links = released_place (record r { reset_adapter = false; link_waits = true })

run_place : (r : DoorRegisters) (cs : List DoorCall) → (after_calls r cs).key_place ≡ place_of r.key_place (keys_written cs)
run_place r [] = refl
run_place r (c ∷ cs) =
    run_place (called r c) cs ∙ ap (λ p. place_of p (keys_written cs)) (call_place r c)
    ∙ sym (place_of-append r.key_place (key_of c) (keys_written cs))

asked_no_reset : (h : Handshake) (dword : ℕ) → asked_by h dword ≡ effect.AdapterReset → ⊥
asked_no_reset h dword e = grind arith

doorbell_no_reset : (r : DoorRegisters) (value : ℕ) → (doorbell_written r value).effect ≡ effect.AdapterReset → ⊥
doorbell_no_reset r value e = grind (arith, asked_no_reset)

working_no_reset : (r : DoorRegisters) (reg value : ℕ) → (working_written r reg value).effect ≡ effect.AdapterReset → ⊥
working_no_reset r reg value e = grind (arith, doorbell_no_reset)

diagnostic_reset_unlocked : (r : DoorRegisters) (value : ℕ) → (diagnostic_written r value).effect ≡ effect.AdapterReset → r.key_place ≡ 6
diagnostic_reset_unlocked r value e = grind (arith, nat_tests)

reset_unlocked : (r : DoorRegisters) (reg value : ℕ) → (register_written r reg value).effect ≡ effect.AdapterReset → r.key_place ≡ 6
reset_unlocked r reg value e = grind (arith, working_no_reset, diagnostic_reset_unlocked)

reset_at : (r : DoorRegisters) (reg value : ℕ) → (register_written r reg value).effect ≡ effect.AdapterReset → reg ≡ 8
reset_at r reg value e = grind (arith, working_no_reset, nat_tests)

unlocking : (keys : List ℕ) → place_of 0 keys ≡ 6 → Entered keys → IsUnlocking keys
unlocking keys six h =
    record {
      earlier = h.earlier;
      last_six = h.split ∙ ap (λ n. h.earlier ++ take n unlock_keys) six;
      from_start = h.fresh;
    }

pub reset_law : (calls : List DoorCall) (reg value : ℕ) → (register_written (after_calls new_registers calls) reg value).effect ≡ effect.AdapterReset
    → (reg ≡ 8) × IsUnlocking (keys_written calls)
reset_law calls reg value e =
    let r : DoorRegisters = after_calls new_registers calls in (
      reset_at r reg value e,
      unlocking (keys_written calls) (sym (run_place new_registers calls) ∙ reset_unlocked r reg value e) (entered (keys_written calls)),
    )
