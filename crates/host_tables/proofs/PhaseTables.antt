-- Phases of handles that the table doesn't have.
use Rattle.std.proofs.Common.{◌≡◌, ℕ, ◌-◌, ◌≤◌, List, length, get_or, ap, arith}
use Rattle.std.proofs.lemmas.List.{get_or_past, set-get_or, set_past}
use Rattle.removal.specs.declared.phase.Phase.{Phase}
use Rattle.removal.specs.declared.phase.Phase.TheVariants.{Absent}
use Rattle.removal.specs.Handles.{phase_at, with_phase}

-- one past the table is absent, and changes nothing
pub past_is_absent : (phases : List Phase) (handle : ℕ) → length phases ≡ 64 → 64 ≤ handle - 0x0009 → phase_at phases handle ≡ Absent
past_is_absent phases handle size past = get_or_past phases (handle - 0x0009) Absent (omega arith)

pub past_stays : (phases : List Phase) (handle : ℕ) (p : Phase) → length phases ≡ 64 → 64 ≤ handle - 0x0009 → with_phase phases handle p ≡ phases
past_stays phases handle p size past = set_past phases (handle - 0x0009) p (omega arith)

-- the same phase again changes nothing
pub same_stays : (phases : List Phase) (handle : ℕ) → with_phase phases handle (phase_at phases handle) ≡ phases
same_stays phases handle = set-get_or phases (handle - 0x0009) Absent

-- two handles at one place have one phase
pub same_phase : (phases : List Phase) (known handle : ℕ) → known - 0x0009 ≡ handle - 0x0009 → phase_at phases known ≡ phase_at phases handle
same_phase phases known handle same = ap (λ (place : ℕ). get_or phases place Absent) same
