-- The keys that unlock HostDiagnostic.
use Rattle.std.specs.Prelude.{◌≡◌, ℕ, ◌+◌, Bool, false, ◌==◌, if◌then◌else◌, List, [], ◌∷◌, ◌++◌, slice_get, Option, Some, None}

-- the sequence (mpi2.h, MPI2_WRSEQ_1ST_KEY_VALUE to MPI2_WRSEQ_6TH_KEY_VALUE)
abbrev pub unlock_keys : List ℕ
unlock_keys = 0xF ∷ 0x4 ∷ 0xB ∷ 0x2 ∷ 0x7 ∷ 0xD ∷ []

abbrev pub is_key : Option ℕ → ℕ → Bool
is_key None key = false
is_key (Some expected) key = key == expected

-- the key that the sequence has at this place goes on; any other, and any past the last, begins anew
abbrev pub place_after : ℕ → ℕ → ℕ
place_after place key = if is_key (slice_get unlock_keys place) key then place + 1 else 0

-- the place after these keys, one after the other
abbrev pub place_of : ℕ → List ℕ → ℕ
place_of place [] = place
place_of place (key ∷ keys) = place_of (place_after place key) keys

-- the last six keys are the sequence, and the first of them was written at place 0
pub record IsUnlocking (keys : List ℕ) : Type 0 where
  pub earlier : List ℕ
  pub last_six : keys ≡ earlier ++ unlock_keys
  pub from_start : place_of 0 earlier ≡ 0
