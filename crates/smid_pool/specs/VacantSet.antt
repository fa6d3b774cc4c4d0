-- A set of places as bits, 64 to a word.
use Rattle.std.specs.Prelude.{◌≡◌, ℕ, ◌+◌, ◌<◌, ◌≤◌, ◌/◌, ◌%◌, ◌==◌, Bool, true, false, List, slice_index, slice_index_or}
use Rattle.std.specs.Int.{bit_at}
use Rattle.mpi_names.specs.declared.smid.TheConstants.{SMIDS}
use Rattle.smid_pool.specs.declared.class.Class.{Class}
use Rattle.smid_pool.specs.declared.place.Place.{Place}
use Rattle.smid_pool.specs.declared.place.Place.TheVariants.{Vacant}
use Rattle.smid_pool.specs.Class.{before, size_of}
use Rattle.slab.specs.Slab.{Slab}
use Rattle.smid_pool.specs.Place.{is_vacant, IsSound}

-- the place is in the set
unfoldable pub has : List ℕ → ℕ → Bool
has words place = bit_at (slice_index words (place / 64)) (place % 64) == 1

-- no place of the class is in the set
abbrev pub HasNone : List ℕ → Class → Type 0
HasNone words class =
    (place : ℕ) → before class ≤ place → place < before class + size_of class → has words place ≡ false

-- the first place of the class that is in the set
pub record IsFirst (words : List ℕ) (class : Class) (first : ℕ) : Type 0 where
  pub from : before class ≤ first
  pub within : first < before class + size_of class
  pub here : has words first ≡ true
  pub below : (place : ℕ) → before class ≤ place → place < first → has words place ≡ false

-- the set has the vacant places
abbrev pub IsMarked : List ℕ → List Place → Type 0
IsMarked words places =
    (place : ℕ) → place < SMIDS → has words place ≡ is_vacant (slice_index_or places place Vacant)

-- the places and the records go together, and the vacant places are marked
pub record IsConsistent {R : Type 0} (records : Slab R) (places : List Place) (words : List ℕ) : Type 0 where
  pub sound : IsSound records places
  pub marked : IsMarked words places
