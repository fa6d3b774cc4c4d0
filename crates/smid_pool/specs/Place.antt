-- How a pool keeps its slots: a place for each identifier, and the records in a slab.
use Rattle.std.specs.Prelude.{◌≡◌, ℕ, zero, suc, ◌≤◌, Bool, true, false, List, length, slice_index_or, count_by, Option, Some, None, IsSome}
use Rattle.slab.specs.Slab.{Slab, get, slab_len}
use Rattle.mpi_names.specs.declared.smid.TheConstants.{SMIDS}
use Rattle.smid_pool.specs.declared.place.Place.{Place}
use Rattle.smid_pool.specs.declared.place.Place.TheVariants.{Vacant, Holding, Waiting}
use Rattle.smid_pool.specs.Pool.{Slot, Free, Open, Parked}

abbrev pub is_vacant : Place → Bool
is_vacant Vacant = true
is_vacant (Holding key) = false
is_vacant Waiting = false

abbrev pub is_holding : Place → Bool
is_holding Vacant = false
is_holding (Holding key) = true
is_holding Waiting = false

-- the place of an identifier. What is no identifier reads as vacant
abbrev pub place_of : List Place → ℕ → Place
place_of places zero = Vacant
place_of places (suc index) = slice_index_or places index Vacant

module _ {R : Type 0} where
  -- an open slot with the record that was found
  abbrev pub opened : Option R → Slot R
  opened None = Parked
  opened (Some value) = Open value

  -- the slot that a place stands for
  abbrev pub slot_in : Slab R → Place → Slot R
  slot_in records Vacant = Free
  slot_in records (Holding key) = opened (get records key)
  slot_in records Waiting = Parked

  -- there is room for a record of each identifier, and each open one has a record of its own
  pub record IsSound (records : Slab R) (places : List Place) : Type 0 where
    pub size : length places ≡ SMIDS
    pub room : SMIDS ≤ records.capacity
    pub counted : slab_len records ≡ count_by is_holding places
    pub stored : (i key : ℕ) → slice_index_or places i Vacant ≡ Holding key → IsSome (get records key)
    pub apart : (i j key : ℕ) → slice_index_or places i Vacant ≡ Holding key → slice_index_or places j Vacant ≡ Holding key → i ≡ j
