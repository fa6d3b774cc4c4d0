-- A pool is the list of its slots: identifier s has the one at place s - 1.
-- So each of 1 to 280 is free, open or parked, and no two of them at once.
use Rattle.std.specs.Prelude.{◌≡◌, ℕ, zero, suc, ◌+◌, ◌-◌, Bool, true, false, not, List, take, drop, slice_index_or, slice_set, replicate, position, count_by, Option, Some, None, option_map, refl}
use Rattle.std.specs.Coded.{Coded, code_by, coded_option}
use Rattle.mpi_names.specs.declared.smid.TheConstants.{SMIDS}
use Rattle.smid_pool.specs.declared.class.Class.{Class}
use Rattle.smid_pool.specs.Class.{before, size_of}

-- the state of an identifier
pub data Slot (R : Type 0) : Type 0 where
  Free : Slot R
  Open : (value : R) → Slot R
  Parked : Slot R

module _ {R : Type 0} where
  abbrev pub is_free : Slot R → Bool
  is_free Free = true
  is_free (Open value) = false
  is_free Parked = false

  abbrev pub is_open : Slot R → Bool
  is_open Free = false
  is_open (Open value) = true
  is_open Parked = false

  abbrev pub is_parked : Slot R → Bool
  is_parked Free = false
  is_parked (Open value) = false
  is_parked Parked = true

  abbrev pub is_taken : Slot R → Bool
  is_taken slot = not (is_free slot)

  -- the record of an open identifier
  abbrev pub record_of : Slot R → Option R
  record_of Free = None
  record_of (Open value) = Some value
  record_of Parked = None

  -- the slot of an identifier. What is no identifier has none, and reads as free
  abbrev pub slot_of : List (Slot R) → ℕ → Slot R
  slot_of slots zero = Free
  slot_of slots (suc place) = slice_index_or slots place Free

  -- the slots with another one for this identifier
  abbrev pub with_slot : ℕ → Slot R → List (Slot R) → List (Slot R)
  with_slot smid slot slots = slice_set slots (smid - 1) slot

  -- the slots of a class's identifiers
  abbrev pub slots_in : Class → List (Slot R) → List (Slot R)
  slots_in class slots = take (size_of class) (drop (before class) slots)

  -- how many of a class's identifiers are free
  abbrev pub free_count : Class → List (Slot R) → ℕ
  free_count class slots = count_by is_free (slots_in class slots)

  -- the least free identifier of a class
  abbrev pub least_free : Class → List (Slot R) → Option ℕ
  least_free class slots = option_map (λ place. before class + place + 1) (position is_free (slots_in class slots))

  -- every identifier is free
  abbrev pub all_free : List (Slot R)
  all_free = replicate SMIDS Free

  -- a slot as the record that it may have, where it isn't free
  abbrev pub stored : Slot R → Option (Option R)
  stored Free = None
  stored (Open value) = Some (Some value)
  stored Parked = Some None

  abbrev pub restored : Option (Option R) → Slot R
  restored None = Free
  restored (Some (Some value)) = Open value
  restored (Some None) = Parked

  pub restored-stored : (slot : Slot R) → restored (stored slot) ≡ slot
  restored-stored Free = refl
  restored-stored (Open value) = refl
  restored-stored Parked = refl

  -- a slot is stored so
  abbrev pub slot_code : Coded R → Coded (Slot R)
  slot_code code = code_by (Option (Option R)) (coded_option (coded_option code)) stored restored restored-stored
