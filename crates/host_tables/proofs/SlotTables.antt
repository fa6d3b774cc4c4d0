-- Identifiers stay sorted by their class.
use Rattle.std.proofs.Common.{◌≡◌, ◌∙◌, ℕ, zero, suc, ◌-◌, ◌<◌, ◌≤◌, Bool, true, false, not, [], ◌∷◌, List, length, get_or, set, Some, None, Result, Ok, Err, IfOk, OnErr, IsErr, ◌↔◌, ◌+◌, option_map, replicate, refl, sym, ap, inl, inr, arith, get_or-set_same, get_or-set_other}
use Rattle.std.proofs.lemmas.Bool.{cases_eq, cases_lt}
use Rattle.std.proofs.lemmas.List.{get_or-replicate, get_or_past, length-replicate, length-set}
use Rattle.std.specs.List.{list_any}
use Rattle.std.proofs.lemmas.List.Folds.{list_any_at}
use Rattle.std.specs.Result.{result_ok}
use Rattle.smid_pool.specs.declared.class.Class.{Class}
use Rattle.smid_pool.specs.Class.{before, IsIn}
use Rattle.smid_pool.specs.Pool.{Slot, Free, Open, Parked, free_count, is_free, is_open, is_parked, least_free, record_of, slot_of, slots_in, with_slot}
use Rattle.smid_pool.proofs.Lists.{position_cases}
use Rattle.mpt_rules.specs.declared.request.Request.{Request}
use Rattle.host_tables.specs.Slots.{IsInternalSmid, IsSorted, is_internal}

-- an open slot has the request that it is open for
pub open_of : (slot : Slot Request) (r : Request) → record_of slot ≡ Some r → slot ≡ Open r
open_of Free r is = absurd (cc)
open_of (Open value) r is = cc
open_of Parked r is = absurd (cc)

-- an open identifier is none of 0
pub open_above_zero : (slots : List (Slot Request)) (smid : ℕ) → is_open (slot_of slots smid) ≡ true → 1 ≤ smid
open_above_zero slots zero is = absurd (cc)
open_above_zero slots (suc place) is = omega arith

not_free : (slot : Slot Request) (r : Request) → slot ≡ Free → slot ≡ Open r → is_internal r ≡ true → ⊥
not_free slot r free is_it internal = cc

-- one identifier gets another slot
pub sorted_with : (slots : List (Slot Request)) (smid : ℕ) (slot : Slot Request) → 1 ≤ smid → ((r : Request) → slot ≡ Open r → is_internal r ≡ true → IsInternalSmid smid) → IsSorted slots → IsSorted (with_slot smid slot slots)
sorted_with slots smid slot above good sorted zero r is internal = absurd (cc)
sorted_with slots smid slot above good sorted (suc place) r is internal =
    elim (cases_eq place (smid - 1)) [
      | inl same ↦
          let here : suc place ≡ smid = omega (arith, same, above) in
          elim (cases_lt place (length slots)) [
            | inl within ↦
                let put : get_or (set slots (smid - 1) slot) place Free ≡ slot = rw (← same) (get_or-set_same slots place slot Free within) in
                rw here (good r (sym put ∙ is) internal)
            | inr past ↦
                let none : get_or (set slots (smid - 1) slot) place Free ≡ Free = get_or_past (set slots (smid - 1) slot) place Free (rw length-set past) in
                absurd (not_free (get_or (set slots (smid - 1) slot) place Free) r none is internal)
          ]
      | inr differs ↦ sorted (suc place) r (sym (get_or-set_other slots (smid - 1) place slot Free differs) ∙ is) internal
    ]

-- nor is a parked one
pub parked_above_zero : (slots : List (Slot Request)) (smid : ℕ) → is_parked (slot_of slots smid) ≡ true → 1 ≤ smid
parked_above_zero slots zero is = absurd (cc)
parked_above_zero slots (suc place) is = omega arith

-- a slot that isn't open keeps the identifiers sorted
pub sorted_without : (slots : List (Slot Request)) (smid : ℕ) (slot : Slot Request) → 1 ≤ smid → is_open slot ≡ false → IsSorted slots → IsSorted (with_slot smid slot slots)
sorted_without slots smid slot above closed sorted =
    sorted_with slots smid slot above (λ r is internal. absurd (let e : is_open slot ≡ true = ap is_open is in cc)) sorted

-- and the size
pub size_with : (slots : List (Slot Request)) (smid : ℕ) (slot : Slot Request) → length slots ≡ 280 → length (with_slot smid slot slots) ≡ 280
size_with slots smid slot size = length-set slots (smid - 1) slot ∙ size

abbrev free_slot : Slot Request
free_slot = Free

free_everywhere : (n place : ℕ) → get_or (replicate n free_slot) place free_slot ≡ free_slot
free_everywhere n place =
    elim (cases_lt place n) [
      | inl within ↦ get_or-replicate n place free_slot free_slot within
      | inr past ↦ get_or_past (replicate n free_slot) place free_slot (rw length-replicate past)
    ]

-- free identifiers are sorted
pub sorted_free : (n : ℕ) → IsSorted (replicate n free_slot)
sorted_free n zero r is internal = absurd (cc)
sorted_free n (suc place) r is internal = absurd (not_free (get_or (replicate n free_slot) place free_slot) r (free_everywhere n place) is internal)

pub same_request : (a b : Request) → Open a ≡ Open b → a ≡ b
same_request a b e = cc

-- an identifier was opened for a request, or none was free
pub sorted_opened : {E : Type 0} (r : Result ℕ E) (old new : List (Slot Request)) (class : Class) (asked : Request) → IfOk r (λ smid. new ≡ with_slot smid (Open asked) old) → IfOk r (IsIn class) → OnErr r (new ≡ old) → ((smid : ℕ) → IsIn class smid → is_internal asked ≡ true → IsInternalSmid smid) → IsSorted old × (length old ≡ 280) → IsSorted new × (length new ≡ 280)
sorted_opened (Ok smid) old new class asked opened within stays good sorted =
    rw opened
    (sorted_with old smid (Open asked) (omega (arith, within.0)) (λ r is internal. good smid within (ap is_internal (same_request asked r is) ∙ internal)) sorted.0, size_with old smid (Open asked) sorted.1)
sorted_opened (Err e) old new class asked opened within stays good sorted = rw stays sorted

-- none is free where the count is none
least_none : (slots : List (Slot Request)) (class : Class) → free_count class slots ≡ 0 → least_free class slots ≡ None
least_none slots class none =
    elim (position_cases is_free (slots_in class slots)) [
      | inl found ↦ absurd (omega (arith, found.1, none))
      | inr nowhere ↦ ap (option_map (λ place. before class + place + 1)) nowhere.0
    ]

-- what was opened is the least free
pub least_opened : {E : Type 0} (r : Result ℕ E) (old : List (Slot Request)) (class : Class) → IfOk r (λ smid. least_free class old ≡ Some smid) → (IsErr r ↔ (free_count class old ≡ 0)) → result_ok r ≡ least_free class old
least_opened (Ok smid) old class least none = sym least
least_opened (Err e) old class least none = sym (least_none old class (none.0 refl))

pub not_twice : (b : Bool) → not (not b) ≡ b
not_twice true = refl
not_twice false = refl

-- none is open where none of the places is
pub none_open : (slots : List (Slot Request)) → ((k : ℕ) → k < length slots → is_open (get_or slots k Free) ≡ false) → list_any is_open slots ≡ false
none_open [] none = refl
none_open (slot ∷ slots) none = rw (none 0 (omega arith)) (none_open slots (λ k within. none (suc k) (omega arith)))

-- an identifier that is open
pub one_open : (slots : List (Slot Request)) (place : ℕ) → place < length slots → is_open (slot_of slots (place + 1)) ≡ true → list_any is_open slots ≡ true
one_open slots place within is = let next : place + 1 ≡ suc place = omega arith in list_any_at is_open slots place Free within (rw next at is)

pub size_free : length (replicate 280 free_slot) ≡ 280
size_free = length-replicate 280 free_slot
