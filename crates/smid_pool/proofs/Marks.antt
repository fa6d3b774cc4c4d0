-- The set of vacant places, and what it tells of the places.
use Rattle.std.proofs.Common.{◌≡◌, ◌≢◌, ℕ, ◌+◌, ◌-◌, ◌<◌, ◌≤◌, true, false, List, length, get_or, set, take, drop, replicate, Some, None, refl, sym, ap, ◌∙◌, inl, inr, arith}
use Rattle.std.specs.List.{position, position_or_len}
use Rattle.std.proofs.lemmas.Bool.{cases_eq, lt-ltb, le-ltb}
use Rattle.std.proofs.lemmas.List.{length-take, length-drop, get_or-take, get_or-drop, get_or-set_same, get_or-set_other, get_or-replicate}
use Rattle.std.proofs.lemmas.List.Sums.{position_or_len_is}
use Rattle.smid_pool.specs.declared.class.Class.{Class}
use Rattle.smid_pool.specs.declared.class.Class.TheVariants.{ScsiIo, High, Internal}
use Rattle.smid_pool.specs.declared.place.Place.{Place}
use Rattle.smid_pool.specs.declared.place.Place.TheVariants.{Vacant, Holding, Waiting}
use Rattle.smid_pool.specs.Class.{before, size_of}
use Rattle.smid_pool.specs.Place.{is_vacant}
use Rattle.smid_pool.specs.VacantSet.{has, HasNone, IsFirst, IsMarked}

-- what is no vacant place isn't Vacant
vacant_is : (p : Place) → is_vacant p ≡ true → p ≡ Vacant
vacant_is Vacant e = refl
vacant_is (Holding key) e = cc
vacant_is Waiting e = cc

-- the identifiers of a class are among the 280
pub class_within : (class : Class) → before class + size_of class ≤ 280
class_within ScsiIo = omega arith
class_within High = omega arith
class_within Internal = omega arith

-- a class has as many places as identifiers
length_in : (places : List Place) (class : Class) → length places ≡ 280 → length (take (size_of class) (drop (before class) places)) ≡ size_of class
length_in places class size =
    omega (arith, class_within class, length-take (size_of class) (drop (before class) places), length-drop (before class) places)

-- a place of a class, by its mark
mark_in : (words : List ℕ) (places : List Place) (class : Class) (k : ℕ) → IsMarked words places → k < size_of class → is_vacant (get_or (take (size_of class) (drop (before class) places)) k Vacant) ≡ has words (before class + k)
mark_in words places class k marked within =
    ap is_vacant (get_or-take (size_of class) (drop (before class) places) k Vacant within ∙ get_or-drop (before class) places k Vacant)
    ∙ sym (marked (before class + k) (omega (arith, class_within class)))

-- the first place of a class that is marked is its first vacant one
pub first_marked : (words : List ℕ) (places : List Place) (class : Class) (index : ℕ) → length places ≡ 280 → IsMarked words places → IsFirst words class index → position is_vacant (take (size_of class) (drop (before class) places)) ≡ Some (index - before class)
first_marked words places class index size marked first =
    let at : before class + (index - before class) ≡ index = omega (arith, first.from) in
    let within : index - before class < size_of class = omega (arith, first.from, first.within) in
    let long = length_in places class size in
    let where_ : position_or_len is_vacant (take (size_of class) (drop (before class) places)) ≡ index - before class =
    position_or_len_is is_vacant (take (size_of class) (drop (before class) places)) (index - before class) Vacant (omega arith)
    (λ k below. mark_in words places class k marked (omega arith) ∙ first.below (before class + k) (omega arith) (omega arith))
    (λ _. mark_in words places class (index - before class) marked within ∙ ap (has words) at ∙ first.here) in
    rw (where_, long, lt-ltb (index - before class) (size_of class) within) refl

-- which is among the 280, and vacant
pub vacant_first : (words : List ℕ) (places : List Place) (class : Class) (index : ℕ) → length places ≡ 280 → IsMarked words places → IsFirst words class index → (index < 280) × (get_or places index Vacant ≡ Vacant)
vacant_first words places class index size marked first =
    let below : index < 280 = omega (arith, class_within class, first.within) in
    (below, vacant_is (get_or places index Vacant) (sym (marked index below) ∙ first.here))

-- and where none is marked, none is vacant
pub none_marked : (words : List ℕ) (places : List Place) (class : Class) → length places ≡ 280 → IsMarked words places → HasNone words class → position is_vacant (take (size_of class) (drop (before class) places)) ≡ None
none_marked words places class size marked none =
    let long = length_in places class size in
    let where_ : position_or_len is_vacant (take (size_of class) (drop (before class) places)) ≡ size_of class =
    position_or_len_is is_vacant (take (size_of class) (drop (before class) places)) (size_of class) Vacant (omega arith)
    (λ k below. mark_in words places class k marked below ∙ none (before class + k) (omega arith) (omega arith))
    (λ past. absurd (omega arith)) in
    rw (where_, long, le-ltb (size_of class) (size_of class) (omega arith)) refl

-- a place changes, and its mark with it
pub IsMarked-set : (words new : List ℕ) (places : List Place) (i : ℕ) (p : Place) → length places ≡ 280 → i < 280 → has new i ≡ is_vacant p → ((j : ℕ) → j ≢ i → has new j ≡ has words j) → IsMarked words places → IsMarked new (set places i p)
IsMarked-set words new places i p size within here others marked j below =
    elim (cases_eq j i) [
      | inl same ↦
          ap (has new) same ∙ here
          ∙ ap is_vacant (sym (get_or-set_same places i p Vacant (omega arith)) ∙ ap (λ (n : ℕ). get_or (set places i p) n Vacant) (sym same))
      | inr differs ↦
          others j differs ∙ marked j below ∙ ap is_vacant (sym (get_or-set_other places i j p Vacant differs))
    ]

-- a place changes, and stays taken
pub IsMarked-taken : (words : List ℕ) (places : List Place) (i : ℕ) (p : Place) → length places ≡ 280 → i < 280 → is_vacant (get_or places i Vacant) ≡ false → is_vacant p ≡ false → IsMarked words places → IsMarked words (set places i p)
IsMarked-taken words places i p size within was is marked =
    IsMarked-set words words places i p size within (marked i within ∙ was ∙ sym is) (λ j differs. refl) marked

-- all are vacant
pub IsMarked-full : (words : List ℕ) → ((place : ℕ) → place < 280 → has words place ≡ true) → IsMarked words (replicate 280 Vacant)
IsMarked-full words full place below =
    full place below ∙ ap is_vacant (sym (get_or-replicate 280 place Vacant Vacant below))
