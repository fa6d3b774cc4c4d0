-- How a change of the places and the records changes the slots.
use Rattle.std.proofs.Common.{◌≡◌, ◌≢◌, ℕ, zero, suc, ◌+◌, ◌-◌, ◌<◌, ◌≤◌, Bool, true, false, not, cond, List, [], ◌∷◌, length, get_or, set, take, drop, map, count_by, replicate, Option, Some, None, option_map, IsSome, refl, sym, ap, ◌∙◌, inl, inr, arith}
use Rattle.std.specs.List.{position}
use Rattle.std.proofs.lemmas.Bool.{cases_eq, cases_lt}
use Rattle.std.proofs.lemmas.List.{take-map, drop-map, length-map, length-set, map-set, get_or-replicate, get_or_past, get_or-set_same, get_or-set_other, length-replicate}
use Rattle.std.proofs.Math.ListN.{get_or-map}
use Rattle.std.proofs.lemmas.List.Sums.{sum_by-cons, sum_by-set, get_or-le-sum_by}
use Rattle.slab.specs.Slab.{Slab, get, slab_len, Updates}
use Rattle.smid_pool.specs.declared.class.Class.{Class}
use Rattle.smid_pool.specs.declared.place.Place.{Place}
use Rattle.smid_pool.specs.declared.place.Place.TheVariants.{Vacant, Holding, Waiting}
use Rattle.smid_pool.specs.Class.{before, size_of}
use Rattle.smid_pool.specs.Pool.{Slot, Free, Open, Parked, is_free, is_open, is_parked, slot_of, slots_in, free_count, least_free}
use Rattle.smid_pool.specs.Place.{is_vacant, is_holding, place_of, opened, slot_in, IsSound}
use Rattle.smid_pool.proofs.Lists.{map-set_other, position-map, count_by-map, position_cases}

abbrev one_if : Bool → ℕ
one_if b = cond b 1 0

-- a record is there or it isn't
record_cases : {R : Type 0} (o : Option R) → IsSome o → o ≡ None → ⊥
record_cases None is e = cc
record_cases (Some value) is e = cc

-- two places that hold under the same key are one
same_key : (a b : ℕ) → Holding a ≡ Holding b → a ≡ b
same_key a b e = cc

-- a place that holds no record holds none under any key
not_held : (p : Place) (key : ℕ) → is_holding p ≡ false → p ≡ Holding key → ⊥
not_held Vacant key none is = cc
not_held (Holding k) key none is = cc
not_held Waiting key none is = cc

-- a place that isn't vacant is an identifier's
pub taken_at : (places : List Place) (smid : ℕ) → is_vacant (place_of places smid) ≡ false → (1 ≤ smid) × (smid - 1 < length places) × (get_or places (smid - 1) Vacant ≡ place_of places smid)
taken_at places zero taken = absurd (cc)
taken_at places (suc i) taken =
    let index : suc i - 1 ≡ i = omega arith in
    rw index (omega arith, elim (cases_lt i (length places)) [ inl before ↦ before | inr past ↦ absurd (let e : is_vacant (get_or places i Vacant) ≡ true = rw (get_or_past places i Vacant past) refl in cc) ], refl)

-- so is one that holds a record
pub holding_at : (places : List Place) (smid key : ℕ) → place_of places smid ≡ Holding key → (smid - 1 < length places) × (get_or places (smid - 1) Vacant ≡ Holding key)
holding_at places smid key is =
    let at = taken_at places smid (rw is refl) in
    (at.1, at.2 ∙ is)

-- what holds a record holds it under a key
pub has_key : (p : Place) → is_holding p ≡ true → ((key : ℕ) → p ≡ Holding key → ⊥) → ⊥
has_key Vacant is not_any = cc
has_key (Holding key) is not_any = not_any key refl
has_key Waiting is not_any = cc

-- what is taken and holds no record waits
pub waiting_is : (p : Place) → is_vacant p ≡ false → ((key : ℕ) → p ≡ Holding key → ⊥) → p ≡ Waiting
waiting_is Vacant is not_any = absurd (cc)
waiting_is (Holding key) is not_any = absurd (not_any key refl)
waiting_is Waiting is not_any = refl

-- a place is either vacant or holding, or neither
vacant_and_holding : (places : List Place) → count_by is_vacant places + count_by is_holding places ≤ length places
vacant_and_holding [] = omega arith
vacant_and_holding (Vacant ∷ rest) =
    omega (arith, vacant_and_holding rest, sum_by-cons (λ p. cond (is_vacant p) 1 0) Vacant rest, sum_by-cons (λ p. cond (is_holding p) 1 0) Vacant rest)
vacant_and_holding (Holding key ∷ rest) =
    omega (arith, vacant_and_holding rest, sum_by-cons (λ p. cond (is_vacant p) 1 0) (Holding key) rest, sum_by-cons (λ p. cond (is_holding p) 1 0) (Holding key) rest)
vacant_and_holding (Waiting ∷ rest) =
    omega (arith, vacant_and_holding rest, sum_by-cons (λ p. cond (is_vacant p) 1 0) Waiting rest, sum_by-cons (λ p. cond (is_holding p) 1 0) Waiting rest)

module _ {R : Type 0} where
  free_in : (records : Slab R) (p : Place) → is_free (slot_in records p) ≡ is_vacant p
  free_in records Vacant = refl
  free_in records (Holding key) = of_found (get records key)
    where
      of_found : (o : Option R) → is_free (opened o) ≡ false
      of_found None = refl
      of_found (Some value) = refl
  free_in records Waiting = refl

  -- each slot is free, open or parked
  partition_of : (slots : List (Slot R)) → count_by is_free slots + count_by is_open slots + count_by is_parked slots ≡ length slots
  partition_of [] = refl
  partition_of (slot ∷ rest) =
      let free = sum_by-cons (λ s. cond (is_free s) 1 0) slot rest in
      let open_ = sum_by-cons (λ s. cond (is_open s) 1 0) slot rest in
      let parked = sum_by-cons (λ s. cond (is_parked s) 1 0) slot rest in
      omega (arith, free, open_, parked, one_of slot, partition_of rest)
    where
      one_of : (s : Slot R) → one_if (is_free s) + one_if (is_open s) + one_if (is_parked s) ≡ length (s ∷ [])
      one_of Free = refl
      one_of (Open value) = refl
      one_of Parked = refl

  -- so together they are as many as there are places
  pub partition : (records : Slab R) (places : List Place) → length places ≡ 280 → count_by is_free (map (slot_in records) places) + count_by is_open (map (slot_in records) places) + count_by is_parked (map (slot_in records) places) ≡ 280
  partition records places size = partition_of (map (slot_in records) places) ∙ length-map places (slot_in records) ∙ size

  -- the slots of a class are those of its places
  slots_in-map : (records : Slab R) (places : List Place) (class : Class) → slots_in class (map (slot_in records) places) ≡ map (slot_in records) (take (size_of class) (drop (before class) places))
  slots_in-map records places class =
      rw (drop-map (slot_in records) (before class) places, take-map (slot_in records) (size_of class) (drop (before class) places)) refl

  -- an identifier is free where its place is vacant, so the counts are the same
  pub free_count-map : (records : Slab R) (places : List Place) (class : Class) → free_count class (map (slot_in records) places) ≡ count_by is_vacant (take (size_of class) (drop (before class) places))
  free_count-map records places class =
      ap (count_by is_free) (slots_in-map records places class)
      ∙ count_by-map is_free is_vacant (slot_in records) (free_in records) (take (size_of class) (drop (before class) places))

  -- and so the least free identifier is that of the first vacant place
  pub least_free-map : (records : Slab R) (places : List Place) (class : Class) (o : Option ℕ) → position is_vacant (take (size_of class) (drop (before class) places)) ≡ o → least_free class (map (slot_in records) places) ≡ option_map (λ place. before class + place + 1) o
  least_free-map records places class o first =
      ap (λ (slots : List (Slot R)). option_map (λ place. before class + place + 1) (position is_free slots)) (slots_in-map records places class)
      ∙ ap (option_map (λ place. before class + place + 1)) (position-map is_free is_vacant (slot_in records) (free_in records) (take (size_of class) (drop (before class) places)) ∙ first)

  -- none is free where no place is vacant
  pub none_free : (records : Slab R) (places : List Place) (class : Class) → position is_vacant (take (size_of class) (drop (before class) places)) ≡ None → free_count class (map (slot_in records) places) ≡ 0
  none_free records places class first =
      free_count-map records places class
      ∙ elim (position_cases is_vacant (take (size_of class) (drop (before class) places))) [
        | inl found ↦ absurd (let e = sym found.0 ∙ first in cc)
        | inr nowhere ↦ nowhere.1
      ]

  -- and one at least where one is
  pub some_free : (records : Slab R) (places : List Place) (class : Class) (place : ℕ) → position is_vacant (take (size_of class) (drop (before class) places)) ≡ Some place → free_count class (map (slot_in records) places) ≢ 0
  some_free records places class place first none =
      elim (position_cases is_vacant (take (size_of class) (drop (before class) places))) [
        | inl found ↦ absurd (omega (arith, found.1, sym (free_count-map records places class) ∙ none))
        | inr nowhere ↦ absurd (let e = sym nowhere.0 ∙ first in cc)
      ]

  -- with room for a record of each identifier, there is room while a place is vacant
  pub room_for_one : (records : Slab R) (places : List Place) (i : ℕ) → IsSound records places → i < length places → get_or places i Vacant ≡ Vacant → slab_len records + 1 ≤ records.capacity
  room_for_one records places i sound within vacant =
      let one = get_or-le-sum_by (λ p. cond (is_vacant p) 1 0) places i Vacant within in
      let is : one_if (is_vacant (get_or places i Vacant)) ≡ 1 = rw vacant refl in
      omega (arith, one, is, vacant_and_holding places, sound.counted, sound.room, sound.size)

  -- the slot of an identifier is the one that its place stands for
  pub slot_of-map : (records : Slab R) (places : List Place) (smid : ℕ) → slot_of (map (slot_in records) places) smid ≡ slot_in records (place_of places smid)
  slot_of-map records places zero = refl
  slot_of-map records places (suc i) = get_or-map (slot_in records) places i Vacant

  -- the place of a taken identifier isn't vacant
  pub taken_place : (records : Slab R) (places : List Place) (smid : ℕ) → not (is_free (slot_of (map (slot_in records) places) smid)) ≡ true → is_vacant (place_of places smid) ≡ false
  taken_place records places smid taken =
      of_slot (is_vacant (place_of places smid)) (sym (ap is_free (slot_of-map records places smid) ∙ free_in records (place_of places smid)))
    where
      of_slot : (b : Bool) → b ≡ is_free (slot_of (map (slot_in records) places) smid) → b ≡ false
      of_slot true e = absurd (let h = ap not e ∙ taken in cc)
      of_slot false e = refl

  -- and that of an open one holds a record
  pub open_place : (records : Slab R) (places : List Place) (smid : ℕ) → is_open (slot_of (map (slot_in records) places) smid) ≡ true → is_holding (place_of places smid) ≡ true
  open_place records places smid is =
      of_place (place_of places smid) (sym (ap is_open (slot_of-map records places smid)) ∙ is)
    where
      of_place : (p : Place) → is_open (slot_in records p) ≡ true → is_holding p ≡ true
      of_place Vacant e = absurd (cc)
      of_place (Holding key) e = refl
      of_place Waiting e = absurd (cc)

  -- a record comes in at a vacant place
  pub IsSound-put : (records new : Slab R) (places : List Place) (i key : ℕ) (value : R) → IsSound records places → i < 280 → get_or places i Vacant ≡ Vacant → get records key ≡ None → Updates records new key (Some value) → slab_len new ≡ slab_len records + 1 → new.capacity ≡ records.capacity → IsSound new (set places i (Holding key))
  IsSound-put records new places i key value sound within vacant unused updates longer capacity =
      record {
        size = length-set places i (Holding key) ∙ sound.size;
        room = omega (arith, sound.room);
        counted = counted;
        stored = stored;
        apart = apart;
      }
    where
      counted : slab_len new ≡ count_by is_holding (set places i (Holding key))
      counted =
          let moved = sum_by-set (λ p. cond (is_holding p) 1 0) places i (Holding key) Vacant (omega (arith, sound.size)) in
          let was : one_if (is_holding (get_or places i Vacant)) ≡ 0 = rw vacant refl in
          omega (arith, moved, was, sound.counted)

      here : get_or (set places i (Holding key)) i Vacant ≡ Holding key
      here = get_or-set_same places i (Holding key) Vacant (omega (arith, sound.size))

      elsewhere : (j k : ℕ) → j ≢ i → get_or (set places i (Holding key)) j Vacant ≡ Holding k → get_or places j Vacant ≡ Holding k
      elsewhere j k differs holds = sym (get_or-set_other places i j (Holding key) Vacant differs) ∙ holds

      unlike : (j k : ℕ) → j ≢ i → get_or (set places i (Holding key)) j Vacant ≡ Holding k → k ≢ key
      unlike j k differs holds same =
          record_cases (get records k) (sound.stored j k (elsewhere j k differs holds)) (ap (get records) same ∙ unused)

      stored : (j k : ℕ) → get_or (set places i (Holding key)) j Vacant ≡ Holding k → IsSome (get new k)
      stored j k holds =
          elim (cases_eq j i) [
            | inl same ↦
                let is : key ≡ k = same_key key k (sym here ∙ ap (λ (n : ℕ). get_or (set places i (Holding key)) n Vacant) (sym same) ∙ holds) in
                rw (sym is, updates.changed) refl
            | inr differs ↦
                rw (updates.others k (unlike j k differs holds)) (sound.stored j k (elsewhere j k differs holds))
          ]

      apart : (j l k : ℕ) → get_or (set places i (Holding key)) j Vacant ≡ Holding k → get_or (set places i (Holding key)) l Vacant ≡ Holding k → j ≡ l
      apart j l k first second =
          elim (cases_eq j i) [
            | inl same ↦
                let is : key ≡ k = same_key key k (sym here ∙ ap (λ (n : ℕ). get_or (set places i (Holding key)) n Vacant) (sym same) ∙ first) in
                elim (cases_eq l i) [
                  | inl also ↦ same ∙ sym also
                  | inr differs ↦ absurd (unlike l k differs second (sym is))
                ]
            | inr differs ↦
                elim (cases_eq l i) [
                  | inl same ↦
                      let is : key ≡ k = same_key key k (sym here ∙ ap (λ (n : ℕ). get_or (set places i (Holding key)) n Vacant) (sym same) ∙ second) in
                      absurd (unlike j k differs first (sym is))
                  | inr too ↦ sound.apart j l k (elsewhere j k differs first) (elsewhere l k too second)
                ]
          ]

  -- the slot of the identifier is then open
  pub view-put : (records new : Slab R) (places : List Place) (i key : ℕ) (value : R) → IsSound records places → get records key ≡ None → Updates records new key (Some value) → map (slot_in new) (set places i (Holding key)) ≡ set (map (slot_in records) places) i (Open value)
  view-put records new places i key value sound unused updates =
      map-set_other (slot_in records) (slot_in new) Vacant places i (Holding key) (λ j differs. kept (get_or places j Vacant) (sound.stored j))
      ∙ ap (λ (o : Option R). set (map (slot_in records) places) i (opened o)) updates.changed
    where
      kept : (p : Place) → ((k : ℕ) → p ≡ Holding k → IsSome (get records k)) → slot_in new p ≡ slot_in records p
      kept Vacant holds = refl
      kept Waiting holds = refl
      kept (Holding k) holds =
          elim (cases_eq k key) [
            | inl same ↦ absurd (record_cases (get records k) (holds k refl) (ap (get records) same ∙ unused))
            | inr differs ↦ ap opened (updates.others k differs)
          ]

  pub slot_of-put : (new : Slab R) (places : List Place) (i key : ℕ) (value : R) → i < length places → get new key ≡ Some value → slot_of (map (slot_in new) (set places i (Holding key))) (i + 1) ≡ Open value
  slot_of-put new places i key value within found =
      let next : i + 1 ≡ suc i = omega arith in
      rw next
      (get_or-map (slot_in new) (set places i (Holding key)) i Vacant
      ∙ ap (slot_in new) (get_or-set_same places i (Holding key) Vacant within)
      ∙ ap opened found)

  -- a record goes, and its place holds none
  pub IsSound-drop : (records new : Slab R) (places : List Place) (i key : ℕ) (p : Place) → IsSound records places → i < 280 → get_or places i Vacant ≡ Holding key → is_holding p ≡ false → Updates records new key None → slab_len new + 1 ≡ slab_len records → new.capacity ≡ records.capacity → IsSound new (set places i p)
  IsSound-drop records new places i key p sound within held none updates shorter capacity =
      record {
        size = length-set places i p ∙ sound.size;
        room = omega (arith, sound.room);
        counted = counted;
        stored = stored;
        apart = λ j l k first second. sound.apart j l k (elsewhere j k first) (elsewhere l k second);
      }
    where
      counted : slab_len new ≡ count_by is_holding (set places i p)
      counted =
          let moved = sum_by-set (λ p. cond (is_holding p) 1 0) places i p Vacant (omega (arith, sound.size)) in
          let was : one_if (is_holding (get_or places i Vacant)) ≡ 1 = rw held refl in
          let is : one_if (is_holding p) ≡ 0 = rw none refl in
          omega (arith, moved, was, is, sound.counted)

      elsewhere : (j k : ℕ) → get_or (set places i p) j Vacant ≡ Holding k → get_or places j Vacant ≡ Holding k
      elsewhere j k holds =
          elim (cases_eq j i) [
            | inl same ↦
                absurd (not_held p k none (sym (get_or-set_same places i p Vacant (omega (arith, sound.size))) ∙ ap (λ (n : ℕ). get_or (set places i p) n Vacant) (sym same) ∙ holds))
            | inr differs ↦ sym (get_or-set_other places i j p Vacant differs) ∙ holds
          ]

      unlike : (j k : ℕ) → get_or (set places i p) j Vacant ≡ Holding k → k ≢ key
      unlike j k holds same =
          let at_i : j ≡ i = sound.apart j i key (elsewhere j k holds ∙ ap Holding same) held in
          not_held p k none (sym (get_or-set_same places i p Vacant (omega (arith, sound.size))) ∙ ap (λ (n : ℕ). get_or (set places i p) n Vacant) (sym at_i) ∙ holds)

      stored : (j k : ℕ) → get_or (set places i p) j Vacant ≡ Holding k → IsSome (get new k)
      stored j k holds = rw (updates.others k (unlike j k holds)) (sound.stored j k (elsewhere j k holds))

  -- the slot of the identifier is then the one that its place stands for
  pub view-drop : (records new : Slab R) (places : List Place) (i key : ℕ) (p : Place) → IsSound records places → get_or places i Vacant ≡ Holding key → Updates records new key None → map (slot_in new) (set places i p) ≡ set (map (slot_in records) places) i (slot_in new p)
  view-drop records new places i key p sound held updates =
      map-set_other (slot_in records) (slot_in new) Vacant places i p (λ j differs. kept j differs (get_or places j Vacant) refl)
    where
      kept : (j : ℕ) → j ≢ i → (q : Place) → get_or places j Vacant ≡ q → slot_in new q ≡ slot_in records q
      kept j differs Vacant is = refl
      kept j differs Waiting is = refl
      kept j differs (Holding k) is =
          ap opened (updates.others k (λ same. differs (sound.apart j i key (is ∙ ap Holding same) held)))

  -- a place that holds no record changes to another that holds none
  pub IsSound-set : (records : Slab R) (places : List Place) (i : ℕ) (p : Place) → IsSound records places → i < 280 → is_holding (get_or places i Vacant) ≡ false → is_holding p ≡ false → IsSound records (set places i p)
  IsSound-set records places i p sound within was none =
      record {
        size = length-set places i p ∙ sound.size;
        room = sound.room;
        counted = counted;
        stored = λ j k holds. sound.stored j k (elsewhere j k holds);
        apart = λ j l k first second. sound.apart j l k (elsewhere j k first) (elsewhere l k second);
      }
    where
      counted : slab_len records ≡ count_by is_holding (set places i p)
      counted =
          let moved = sum_by-set (λ p. cond (is_holding p) 1 0) places i p Vacant (omega (arith, sound.size)) in
          let before : one_if (is_holding (get_or places i Vacant)) ≡ 0 = rw was refl in
          let after : one_if (is_holding p) ≡ 0 = rw none refl in
          omega (arith, moved, before, after, sound.counted)

      elsewhere : (j k : ℕ) → get_or (set places i p) j Vacant ≡ Holding k → get_or places j Vacant ≡ Holding k
      elsewhere j k holds =
          elim (cases_eq j i) [
            | inl same ↦
                absurd (not_held p k none (sym (get_or-set_same places i p Vacant (omega (arith, sound.size))) ∙ ap (λ (n : ℕ). get_or (set places i p) n Vacant) (sym same) ∙ holds))
            | inr differs ↦ sym (get_or-set_other places i j p Vacant differs) ∙ holds
          ]

  -- and its slot with it
  pub view-set : (records : Slab R) (places : List Place) (i : ℕ) (p : Place) → map (slot_in records) (set places i p) ≡ set (map (slot_in records) places) i (slot_in records p)
  view-set records places i p = map-set (slot_in records) places i p

  -- new places and no records
  pub IsSound-fresh : (records : Slab R) → records.slots ≡ [] → 280 ≤ records.capacity → IsSound records (replicate 280 Vacant)
  IsSound-fresh records none room =
      record {
        size = length-replicate 280 Vacant;
        room = room;
        counted = rw none refl;
        stored = λ i k holds. absurd (vacant i k holds);
        apart = λ i j k first second. absurd (vacant i k first);
      }
    where
      vacant : (i k : ℕ) → get_or (replicate 280 Vacant) i Vacant ≡ Holding k → ⊥
      vacant i k holds =
          elim (cases_lt i 280) [
            | inl before ↦ not_held Vacant k refl (sym (get_or-replicate 280 i Vacant Vacant before) ∙ holds)
            | inr past ↦ not_held Vacant k refl (sym (get_or_past (replicate 280 Vacant) i Vacant (rw (length-replicate 280 Vacant) past)) ∙ holds)
          ]

  pub view-fresh : (records : Slab R) → map (slot_in records) (replicate 280 Vacant) ≡ replicate 280 Free
  view-fresh records = refl
