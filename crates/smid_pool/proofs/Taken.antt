-- What is known of an identifier that is open or parked.
use Rattle.std.proofs.Common.{◌≡◌, ◌∙◌, ℕ, zero, suc, ◌-◌, ◌<◌, List, length, map, false, true, get_or, get_or-set_same, Option, Some, None, IsSome, refl, ap, sym, inl, inr, arith}
use Rattle.std.proofs.lemmas.Bool.{cases_lt}
use Rattle.std.proofs.lemmas.List.{get_or_past}
use Rattle.slab.specs.Slab.{Slab, get}
use Rattle.smid_pool.specs.declared.place.Place.{Place}
use Rattle.smid_pool.specs.declared.place.Place.TheVariants.{Vacant, Holding, Waiting}
use Rattle.smid_pool.specs.Pool.{Slot, Free, is_open, is_parked, slot_of, with_slot}
use Rattle.smid_pool.specs.Place.{is_vacant, opened, place_of, slot_in, IsSound}
use Rattle.smid_pool.proofs.Slots.{holding_at, slot_of-map, taken_at}

-- where a parked identifier is
pub record ParkedAt (places : List Place) (smid : ℕ) : Type 0 where
  pub within : smid - 1 < 280
  pub waits : get_or places (smid - 1) Vacant ≡ Waiting

module _ {R : Type 0} where
  -- the slot of an open identifier after another one was put there
  pub slot_of-with_slot : (slots : List (Slot R)) (smid : ℕ) (slot : Slot R) → is_open (slot_of slots smid) ≡ true → slot_of (with_slot smid slot slots) smid ≡ slot
  slot_of-with_slot slots zero slot is = absurd (cc)
  slot_of-with_slot slots (suc place) slot is =
      let at : suc place - 1 ≡ place = omega arith in
      rw at
      (elim (cases_lt place (length slots)) [
        | inl within ↦ get_or-set_same slots place slot Free within
        | inr past ↦ absurd (let e : is_open (get_or slots place Free) ≡ false = ap is_open (get_or_past slots place Free past) in cc)
      ])

  found_is_open : (o : Option R) → is_parked (opened o) ≡ true → IsSome o → ⊥
  found_is_open None is found = cc
  found_is_open (Some value) is found = cc

  -- what is parked holds no record
  parked_waits : (records : Slab R) (p : Place) → is_parked (slot_in records p) ≡ true → ((key : ℕ) → p ≡ Holding key → IsSome (get records key)) → p ≡ Waiting
  parked_waits records Vacant is found = absurd (cc)
  parked_waits records (Holding key) is found = absurd (found_is_open (get records key) is (found key refl))
  parked_waits records Waiting is found = refl

  pub parked_at : (records : Slab R) (places : List Place) (smid : ℕ) → IsSound records places → is_parked (slot_of (map (slot_in records) places) smid) ≡ true → ParkedAt places smid
  parked_at records places smid sound is =
      let waits = parked_waits records (place_of places smid) (sym (ap is_parked (slot_of-map records places smid)) ∙ is) (λ key holds. sound.stored (smid - 1) key (holding_at places smid key holds).1) in
      let at = taken_at places smid (ap is_vacant waits) in
      record { within = omega (arith, at.1, sound.size); waits = at.2 ∙ waits }
