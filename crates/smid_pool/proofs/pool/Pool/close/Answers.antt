use Rattle.std.proofs.Common.{◌≡◌, ◌∙◌, ◌-◌, ap, sym, refl, false, arith}
use Rattle.smid_pool.specs.declared.place.Place.TheVariants.{Vacant, Holding, Waiting}
use Rattle.smid_pool.specs.Pool.{record_of}
use Rattle.smid_pool.specs.Place.{place_of, is_holding, is_vacant, slot_in}
use Rattle.smid_pool.proofs.Marks.{IsMarked-set}
use Rattle.smid_pool.proofs.Slots.{IsSound-drop, IsSound-set, view-drop, view-set, holding_at, slot_of-map, taken_at, taken_place, waiting_is}
use Rattle.smid_pool.proofs.pool.Pool.close.Goals as goal

pub invariant_of-self : goal.invariant_of-self
invariant_of-self g c =
    let is : place_of c.self.inside.places.items c.args.smid ≡ Holding c.in-Holding.key = rw c.deref.ensures.value at (sym c.place_at-place.ensures ∙ c.in-Holding.is) in
    let held = holding_at c.self.inside.places.items c.args.smid c.in-Holding.key is in
    rw c.from-index.ensures
    (record {
      sound = IsSound-drop c.self.inside.records c.remove.new.self c.self.inside.places.items (c.args.smid - 1) c.in-Holding.key Vacant c.self.invariant.sound
          (omega (arith, held.0, c.self.invariant.sound.size)) held.1 refl c.remove.ensures.updates c.remove.ensures.len c.remove.ensures.capacity;
      marked = IsMarked-set c.self.inside.vacant.words c.insert.new.self.words c.self.inside.places.items (c.args.smid - 1) Vacant c.self.invariant.sound.size
          (omega (arith, held.0, c.self.invariant.sound.size)) (rw c.from-index.ensures at c.insert.ensures.here) (rw c.from-index.ensures at c.insert.ensures.others) c.self.invariant.marked;
    })

pub returns-in-Holding-clause-freed : goal.returns-in-Holding-clause-freed
returns-in-Holding-clause-freed g c =
    let is : place_of c.self.inside.places.items c.args.smid ≡ Holding c.in-Holding.key = rw c.deref.ensures.value at (sym c.place_at-place.ensures ∙ c.in-Holding.is) in
    let held = holding_at c.self.inside.places.items c.args.smid c.in-Holding.key is in
    rw (c.from-index.ensures, ← c.self.view_is)
    (view-drop c.self.inside.records c.remove.new.self c.self.inside.places.items (c.args.smid - 1) c.in-Holding.key Vacant c.self.invariant.sound held.1 c.remove.ensures.updates)

pub invariant_of-self-in_default : goal.invariant_of-self-in_default
invariant_of-self-in_default g c =
    let taken : is_vacant (place_of c.self.inside.places.items c.args.smid) ≡ false =
    taken_place c.self.inside.records c.self.inside.places.items c.args.smid (rw (← c.self.view_is) at c.requires) in
    let at = taken_at c.self.inside.places.items c.args.smid taken in
    let place : c.place_at-place.result ≡ place_of c.self.inside.places.items c.args.smid = rw c.deref.ensures.value at c.place_at-place.ensures in
    let waits : place_of c.self.inside.places.items c.args.smid ≡ Waiting =
    waiting_is (place_of c.self.inside.places.items c.args.smid) taken (λ key is. c.in_default.not-Holding key (place ∙ is)) in
    rw c.from-index.ensures
    (record {
      sound = IsSound-set c.self.inside.records c.self.inside.places.items (c.args.smid - 1) Vacant c.self.invariant.sound (omega (arith, at.1, c.self.invariant.sound.size)) (ap is_holding (at.2 ∙ waits)) refl;
      marked = IsMarked-set c.self.inside.vacant.words c.insert.new.self.words c.self.inside.places.items (c.args.smid - 1) Vacant c.self.invariant.sound.size
          (omega (arith, at.1, c.self.invariant.sound.size)) (rw c.from-index.ensures at c.insert.ensures.here) (rw c.from-index.ensures at c.insert.ensures.others) c.self.invariant.marked;
    })

pub returns-in_default : goal.returns-in_default
returns-in_default g c =
    let taken : is_vacant (place_of c.self.inside.places.items c.args.smid) ≡ false =
    taken_place c.self.inside.records c.self.inside.places.items c.args.smid (rw (← c.self.view_is) at c.requires) in
    let place : c.place_at-place.result ≡ place_of c.self.inside.places.items c.args.smid = rw c.deref.ensures.value at c.place_at-place.ensures in
    let waits : place_of c.self.inside.places.items c.args.smid ≡ Waiting =
    waiting_is (place_of c.self.inside.places.items c.args.smid) taken (λ key is. c.in_default.not-Holding key (place ∙ is)) in
    record {
      value = rw (← c.self.view_is) (sym (ap record_of (slot_of-map c.self.inside.records c.self.inside.places.items c.args.smid ∙ ap (slot_in c.self.inside.records) waits)));
      freed = rw (c.from-index.ensures, ← c.self.view_is) (view-set c.self.inside.records c.self.inside.places.items (c.args.smid - 1) Vacant);
    }
