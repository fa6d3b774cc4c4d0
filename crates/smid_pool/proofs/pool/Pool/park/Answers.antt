use Rattle.std.proofs.Common.{◌≡◌, ◌∙◌, ◌-◌, ap, sym, refl, true, arith}
use Rattle.smid_pool.specs.declared.place.Place.TheVariants.{Holding, Waiting}
use Rattle.smid_pool.specs.Place.{place_of, is_holding, is_vacant}
use Rattle.smid_pool.proofs.Marks.{IsMarked-taken}
use Rattle.smid_pool.proofs.Slots.{IsSound-drop, view-drop, holding_at, has_key, open_place}
use Rattle.smid_pool.proofs.pool.Pool.park.Goals as goal

pub invariant_of-self : goal.invariant_of-self
invariant_of-self g c =
    let is : place_of c.self.inside.places.items c.args.smid ≡ Holding c.in-Holding.key = rw c.deref.ensures.value at (sym c.place_at.ensures ∙ c.in-Holding.is) in
    let held = holding_at c.self.inside.places.items c.args.smid c.in-Holding.key is in
    rw c.from.ensures
    (record {
      sound = IsSound-drop c.self.inside.records c.remove.new.self c.self.inside.places.items (c.args.smid - 1) c.in-Holding.key Waiting c.self.invariant.sound
          (omega (arith, held.0, c.self.invariant.sound.size)) held.1 refl c.remove.ensures.updates c.remove.ensures.len c.remove.ensures.capacity;
      marked = IsMarked-taken c.self.inside.vacant.words c.self.inside.places.items (c.args.smid - 1) Waiting c.self.invariant.sound.size
          (omega (arith, held.0, c.self.invariant.sound.size)) (ap is_vacant held.1) refl c.self.invariant.marked;
    })

pub unreachable-requires : goal.unreachable-requires
unreachable-requires g c =
    let is : is_holding (place_of c.self.inside.places.items c.args.smid) ≡ true =
    open_place c.self.inside.records c.self.inside.places.items c.args.smid (rw (← c.self.view_is) at c.requires) in
    has_key c.place_at.result (rw (c.place_at.ensures, c.deref.ensures.value) is) c.in_default.not-Holding

pub returns-clause-parked : goal.returns-clause-parked
returns-clause-parked g c =
    let is : place_of c.self.inside.places.items c.args.smid ≡ Holding c.in-Holding.key = rw c.deref.ensures.value at (sym c.place_at.ensures ∙ c.in-Holding.is) in
    let held = holding_at c.self.inside.places.items c.args.smid c.in-Holding.key is in
    rw (c.from.ensures, ← c.self.view_is)
    (view-drop c.self.inside.records c.remove.new.self c.self.inside.places.items (c.args.smid - 1) c.in-Holding.key Waiting c.self.invariant.sound held.1 c.remove.ensures.updates)
