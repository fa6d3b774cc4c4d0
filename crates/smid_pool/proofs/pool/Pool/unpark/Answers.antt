use Rattle.std.proofs.Common.{◌≡◌, ◌∙◌, ◌-◌, ◌+◌, ◌≤◌, ◌<◌, length, set, get_or, ap, sym, refl, false, true, arith}
use Rattle.std.proofs.lemmas.List.{set-set, length-set, get_or-set_same}
use Rattle.smid_pool.specs.declared.place.Place.{Place}
use Rattle.smid_pool.specs.declared.place.Place.TheVariants.{Vacant, Holding, Waiting}
use Rattle.smid_pool.specs.Pool.{Open, Free}
use Rattle.smid_pool.specs.Place.{IsSound, is_holding, is_vacant, place_of}
use Rattle.smid_pool.proofs.Marks.{IsMarked-taken}
use Rattle.smid_pool.proofs.Slots.{IsSound-put, IsSound-set, view-put, view-set, room_for_one}
use Rattle.smid_pool.proofs.Taken.{ParkedAt, parked_at}
use Rattle.smid_pool.proofs.pool.Pool.unpark.Goals as goal

pub insert_reserved-key-requires : goal.insert_reserved-key-requires
insert_reserved-key-requires g c =
    let at = parked_at c.self.inside.records c.self.inside.places.items c.args.smid c.self.invariant.sound (rw (← c.self.view_is) at c.requires) in
    let emptied = IsSound-set c.self.inside.records c.self.inside.places.items (c.args.smid - 1) Vacant c.self.invariant.sound at.within (ap is_holding at.waits) refl in
    room_for_one c.self.inside.records (set c.self.inside.places.items (c.args.smid - 1) Vacant) (c.args.smid - 1) emptied
    (rw (length-set c.self.inside.places.items (c.args.smid - 1) Vacant, c.self.invariant.sound.size) at.within)
    (get_or-set_same c.self.inside.places.items (c.args.smid - 1) Vacant Vacant (rw c.self.invariant.sound.size at.within))

pub invariant_of-self : goal.invariant_of-self
invariant_of-self g c =
    let at = parked_at c.self.inside.records c.self.inside.places.items c.args.smid c.self.invariant.sound (rw (← c.self.view_is) at c.requires) in
    let emptied = IsSound-set c.self.inside.records c.self.inside.places.items (c.args.smid - 1) Vacant c.self.invariant.sound at.within (ap is_holding at.waits) refl in
    let put = IsSound-put c.self.inside.records c.insert_reserved-key.new.self (set c.self.inside.places.items (c.args.smid - 1) Vacant) (c.args.smid - 1) c.insert_reserved-key.result c.args.value
    emptied at.within (get_or-set_same c.self.inside.places.items (c.args.smid - 1) Vacant Vacant (rw c.self.invariant.sound.size at.within))
    c.insert_reserved-key.ensures.was_vacant c.insert_reserved-key.ensures.updates c.insert_reserved-key.ensures.len c.insert_reserved-key.ensures.capacity in
    rw c.from.ensures
    (record {
      sound = rw (set-set c.self.inside.places.items (c.args.smid - 1) Vacant (Holding c.insert_reserved-key.result)) at put;
      marked = IsMarked-taken c.self.inside.vacant.words c.self.inside.places.items (c.args.smid - 1) (Holding c.insert_reserved-key.result) c.self.invariant.sound.size at.within (ap is_vacant at.waits) refl c.self.invariant.marked;
    })

pub returns : goal.returns
returns g c =
    let at = parked_at c.self.inside.records c.self.inside.places.items c.args.smid c.self.invariant.sound (rw (← c.self.view_is) at c.requires) in
    rw (c.from.ensures, ← c.self.view_is)
    (view-put c.self.inside.records c.insert_reserved-key.new.self c.self.inside.places.items (c.args.smid - 1) c.insert_reserved-key.result c.args.value
    c.self.invariant.sound c.insert_reserved-key.ensures.was_vacant c.insert_reserved-key.ensures.updates)
