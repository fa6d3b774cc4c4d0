use Rattle.std.proofs.Common.{◌≡◌, ◌+◌, ◌-◌, refl, Some, arith}
use Rattle.smid_pool.specs.declared.place.Place.TheVariants.{Holding}
use Rattle.smid_pool.specs.Class.{before}
use Rattle.smid_pool.proofs.Marks.{IsMarked-set, first_marked, none_marked, vacant_first}
use Rattle.smid_pool.proofs.Slots.{IsSound-put, slot_of-put, view-put, least_free-map, none_free, some_free, room_for_one}
use Rattle.smid_pool.proofs.pool.Pool.open.Goals as goal

pub returns-in_default-clause-none_free : goal.returns-in_default-clause-none_free
returns-in_default-clause-none_free g c =
    let first = none_marked c.self.inside.vacant.words c.self.inside.places.items c.args.class c.self.invariant.sound.size c.self.invariant.marked c.in_default.ensures in
    (λ _. rw (← c.self.view_is) (none_free c.self.inside.records c.self.inside.places.items c.args.class first), λ _. refl)

pub insert_reserved-key-requires : goal.insert_reserved-key-requires
insert_reserved-key-requires g c =
    let found = vacant_first c.self.inside.vacant.words c.self.inside.places.items c.args.class c.in-Some.index c.self.invariant.sound.size c.self.invariant.marked c.in-Some.ensures in
    room_for_one c.self.inside.records c.self.inside.places.items c.in-Some.index c.self.invariant.sound (omega (arith, found.0, c.self.invariant.sound.size)) found.1

pub invariant_of-self : goal.invariant_of-self
invariant_of-self g c =
    let found = vacant_first c.self.inside.vacant.words c.self.inside.places.items c.args.class c.in-Some.index c.self.invariant.sound.size c.self.invariant.marked c.in-Some.ensures in
    record {
      sound = IsSound-put c.self.inside.records c.insert_reserved-key.new.self c.self.inside.places.items c.in-Some.index c.insert_reserved-key.result c.args.value
          c.self.invariant.sound found.0 found.1 c.insert_reserved-key.ensures.was_vacant c.insert_reserved-key.ensures.updates c.insert_reserved-key.ensures.len c.insert_reserved-key.ensures.capacity;
      marked = IsMarked-set c.self.inside.vacant.words c.remove.new.self.words c.self.inside.places.items c.in-Some.index (Holding c.insert_reserved-key.result) c.self.invariant.sound.size found.0
          c.remove.ensures.here c.remove.ensures.others c.self.invariant.marked;
    }

pub returns-clause-least : goal.returns-clause-least
returns-clause-least g c =
    let first = first_marked c.self.inside.vacant.words c.self.inside.places.items c.args.class c.in-Some.index c.self.invariant.sound.size c.self.invariant.marked c.in-Some.ensures in
    let at : before c.args.class + (c.in-Some.index - before c.args.class) ≡ c.in-Some.index = omega (arith, c.in-Some.ensures.from) in
    rw (← c.self.view_is, ← at) (least_free-map c.self.inside.records c.self.inside.places.items c.args.class (Some (c.in-Some.index - before c.args.class)) first)

pub returns-clause-opened : goal.returns-clause-opened
returns-clause-opened g c =
    let at : c.in-Some.index + 1 - 1 ≡ c.in-Some.index = omega arith in
    rw (at, ← c.self.view_is)
    (view-put c.self.inside.records c.insert_reserved-key.new.self c.self.inside.places.items c.in-Some.index c.insert_reserved-key.result c.args.value
    c.self.invariant.sound c.insert_reserved-key.ensures.was_vacant c.insert_reserved-key.ensures.updates)

pub returns-clause-none_free : goal.returns-clause-none_free
returns-clause-none_free g c =
    let first = first_marked c.self.inside.vacant.words c.self.inside.places.items c.args.class c.in-Some.index c.self.invariant.sound.size c.self.invariant.marked c.in-Some.ensures in
    (λ e. cc, λ none. absurd (some_free c.self.inside.records c.self.inside.places.items c.args.class (c.in-Some.index - before c.args.class) first (rw (← c.self.view_is) at none)))

pub returns-clause-is_open : goal.returns-clause-is_open
returns-clause-is_open g c =
    let found = vacant_first c.self.inside.vacant.words c.self.inside.places.items c.args.class c.in-Some.index c.self.invariant.sound.size c.self.invariant.marked c.in-Some.ensures in
    slot_of-put c.insert_reserved-key.new.self c.self.inside.places.items c.in-Some.index c.insert_reserved-key.result c.args.value
    (omega (arith, c.self.invariant.sound.size, found.0)) c.insert_reserved-key.ensures.updates.changed
