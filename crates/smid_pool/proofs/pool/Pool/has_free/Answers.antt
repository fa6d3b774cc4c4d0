use Rattle.std.proofs.Common.{◌≡◌, ◌∙◌, ℕ, ◌-◌, List, Option, Some, None, MatchOption, length, ap, sym, refl}
use Rattle.std.specs.Option.{is_some}
use Rattle.slab.specs.Slab.{Slab}
use Rattle.smid_pool.specs.declared.class.Class.{Class}
use Rattle.smid_pool.specs.declared.place.Place.{Place}
use Rattle.smid_pool.specs.Class.{before}
use Rattle.smid_pool.specs.Place.{slot_in}
use Rattle.smid_pool.specs.Pool.{least_free}
use Rattle.smid_pool.specs.VacantSet.{HasNone, IsFirst, IsMarked}
use Rattle.std.proofs.Common.{map}
use Rattle.smid_pool.proofs.Marks.{first_marked, none_marked}
use Rattle.smid_pool.proofs.Slots.{least_free-map}
use Rattle.smid_pool.proofs.pool.Pool.has_free.Goals as goal

module _ {R : Type 0} where
  -- one is free exactly where a place is vacant
  free_by_first : (records : Slab R) (places : List Place) (words : List ℕ) (class : Class) (first : Option ℕ) → length places ≡ 280 → IsMarked words places → MatchOption first (HasNone words class) (IsFirst words class) → is_some first ≡ is_some (least_free class (map (slot_in records) places))
  free_by_first records places words class None size marked none =
      ap is_some (sym (least_free-map records places class None (none_marked words places class size marked none)))
  free_by_first records places words class (Some index) size marked first =
      ap is_some (sym (least_free-map records places class (Some (index - before class)) (first_marked words places class index size marked first)))

pub returns : goal.returns
returns g c =
    rw (c.is_some.ensures, ← c.self.view_is)
    (free_by_first c.self.inside.records c.self.inside.places.items c.self.inside.vacant.words c.args.class c.first_in.result c.self.invariant.sound.size c.self.invariant.marked c.first_in.ensures)
