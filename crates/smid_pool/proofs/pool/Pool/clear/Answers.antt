use Rattle.std.proofs.Common.{◌≡◌, ◌∙◌, ℕ, ap, length, replicate, refl}
use Rattle.std.proofs.lemmas.List.{length-replicate, with_items_is}
use Rattle.smid_pool.specs.declared.place.Place.TheVariants.{Vacant}
use Rattle.smid_pool.proofs.Marks.{IsMarked-full}
use Rattle.smid_pool.proofs.Slots.{IsSound-fresh}
use Rattle.smid_pool.proofs.pool.Pool.clear.Goals as goal

pub invariant_of-self : goal.invariant_of-self
invariant_of-self g c =
    let fresh : c.vacate.new.places ≡ replicate 280 Vacant =
    c.vacate.ensures ∙ ap (λ (n : ℕ). replicate n Vacant) (ap length c.deref_mut.ensures.value ∙ c.self.invariant.sound.size) in
    let size : length c.vacate.new.places ≡ length c.deref_mut.result.now =
    ap length c.vacate.ensures ∙ length-replicate (length c.deref_mut.result.now) Vacant in
    rw (with_items_is c.self.inside.places c.vacate.new.places (size ∙ c.deref_mut.ensures.len), fresh)
    (record {
      sound = IsSound-fresh c.clear.new.self c.clear.ensures.empty (rw c.clear.ensures.capacity c.self.invariant.sound.room);
      marked = IsMarked-full c.full-vacant.result.words c.full-vacant.ensures;
    })

pub returns : goal.returns
returns g c =
    let fresh : c.vacate.new.places ≡ replicate 280 Vacant =
    c.vacate.ensures ∙ ap (λ (n : ℕ). replicate n Vacant) (ap length c.deref_mut.ensures.value ∙ c.self.invariant.sound.size) in
    let size : length c.vacate.new.places ≡ length c.deref_mut.result.now =
    ap length c.vacate.ensures ∙ length-replicate (length c.deref_mut.result.now) Vacant in
    rw (with_items_is c.self.inside.places c.vacate.new.places (size ∙ c.deref_mut.ensures.len), fresh) refl
