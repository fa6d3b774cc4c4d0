-- An identifier that has a request is one of the 280, and is of its request's class; so is one under which a post stands.
use Rattle.std.proofs.Common.{◌≡◌, ℕ, zero, suc, ◌<◌, ◌≤◌, nat_lt, Bool, true, false, length, get_or, refl, subst, arith}
use Rattle.std.proofs.lemmas.List.{get_or_past}
use Rattle.smid_pool.specs.Pool.{Slot, Free}
use Rattle.mpt_rules.specs.declared.request.Request.{Request}
use Rattle.mpt_rules.specs.World.State.{World}
use Rattle.law_facts.specs.Facts.{Facts}
use Rattle.law_facts.specs.Flights.{RecordStands}
use Rattle.law_facts.specs.History.{History}
use Rattle.law_facts.specs.Words.{slot}

-- what isn't free stands in the table
pub in_pool : (w : World) (h : History) → Facts w h → (s : ℕ) (P : Slot Request → Type 0) → (P Free → ⊥) → P (slot w.host s) → (1 ≤ s) × (s ≤ 280)
in_pool w h f zero P n i = absurd (n i)
in_pool w h f (suc k) P n i = by_place (nat_lt k (length w.host.pool)) refl
  where
    by_place : (b : Bool) → nat_lt k (length w.host.pool) ≡ b → (1 ≤ suc k) × (suc k ≤ 280)
    by_place true t = let z = f.flights.sizes.pool in let l : k < length w.host.pool = grind (arith, t) in (omega arith, omega (arith, z, l))
    by_place false t =
        let far : length w.host.pool ≤ k = grind (arith, t) in
        let z : get_or w.host.pool k Free ≡ Free = get_or_past w.host.pool k Free far in
        absurd (n (subst P z i))

-- and its record does too
pub recorded : (w : World) (h : History) → Facts w h → (s : ℕ) (P : Slot Request → Type 0) → (P Free → ⊥) → P (slot w.host s) → RecordStands w s (slot w.host s)
recorded w h f s P n i = let r = in_pool w h f s P n i in (f.flights.identifiers s r.0 r.1).recorded
