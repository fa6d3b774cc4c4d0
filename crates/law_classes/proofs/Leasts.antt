-- The least identifier that the rule has of a class is the one that the host gives next.
use Rattle.std.proofs.Common.{◌≡◌, ℕ, zero, suc, ◌+◌, ◌<◌, ◌≤◌, not, if◌then◌else◌, Bool, true, false, List, [], ◌∷◌, length, get_or, drop, Some, option_map, refl, ap, sym, ◌∙◌, subst, arith, get_or-take, get_or-drop, length-take, length-drop}
use Rattle.std.specs.List.{position_from}
use Rattle.std.proofs.lemmas.Iterator.Adapters.{position_from-zero}
use Rattle.smid_pool.specs.Class.{IsIn, before, size_of}
use Rattle.smid_pool.specs.Pool.{Free, Open, Parked, Slot, is_free, is_open, least_free, slot_of, slots_in}
use Rattle.smid_pool.specs.declared.class.Class.{Class}
use Rattle.smid_pool.specs.declared.class.Class.TheVariants as class
use Rattle.mpt_wire.specs.Queues.LeastPosts.{least_closed_from}
use Rattle.mpt_rules.specs.declared.request.Request.{Request}
use Rattle.mpt_rules.specs.World.State.{World}
use Rattle.law_facts.specs.Facts.{Facts}
use Rattle.law_facts.specs.Flights.{RecordStands}
use Rattle.law_facts.specs.History.{History}
use Rattle.law_facts.specs.Words.{slot}
use Rattle.law_flights.proofs.Least.{within}
use Rattle.law_classes.specs.Made.{LeastsAgree}

abbrev free_slot : Slot Request
free_slot = Free

-- place by place
pub from : (f : ℕ → Bool) (b i n : ℕ) (xs : List (Slot Request)) → length xs ≡ n → ((k : ℕ) → k < n → f (suc (b + (i + k))) ≡ not (is_free (get_or xs k free_slot)))
    → least_closed_from f (suc (b + i)) n ≡ option_map (λ place. b + place + 1) (position_from is_free i xs)
from f b i zero [] l a = refl
from f b i (suc n) [] l a = absurd (cc)
from f b i zero (x ∷ xs) l a = absurd (cc)
from f b i (suc n) (x ∷ xs) l a = by_tests (f (suc (b + i))) (is_free x) at (from f b (i + 1) n xs (omega (arith, l)) next)
  where
    at : f (suc (b + i)) ≡ not (is_free x)
    at = let z : i + 0 ≡ i = omega arith in subst (λ y. f (suc (b + y)) ≡ not (is_free x)) z (a 0 (omega arith))

    next : (k : ℕ) → k < n → f (suc (b + (i + 1 + k))) ≡ not (is_free (get_or xs k free_slot))
    next k m = let z : i + suc k ≡ i + 1 + k = omega arith in subst (λ y. f (suc (b + y)) ≡ not (is_free (get_or xs k free_slot))) z (a (suc k) (omega (arith, m)))

    by_tests : (u v : Bool) → u ≡ not v → least_closed_from f (suc (b + (i + 1))) n ≡ option_map (λ place. b + place + 1) (position_from is_free (i + 1) xs)
        → (if u then least_closed_from f (suc (b + i) + 1) n else Some (suc (b + i))) ≡ option_map (λ place. b + place + 1) (if v then Some i else position_from is_free (i + 1) xs)
    by_tests false true e r = let z : suc (b + i) ≡ b + i + 1 = omega arith in ap Some z
    by_tests true false e r = let z : suc (b + (i + 1)) ≡ suc (b + i) + 1 = omega arith in subst (λ y. least_closed_from f y n ≡ option_map (λ place. b + place + 1) (position_from is_free (i + 1) xs)) z r
    by_tests true true e r = absurd (cc)
    by_tests false false e r = absurd (cc)

-- a class's
pub of_class : (c : Class) (f : ℕ → Bool) (pool : List (Slot Request)) → length pool ≡ 280 → ((s : ℕ) → IsIn c s → f s ≡ not (is_free (slot_of pool s))) → least_closed_from f (suc (before c + 0)) (size_of c) ≡ least_free c pool
of_class c f pool l a = from f (before c) 0 (size_of c) (slots_in c pool) long at ∙ ap (option_map (λ place. before c + place + 1)) (sym (position_from-zero is_free (slots_in c pool)))
  where
    long : length (slots_in c pool) ≡ size_of c
    long = let w = within c in omega (arith, w, l, length-take (size_of c) (drop (before c) pool), length-drop (before c) pool)

    at : (k : ℕ) → k < size_of c → f (suc (before c + (0 + k))) ≡ not (is_free (get_or (slots_in c pool) k free_slot))
    at k m =
        let same : get_or (slots_in c pool) k free_slot ≡ get_or pool (before c + k) free_slot = grind (arith, m, get_or-take, get_or-drop) in
        let z : 0 + k ≡ k = omega arith in
        subst (λ y. f (suc (before c + y)) ≡ not (is_free (get_or (slots_in c pool) k free_slot))) (sym z)
        (a (suc (before c + k)) (omega (arith, m), omega (arith, m)) ∙ ap (λ y. not (is_free y)) (sym same))

module _ (w : World) (h : History) (f : Facts w h) where
  -- an open one isn't free, and above the identifiers of SCSI IOs none is parked
  pub open_or_free : (s : ℕ) → 257 ≤ s → s ≤ 280 → is_open (slot w.host s) ≡ not (is_free (slot w.host s))
  open_or_free s a b = by_slot (slot w.host s) refl
    where
      by_slot : (x : Slot Request) → slot w.host s ≡ x → is_open x ≡ not (is_free x)
      by_slot Free e = refl
      by_slot (Open r) e = refl
      by_slot Parked e =
          let p : IsIn class.ScsiIo s = subst (RecordStands w s) e (f.flights.identifiers s (omega (arith, a)) b).recorded in
          let q = p.1 in absurd (omega (arith, a, q))

  pub leasts_agree : LeastsAgree w h
  leasts_agree =
      record {
        high = of_class class.High h.giving.high.is_open w.host.pool f.flights.sizes.pool
            (λ s i. let a = i.0 in let b = i.1 in (f.ties.opened s).high (omega (arith, a)) (omega (arith, b)) ∙ open_or_free s (omega (arith, a)) (omega (arith, b)));
        internal = λ put. of_class class.Internal h.giving.internal.is_open w.host.pool f.flights.sizes.pool
            (λ s i. let a = i.0 in let b = i.1 in (f.ties.opened s).internal (omega (arith, a)) (omega (arith, b)) (put s) ∙ open_or_free s (omega (arith, a)) (omega (arith, b)));
      }
