-- Of a sum over lists: each summand is no more than it.
use Rattle.std.proofs.Common.{◌≡◌, ℕ, zero, suc, ◌≤◌, Bool, true, false, not, List, [], ◌∷◌, get_or, refl, arith}
use Rattle.std.specs.List.{sum_by}
use Rattle.std.proofs.lemmas.List.Sums.{sum_by-cons}
use Rattle.mpt_rules.specs.World.Counts.{one_if}
use Rattle.law_facts.specs.Words.{others}
use Rattle.law_moves.proofs.Counted.{others-cons}

pub sum_at : {X : Type 0} (f : X → ℕ) (d : X) → f d ≡ 0 → (xs : List X) (i : ℕ) → f (get_or xs i d) ≤ sum_by f xs
sum_at f d z [] i = let e : f (get_or [] i d) ≡ 0 = z in omega (arith, e)
sum_at f d z (x ∷ xs) zero = let c = sum_by-cons f x xs in omega (arith, c)
sum_at f d z (x ∷ xs) (suc i) = let h = sum_at f d z xs i in let c = sum_by-cons f x xs in omega (arith, h, c)

-- where none in a list fails, the first passes
pub first_passes : {X : Type 0} (p : X → Bool) (x : X) (xs : List X) → others p (x ∷ xs) ≤ 0 → p x ≡ true
first_passes p x xs z = let c = others-cons p x xs in by_test (p x) (omega (arith, c, z))
  where
    by_test : (b : Bool) → one_if (not b) ≡ 0 → b ≡ true
    by_test true e = refl
    by_test false e = absurd (omega (arith, e))
