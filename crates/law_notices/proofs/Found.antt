-- What is found of a list of which so many pass: as an item changes, comes or goes.
use Rattle.std.proofs.Common.{◌≡◌, ℕ, zero, suc, ◌+◌, ◌<◌, ◌≤◌, ◌==◌, not, Bool, true, false, cond, if◌then◌else◌, List, [], ◌∷◌, ◌++◌, length, get_or, set, Some, None, refl, ap, ◌∙◌, arith}
use Rattle.std.specs.List.{filter, find, list_any, position}
use Rattle.mpt_rules.specs.World.Counts.{how_many, one_if}
use Rattle.law_flights.proofs.KnownOnce.{count_set}
use Rattle.law_moves.proofs.Counted.{false_by_none, how_many-cons}

pub same_is : (n : ℕ) → (n == n) ≡ true
same_is n = grind arith

module _ {X : Type 0} (test : X → Bool) where
  pub none_found : (xs : List X) → how_many test xs ≡ 0 → find test xs ≡ None
  none_found [] z = refl
  none_found (x ∷ xs) z = let c = how_many-cons test x xs in by_test (test x) (false_by_none (test x) (omega (arith, c, z))) (none_found xs (omega (arith, c, z)))
    where
      by_test : (b : Bool) → b ≡ false → find test xs ≡ None → cond b (Some x) (find test xs) ≡ None
      by_test true t h = absurd (cc)
      by_test false t h = h

  pub no_place : (xs : List X) → how_many test xs ≡ 0 → position test xs ≡ None
  no_place [] z = refl
  no_place (x ∷ xs) z = let c = how_many-cons test x xs in let t = false_by_none (test x) (omega (arith, c, z)) in let h = no_place xs (omega (arith, c, z)) in grind (arith, t, h)

  pub not_any : (xs : List X) → how_many test xs ≡ 0 → list_any test xs ≡ false
  not_any [] z = refl
  not_any (x ∷ xs) z = let c = how_many-cons test x xs in let t = false_by_none (test x) (omega (arith, c, z)) in let h = not_any xs (omega (arith, c, z)) in rw t h

  -- what is found, of any test, is counted
  pub found_counted : (seen : X → Bool) (xs : List X) (x : X) → find seen xs ≡ Some x → test x ≡ true → 1 ≤ how_many test xs
  found_counted seen [] x e t = absurd (cc)
  found_counted seen (y ∷ ys) x e t = let c = how_many-cons test y ys in by_test (seen y) e (found_counted seen ys x) c
    where
      by_test : (b : Bool) → cond b (Some y) (find seen ys) ≡ Some x → (find seen ys ≡ Some x → test x ≡ true → 1 ≤ how_many test ys) → how_many test (y ∷ ys) ≡ one_if (test y) + how_many test ys → 1 ≤ how_many test (y ∷ ys)
      by_test true f h c = let same : y ≡ x = cc in let u : one_if (test y) ≡ 1 = ap (λ z. one_if (test z)) same ∙ ap one_if t in omega (arith, c, u)
      by_test false f h c = let r = h f t in omega (arith, c, r)

  -- the only one that passes is found, however it was found before
  pub found_only : (seen : X → Bool) (xs : List X) (x : X) → how_many test xs ≤ 1 → find seen xs ≡ Some x → test x ≡ true → find test xs ≡ Some x
  found_only seen [] x o e t = absurd (cc)
  found_only seen (y ∷ ys) x o e t = let c = how_many-cons test y ys in by_tests (seen y) (test y) refl e (found_only seen ys x (omega (arith, c, o))) c
    where
      by_tests : (b k : Bool) → test y ≡ k → cond b (Some y) (find seen ys) ≡ Some x → (find seen ys ≡ Some x → test x ≡ true → find test ys ≡ Some x) → how_many test (y ∷ ys) ≡ one_if (test y) + how_many test ys → cond (test y) (Some y) (find test ys) ≡ Some x
      by_tests true k s f h c = let same : y ≡ x = cc in let u : test y ≡ true = ap test same ∙ t in rw u f
      by_tests false true s f h c = let r = found_counted seen ys x f t in let u = ap one_if s in absurd (omega (arith, c, r, u, o))
      by_tests false false s f h c = rw s (h f t)

  -- one that passes is written where none did
  pub found_set : (xs : List X) (i : ℕ) (y : X) → how_many test xs ≡ 0 → i < length xs → test y ≡ true → find test (set xs i y) ≡ Some y
  found_set [] i y z l t = absurd (omega (arith, l))
  found_set (x ∷ xs) zero y z l t = rw t refl
  found_set (x ∷ xs) (suc i) y z l t = let c = how_many-cons test x xs in let u = false_by_none (test x) (omega (arith, c, z)) in rw u (found_set xs i y (omega (arith, c, z)) (omega (arith, l)) t)

  -- the only one that passed is written over
  pub found_over : (xs : List X) (i : ℕ) (y d : X) → how_many test xs ≤ 1 → i < length xs → test (get_or xs i d) ≡ true → test y ≡ false → find test (set xs i y) ≡ None
  found_over xs i y d o l t f = let c = count_set test xs i y d l in let u = ap one_if t in let v = ap one_if f in none_found (set xs i y) (omega (arith, c, u, v, o))

  pub found_at : (xs : List X) (i : ℕ) (d : X) → how_many test xs ≤ 1 → i < length xs → test (get_or xs i d) ≡ true → find test xs ≡ Some (get_or xs i d)
  found_at [] i d o l t = absurd (omega (arith, l))
  found_at (x ∷ xs) zero d o l t = rw t refl
  found_at (x ∷ xs) (suc i) d o l t = let c = how_many-cons test x xs in by_test (test x) refl (found_at xs i d (omega (arith, c, o)) (omega (arith, l)) t) c
    where
      counted : (ys : List X) (j : ℕ) → j < length ys → test (get_or ys j d) ≡ true → 1 ≤ how_many test ys
      counted [] j m u = absurd (omega (arith, m))
      counted (y ∷ ys) zero m u = let q = how_many-cons test y ys in let v = ap one_if u in omega (arith, q, v)
      counted (y ∷ ys) (suc j) m u = let q = how_many-cons test y ys in let r = counted ys j (omega (arith, m)) u in omega (arith, q, r)

      by_test : (b : Bool) → test x ≡ b → find test xs ≡ Some (get_or xs i d) → how_many test (x ∷ xs) ≡ one_if (test x) + how_many test xs → cond (test x) (Some x) (find test xs) ≡ Some (get_or xs i d)
      by_test true s h c = let r = counted xs i (omega (arith, l)) t in let u = ap one_if s in absurd (omega (arith, c, r, u, o))
      by_test false s h c = rw s h

  -- one comes at the end
  pub found_last : (xs : List X) (y : X) → how_many test xs ≡ 0 → test y ≡ true → find test (xs ++ y ∷ []) ≡ Some y
  found_last [] y z t = rw t refl
  found_last (x ∷ xs) y z t = let c = how_many-cons test x xs in let u = false_by_none (test x) (omega (arith, c, z)) in rw u (found_last xs y (omega (arith, c, z)) t)

  pub passed_last : (xs : List X) (y : X) → test y ≡ false → find test (xs ++ y ∷ []) ≡ find test xs
  passed_last [] y t = rw t refl
  passed_last (x ∷ xs) y t = ap (λ o. cond (test x) (Some x) o) (passed_last xs y t)

  -- those that don't pass another test are left out
  pub found_left : (out : X → Bool) (xs : List X) → ((x : X) → test x ≡ true → out x ≡ false) → find test (filter (λ x. not (out x)) xs) ≡ find test xs
  found_left out [] a = refl
  found_left out (x ∷ xs) a = by_tests (out x) (test x) refl refl (found_left out xs a)
    where
      by_tests : (b k : Bool) → out x ≡ b → test x ≡ k → find test (filter (λ x. not (out x)) xs) ≡ find test xs → find test (if not (out x) then x ∷ filter (λ x. not (out x)) xs else filter (λ x. not (out x)) xs) ≡ cond (test x) (Some x) (find test xs)
      by_tests true true s t h = let z = a x t in absurd (cc)
      by_tests true false s t h = rw (s, t) h
      by_tests false k s t h = rw s (ap (λ o. cond (test x) (Some x) o) h)

  pub none_left : (xs : List X) → find test (filter (λ x. not (test x)) xs) ≡ None
  none_left [] = refl
  none_left (x ∷ xs) = by_test (test x) refl (none_left xs)
    where
      by_test : (b : Bool) → test x ≡ b → find test (filter (λ x. not (test x)) xs) ≡ None → find test (if not (test x) then x ∷ filter (λ x. not (test x)) xs else filter (λ x. not (test x)) xs) ≡ None
      by_test true s h = rw s h
      by_test false s h = rw s (rw s h)
