-- The contexts as a finite set of the keys that they are kept by.
use Rattle.std.proofs.Common.{◌≡◌, ◌≢◌, ℕ, Bool, true, false, not, ◌&&◌, ◌||◌, cond, List, refl, sym, ◌∙◌, inl, inr, arith}
use Rattle.std.specs.List.{list_any}
use Rattle.std.specs.Ordering.{eq_by_cmp, is_eq, nat_cmp}
use Rattle.std.specs.Cmp.{nat_cmp_total}
use Rattle.std.specs.FinSet as set
use Rattle.std.proofs.lemmas.Bool.{cases_eq}
use Rattle.std.proofs.lemmas.Bool.Decides.{nat_tests}

itself : (n : ℕ) → is_eq (nat_cmp n n) ≡ true
itself n = grind (arith, nat_tests)

apart : (a b : ℕ) → a ≢ b → is_eq (nat_cmp a b) ≡ false
apart a b differs = grind (arith, nat_tests, differs)

flip : (a b : ℕ) → is_eq (nat_cmp a b) ≡ is_eq (nat_cmp b a)
flip a b =
    elim (cases_eq a b) [
      | inl same ↦ rw same refl
      | inr differs ↦ apart a b differs ∙ sym (apart b a (λ e. differs (sym e)))
    ]

-- what the keys have the set has
pub kept : (keys : List ℕ) (q : ℕ) → set.contains (set.from_list {R = nat_cmp} keys) q ≡ list_any (eq_by_cmp nat_cmp q) keys
kept keys q = set.contains-from_list nat_cmp_total keys q

-- a key is put in
pub added : (old new : List ℕ) (k : ℕ) → ((q : ℕ) → list_any (eq_by_cmp nat_cmp q) new ≡ cond (is_eq (nat_cmp k q)) true (list_any (eq_by_cmp nat_cmp q) old)) → set.from_list {R = nat_cmp} new ≡ set.insert (set.from_list {R = nat_cmp} old) k
added old new k changes =
    set.same_set nat_cmp_total set.nat_cmp-IsAntisymmetric _ _
    (λ q. kept new q ∙ changes q ∙ step (is_eq (nat_cmp k q)) (list_any (eq_by_cmp nat_cmp q) old) ∙ rw (flip k q, ← kept old q) (sym (set.contains-insert nat_cmp_total (set.from_list {R = nat_cmp} old) k q)))
  where
    step : (a b : Bool) → cond a true b ≡ (a || b)
    step true b = refl
    step false b = refl

-- a key is taken out
pub removed : (old new : List ℕ) (k : ℕ) → ((q : ℕ) → list_any (eq_by_cmp nat_cmp q) new ≡ cond (is_eq (nat_cmp k q)) false (list_any (eq_by_cmp nat_cmp q) old)) → set.from_list {R = nat_cmp} new ≡ set.remove (set.from_list {R = nat_cmp} old) k
removed old new k changes =
    set.same_set nat_cmp_total set.nat_cmp-IsAntisymmetric _ _
    (λ q. kept new q ∙ changes q ∙ step (is_eq (nat_cmp k q)) (list_any (eq_by_cmp nat_cmp q) old) ∙ rw (flip k q, ← kept old q) (sym (set.contains-remove nat_cmp_total (set.from_list {R = nat_cmp} old) k q)))
  where
    step : (a b : Bool) → cond a false b ≡ (not a && b)
    step true b = refl
    step false b = refl

-- ---- a context that is put in and taken out again

-- one that is there already
inserted_there : (s : set.FinSet nat_cmp) (k : ℕ) → set.contains s k ≡ true → set.insert s k ≡ s
inserted_there s k there =
    set.same_set nat_cmp_total set.nat_cmp-IsAntisymmetric _ _
    (λ q. set.contains-insert nat_cmp_total s k q ∙ at q)
  where
    at : (q : ℕ) → (is_eq (nat_cmp q k) || set.contains s q) ≡ set.contains s q
    at q =
        elim (cases_eq q k) [
          | inl same ↦ rw (same, itself k, there) refl
          | inr differs ↦ rw (apart q k differs) refl
        ]

-- one that isn't
taken_out : (s : set.FinSet nat_cmp) (k : ℕ) → set.contains s k ≡ false → set.remove (set.insert s k) k ≡ s
taken_out s k absent =
    set.same_set nat_cmp_total set.nat_cmp-IsAntisymmetric _ _
    (λ q. set.contains-remove nat_cmp_total (set.insert s k) k q ∙ at q)
  where
    at : (q : ℕ) → (not (is_eq (nat_cmp q k)) && set.contains (set.insert s k) q) ≡ set.contains s q
    at q =
        elim (cases_eq q k) [
          | inl same ↦ rw (same, itself k, absent) refl
          | inr differs ↦ rw (set.contains-insert nat_cmp_total s k q, apart q k differs) refl
        ]

-- a context that was put in where it is asked for is taken out where it was new
pub put_back : (asked : Bool) (s : set.FinSet nat_cmp) (k : ℕ) → cond (asked && not (set.contains s k)) (set.remove (cond asked (set.insert s k) s) k) (cond asked (set.insert s k) s) ≡ s
put_back false s k = refl
put_back true s k = by_case (set.contains s k) refl
  where
    by_case : (b : Bool) → set.contains s k ≡ b → cond (not b) (set.remove (set.insert s k) k) (set.insert s k) ≡ s
    by_case true is = inserted_there s k is
    by_case false is = taken_out s k is
