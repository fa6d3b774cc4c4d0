-- How many handles are ready for an address, where all but one are as before.
use Rattle.std.proofs.Common.{◌≡◌, ℕ, zero, suc, ◌+◌, ◌-◌, ◌<◌, ◌≤◌, ◌==◌, Bool, true, false, List, [], ◌∷◌, length, get_or, Option, Some, None, refl, ap, sym, ◌∙◌, subst, arith}
use Rattle.removal.specs.Handles.{IsHandle, phase_at}
use Rattle.removal.specs.Phases.{is_ready_at}
use Rattle.removal.specs.declared.phase.Phase.{Phase}
use Rattle.removal.specs.declared.phase.Phase.TheVariants as phase
use Rattle.mpt_rules.specs.World.Counts.{how_many, one_if}
use Rattle.law_moves.proofs.Counted.{how_many-cons, how_many-nil}
use Rattle.law_ready.proofs.Turned.{ready_at}

module _ {X : Type 0} (test : X → Bool) (d : X) where
  count_same : (ps qs : List X) → length qs ≡ length ps → ((i : ℕ) → i < length ps → test (get_or qs i d) ≡ test (get_or ps i d)) → how_many test qs ≡ how_many test ps
  count_same [] [] n s = refl
  count_same [] (q ∷ qs) n s = absurd (omega (arith, n))
  count_same (p ∷ ps) [] n s = absurd (omega (arith, n))
  count_same (p ∷ ps) (q ∷ qs) n s =
      let a = how_many-cons test p ps in let b = how_many-cons test q qs in
      let h = ap one_if (s 0 (omega arith)) in
      let t = count_same ps qs (omega (arith, n)) (λ i l. s (suc i) (omega (arith, l))) in
      omega (arith, a, b, h, t)

  count_but : (ps qs : List X) (k : ℕ) → length qs ≡ length ps → k < length ps → ((i : ℕ) → i < length ps → (i ≡ k → ⊥) → test (get_or qs i d) ≡ test (get_or ps i d))
      → how_many test qs + one_if (test (get_or ps k d)) ≡ how_many test ps + one_if (test (get_or qs k d))
  count_but [] qs k n l s = absurd (omega (arith, l))
  count_but (p ∷ ps) [] k n l s = absurd (omega (arith, n))
  count_but (p ∷ ps) (q ∷ qs) zero n l s =
      let a = how_many-cons test p ps in let b = how_many-cons test q qs in
      let t = count_same ps qs (omega (arith, n)) (λ i m. s (suc i) (omega (arith, m)) (λ e. absurd (omega (arith, e)))) in
      omega (arith, a, b, t)
  count_but (p ∷ ps) (q ∷ qs) (suc k) n l s =
      let a = how_many-cons test p ps in let b = how_many-cons test q qs in
      let h = ap one_if (s 0 (omega arith) (λ e. absurd (omega (arith, e)))) in
      let t = count_but ps qs k (omega (arith, n)) (omega (arith, l)) (λ i m x. s (suc i) (omega (arith, m)) (λ e. x (omega (arith, e)))) in
      omega (arith, a, b, h, t)

  count_none : (ps : List X) → ((i : ℕ) → i < length ps → test (get_or ps i d) ≡ false) → how_many test ps ≡ 0
  count_none [] s = how_many-nil test
  count_none (p ∷ ps) s =
      let a = how_many-cons test p ps in let h = ap one_if (s 0 (omega arith)) in let t = count_none ps (λ i l. s (suc i) (omega (arith, l))) in
      omega (arith, a, h, t)

-- ---- over handles

abbrev pub at_of : ℕ → Option ℕ → Bool
at_of a None = false
at_of a (Some b) = b == a

pub test_is : (a : ℕ) (p : Phase) → is_ready_at a p ≡ at_of a (ready_at p)
test_is a (phase.Ready b) = refl
test_is a phase.Absent = refl
test_is a phase.WaitRead = refl
test_is a (phase.Reading s) = refl
test_is a phase.WaitHigh = refl
test_is a (phase.Resetting s) = refl
test_is a phase.WaitInternal = refl
test_is a (phase.Removing s) = refl

of_place : (i : ℕ) → i < 64 → IsHandle (i + 9)
of_place i l = (omega arith, omega (arith, l))

at_place : (ps : List Phase) (i : ℕ) → phase_at ps (i + 9) ≡ get_or ps i phase.Absent
at_place ps i = let e : i + 9 - 9 ≡ i = omega arith in ap (λ j. get_or ps j phase.Absent) e

module _ (a : ℕ) (ps : List Phase) (sized : length ps ≡ 64) where
  abbrev At : List Phase → ℕ → Bool
  At qs g = at_of a (ready_at (phase_at qs g))

  at_is : (qs : List Phase) (i : ℕ) → is_ready_at a (get_or qs i phase.Absent) ≡ at_of a (ready_at (phase_at qs (i + 9)))
  at_is qs i = ap (is_ready_at a) (sym (at_place qs i)) ∙ test_is a (phase_at qs (i + 9))

  pub none_ready_at : ((g : ℕ) → IsHandle g → at_of a (ready_at (phase_at ps g)) ≡ false) → how_many (is_ready_at a) ps ≡ 0
  none_ready_at s = count_none (is_ready_at a) phase.Absent ps (λ i l. at_is ps i ∙ s (i + 9) (of_place i (omega (arith, l, sized))))

  module _ (qs : List Phase) (sized2 : length qs ≡ 64) where
    pub same_ready_at : ((g : ℕ) → IsHandle g → at_of a (ready_at (phase_at qs g)) ≡ at_of a (ready_at (phase_at ps g))) → how_many (is_ready_at a) qs ≡ how_many (is_ready_at a) ps
    same_ready_at s = count_same (is_ready_at a) phase.Absent ps qs (sized2 ∙ sym sized) (λ i l. at_is qs i ∙ (s (i + 9) (of_place i (omega (arith, l, sized))) ∙ sym (at_is ps i)))

    pub but_ready_at : (g0 : ℕ) → IsHandle g0 → ((g : ℕ) → IsHandle g → (g ≡ g0 → ⊥) → at_of a (ready_at (phase_at qs g)) ≡ at_of a (ready_at (phase_at ps g)))
        → how_many (is_ready_at a) qs + one_if (at_of a (ready_at (phase_at ps g0))) ≡ how_many (is_ready_at a) ps + one_if (at_of a (ready_at (phase_at qs g0)))
    but_ready_at g0 j s =
        let b = j.0 in let c = j.1 in
        let z = count_but (is_ready_at a) phase.Absent ps qs (g0 - 9) (sized2 ∙ sym sized) (omega (arith, c, sized)) (λ i l x. at_is qs i ∙ (s (i + 9) (of_place i (omega (arith, l, sized))) (λ e. x (omega (arith, e))) ∙ sym (at_is ps i))) in
        let p = ap one_if (test_is a (phase_at ps g0)) in
        let q = ap one_if (test_is a (phase_at qs g0)) in
        omega (arith, z, p, q)
