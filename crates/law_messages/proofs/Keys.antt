-- A table by number after a write of it.
use Rattle.std.proofs.Common.{◌≡◌, ◌≢◌, ℕ, ◌==◌, Bool, true, false, cond, Some, None, refl, ap, sym, ◌∙◌, arith}
use Rattle.std.specs.FinMap as finmap
use Rattle.std.specs.Ordering.{eq_by_cmp, nat_cmp}
use Rattle.std.proofs.lemmas.Bool.{eqb-true}
use Rattle.std.proofs.lemmas.Cmp.{nat_cmp_total}

pub same_key : (a b : ℕ) → eq_by_cmp nat_cmp a b ≡ (a == b)
same_key a b = grind arith

pub other_key : (m n : ℕ) → m ≢ n → eq_by_cmp nat_cmp m n ≡ false
other_key m n d = by_test (eq_by_cmp nat_cmp m n) refl
  where
    by_test : (b : Bool) → eq_by_cmp nat_cmp m n ≡ b → b ≡ false
    by_test false e = refl
    by_test true e = absurd (d (eqb-true m n (sym (same_key m n) ∙ e)))

pub this_key : (n : ℕ) → eq_by_cmp nat_cmp n n ≡ true
this_key n = same_key n n ∙ (grind arith)

module _ {X : Type 0} (m : finmap.FinMap nat_cmp X) (n : ℕ) where
  pub get_other_inserted : (x : X) (q : ℕ) → q ≢ n → finmap.get (finmap.insert m n x) q ≡ finmap.get m q
  get_other_inserted x q d = finmap.get-insert nat_cmp_total m n x q ∙ ap (λ b. cond b (Some x) (finmap.get m q)) (other_key q n d)

  pub get_inserted : (x : X) → finmap.get (finmap.insert m n x) n ≡ Some x
  get_inserted x = finmap.get-insert nat_cmp_total m n x n ∙ ap (λ b. cond b (Some x) (finmap.get m n)) (this_key n)

  pub get_other_removed : (q : ℕ) → q ≢ n → finmap.get (finmap.remove m n) q ≡ finmap.get m q
  get_other_removed q d = finmap.get-remove nat_cmp_total m n q ∙ ap (λ b. cond b None (finmap.get m q)) (other_key q n d)

  pub get_removed : finmap.get (finmap.remove m n) n ≡ None
  get_removed = finmap.get-remove nat_cmp_total m n n ∙ ap (λ b. cond b None (finmap.get m n)) (this_key n)

  pub removed_less : (q : ℕ) (x : X) → finmap.get (finmap.remove m n) q ≡ Some x → finmap.get m q ≡ Some x
  removed_less q x e = by_key (eq_by_cmp nat_cmp q n) (sym (finmap.get-remove nat_cmp_total m n q) ∙ e)
    where
      by_key : (b : Bool) → cond b None (finmap.get m q) ≡ Some x → finmap.get m q ≡ Some x
      by_key true f = absurd (cc)
      by_key false f = f
