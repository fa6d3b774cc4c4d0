-- The numbers that lines submit, as a set takes them in.
use Rattle.std.proofs.Common.{◌≡◌, ◌∙◌, ℕ, Bool, true, false, cond, List, ◌∷◌, ◌||◌, eqb, ap, subst}
use Rattle.std.specs.List.{list_any}
use Rattle.std.specs.Ordering.{eq_by_cmp, is_eq, nat_cmp}
use Rattle.std.specs.Cmp.{unsigned_tied}
use Rattle.mpt_trace.specs.declared.input.Input.{Input}
use Rattle.mpt_trace.specs.declared.input.Input.TheVariants as input
use Rattle.mpt_trace.specs.declared.command_form.CommandForm.{CommandForm}
use Rattle.mpt_wire.specs.Fits.Plan.{has_number}

moved : (is old others whole : Bool) → (old || (is || others)) ≡ whole → (cond is true old || others) ≡ whole
moved true true others whole known = known
moved true false others whole known = known
moved false old others whole known = known

-- the set took in the number of the next line
pub took_in : (k : ℕ) (address : ℕ) (form : CommandForm) (left others lines : List Input) (old new : List ℕ) →
    left ≡ input.Submit k address form ∷ others
    → ((n : ℕ) → (list_any (eq_by_cmp nat_cmp n) old || has_number left n) ≡ has_number lines n)
    → ((q : ℕ) → list_any (eq_by_cmp nat_cmp q) new ≡ cond (is_eq (nat_cmp k q)) true (list_any (eq_by_cmp nat_cmp q) old))
    → (n : ℕ) → (list_any (eq_by_cmp nat_cmp n) new || has_number others n) ≡ has_number lines n
took_in k address form left others lines old new is known took n =
    ap (λ (b : Bool). b || has_number others n) (took n ∙ ap (λ (b : Bool). cond b true (list_any (eq_by_cmp nat_cmp n) old)) (unsigned_tied k n))
    ∙ moved (eqb k n) (list_any (eq_by_cmp nat_cmp n) old) (has_number others n) (has_number lines n) (subst (λ (l : List Input). (list_any (eq_by_cmp nat_cmp n) old || has_number l n) ≡ has_number lines n) is (known n))
