-- Tables that have the same everywhere, and lists of nothing.
use Rattle.std.proofs.Common.{◌≡◌, ℕ, zero, suc, Bool, true, false, not, List, [], ◌++◌, map, length, get_or, replicate, Some, None, refl, ap, sym, ◌∙◌, arith}
use Rattle.std.specs.FinMap as finmap
use Rattle.std.specs.List.{sum_by}
use Rattle.std.specs.Ordering.{nat_cmp}
use Rattle.std.proofs.lemmas.List.Sums.{sum_by-cons}
use Rattle.mpt_trace.specs.declared.item.Up.{Up}
use Rattle.mpt_rules.specs.World.Counts.{how_many, one_if}
use Rattle.mpt_rules.specs.World.Lines.{said_of}
use Rattle.law_facts.specs.Words.{others}
use Rattle.law_moves.proofs.Counted.{how_many-cons, how_many-nil, others-cons, others-nil}

-- what stands at a place, in the table or past it
pub same_at : {X : Type 0} (n i : ℕ) (x : X) → get_or (replicate n x) i x ≡ x
same_at zero i x = refl
same_at (suc n) zero x = refl
same_at (suc n) (suc i) x = same_at n i x

pub same_long : {X : Type 0} (n : ℕ) (x : X) → length (replicate n x) ≡ n
same_long zero x = refl
same_long (suc n) x = ap suc (same_long n x)

pub none_of : {X : Type 0} (p : X → Bool) (n : ℕ) (x : X) → p x ≡ false → how_many p (replicate n x) ≡ 0
none_of p zero x e = how_many-nil p
none_of p (suc n) x e =
    let h = none_of p n x e in let c = how_many-cons p x (replicate n x) in let o : one_if (p x) ≡ 0 = ap one_if e in
    omega (arith, h, c, o)

pub all_of : {X : Type 0} (p : X → Bool) (n : ℕ) (x : X) → p x ≡ true → others p (replicate n x) ≡ 0
all_of p zero x e = others-nil p
all_of p (suc n) x e =
    let h = all_of p n x e in let c = others-cons p x (replicate n x) in let o : one_if (not (p x)) ≡ 0 = ap (λ b. one_if (not b)) e in
    omega (arith, h, c, o)

pub no_sum : {X : Type 0} (f : X → ℕ) (n : ℕ) (x : X) → f x ≡ 0 → sum_by f (replicate n x) ≡ 0
no_sum f zero x e = refl
no_sum f (suc n) x e = let h = no_sum f n x e in let c = sum_by-cons f x (replicate n x) in omega (arith, h, c, e)

-- the line of each reply queue
pub line_empty : (q queue : ℕ) → map said_of (get_or (replicate q []) queue []) ++ get_or (replicate q []) queue [] ≡ []
line_empty q queue =
    let up : get_or (replicate q []) queue [] ≡ [] = same_at q queue [] in
    let said : get_or (replicate q []) queue [] ≡ [] = same_at q queue [] in
    ap (λ (xs : List Up). map said_of xs ++ get_or (replicate q []) queue []) up ∙ said

-- a map of nothing has no key
pub no_key : {X Y : Type 0} (m : finmap.FinMap nat_cmp X) → m ≡ finmap.empty → (n : ℕ) (x : X) → finmap.get m n ≡ Some x → Y
no_key {X = X} m z n x e = let f = sym (ap (λ (k : finmap.FinMap nat_cmp X). finmap.get k n) z ∙ finmap.get-empty nat_cmp n) ∙ e in absurd (cc)

pub no_key_is : {X : Type 0} (m : finmap.FinMap nat_cmp X) → m ≡ finmap.empty → (n : ℕ) → finmap.get m n ≡ None
no_key_is {X = X} m z n = ap (λ (k : finmap.FinMap nat_cmp X). finmap.get k n) z ∙ finmap.get-empty nat_cmp n
