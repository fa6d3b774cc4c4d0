-- Lists of which the first is taken.
use Rattle.std.proofs.Common.{◌≡◌, List, [], ◌∷◌, Some, None, length, drop, slice_get, refl, sym, ap, arith}

-- a list that is what is left of it without its first is empty
pub nothing_left : {A : Type 0} (xs ys : List A) → xs ≡ ys → ys ≡ drop 1 xs → ys ≡ []
nothing_left [] ys e d = sym e
nothing_left (x ∷ xs) ys e d = absurd (let same : x ∷ xs ≡ xs = cc in let longer = ap length same in omega (arith, longer))

-- a list with a first is that, and what is left without it
pub first_of : {A : Type 0} (xs : List A) (x : A) → slice_get xs 0 ≡ Some x → xs ≡ x ∷ drop 1 xs
first_of [] x e = cc
first_of (y ∷ ys) x e = cc

-- without one it is empty
pub none_first : {A : Type 0} (xs : List A) → slice_get xs 0 ≡ None → xs ≡ []
none_first [] e = refl
none_first (y ∷ ys) e = cc
