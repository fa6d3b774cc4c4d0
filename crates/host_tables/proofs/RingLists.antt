-- Lists of rings.
use Rattle.std.proofs.Common.{◌≡◌, ℕ, zero, suc, ◌+◌, ◌∷◌, ◌++◌, [], List, map, replicate, refl, ap, arith}

pub map-replicate : {X Y : Type 0} (f : X → Y) (n : ℕ) (x : X) → map f (replicate n x) ≡ replicate n (f x)
map-replicate f zero x = refl
map-replicate f (suc n) x = ap (λ (rest : List _). f x ∷ rest) (map-replicate f n x)

pub replicate-more : {X : Type 0} (n : ℕ) (x : X) → replicate n x ++ x ∷ [] ≡ replicate (n + 1) x
replicate-more n x = let next : n + 1 ≡ suc n = omega arith in rw next (one_more n)
  where
    one_more : (m : ℕ) → replicate m x ++ x ∷ [] ≡ replicate (suc m) x
    one_more zero = refl
    one_more (suc m) = ap (λ (rest : List _). x ∷ rest) (one_more m)
