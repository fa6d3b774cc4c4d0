-- Requests of the internal class stay among themselves.
use Rattle.std.proofs.Common.{◌≡◌, Bool, true, false, ◌&&◌, cond, [], ◌∷◌, List, refl}
use Rattle.std.specs.List.{filter, list_all}

both_then : (a b : Bool) → (a && b) ≡ true → b ≡ true
both_then true b both = both
both_then false b both = absurd (cc)

first_of : (a b : Bool) → (a && b) ≡ true → a ≡ true
first_of true b both = refl
first_of false b both = absurd (cc)

module _ {X : Type 0} (p : X → Bool) where
  kept : (b : Bool) (x : X) (rest : List X) → p x ≡ true → list_all p rest ≡ true → list_all p (cond b (x ∷ rest) rest) ≡ true
  kept true x rest has all = rw has all
  kept false x rest has all = all

  -- what all have, those have that pass a test
  pub list_all-filter : (q : X → Bool) (xs : List X) → list_all p xs ≡ true → list_all p (filter q xs) ≡ true
  list_all-filter q [] all = refl
  list_all-filter q (x ∷ xs) all = kept (q x) x (filter q xs) (first_of (p x) (list_all p xs) all) (list_all-filter q xs (both_then (p x) (list_all p xs) all))
