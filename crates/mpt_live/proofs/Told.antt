-- Entries that are told, one after the other.
use Rattle.std.proofs.Common.{◌≡◌, List, [], ◌∷◌, ap, arith, drop, length, refl}

pub none_left : {X : Type 0} (xs : List X) → xs ≡ drop 1 xs → xs ≡ []
none_left [] is = refl
none_left (x ∷ xs) is = absurd (omega (arith, ap length is))
