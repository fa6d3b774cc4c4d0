-- What holds at each place of two lists.
use Rattle.std.proofs.Common.{◌≡◌, ℕ, suc, ◌<◌, List, [], ◌∷◌, length, slice_index_or, arith}
use Rattle.std.specs.List.{AllZip}

-- where the lists are as long, and it is so at each place, it is so of the lists
pub zipped : {A : Type 0} (R : A → A → Type 0) (xs ys : List A) → length xs ≡ length ys
    → ((i : ℕ) (d : A) → i < length xs → R (slice_index_or xs i d) (slice_index_or ys i d)) → AllZip R xs ys
zipped R [] [] same each = tt
zipped R [] (y ∷ ys) same each = absurd (omega arith)
zipped R (x ∷ xs) [] same each = absurd (omega arith)
zipped R (x ∷ xs) (y ∷ ys) same each = (each 0 x (omega arith), zipped R xs ys (omega arith) (λ i d less. each (suc i) d (omega arith)))
