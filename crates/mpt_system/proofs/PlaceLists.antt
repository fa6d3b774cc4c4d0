-- Lists of places, one by one.
use Rattle.std.proofs.Common.{◌≡◌, ◌∙◌, ℕ, ◌+◌, List, [], ◌∷◌, ◌++◌, map, ap, sym}
use Rattle.std.specs.List.{range_with_len}
use Rattle.std.proofs.lemmas.List.{map-append}
use Rattle.std.proofs.lemmas.List.FromFn.{map-range_with_len_more}
use Rattle.mpt_rules.specs.World.State.{World}

-- one more place, of the next number
pub one_more : {X Y : Type 0} (f : X → Y) (g : ℕ → Y) (items next : List X) (x : X) (a n j : ℕ) → a + n ≡ j → map f items ≡ map g (range_with_len a n) → f x ≡ g j → next ≡ items ++ x ∷ [] → map f next ≡ map g (range_with_len a (n + 1))
one_more {X} {Y} f g items next x a n j at so_far is pushed =
    ap (map f) pushed ∙ map-append f items (x ∷ [])
    ∙ ap (λ (ys : List Y). ys ++ f x ∷ []) so_far
    ∙ ap (λ (y : Y). map g (range_with_len a n) ++ y ∷ []) is
    ∙ sym (map-range_with_len_more g a n j at)

-- the same world has the same places
pub same_places : {Y : Type 0} (g : World → ℕ → Y) (a n : ℕ) (v w : World) (ys : List Y) → v ≡ w → ys ≡ map (g v) (range_with_len a n) → ys ≡ map (g w) (range_with_len a n)
same_places g a n v w ys same is = is ∙ ap (λ (x : World). map (g x) (range_with_len a n)) same
