-- A list read from an index on, once round.
use Rattle.std.proofs.Common.{◌≡◌, ℕ, zero, suc, ◌+◌, ◌-◌, ◌<◌, ◌≤◌, ◌⊎◌, inl, inr, Bool, true, false, cond, List, [], ◌∷◌, ◌++◌, length, take, drop, get_or, set, replicate, refl, sym, ap, ◌∙◌, append_assoc, arith}
use Rattle.std.specs.List.{list_all, take_while}
use Rattle.std.proofs.lemmas.List.{drop-set-lt, drop-set-add, take-set-le, set-append_left, set-append_right, drop_more, take_more_set, append-nil, length-set, drop_all, take_all, length-drop, get_or-drop, get_or-take, get_or_append_left, get_or-append_right}
use Rattle.std.proofs.lemmas.Bool.Decides.{nat_tests}
use Rattle.std.proofs.lemmas.List.Sums.{take_while-cons}
use Rattle.std.proofs.Math.Seq.{take-set-lt}
use Rattle.mpi_rings.specs.PostEntries.{from_index}

-- what a write at a place is from the index on: before the end of the list, or after its beginning
set_ahead : (xs : List ℕ) (h i y : ℕ) → h + i < length xs → from_index h (set xs (h + i) y) ≡ set (from_index h xs) i y
set_ahead xs h i y less =
    let inside : i < length (drop h xs) = simp length-drop (omega arith) in
    rw (drop-set-add h xs i y, take-set-le h xs (h + i) y (omega arith), set-append_left (drop h xs) (take h xs) i y inside) refl

set_behind : (xs : List ℕ) (h i j y : ℕ) → h ≤ length xs → j < h → length xs + j ≡ h + i → from_index h (set xs j y) ≡ set (from_index h xs) i y
set_behind xs h i j y room less is =
    let long : length (drop h xs) ≡ length xs - h = length-drop h xs in
    let place : i - (length xs - h) ≡ j = omega arith in
    rw (drop-set-lt h xs j y less, take-set-lt h xs j y less, set-append_right (drop h xs) (take h xs) (length xs - h) i y long (omega arith), place) refl

-- what a read at a place is from the index on
get_ahead : (xs : List ℕ) (h i d : ℕ) → h + i < length xs → get_or xs (h + i) d ≡ get_or (from_index h xs) i d
get_ahead xs h i d less =
    let inside : i < length (drop h xs) = simp length-drop (omega arith) in
    sym (get_or_append_left (drop h xs) (take h xs) d i inside ∙ get_or-drop h xs i d)

get_behind : (xs : List ℕ) (h i j d : ℕ) → h ≤ length xs → j < h → length xs + j ≡ h + i → get_or xs j d ≡ get_or (from_index h xs) i d
get_behind xs h i j d room less is =
    let long : length (drop h xs) ≡ length xs - h = length-drop h xs in
    let place : i - (length xs - h) ≡ j = omega arith in
    sym (get_or-append_right (drop h xs) (take h xs) (length xs - h) i d long (omega arith) ∙ ap (λ k. get_or (take h xs) k d) place ∙ get_or-take h xs j d less)

-- one further on, where the element at the index was written
on_by_one : (xs : List ℕ) (h y : ℕ) → h < length xs → from_index (h + 1) (set xs h y) ≡ drop 1 (from_index h xs) ++ y ∷ []
on_by_one xs h y less =
    let rest : drop 1 (drop h xs ++ take h xs) ≡ drop (h + 1) xs ++ take h xs = rw (drop_more xs h 0 less) refl in
    let behind : take (h + 1) (set xs h y) ≡ take h xs ++ y ∷ [] = take_more_set xs h y less in
    rw (drop-set-lt (h + 1) xs h y (omega arith), behind, rest) (sym (append_assoc (drop (h + 1) xs) (take h xs) (y ∷ [])))

-- from the end on is from the beginning on
from_end : (xs : List ℕ) (n : ℕ) → length xs ≡ n → from_index n xs ≡ from_index 0 xs
from_end xs n is = rw (drop_all n xs (omega arith), take_all n xs (omega arith)) (sym (append-nil xs))

-- the same at the next index of a list of n elements
pub round_by_one : (xs : List ℕ) (n h j y : ℕ) → length xs ≡ n → h < n → ((h + 1 < n) × (j ≡ h + 1)) ⊎ ((h + 1 ≡ n) × (j ≡ 0)) → from_index j (set xs h y) ≡ drop 1 (from_index h xs) ++ y ∷ []
round_by_one xs n h j y size less (inl ahead) = rw ahead.1 (on_by_one xs h y (omega arith))
round_by_one xs n h j y size less (inr end) =
    rw (end.1, sym (from_end (set xs h y) (h + 1) (simp length-set (omega arith)))) (on_by_one xs h y (omega arith))

-- the place of index i from h on, once round n
abbrev pub IsPlace : ℕ → ℕ → ℕ → ℕ → Type 0
IsPlace n h i place = ((h + i < n) × (place ≡ h + i)) ⊎ ((place < h) × (n + place ≡ h + i))

pub round_set : (xs : List ℕ) (n h i place y : ℕ) → length xs ≡ n → h < n → IsPlace n h i place → from_index h (set xs place y) ≡ set (from_index h xs) i y
round_set xs n h i place y size less (inl ahead) = rw ahead.1 (set_ahead xs h i y (omega arith))
round_set xs n h i place y size less (inr behind) = set_behind xs h i place y (omega arith) behind.0 (omega arith)

pub round_get : (xs : List ℕ) (n h i place d : ℕ) → length xs ≡ n → h < n → IsPlace n h i place → get_or xs place d ≡ get_or (from_index h xs) i d
round_get xs n h i place d size less (inl ahead) = rw ahead.1 (get_ahead xs h i d (omega arith))
round_get xs n h i place d size less (inr behind) = get_behind xs h i place d (omega arith) behind.0 (omega arith)

-- the elements in front that pass, up to one that doesn't
pub take_while-before : (p : ℕ → Bool) (xs : List ℕ) (u k : ℕ) → list_all p xs ≡ true → p u ≡ false → take_while p (xs ++ replicate k u) ≡ xs
take_while-before p [] u zero all fails = refl
take_while-before p [] u (suc k) all fails = rw (take_while-cons p u (replicate k u), fails) refl
take_while-before p (x ∷ xs) u k all fails =
    let parts : (p x ≡ true) × (list_all p xs ≡ true) = grind (arith, nat_tests) in
    let ih = take_while-before p xs u k parts.1 fails in
    rw (take_while-cons p x (xs ++ replicate k u), parts.0, ih) refl

-- they all pass
pub take_while-all : (p : ℕ → Bool) (xs : List ℕ) → list_all p (take_while p xs) ≡ true
take_while-all p [] = refl
take_while-all p (x ∷ xs) = rw (take_while-cons p x xs) (split (take_while-all p xs) (p x) refl) where
  split : list_all p (take_while p xs) ≡ true → (passes : Bool) → p x ≡ passes → list_all p (cond passes (x ∷ take_while p xs) []) ≡ true
  split rest true is = rw is rest
  split rest false is = refl
