-- Lists under a map, the first that passes, and how many pass.
use Rattle.std.proofs.Common.{◌≡◌, ◌≢◌, ◌⊎◌, ℕ, zero, suc, ◌+◌, ◌<◌, ◌≤◌, Bool, cond, ltb, List, [], ◌∷◌, length, get_or, set, map, count_by, Some, None, refl, sym, ap, ◌∙◌, inl, inr, arith}
use Rattle.std.specs.List.{position, position_or_len}
use Rattle.std.proofs.lemmas.Bool.{cases_Bool, ltb-true, ltb-false}
use Rattle.std.proofs.lemmas.List.{length-map}
use Rattle.std.proofs.lemmas.List.Sums.{sum_by-cons}

module _ {X Y : Type 0} where
  -- two functions that agree on a list's elements map it alike
  map_same : (f g : X → Y) (d : X) (xs : List X) → ((j : ℕ) → g (get_or xs j d) ≡ f (get_or xs j d)) → map g xs ≡ map f xs
  map_same f g d [] same = refl
  map_same f g d (x ∷ xs) same =
      let head : g x ≡ f x = same 0 in
      let rest = map_same f g d xs (λ j. same (suc j)) in
      rw (head, rest) refl

  -- a write of one place, under another function that agrees at every other place
  pub map-set_other : (f g : X → Y) (d : X) (xs : List X) (i : ℕ) (x : X) → ((j : ℕ) → j ≢ i → g (get_or xs j d) ≡ f (get_or xs j d)) → map g (set xs i x) ≡ set (map f xs) i (g x)
  map-set_other f g d [] i x same = refl
  map-set_other f g d (y ∷ xs) zero x same =
      ap (λ (ys : List Y). g x ∷ ys) (map_same f g d xs (λ j. same (suc j) (λ e. absurd (omega arith))))
  map-set_other f g d (y ∷ xs) (suc i) x same =
      let head : g y ≡ f y = same 0 (λ e. absurd (omega arith)) in
      let rest = map-set_other f g d xs i x (λ j differs. same (suc j) (λ e. differs (omega arith))) in
      rw (head, rest) refl

  -- the first that passes under a map
  position_or_len-map : (p : Y → Bool) (q : X → Bool) (f : X → Y) → ((x : X) → p (f x) ≡ q x) → (xs : List X) → position_or_len p (map f xs) ≡ position_or_len q xs
  position_or_len-map p q f same [] = refl
  position_or_len-map p q f same (x ∷ xs) =
      rw (same x, position_or_len-map p q f same xs) refl

  pub position-map : (p : Y → Bool) (q : X → Bool) (f : X → Y) → ((x : X) → p (f x) ≡ q x) → (xs : List X) → position p (map f xs) ≡ position q xs
  position-map p q f same xs =
      rw (position_or_len-map p q f same xs, length-map xs f) refl

  -- how many pass under a map
  pub count_by-map : (p : Y → Bool) (q : X → Bool) (f : X → Y) → ((x : X) → p (f x) ≡ q x) → (xs : List X) → count_by p (map f xs) ≡ count_by q xs
  count_by-map p q f same [] = refl
  count_by-map p q f same (x ∷ xs) =
      sum_by-cons (λ y. cond (p y) 1 0) (f x) (map f xs)
      ∙ rw (same x, count_by-map p q f same xs) (sym (sum_by-cons (λ y. cond (q y) 1 0) x xs))

-- one more element adds to the count whether it passes
count_by-cons : {X : Type 0} (p : X → Bool) (x : X) (xs : List X) → count_by p (x ∷ xs) ≡ cond (p x) 1 0 + count_by p xs
count_by-cons p x xs = sum_by-cons (λ y. cond (p y) 1 0) x xs

-- none passes where no place is the first to
count_none : {X : Type 0} (p : X → Bool) (xs : List X) → length xs ≤ position_or_len p xs → count_by p xs ≡ 0
count_none p [] none = refl
count_none p (x ∷ xs) none =
    elim (cases_Bool (p x)) [
      | inl yes' ↦ absurd (let h = rw yes' at none in omega (arith, h))
      | inr no' ↦
          let h = rw no' at none in
          let rest = count_none p xs (omega (arith, h)) in
          rw (count_by-cons p x xs, no', rest) refl
    ]

-- and one at least where one is
count_some : {X : Type 0} (p : X → Bool) (xs : List X) → position_or_len p xs < length xs → 0 < count_by p xs
count_some p [] some = some
count_some p (x ∷ xs) some =
    elim (cases_Bool (p x)) [
      | inl yes' ↦ rw (count_by-cons p x xs, yes') (omega arith)
      | inr no' ↦
          let h = rw no' at some in
          let rest = count_some p xs (omega (arith, h)) in
          rw (count_by-cons p x xs, no') (omega (arith, rest))
    ]

-- there is a first that passes where the count isn't 0
pub position_cases : {X : Type 0} (p : X → Bool) (xs : List X) →
    ((position p xs ≡ Some (position_or_len p xs)) × (0 < count_by p xs))
    ⊎ ((position p xs ≡ None) × (count_by p xs ≡ 0))
position_cases p xs =
    elim (cases_Bool (ltb (position_or_len p xs) (length xs))) [
      | inl below ↦ inl (rw below refl, count_some p xs (ltb-true _ _ below))
      | inr past ↦ inr (rw past refl, count_none p xs (ltb-false _ _ past))
    ]
