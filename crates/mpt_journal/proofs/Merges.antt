-- The library's merge makes the merge of moments.
use Rattle.std.proofs.Common.{◌≡◌, List, [], ◌∷◌, map, Bool, refl, sym, ap, inl, inr}
use Rattle.std.proofs.lemmas.Bool.{cases_Bool}
use Rattle.itertools.specs.List.{merge_at, merge_by}
use Rattle.mpt_rules.specs.Session.Journals.{Of, is_not_after, merged, placed}

pub merged-nil : {X : Type 0} (xs : List (Of X)) → merged xs [] ≡ xs
merged-nil [] = refl
merged-nil (x ∷ xs) = ap (λ zs. x ∷ zs) (merged-nil xs)

module _ {A X : Type 0} (f : A → Of X) where
  abbrev pub is_first : A → A → Bool
  is_first a b = is_not_after (f a) (f b)

  map-merge_at : (x : A) (xs : List A) → ((ys : List A) → map f (merge_by is_first xs ys) ≡ merged (map f xs) (map f ys))
      → (ys : List A) → map f (merge_at is_first x xs (merge_by is_first xs) ys) ≡ placed (f x) (merged (map f xs)) (map f ys)
  map-merge_at x xs rest [] = sym (ap (λ zs. f x ∷ zs) (merged-nil (map f xs)))
  map-merge_at x xs rest (y ∷ ys) = elim (cases_Bool (is_not_after (f x) (f y))) [
    | inl goes ↦ rw goes (ap (λ zs. f x ∷ zs) (rest (y ∷ ys)))
    | inr waits ↦ rw waits (ap (λ zs. f y ∷ zs) (map-merge_at x xs rest ys))
  ]

  pub map-merge_by : (xs ys : List A) → map f (merge_by is_first xs ys) ≡ merged (map f xs) (map f ys)
  map-merge_by [] ys = refl
  map-merge_by (x ∷ xs) ys = map-merge_at x xs (map-merge_by xs) ys
