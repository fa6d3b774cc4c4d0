-- A merge of lists that are by stamp is by stamp.
use Rattle.std.proofs.Common.{◌≡◌, ℕ, ◌≤◌, ◌==◌, true, false, Bool, List, [], ◌∷◌, arith, inl, inr}
use Rattle.std.specs.Prelude.{All, nat_lt, nat_le, ◌&&◌, ◌||◌}
use Rattle.std.proofs.lemmas.Bool.{cases_Bool}
use Rattle.std.proofs.lemmas.Bool.Decides.{nat_tests}
use Rattle.std.proofs.lemmas.List.Elements.{All-head, All-tail}
use Rattle.mpt_rules.specs.Session.Journals.{At, Of, Row, all_merged, all_of, is_not_after, merged, party_number, placed}
use Rattle.mpt_rules.specs.Session.Parts.{IsByStamp}
use Rattle.mpt_journal.specs.Laws.{RisesOrStays, StampsNeverFall}

-- the stamp s and the number n aren't after t and m
abbrev pub before : ℕ → ℕ → ℕ → ℕ → Bool
before s n t m = nat_lt s t || (s == t && nat_le n m)

pub before-other : (s n t m : ℕ) → before s n t m ≡ false → before t m s n ≡ true
before-other s n t m h = grind (arith, nat_tests)

pub before-through : (s n t m u k : ℕ) → before s n t m ≡ true → before t m u k ≡ true → before s n u k ≡ true
before-through s n t m u k a b = grind (arith, nat_tests)

pub before-not : (s n t m u k : ℕ) → before t m s n ≡ false → before t m u k ≡ true → before u k s n ≡ false
before-not s n t m u k a b = grind (arith, nat_tests)

pub before-same : (s n t : ℕ) → s ≤ t → before s n t n ≡ true
before-same s n t h = grind (arith, nat_tests)

-- the first of the moments isn't before the stamp s and the number n
abbrev pub IsntBefore : {X : Type 0} → ℕ → ℕ → List (Of X) → Type 0
IsntBefore s n [] = Unit {0}
IsntBefore s n (x ∷ xs) = before s n x.at.stamp x.number ≡ true

-- `IsByStamp`, moment by moment
abbrev pub Sorted : {X : Type 0} → List (Of X) → Type 0
Sorted [] = Unit {0}
Sorted (x ∷ xs) = IsntBefore x.at.stamp x.number xs × Sorted xs

pub by_stamp-sorted : {X : Type 0} (xs : List (Of X)) → Sorted xs → IsByStamp xs
by_stamp-sorted [] h = tt
by_stamp-sorted (x ∷ []) h = tt
by_stamp-sorted (x ∷ y ∷ rest) h = (h.0, by_stamp-sorted (y ∷ rest) h.1)

module _ {X : Type 0} where
  follows-merged : (s n : ℕ) (xs ys : List (Of X)) → IsntBefore s n xs → IsntBefore s n ys → IsntBefore s n (merged xs ys)
  follows-merged s n [] ys a b = b
  follows-merged s n (x ∷ xs) [] a b = a
  follows-merged s n (x ∷ xs) (y ∷ ys) a b = elim (cases_Bool (is_not_after x y)) [
    | inl goes ↦ rw goes a
    | inr waits ↦ rw waits b
  ]

  sorted-placed : (x : Of X) (xs : List (Of X)) → IsntBefore x.at.stamp x.number xs → ((ys : List (Of X)) → Sorted ys → Sorted (merged xs ys))
      → (ys : List (Of X)) → Sorted ys → Sorted (placed x (merged xs) ys)
  sorted-placed x xs up rest [] h = (follows-merged x.at.stamp x.number xs [] up tt, rest [] tt)
  sorted-placed x xs up rest (y ∷ ys) h = elim (cases_Bool (is_not_after x y)) [
    | inl goes ↦ rw goes (follows-merged x.at.stamp x.number xs (y ∷ ys) up goes, rest (y ∷ ys) h)
    | inr waits ↦ rw waits (follows-merged y.at.stamp y.number (x ∷ xs) ys (before-other x.at.stamp x.number y.at.stamp y.number waits) h.0, sorted-placed x xs up rest ys h.1)
  ]

  pub sorted-merged : (xs ys : List (Of X)) → Sorted xs → Sorted ys → Sorted (merged xs ys)
  sorted-merged [] ys a b = b
  sorted-merged (x ∷ xs) ys a b = sorted-placed x xs a.0 (λ zs h. sorted-merged xs zs a.1 h) ys b

  pub sorted-all_of : (n : ℕ) (moments : List (At X)) → RisesOrStays moments → Sorted (all_of n moments)
  sorted-all_of n [] h = tt
  sorted-all_of n (x ∷ []) h = (tt, tt)
  sorted-all_of n (x ∷ y ∷ rest) h = (before-same x.stamp n y.stamp h.0, sorted-all_of n (y ∷ rest) h.1)

  pub sorted-all_merged : (rows : List (Row X)) → All (λ (row : Row X). RisesOrStays row.moments) rows → Sorted (all_merged rows)
  sorted-all_merged [] h = tt
  sorted-all_merged (row ∷ rows) h =
      sorted-merged (all_of (party_number row.party) row.moments) (all_merged rows)
      (sorted-all_of (party_number row.party) row.moments (All-head (λ (r : Row X). RisesOrStays r.moments) row rows h))
      (sorted-all_merged rows (All-tail (λ (r : Row X). RisesOrStays r.moments) row rows h))

  pub merged_by_stamp : (rows : List (Row X)) → All StampsNeverFall rows → IsByStamp (all_merged rows)
  merged_by_stamp rows h = by_stamp-sorted (all_merged rows) (sorted-all_merged rows h)
