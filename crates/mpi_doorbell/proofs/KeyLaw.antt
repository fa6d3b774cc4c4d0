-- HostDiagnostic is unlocked by the whole sequence alone.
use Rattle.std.proofs.Common.{◌≡◌, ℕ, zero, suc, ◌+◌, ◌⊎◌, true, false, if◌then◌else◌, List, [], ◌∷◌, ◌++◌, take, slice_get, refl, ap, sym, ◌∙◌, subst, inl, inr, append_assoc, add-one}
use Rattle.std.proofs.lemmas.Bool.Decides.{eqb_tells}
use Rattle.std.proofs.lemmas.List.{append-nil}
use Rattle.mpi_doorbell.specs.Keys.{is_key, place_after, place_of, unlock_keys}

pub place_of-append : (p : ℕ) (xs ys : List ℕ) → place_of p (xs ++ ys) ≡ place_of (place_of p xs) ys
place_of-append p [] ys = refl
place_of-append p (x ∷ xs) ys = place_of-append (place_after p x) xs ys

-- a key isn't the list's at this place, or it is
IsNext : List ℕ → ℕ → ℕ → Type 0
IsNext xs p k = (is_key (slice_get xs p) k ≡ false) ⊎ ((is_key (slice_get xs p) k ≡ true) × (take (suc p) xs ≡ take p xs ++ k ∷ []))

next_first : (x k : ℕ) (xs : List ℕ) → IsNext (x ∷ xs) zero k
unfolding IsNext
next_first x k xs =
    elim (eqb_tells k x) [ inl e ↦ inr (e.0, ap (λ y. y ∷ []) (sym e.1)) | inr e ↦ inl e.0 ]

next_later : (x p k : ℕ) (xs : List ℕ) → IsNext xs p k → IsNext (x ∷ xs) (suc p) k
unfolding IsNext
next_later x p k xs (inl e) = inl e
next_later x p k xs (inr e) = inr (e.0, ap (λ ys. x ∷ ys) e.1)

next_of : (xs : List ℕ) (p k : ℕ) → IsNext xs p k
next_of [] p k = unfold IsNext in inl refl
next_of (x ∷ xs) zero k = next_first x k xs
next_of (x ∷ xs) (suc p) k = next_later x p k xs (next_of xs p k)

-- a key begins anew, or it is the next of the sequence
GoesOn : ℕ → ℕ → Type 0
GoesOn p k = (place_after p k ≡ 0) ⊎ ((place_after p k ≡ p + 1) × (take (p + 1) unlock_keys ≡ take p unlock_keys ++ k ∷ []))

goes_on_if : (p k : ℕ) → IsNext unlock_keys p k → GoesOn p k
unfolding IsNext GoesOn
goes_on_if p k (inl e) = inl (ap (λ b. if b then p + 1 else 0) e)
goes_on_if p k (inr e) = inr (ap (λ b. if b then p + 1 else 0) e.0, ap (λ n. take n unlock_keys) (add-one p) ∙ e.1)

-- the last keys are the sequence's, as many as the place says, and the first of them came at place 0
pub record Entered (keys : List ℕ) : Type 0 where
  pub earlier : List ℕ
  pub split : keys ≡ earlier ++ take (place_of 0 keys) unlock_keys
  pub fresh : place_of 0 earlier ≡ 0

entered_step : (keys : List ℕ) (k : ℕ) → GoesOn (place_of 0 keys) k → Entered keys → Entered (keys ++ k ∷ [])
unfolding GoesOn
entered_step keys k (inl e) h =
    let anew : place_of 0 (keys ++ k ∷ []) ≡ 0 = place_of-append 0 keys (k ∷ []) ∙ e in
    record {
      earlier = keys ++ k ∷ [];
      split = sym (append-nil (keys ++ k ∷ [])) ∙ ap (λ n. (keys ++ k ∷ []) ++ take n unlock_keys) (sym anew);
      fresh = anew;
    }
entered_step keys k (inr e) h =
    let on : place_of 0 (keys ++ k ∷ []) ≡ place_of 0 keys + 1 = place_of-append 0 keys (k ∷ []) ∙ e.0 in
    record {
      earlier = h.earlier;
      split =
          ap (λ xs. xs ++ k ∷ []) h.split ∙ append_assoc h.earlier (take (place_of 0 keys) unlock_keys) (k ∷ [])
          ∙ ap (λ xs. h.earlier ++ xs) (sym e.1) ∙ ap (λ n. h.earlier ++ take n unlock_keys) (sym on);
      fresh = h.fresh;
    }

entered_more : (before keys : List ℕ) → Entered before → Entered (before ++ keys)
entered_more before [] h = subst Entered (sym (append-nil before)) h
entered_more before (k ∷ keys) h =
    subst Entered (append_assoc before (k ∷ []) keys)
    (entered_more (before ++ k ∷ []) keys
    (entered_step before k (goes_on_if (place_of 0 before) k (next_of unlock_keys (place_of 0 before) k)) h))

pub entered : (keys : List ℕ) → Entered keys
entered keys = entered_more [] keys (record { earlier = []; split = refl; fresh = refl })
