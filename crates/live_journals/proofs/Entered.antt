-- The inputs of entries, one after another.
use Rattle.std.proofs.Common.{◌≡◌, ℕ, ◌+◌, ◌<◌, inl, inr, List, length, get_or, refl, sym, subst, arith}
use Rattle.std.proofs.lemmas.Bool.{cases_lt}
use Rattle.std.proofs.lemmas.List.{get_or_read_under}
use Rattle.mpt_trace.specs.declared.entry.Entry.{Entry}
use Rattle.live_journals.specs.Parties.{IsEnteredInput}

-- the inputs before a place fit
abbrev pub EnteredSoFar : List Entry → ℕ → Type 0
EnteredSoFar entries i = (k : ℕ) (d : Entry) → k < i → IsEnteredInput (get_or entries k d)

pub one_more_entered : (entries : List Entry) (i : ℕ) (e : Entry) → e ≡ get_or entries i e → i < length entries → IsEnteredInput e → EnteredSoFar entries i → EnteredSoFar entries (i + 1)
one_more_entered entries i e is_there less fits so_far k d below =
    elim (cases_lt k i) [
      | inl before ↦ so_far k d before
      | inr top ↦
          let same : k ≡ i = omega arith in
          let there : e ≡ get_or entries i d = get_or_read_under entries i (length entries) e d is_there less refl in
          subst IsEnteredInput (subst (λ (n : ℕ). e ≡ get_or entries n d) (sym same) there) fits
    ]
