-- Entries that fit, one after another.
use Rattle.std.proofs.Common.{◌≡◌, ℕ, ◌+◌, ◌<◌, inl, inr, List, length, get_or, refl, sym, subst, arith}
use Rattle.std.proofs.lemmas.Bool.{cases_lt}
use Rattle.std.proofs.lemmas.List.{get_or_read_under}
use Rattle.mpt_trace.specs.declared.entry.Entry.{Entry}
use Rattle.mpt_trace.specs.ReadingEntries.{IsEntry, MovesItsKind}

-- the entries before a place fit
abbrev pub FitSoFar : List Entry → ℕ → Type 0
FitSoFar entries i = (k : ℕ) (d : Entry) → k < i → MovesItsKind (get_or entries k d) → IsEntry (get_or entries k d)

pub fit_more : (entries : List Entry) (i : ℕ) (e : Entry) → e ≡ get_or entries i e → i < length entries → (MovesItsKind e → IsEntry e) → FitSoFar entries i → FitSoFar entries (i + 1)
fit_more entries i e is_there less fits so_far k d below kind =
    elim (cases_lt k i) [
      | inl before ↦ so_far k d before kind
      | inr top ↦
          let same : k ≡ i = omega arith in
          let there : e ≡ get_or entries i d = get_or_read_under entries i (length entries) e d is_there less refl in
          let here : e ≡ get_or entries k d = subst (λ (n : ℕ). e ≡ get_or entries n d) (sym same) there in
          subst IsEntry here (fits (subst MovesItsKind (sym here) kind))
    ]
