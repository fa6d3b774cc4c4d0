use Rattle.std.proofs.Common.{◌≡◌, ℕ, ◌+◌, ◌-◌, ◌≤◌, ◌∙◌, ap, List, length, slice_index, drop, ◌++◌, replicate, inl, inr, arith}
use Rattle.std.proofs.lemmas.Bool.{cases_lt}
use Rattle.std.proofs.lemmas.List.{get_or-append_right, get_or-drop, get_or-replicate, get_or_past, length-replicate}
use Rattle.scsi_disk.proofs.cdb.Cdb.new.Goals as goal

-- a list of zeros has no other number
zeros : (n k : ℕ) → slice_index (replicate n 0) k ≡ 0
zeros n k =
    elim (cases_lt k n) [
      | inl before ↦ get_or-replicate n k 0 0 before
      | inr past ↦ get_or_past (replicate n 0) k 0 (omega (arith, length-replicate {A = ℕ} n 0))
    ]

-- past the bytes that were written stand zeros
padded : (xs : List ℕ) (len k : ℕ) → length xs ≡ len → len ≤ k → slice_index (xs ++ drop len (replicate 32 0)) k ≡ 0
padded xs len k is past =
    get_or-append_right xs (drop len (replicate 32 0)) len k 0 is past
    ∙ get_or-drop len (replicate 32 0) (k - len) 0
    ∙ zeros 32 (len + (k - len))

pub invariant_of-result : goal.invariant_of-result
invariant_of-result c = (c.requires, λ k past. padded c.copy_from_slice.new.self (length c.args.bytes.now) k (ap length c.copy_from_slice.ensures.after) past)
