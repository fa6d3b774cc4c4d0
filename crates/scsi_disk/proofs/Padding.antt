-- A list of bytes reads the same with zeros after it.
use Rattle.std.proofs.Common.{◌≡◌, ℕ, zero, suc, ◌+◌, ◌≤◌, List, take, drop, get_or, slice_index, slice_range, ◌-◌, refl, sym, ◌∙◌, inl, inr, arith}
use Rattle.std.proofs.lemmas.Bool.{cases_lt}
use Rattle.std.proofs.lemmas.List.{get_or-take, get_or-drop, get_or_past, length-take}
use Rattle.byteorder.specs.Endian.{big_from, big_number}
use Rattle.byteorder.specs.Numbers.{big_from-take}

-- a number reads the bytes at its places alone
big_from-same : (i n : ℕ) (xs ys : List ℕ) → ((k : ℕ) → slice_index xs k ≡ slice_index ys k) → big_from i n xs ≡ big_from i n ys
big_from-same i zero xs ys same = refl
big_from-same i (suc n) xs ys same =
    let byte = same i in
    let rest = big_from-same (suc i) n xs ys same in
    rw (byte, rest) refl

-- the bytes without the zeros after them
get_or-take_padded : (len : ℕ) (bytes : List ℕ) → ((k : ℕ) → len ≤ k → slice_index bytes k ≡ 0) → (k : ℕ) → get_or bytes k 0 ≡ get_or (take len bytes) k 0
get_or-take_padded len bytes zeros k =
    elim (cases_lt k len) [
      | inl before ↦ sym (get_or-take len bytes k 0 before)
      | inr past ↦ zeros k past ∙ sym (get_or_past (take len bytes) k 0 (omega (arith, length-take len bytes)))
    ]

-- a number from a place on, within the first 32 bytes
pub big_number-padded : (n at len : ℕ) (bytes : List ℕ) → at + n ≤ 32 → ((k : ℕ) → len ≤ k → slice_index bytes k ≡ 0) → big_number n (slice_range bytes at 32) ≡ big_number n (drop at (take len bytes))
big_number-padded n at len bytes within zeros =
    big_from-take 0 n (32 - at) (drop at bytes) (omega arith)
    ∙ big_from-same 0 n (drop at bytes) (drop at (take len bytes))
    (λ k. get_or-drop at bytes k 0 ∙ get_or-take_padded len bytes zeros (at + k) ∙ sym (get_or-drop at (take len bytes) k 0))
