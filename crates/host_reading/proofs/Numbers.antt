-- The numbers in bytes behind which zeros stand.
use Rattle.std.proofs.Common.{◌≡◌, ◌∙◌, ℕ, zero, suc, ◌+◌, ◌-◌, ◌<◌, ◌≤◌, [], ◌∷◌, ◌++◌, List, length, get_or, take, drop, replicate, refl, sym, arith, inl, inr, min}
use Rattle.std.proofs.lemmas.Bool.{cases_lt}
use Rattle.std.proofs.lemmas.Grind.{common_steps}
use Rattle.std.proofs.lemmas.List.{get_or-replicate, get_or_past, get_or-take, length-replicate}
use Rattle.mpi_layout.specs.Rows.{field}

abbrev none : ℕ
none = 0

zeros_alone : (m i : ℕ) → get_or (replicate m none) i none ≡ none
zeros_alone m i =
    elim (cases_lt i m) [
      | inl within ↦ get_or-replicate m i 0 0 within
      | inr past ↦ get_or_past (replicate m 0) i 0 (rw length-replicate past)
    ]

-- zeros read as bytes that aren't there
pub zeros_behind : (xs : List ℕ) (m i : ℕ) → get_or (xs ++ replicate m 0) i 0 ≡ get_or xs i 0
zeros_behind [] m i = zeros_alone m i
zeros_behind (x ∷ xs) m zero = refl
zeros_behind (x ∷ xs) m (suc i) = zeros_behind xs m i

-- the field of bytes that are the same there
pub field_same : (xs ys : List ℕ) (at w : ℕ) → ((i : ℕ) → i < at + w → get_or xs i 0 ≡ get_or ys i 0) → field xs at w ≡ field ys at w
unfolding field
field_same xs ys at zero same = refl
field_same xs ys at (suc w) same =
    let before : field xs at w ≡ field ys at w = field_same xs ys at w (λ i within. same i (omega arith)) in
    let here : get_or xs (at + w) 0 ≡ get_or ys (at + w) 0 = same (at + w) (omega arith) in
    rw (before, here) refl

-- the first bytes, with zeros behind them
pub front_same : (xs : List ℕ) (most n m i : ℕ) → n ≡ min (length xs) most → i < most → get_or (take n xs ++ replicate m 0) i 0 ≡ get_or xs i 0
front_same xs most n m i count within =
    zeros_behind (take n xs) m i
    ∙ elim (cases_lt i n) [
      | inl here ↦ get_or-take n xs i 0 here
      | inr past ↦
          let long : length xs ≤ i = omega (arith, count, past, within) in
          let short : length (take n xs) ≤ i = omega (arith, take_short n xs, long) in
          get_or_past (take n xs) i 0 short ∙ sym (get_or_past xs i 0 long)
    ]
  where
    take_short : (k : ℕ) (ys : List ℕ) → length (take k ys) ≤ length ys
    take_short zero ys = omega arith
    take_short (suc k) [] = omega arith
    take_short (suc k) (y ∷ ys) = omega (arith, take_short k ys)

-- all that is left of bytes from a place on
pub take_rest : (xs : List ℕ) (at : ℕ) → take (length xs - at) (drop at xs) ≡ drop at xs
take_rest xs at = grind (arith, common_steps)
