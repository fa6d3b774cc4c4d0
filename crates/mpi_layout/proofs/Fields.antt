-- What the field of bytes is: the number that they are, lowest first, and what it does not read.
use Rattle.std.proofs.Common.{◌≡◌, ℕ, zero, suc, ◌+◌, ◌*◌, ◌^◌, List, drop, get_or, refl, sym, ap, ◌∙◌, arith}
use Rattle.std.proofs.Math.Nat.{pow-suc}
use Rattle.std.proofs.lemmas.Grind.{common_steps}
use Rattle.byteorder.specs.Endian.{little_from, little_number}
use Rattle.mpi_layout.specs.Rows.{field}

-- one more byte at the top
little_from-suc : (i n : ℕ) (xs : List ℕ) → little_from i (suc n) xs ≡ little_from i n xs + get_or xs (i + n) 0 * 256 ^ n
little_from-suc i zero xs = grind arith
little_from-suc i (suc n) xs =
    let ih = little_from-suc (suc i) n xs in
    let place : suc i + n ≡ i + suc n = omega arith in
    let power : 256 ^ suc n ≡ 256 ^ n * 256 = pow-suc 256 n in
    rw (ih, place, power) (omega arith)

-- the field is the number in the bytes from its offset on
pub field-little : (xs : List ℕ) (at n : ℕ) → field xs at n ≡ little_from at n xs
unfolding field
field-little xs at zero = refl
field-little xs at (suc n) = let ih = field-little xs at n in rw (little_from-suc at n xs, ih) refl

-- what follows an offset, read from its start
pub little_from-drop : (xs : List ℕ) (at i n : ℕ) → little_from i n (drop at xs) ≡ little_from (at + i) n xs
little_from-drop xs at i zero = refl
little_from-drop xs at i (suc n) =
    let ih = little_from-drop xs at (suc i) n in
    let place : at + suc i ≡ suc (at + i) = omega arith in
    grind (arith, common_steps, ih, place)

-- the number that is read at an offset is the field there
pub field_reads : (xs : List ℕ) (at n : ℕ) → little_number n (drop at xs) ≡ field xs at n
field_reads xs at n =
    let place : at + 0 ≡ at = omega arith in
    little_from-drop xs at 0 n ∙ ap (λ i. little_from i n xs) place ∙ sym (field-little xs at n)
