-- Places as bits: a write of one, and the first from a place on.
use Rattle.std.proofs.Common.{◌≡◌, ◌≢◌, ℕ, zero, suc, ◌+◌, ◌-◌, ◌*◌, ◌/◌, ◌%◌, ◌^◌, ◌<◌, ◌≤◌, Bool, true, false, ◌&&◌, eqb, bit_and, bit_or, List, [], ◌∷◌, length, get_or, set, refl, sym, ap, ◌∙◌, inl, inr, arith}
use Rattle.std.specs.Int.{bit_at, bit_not, trailing_zeros, w64}
use Rattle.std.proofs.lemmas.Bool.{cases_eq, cases_lt, cases_Bool}
use Rattle.std.proofs.lemmas.List.{get_or-set_same, get_or-set_other}
use Rattle.std.proofs.Math.Nat.{mod-lt}
use Rattle.std.proofs.lemmas.Nat.{and_le_r}
use Rattle.std.proofs.lemmas.Nat.Bits.{bit_at-lt, bit_at-zero, bit_at_and, bit_at_mask_inside, bit_at_mask_below, bit_at_set_same, bit_at_set_other, bit_at_clear_same, bit_at_clear_other, bit_at-trailing_zeros, ones_shl}
use Rattle.smid_pool.specs.VacantSet.{has}

-- a place by its word and its bit
has_at : (words : List ℕ) (place i r : ℕ) → r < 64 → place ≡ 64 * i + r → has words place ≡ eqb (bit_at (get_or words i 0) r) 1
unfolding has
has_at words place i r within is =
    let word : place / 64 ≡ i = omega arith in
    let bit : place % 64 ≡ r = omega arith in
    rw (word, bit) refl

-- a word is written, and of its bits all but one stay
written_others : (words : List ℕ) (place w : ℕ) → place / 64 < length words →
    ((r : ℕ) → r < 64 → r ≢ place % 64 → bit_at w r ≡ bit_at (get_or words (place / 64) 0) r) →
    (other : ℕ) → other ≢ place → has (set words (place / 64) w) other ≡ has words other
unfolding has
written_others words place w within bits other differs =
    elim (cases_eq (other / 64) (place / 64)) [
      | inl same ↦
          let apart : other % 64 ≢ place % 64 = λ e. differs (omega arith) in
          rw (same, get_or-set_same words (place / 64) w 0 within, bits (other % 64) (omega arith) apart) refl
      | inr elsewhere ↦ rw (get_or-set_other words (place / 64) (other / 64) w 0 elsewhere) refl
    ]

written_here : (words : List ℕ) (place w : ℕ) → place / 64 < length words → has (set words (place / 64) w) place ≡ eqb (bit_at w (place % 64)) 1
unfolding has
written_here words place w within = rw (get_or-set_same words (place / 64) w 0 within) refl

pub inserted_here : (words : List ℕ) (place : ℕ) → place / 64 < length words → has (set words (place / 64) (bit_or (get_or words (place / 64) 0) (1 * 2 ^ (place % 64) % 2 ^ 64))) place ≡ true
inserted_here words place within =
    written_here words place _ within
    ∙ ap (λ (b : ℕ). eqb b 1) (bit_at_set_same w64 (get_or words (place / 64) 0) (place % 64) (omega arith))

pub inserted_others : (words : List ℕ) (place : ℕ) → place / 64 < length words → (other : ℕ) → other ≢ place → has (set words (place / 64) (bit_or (get_or words (place / 64) 0) (1 * 2 ^ (place % 64) % 2 ^ 64))) other ≡ has words other
inserted_others words place within =
    written_others words place _ within
    (λ r below differs. bit_at_set_other w64 (get_or words (place / 64) 0) (place % 64) (omega arith) r differs)

pub removed_here : (words : List ℕ) (place : ℕ) → place / 64 < length words → has (set words (place / 64) (bit_and (get_or words (place / 64) 0) (bit_not w64 (1 * 2 ^ (place % 64) % 2 ^ 64)))) place ≡ false
removed_here words place within =
    written_here words place _ within
    ∙ ap (λ (b : ℕ). eqb b 1) (bit_at_clear_same w64 (get_or words (place / 64) 0) (place % 64) (omega arith))

pub removed_others : (words : List ℕ) (place : ℕ) → place / 64 < length words → (other : ℕ) → other ≢ place → has (set words (place / 64) (bit_and (get_or words (place / 64) 0) (bit_not w64 (1 * 2 ^ (place % 64) % 2 ^ 64)))) other ≡ has words other
removed_others words place within =
    written_others words place _ within
    (λ r below differs. bit_at_clear_other w64 (get_or words (place / 64) 0) (place % 64) (omega arith) r below differs)

-- the words of all 280 places
abbrev full_words : List ℕ
full_words = 18446744073709551615 ∷ 18446744073709551615 ∷ 18446744073709551615 ∷ 18446744073709551615 ∷ 16777215 ∷ []

-- each place below n is in the set
all_below : List ℕ → ℕ → Bool
all_below words zero = true
all_below words (suc n) = has words n && all_below words n

each_below : (words : List ℕ) (n : ℕ) → all_below words n ≡ true → (place : ℕ) → place < n → has words place ≡ true
unfolding all_below
each_below words zero all place below = absurd (omega arith)
each_below words (suc n) all place below =
    elim (cases_Bool (has words n)) [
      | inl here ↦
          elim (cases_eq place n) [
            | inl same ↦ rw same here
            | inr differs ↦ each_below words n (rw here at all) place (omega arith)
          ]
      | inr gone ↦ absurd (let e = rw gone at all in cc)
    ]

pub full_has : (place : ℕ) → place < 280 → has full_words place ≡ true
unfolding all_below has
full_has = each_below full_words 280 refl

-- the mask `MAX << low` keeps the bits from low on
masked_high : (n low r : ℕ) → low ≤ r → r < 64 → bit_at (bit_and n ((2 ^ 64 - 1) * 2 ^ low % 2 ^ 64)) r ≡ bit_at n r
masked_high n low r from within =
    rw (ones_shl 64 low (omega arith), bit_at_and n (2 ^ 64 - 2 ^ low) r, bit_at_mask_inside low 64 r from within)
    (let small = bit_at-lt n r in omega arith)

masked_low : (n low r : ℕ) → r < low → low < 64 → bit_at (bit_and n ((2 ^ 64 - 1) * 2 ^ low % 2 ^ 64)) r ≡ 0
masked_low n low r below within =
    rw (ones_shl 64 low (omega arith), bit_at_and n (2 ^ 64 - 2 ^ low) r, bit_at_mask_below low 64 r below)
    (omega arith)

masked_fits : (n low : ℕ) → bit_and n ((2 ^ 64 - 1) * 2 ^ low % 2 ^ 64) < 2 ^ 64
masked_fits n low =
    let mask : (2 ^ 64 - 1) * 2 ^ low % 2 ^ 64 < 2 ^ 64 = mod-lt ((2 ^ 64 - 1) * 2 ^ low) (omega arith) in
    omega (arith, and_le_r n ((2 ^ 64 - 1) * 2 ^ low % 2 ^ 64), mask)

-- a word with none of its bits from low on has no place in the set
pub none_in_word : (words : List ℕ) (start i low : ℕ) → low < 64 → start ≤ 64 * i + low →
    ((place : ℕ) → start ≤ place → place < 64 * i + low → has words place ≡ false) →
    bit_and (get_or words i 0) ((2 ^ 64 - 1) * 2 ^ low % 2 ^ 64) ≡ 0 →
    (place : ℕ) → start ≤ place → place < 64 * (i + 1) + 0 → has words place ≡ false
none_in_word words start i low small from before none place after below =
    elim (cases_lt place (64 * i + low)) [
      | inl earlier ↦ before place after earlier
      | inr later ↦
          has_at words place i (place - 64 * i) (omega arith) (omega arith)
          ∙ ap (λ (b : ℕ). eqb b 1)
          (sym (masked_high (get_or words i 0) low (place - 64 * i) (omega arith) (omega arith))
          ∙ ap (λ (n : ℕ). bit_at n (place - 64 * i)) none
          ∙ bit_at-zero (place - 64 * i))
    ]

-- and else the lowest of them is the first in the set
pub first_in_word : (words : List ℕ) (start i low word : ℕ) → low < 64 → start ≤ 64 * i + low →
    ((place : ℕ) → start ≤ place → place < 64 * i + low → has words place ≡ false) →
    word ≡ bit_and (get_or words i 0) ((2 ^ 64 - 1) * 2 ^ low % 2 ^ 64) → word ≢ 0 →
    (start ≤ 64 * i + trailing_zeros w64 word) × (has words (64 * i + trailing_zeros w64 word) ≡ true)
    × ((place : ℕ) → start ≤ place → place < 64 * i + trailing_zeros w64 word → has words place ≡ false)
first_in_word words start i low word small from before is some =
    let fits : word < 2 ^ 64 = rw is (masked_fits (get_or words i 0) low) in
    let lowest = bit_at-trailing_zeros w64 word (omega arith) fits in
    let high : low ≤ trailing_zeros w64 word =
    elim (cases_lt (trailing_zeros w64 word) low) [
      | inl below ↦ absurd (let e = masked_low (get_or words i 0) low (trailing_zeros w64 word) below small in
          let f : bit_at word (trailing_zeros w64 word) ≡ 0 = ap (λ (n : ℕ). bit_at n (trailing_zeros w64 word)) is ∙ e in
          omega (arith, f, lowest.1))
      | inr above ↦ above
    ] in (
      omega arith,
      has_at words (64 * i + trailing_zeros w64 word) i (trailing_zeros w64 word) lowest.0 refl
          ∙ ap (λ (b : ℕ). eqb b 1)
          (sym (masked_high (get_or words i 0) low (trailing_zeros w64 word) high lowest.0)
          ∙ sym (ap (λ (n : ℕ). bit_at n (trailing_zeros w64 word)) is)
          ∙ lowest.1),
      λ place after below.
          elim (cases_lt place (64 * i + low)) [
            | inl earlier ↦ before place after earlier
            | inr later ↦
                has_at words place i (place - 64 * i) (omega (arith, lowest.0)) (omega arith)
                ∙ ap (λ (b : ℕ). eqb b 1)
                (sym (masked_high (get_or words i 0) low (place - 64 * i) (omega arith) (omega (arith, lowest.0)))
                ∙ sym (ap (λ (n : ℕ). bit_at n (place - 64 * i)) is)
                ∙ lowest.2 (place - 64 * i) (omega arith))
          ],
    )
