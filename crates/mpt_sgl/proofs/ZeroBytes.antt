-- Bytes that are zero, and the elements in them.
use Rattle.std.proofs.Common.{◌≡◌, ℕ, zero, suc, ◌+◌, ◌*◌, Bool, true, false, ◌&&◌, eqb, List, [], ◌∷◌, ◌++◌, take, drop, replicate, refl, ap, sym, ◌∙◌, arith}
use Rattle.std.proofs.lemmas.Bool.Decides.{nat_tests}
use Rattle.std.proofs.lemmas.List.{drop-drop, take-append-drop}
use Rattle.std.proofs.lemmas.List.Folds.{list_all-append}
use Rattle.std.proofs.Math.Seq.{take-add}
use Rattle.byteorder.specs.Endian.{little_from}
use Rattle.byteorder.specs.Numbers.{little_from-cons}
use Rattle.mpi_layout.specs.Rows.{field}
use Rattle.mpi_layout.proofs.Fields.{field_reads}
use Rattle.mpt_sgl.specs.declared.element.Element.{Element}
use Rattle.mpt_sgl.specs.Elements.{element_at, elements_in, is_zero, unused_element}

pub and_true : (a b : Bool) → (a && b) ≡ true → (a ≡ true) × (b ≡ true)
and_true true b e = (refl, e)
and_true false b e = cc

-- a number that is 0 has bytes that are
number_zero : (n : ℕ) (bytes : List ℕ) → little_from 0 n bytes ≡ 0 → is_zero (take n bytes) ≡ true
number_zero zero bytes e = refl
number_zero (suc n) [] e = refl
number_zero (suc n) (b ∷ bytes) e =
    let moved = little_from-cons 0 n b bytes in
    let first : b ≡ 0 = omega arith in
    let ih = number_zero n bytes (omega (arith, moved)) in
    rw (first, ih) refl

-- and bytes that are make one
pub zero_number : (n : ℕ) (bytes : List ℕ) → is_zero bytes ≡ true → little_from 0 n bytes ≡ 0
zero_number zero bytes e = refl
zero_number (suc n) [] e = let rest : little_from 1 n [] ≡ 0 = none 1 n in omega (arith, rest) where
  none : (i n : ℕ) → little_from i n [] ≡ 0
  none i zero = refl
  none i (suc n) = let ih = none (suc i) n in omega (arith, ih)
zero_number (suc n) (b ∷ bytes) e =
    let both = and_true (eqb b 0) (is_zero bytes) e in
    let moved = little_from-cons 0 n b bytes in
    let first : b ≡ 0 = grind (arith, nat_tests) in
    let ih = zero_number n bytes both.1 in
    omega (arith, moved, ih)

pub zero_drop : (n : ℕ) (bytes : List ℕ) → is_zero bytes ≡ true → is_zero (drop n bytes) ≡ true
zero_drop zero bytes e = e
zero_drop (suc n) [] e = refl
zero_drop (suc n) (b ∷ bytes) e = zero_drop n bytes (and_true (eqb b 0) (is_zero bytes) e).1

-- what is behind both places
pub zero_behind : (at more : ℕ) (bytes : List ℕ) → is_zero (drop at bytes) ≡ true → is_zero (drop (at + more) bytes) ≡ true
zero_behind at more bytes e = ap is_zero (sym (drop-drop more at bytes)) ∙ zero_drop more (drop at bytes) e

field_zero : (bytes : List ℕ) (at n : ℕ) → is_zero bytes ≡ true → field bytes at n ≡ 0
field_zero bytes at n e = sym (field_reads bytes at n) ∙ zero_number n (drop at bytes) (zero_drop at bytes e)

zero_element : (bytes : List ℕ) → is_zero bytes ≡ true → element_at bytes ≡ unused_element
zero_element bytes e = rw (field_zero bytes 0 3 e, field_zero bytes 3 1 e, field_zero bytes 4 8 e) refl

-- the elements of bytes that are zero
pub zero_elements : (n : ℕ) (bytes : List ℕ) → is_zero bytes ≡ true → elements_in n bytes ≡ replicate n unused_element
unfolding elements_in
zero_elements zero bytes e = refl
zero_elements (suc n) bytes e =
    let ih = zero_elements n (drop 12 bytes) (zero_drop 12 bytes e) in
    rw (ih, zero_element bytes e) refl

zero_append : (xs ys : List ℕ) → is_zero xs ≡ true → is_zero ys ≡ true → is_zero (xs ++ ys) ≡ true
zero_append xs ys a b = list_all-append (λ byte. eqb byte 0) xs ys ∙ rw (a, b) refl

-- an element of zeros
element_zero : (bytes : List ℕ) → element_at bytes ≡ unused_element → is_zero (take 12 bytes) ≡ true
element_zero bytes e =
    let length : field bytes 0 3 ≡ 0 = ap (λ (x : Element). x.length) e in
    let flags : field bytes 3 1 ≡ 0 = ap (λ (x : Element). x.flags) e in
    let address : field bytes 4 8 ≡ 0 = ap (λ (x : Element). x.address) e in
    let first = number_zero 3 bytes (field_reads bytes 0 3 ∙ length) in
    let second = number_zero 1 (drop 3 bytes) (field_reads bytes 3 1 ∙ flags) in
    let third = number_zero 8 (drop 4 bytes) (field_reads bytes 4 8 ∙ address) in
    let four : take 4 bytes ≡ take 3 bytes ++ take 1 (drop 3 bytes) = take-add 3 1 bytes in
    let twelve : take 12 bytes ≡ take 4 bytes ++ take 8 (drop 4 bytes) = take-add 4 8 bytes in
    ap is_zero twelve ∙ zero_append (take 4 bytes) (take 8 (drop 4 bytes)) (ap is_zero four ∙ zero_append (take 3 bytes) (take 1 (drop 3 bytes)) first second) third

-- bytes whose elements are zero, as is what is behind them
pub elements_zero : (n m : ℕ) (bytes : List ℕ) → elements_in n bytes ≡ replicate m unused_element → is_zero (drop (12 * n) bytes) ≡ true → is_zero bytes ≡ true
unfolding elements_in
elements_zero zero m bytes e rest = rest
elements_zero (suc n) zero bytes e rest = cc
elements_zero (suc n) (suc m) bytes e rest =
    let first : element_at bytes ≡ unused_element = cc in
    let others : elements_in n (drop 12 bytes) ≡ replicate m unused_element = cc in
    let next : 12 + 12 * n ≡ 12 * suc n = omega arith in
    let ih = elements_zero n m (drop 12 bytes) others (ap is_zero (drop-drop (12 * n) 12 bytes ∙ ap (λ k. drop k bytes) next) ∙ rest) in
    ap is_zero (sym (take-append-drop 12 bytes)) ∙ zero_append (take 12 bytes) (drop 12 bytes) (element_zero bytes first) ih
