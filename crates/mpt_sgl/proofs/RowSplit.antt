-- The row of elements, cut where an area ends.
use Rattle.std.proofs.Common.{◌≡◌, ◌≢◌, ℕ, zero, suc, ◌+◌, ◌-◌, ◌*◌, ◌%◌, ◌≤◌, Bool, true, false, ◌&&◌, eqb, ltb, List, [], ◌∷◌, ◌++◌, length, take, drop, get_or, refl, arith}
use Rattle.std.proofs.lemmas.Bool.Decides.{nat_tests}
use Rattle.std.proofs.lemmas.List.{length-take-le}
use Rattle.mpt_sgl.specs.declared.list.Piece.{Piece}
use Rattle.mpt_sgl.specs.Areas.{simple_run}
use Rattle.mpt_sgl.specs.Elements.{chain_element}
use Rattle.mpt_sgl.specs.Spelling.{is_chained, row_from}

-- no chain element inside an area, nor where at most one piece is behind
not_chained : (number room j behind : ℕ) → number + room ≡ 9 * j + 1 → 2 ≤ room → room ≤ 9 → is_chained number behind ≡ false
not_chained number room j behind place least most =
    let rest : number % 9 ≢ 0 = omega arith in
    let test : eqb (number % 9) 0 ≡ false = grind (arith, nat_tests) in
    rw test refl

few_behind : (number behind : ℕ) → behind ≤ 1 → is_chained number behind ≡ false
few_behind number behind few = tested (eqb (number % 9) 0) where
  tested : (b : Bool) → (b && ltb 1 behind) ≡ false
  tested true = grind (arith, nat_tests)
  tested false = refl

chained : (number j behind : ℕ) → number ≡ 9 * j → 2 ≤ behind → is_chained number behind ≡ true
chained number j behind place more =
    let rest : number % 9 ≡ 0 = omega arith in
    let test : ltb 1 behind ≡ true = grind (arith, nat_tests) in
    rw (rest, test) refl

-- the last area has all pieces that are left
pub row_last : (to_device : Bool) (number room j : ℕ) (pieces : List Piece) (chains : List ℕ) → number + room ≡ 9 * j + 1 → 1 ≤ room → room ≤ 9 → length pieces ≤ room + 1 → row_from to_device number pieces chains ≡ simple_run to_device 0xd3 pieces
row_last to_device number room j [] chains place least most few = refl
row_last to_device number room j (p ∷ []) chains place least most few =
    let none = few_behind number 0 (omega arith) in
    rw none refl
row_last to_device number zero j (p ∷ q ∷ pieces) chains place least most few = absurd (omega arith)
row_last to_device number (suc zero) j (p ∷ q ∷ []) chains place least most few =
    let none = few_behind number 1 (omega arith) in
    let none' = few_behind (suc number) 0 (omega arith) in
    rw (none, none') refl
row_last to_device number (suc zero) j (p ∷ q ∷ r ∷ pieces) chains place least most few = absurd (omega arith)
row_last to_device number (suc (suc room)) j (p ∷ q ∷ pieces) chains place least most few =
    let none = not_chained number (suc (suc room)) j (length (q ∷ pieces)) place (omega arith) most in
    let ih = row_last to_device (suc number) (suc room) j (q ∷ pieces) chains (omega arith) (omega arith) (omega arith) (omega arith) in
    rw (none, ih) refl

-- any other area has as many as there is room for, and a chain element behind them
pub row_run : (to_device : Bool) (number room j : ℕ) (pieces : List Piece) (chains : List ℕ) → number + room ≡ 9 * j + 1 → 1 ≤ room → room ≤ 9 → room + 2 ≤ length pieces
    → row_from to_device number pieces chains ≡ simple_run to_device 0x92 (take room pieces) ++ chain_element (length pieces - room) (get_or chains 0 0) ∷ row_from to_device (9 * j + 1) (drop room pieces) (drop 1 chains)
row_run to_device number zero j pieces chains place least most more = absurd (omega arith)
row_run to_device number (suc room) j [] chains place least most more = absurd (omega arith)
row_run to_device number (suc zero) j (p ∷ pieces) chains place least most more =
    let yes = chained number j (length pieces) (omega arith) (omega arith) in
    let some : eqb (length pieces) 0 ≡ false = grind (arith, nat_tests) in
    let next : suc number ≡ 9 * j + 1 = omega arith in
    let left : suc (length pieces) - 1 ≡ length pieces = omega arith in
    rw (yes, some, next, left) refl
row_run to_device number (suc (suc room)) j (p ∷ pieces) chains place least most more =
    let none = not_chained number (suc (suc room)) j (length pieces) place (omega arith) most in
    let some : eqb (length pieces) 0 ≡ false = grind (arith, nat_tests) in
    let long : length (take (suc room) pieces) ≡ suc room = length-take-le (suc room) pieces (omega arith) in
    let some' : eqb (length (take (suc room) pieces)) 0 ≡ false = grind (arith, nat_tests) in
    let left : suc (length pieces) - suc (suc room) ≡ length pieces - suc room = omega arith in
    let ih = row_run to_device (suc number) (suc room) j pieces chains (omega arith) (omega arith) (omega arith) (omega arith) in
    rw (none, some, some', left, ih) refl
