-- Taking the first piece off.
use Rattle.std.proofs.Common.{◌≡◌, ℕ, ◌+◌, ◌==◌, Bool, true, false, cond, List, [], ◌∷◌, take, drop, length, Option, Some, None, refl, sym, ◌∙◌, ap, arith, ◌<◌, ◌-◌, Bor, is_some, not, count_by}
use Rattle.std.specs.List.{position_from, position_or_len, slice_split}
use Rattle.std.proofs.lemmas.List.Splits.{slice_split_first, length-slice_split}
use Rattle.std.proofs.lemmas.Iterator.Adapters.{position_from-zero}
use Rattle.std.proofs.lemmas.Grind.{common_steps}
use Rattle.mpt_lines.specs.Words.{pieces}
use Rattle.mpt_lines.specs.Left.{pieces_left}

from_none : (p : ℕ → Bool) (k : ℕ) (xs : List ℕ) → position_from p k xs ≡ None → slice_split p xs ≡ xs ∷ []
from_none p k [] e = refl
from_none p k (x ∷ xs) e = passed (p x) refl e (from_none p (k + 1) xs)
  where
    passed : (b : Bool) → p x ≡ b → cond b (Some k) (position_from p (k + 1) xs) ≡ None → (position_from p (k + 1) xs ≡ None → slice_split p xs ≡ xs ∷ []) → slice_split p (x ∷ xs) ≡ (x ∷ xs) ∷ []
    passed true is e others = cc
    passed false is e others = rw is (rw (others e) refl)

-- without a separator the text is the one piece
pub pieces_without : (c : ℕ) (text : List ℕ) → position_from (λ byte. byte == c) 0 text ≡ None → pieces c text ≡ text ∷ []
pieces_without c text e = from_none (λ byte. byte == c) 0 text e

found : (b : Bool) (place i : ℕ) → cond b (Some place) None ≡ Some i → (b ≡ true) × (place ≡ i)
found true place i e = (refl, cc)
found false place i e = cc

-- the first separator ends the first piece
pub pieces_at : (c : ℕ) (text : List ℕ) (i : ℕ) → position_from (λ byte. byte == c) 0 text ≡ Some i → pieces c text ≡ take i text ∷ pieces c (drop (i + 1) text)
pieces_at c text i e =
    let test = λ (byte : ℕ). byte == c in
    let f = found _ _ _ (position_from-zero test text ∙ e) in
    let within : position_or_len test text < length text = grind (arith, common_steps, f.0) in
    let first = slice_split_first test text 0 within in
    rw f.1 at first

-- the pieces that are left, where the rest of the text is known
pub left_of : (c : ℕ) (rest : Option (Bor (List ℕ))) (text : Bor (List ℕ)) (whole : List (List ℕ)) → pieces_left c rest ≡ whole → rest ≡ Some text → whole ≡ pieces c text.now
left_of c rest text whole e is = sym e ∙ ap (pieces_left c) is

-- a range to the end
pub to_the_end : (n : ℕ) (xs : List ℕ) → take (length xs - n) (drop n xs) ≡ drop n xs
to_the_end n xs = grind (arith, common_steps)

-- no piece is left exactly where nothing of the text is
pub empty_left : (c : ℕ) (rest : Option (Bor (List ℕ))) (left : List (List ℕ)) (none : Bool) → pieces_left c rest ≡ left → is_some rest ≡ not none → none ≡ (length left == 0)
empty_left c None left none e is = rw (← e) (grind (arith, common_steps))
empty_left c (Some text) left none e is =
    let some : length (pieces_left c (Some text)) ≡ count_by (λ byte. byte == c) text.now + 1 = length-slice_split (λ byte. byte == c) text.now in
    rw (← e) (rw some (grind (arith, common_steps)))
