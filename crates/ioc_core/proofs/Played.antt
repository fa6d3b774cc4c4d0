-- Moves one after the other.
use Rattle.std.proofs.Common.{◌≡◌, ◌<◌, ◌∙◌, ℕ, suc, ◌+◌, List, [], ◌∷◌, ◌++◌, length, get_or, take, refl, sym, ap, arith}
use Rattle.std.specs.Prelude.{Err, Ok, OnErr, Result}
use Rattle.std.proofs.Math.Seq.{take-length, take-suc}
use Rattle.std.proofs.lemmas.List.{append-nil, append_assoc, length-take-le}
use Rattle.mpt_trace.specs.declared.entry.Entry.{Entry}
use Rattle.mpt_rules.specs.Ioc.Parts.{Ioc}
use Rattle.ioc_core.specs.declared.moves.IocMove.{IocMove}
use Rattle.ioc_core.specs.declared.moves.IocSaid.{IocSaid}
use Rattle.ioc_core.specs.Plays.{after_moves, moved, placed, talk_from, told_by}

-- ---- one move more

after_one_more : (moves : List IocMove) (ioc : Ioc) (m : IocMove) → after_moves ioc (moves ++ m ∷ []) ≡ (moved (after_moves ioc moves) m).part
unfolding after_moves
after_one_more [] ioc m = refl
after_one_more (x ∷ xs) ioc m = after_one_more xs (moved ioc x).part m

told_one_more : (moves : List IocMove) (ioc : Ioc) (m : IocMove) → told_by ioc (moves ++ m ∷ []) ≡ told_by ioc moves ++ (moved (after_moves ioc moves) m).told
unfolding after_moves told_by
told_one_more [] ioc m = append-nil (moved ioc m).told
told_one_more (x ∷ xs) ioc m =
    let rest = told_one_more xs (moved ioc x).part m in
    ap (λ (es : List Entry). (moved ioc x).told ++ es) rest
    ∙ sym (append_assoc (moved ioc x).told (told_by (moved ioc x).part xs) (moved (after_moves (moved ioc x).part xs) m).told)

talk_one_more : (moves : List IocMove) (place : ℕ) (ioc : Ioc) (m : IocMove) → talk_from place ioc (moves ++ m ∷ []) ≡ talk_from place ioc moves ++ placed (place + length moves) (moved (after_moves ioc moves) m).said
unfolding after_moves talk_from
talk_one_more [] place ioc m = let at : place + 0 ≡ place = omega arith in rw at (append-nil (placed place (moved ioc m).said))
talk_one_more (x ∷ xs) place ioc m =
    let rest = talk_one_more xs (place + 1) (moved ioc x).part m in
    let at : place + 1 + length xs ≡ place + suc (length xs) = omega arith in
    ap (λ (es : List (ℕ × IocSaid)). placed place (moved ioc x).said ++ es) (rw at at rest)
    ∙ sym (append_assoc (placed place (moved ioc x).said) (talk_from (place + 1) (moved ioc x).part xs) (placed (place + suc (length xs)) (moved (after_moves (moved ioc x).part xs) m).said))

-- ---- as the loop goes on

seam : (moves : List IocMove) (j : ℕ) (m : IocMove) → j < length moves → get_or moves j m ≡ m → take (j + 1) moves ≡ take j moves ++ m ∷ []
seam moves j m below is =
    let next : j + 1 ≡ suc j = omega arith in
    rw next (take-suc moves j m below ∙ ap (λ (x : IocMove). take j moves ++ x ∷ []) is)

pub part_goes_on : (moves : List IocMove) (j : ℕ) (m : IocMove) (first part next : Ioc) → j < length moves → get_or moves j m ≡ m → part ≡ after_moves first (take j moves) → next ≡ (moved part m).part → next ≡ after_moves first (take (j + 1) moves)
part_goes_on moves j m first part next below is so_far goes =
    goes ∙ ap (λ (p : Ioc). (moved p m).part) so_far ∙ sym (after_one_more (take j moves) first m) ∙ ap (after_moves first) (sym (seam moves j m below is))

pub told_goes_on : (moves : List IocMove) (j : ℕ) (m : IocMove) (first part : Ioc) (had told next : List Entry) → j < length moves → get_or moves j m ≡ m → part ≡ after_moves first (take j moves) → told ≡ had ++ told_by first (take j moves) → next ≡ told ++ (moved part m).told → next ≡ had ++ told_by first (take (j + 1) moves)
told_goes_on moves j m first part had told next below is at so_far goes =
    goes ∙ ap (λ (es : List Entry). es ++ (moved part m).told) so_far
    ∙ append_assoc had (told_by first (take j moves)) (moved part m).told
    ∙ ap (λ (p : Ioc). had ++ (told_by first (take j moves) ++ (moved p m).told)) at
    ∙ ap (λ (es : List Entry). had ++ es) (sym (told_one_more (take j moves) first m))
    ∙ ap (λ (ms : List IocMove). had ++ told_by first ms) (sym (seam moves j m below is))

pub talk_goes_on : (moves : List IocMove) (j : ℕ) (m : IocMove) (first part : Ioc) (talk next : List (ℕ × IocSaid)) → j < length moves → get_or moves j m ≡ m → part ≡ after_moves first (take j moves) → talk ≡ talk_from 0 first (take j moves) → next ≡ talk ++ placed j (moved part m).said → next ≡ talk_from 0 first (take (j + 1) moves)
talk_goes_on moves j m first part talk next below is at so_far goes =
    let place : 0 + length (take j moves) ≡ j = let l = length-take-le j moves (omega (arith, below)) in omega (arith, l) in
    goes ∙ ap (λ (es : List (ℕ × IocSaid)). es ++ placed j (moved part m).said) so_far
    ∙ ap (λ (p : Ioc). talk_from 0 first (take j moves) ++ placed j (moved p m).said) at
    ∙ ap (λ (k : ℕ). talk_from 0 first (take j moves) ++ placed k (moved (after_moves first (take j moves)) m).said) (sym place)
    ∙ sym (talk_one_more (take j moves) 0 first m)
    ∙ ap (talk_from 0 first) (sym (seam moves j m below is))

-- ---- before the first move, and after the last

pub nothing_played : (first : Ioc) → first ≡ after_moves first []
unfolding after_moves
nothing_played first = refl

pub nothing_told : (first : Ioc) (had : List Entry) → had ≡ had ++ told_by first []
unfolding told_by
nothing_told first had = sym (append-nil had)

pub nothing_said : (first : Ioc) → talk_from 0 first [] ≡ []
unfolding talk_from
nothing_said first = refl

pub all_played : (moves : List IocMove) (j : ℕ) → j ≡ length moves → take j moves ≡ moves
all_played moves j is = rw is (take-length moves)

-- ---- a call that failed

pub on_err_given : {T E P : Type 0} (r : Result T E) → P → OnErr r P
on_err_given (Ok x) p = tt
on_err_given (Err e) p = p
