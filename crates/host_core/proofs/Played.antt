-- Moves one after the other.
use Rattle.std.proofs.Common.{◌≡◌, ◌<◌, ◌∙◌, ℕ, suc, ◌+◌, List, [], ◌∷◌, ◌++◌, length, get_or, take, refl, sym, ap, arith}
use Rattle.std.specs.Prelude.{Err, Ok, OnErr, Result}
use Rattle.std.proofs.Math.Seq.{take-length, take-suc}
use Rattle.std.proofs.lemmas.List.{append-nil, append_assoc, length-take-le}
use Rattle.std.proofs.lemmas.List.Concat.{flat_map-append}
use Rattle.mpt_trace.specs.declared.entry.Entry.{Entry}
use Rattle.mpt_rules.specs.Host.Parts.{Host}
use Rattle.host_core.specs.declared.moves.HostMove.{HostMove}
use Rattle.host_core.specs.declared.moves.HostSaid.{HostSaid}
use Rattle.host_core.specs.declared.talk.Saying.{Saying}
use Rattle.host_core.specs.Plays.{after_moves, moved, placed, said_in, talk_from, talk_in, told_after}

-- ---- one move more

after_one_more : (moves : List HostMove) (host : Host) (m : HostMove) → after_moves host (moves ++ m ∷ []) ≡ (moved (after_moves host moves) m).part
unfolding after_moves
after_one_more [] host m = refl
after_one_more (x ∷ xs) host m = after_one_more xs (moved host x).part m

-- the entries that stand before a move's own are none but at the first move
none_waits : (moves : List HostMove) → told_after [] moves ≡ []
none_waits [] = refl
none_waits (m ∷ moves) = refl

none_left : (waiting : List Entry) (moves : List HostMove) (m : HostMove) → told_after waiting (moves ++ m ∷ []) ≡ []
none_left waiting [] m = refl
none_left waiting (x ∷ xs) m = refl

-- what a move says
says : ℕ → Host → List Entry → HostMove → List (ℕ × HostSaid)
says place host waiting m = placed place (moved host m).answer (waiting ++ (moved host m).told)

talk_one_more : (moves : List HostMove) (place : ℕ) (host : Host) (waiting : List Entry) (m : HostMove) → talk_from place host waiting (moves ++ m ∷ []) ≡ talk_from place host waiting moves ++ says (place + length moves) (after_moves host moves) (told_after waiting moves) m
unfolding after_moves talk_from says
talk_one_more [] place host waiting m =
    let at : place + 0 ≡ place = omega arith in rw at (append-nil (placed place (moved host m).answer (waiting ++ (moved host m).told)))
talk_one_more (x ∷ xs) place host waiting m =
    let rest = talk_one_more xs (place + 1) (moved host x).part [] m in
    let at : place + 1 + length xs ≡ place + suc (length xs) = omega arith in
    ap (λ (es : List (ℕ × HostSaid)). placed place (moved host x).answer (waiting ++ (moved host x).told) ++ es) (rw (at, none_waits xs) at rest)
    ∙ sym (append_assoc (placed place (moved host x).answer (waiting ++ (moved host x).told)) (talk_from (place + 1) (moved host x).part [] xs) (says (place + suc (length xs)) (after_moves (moved host x).part xs) [] m))

-- ---- as the loop goes on

seam : (moves : List HostMove) (j : ℕ) (m : HostMove) → j < length moves → get_or moves j m ≡ m → take (j + 1) moves ≡ take j moves ++ m ∷ []
seam moves j m below is =
    let next : j + 1 ≡ suc j = omega arith in
    rw next (take-suc moves j m below ∙ ap (λ (x : HostMove). take j moves ++ x ∷ []) is)

pub host_goes_on : (moves : List HostMove) (j : ℕ) (m : HostMove) (first host next : Host) → j < length moves → get_or moves j m ≡ m → host ≡ after_moves first (take j moves) → next ≡ (moved host m).part → next ≡ after_moves first (take (j + 1) moves)
host_goes_on moves j m first host next below is so_far goes =
    goes ∙ ap (λ (h : Host). (moved h m).part) so_far ∙ sym (after_one_more (take j moves) first m) ∙ ap (after_moves first) (sym (seam moves j m below is))

pub told_goes_on : (moves : List HostMove) (j : ℕ) (m : HostMove) (had next : List Entry) → j < length moves → get_or moves j m ≡ m → next ≡ [] → next ≡ told_after had (take (j + 1) moves)
told_goes_on moves j m had next below is none =
    none ∙ sym (none_left had (take j moves) m) ∙ ap (told_after had) (sym (seam moves j m below is))

pub talk_goes_on : (moves : List HostMove) (j : ℕ) (m : HostMove) (first host : Host) (had told : List Entry) (talk next : List (ℕ × HostSaid)) → j < length moves → get_or moves j m ≡ m → host ≡ after_moves first (take j moves) → told ≡ told_after had (take j moves) → talk ≡ talk_from 0 first had (take j moves) → next ≡ talk ++ placed j (moved host m).answer (told ++ (moved host m).told) → next ≡ talk_from 0 first had (take (j + 1) moves)
unfolding says
talk_goes_on moves j m first host had told talk next below is at waits so_far goes =
    let place : 0 + length (take j moves) ≡ j = let l = length-take-le j moves (omega (arith, below)) in omega (arith, l) in
    goes ∙ ap (λ (es : List (ℕ × HostSaid)). es ++ placed j (moved host m).answer (told ++ (moved host m).told)) so_far
    ∙ ap (λ (h : Host). talk_from 0 first had (take j moves) ++ placed j (moved h m).answer (told ++ (moved h m).told)) at
    ∙ ap (λ (es : List Entry). talk_from 0 first had (take j moves) ++ placed j (moved (after_moves first (take j moves)) m).answer (es ++ (moved (after_moves first (take j moves)) m).told)) waits
    ∙ ap (λ (k : ℕ). talk_from 0 first had (take j moves) ++ placed k (moved (after_moves first (take j moves)) m).answer (told_after had (take j moves) ++ (moved (after_moves first (take j moves)) m).told)) (sym place)
    ∙ sym (talk_one_more (take j moves) 0 first had m)
    ∙ ap (talk_from 0 first had) (sym (seam moves j m below is))

-- ---- before the first move, and after the last

pub nothing_played : (first : Host) → first ≡ after_moves first []
unfolding after_moves
nothing_played first = refl

pub nothing_said : (first : Host) (had : List Entry) → talk_from 0 first had [] ≡ []
unfolding talk_from
nothing_said first had = refl

pub all_played : (moves : List HostMove) (j : ℕ) → j ≡ length moves → take j moves ≡ moves
all_played moves j is = rw is (take-length moves)

-- ---- the sayings

pub talk_more : (sayings : List Saying) (saying : Saying) → talk_in (sayings ++ saying ∷ []) ≡ talk_in sayings ++ said_in saying
talk_more sayings saying = flat_map-append said_in sayings (saying ∷ []) ∙ ap (λ (es : List (ℕ × HostSaid)). talk_in sayings ++ es) (append-nil (said_in saying))

-- ---- a call that failed

pub on_err_given : {T E P : Type 0} (r : Result T E) → P → OnErr r P
on_err_given (Ok x) p = tt
on_err_given (Err e) p = p
