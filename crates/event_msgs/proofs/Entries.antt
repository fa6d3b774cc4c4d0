-- Reading and writing the entries of a SAS topology change list.
use Rattle.std.proofs.Common.{◌≡◌, ℕ, suc, ◌+◌, ◌-◌, ◌<◌, ◌≤◌, List, [], ◌∷◌, ◌++◌, length, take, drop, set, map, replicate, Option, None, Result, Ok, Err, ap, subst, sym, ◌∙◌, append-nil, append_assoc, arith}
use Rattle.std.specs.Option.{MatchOption}
use Rattle.std.specs.List.{range_with_len}
use Rattle.std.proofs.lemmas.List.{take_rest, set_at, drop_all, drop_at, length-take, length-drop}
use Rattle.std.proofs.lemmas.List.FromFn.{length-map-range_with_len, map-range_with_len_more}
use Rattle.std.proofs.lemmas.Slice.{take-put_mid_below}
use borrow.Rule.Slice.PartMut.{put_mid}
use Rattle.mpi_layout.specs.Rows.{Shape, field, fields, first_fault}
use Rattle.mpi_layout.specs.declared.fault.Fault.{Fault}
use Rattle.mpi_layout.proofs.Fields.{field-little, little_from-drop}
use Rattle.mpi_layout.proofs.Writing.{field_front}
use Rattle.mpi_layout.proofs.Moves.{ReadsAs}
use Rattle.event_msgs.specs.declared.topology_entry.TopologyEntry.{TopologyEntry}
use Rattle.event_msgs.specs.TopologyEntry.{blank, entry_at}

abbrev answer_err : Fault → Result (List ℕ) Fault
answer_err fault = Err fault

-- bytes with no fault are read
pub never_refused : (layout code : Shape) (bytes : List ℕ) (fault : Fault) → code ≡ layout → first_fault layout bytes ≡ None → ReadsAs code bytes (Err fault) → ⊥
never_refused layout code bytes fault is none h =
    let same = subst (λ (s : Shape). ReadsAs s bytes (answer_err fault)) is h in
    let ok : answer_err fault ≡ Ok (fields layout.rows bytes) = subst (λ (o : Option Fault). MatchOption o (answer_err fault ≡ Ok (fields layout.rows bytes)) (λ f. answer_err fault ≡ Err f)) none same in
    cc

-- a field behind an offset
pub field_behind : (xs : List ℕ) (at k n : ℕ) → field (drop at xs) k n ≡ field xs (at + k) n
field_behind xs at k n = field-little (drop at xs) k n ∙ little_from-drop xs at k n ∙ sym (field-little xs (at + k) n)

-- an entry behind an offset
pub entry_behind : (xs : List ℕ) (at : ℕ) → entry_at (drop at xs) 0 ≡ entry_at xs at
entry_behind xs at =
    let one = field_behind xs at 0 2 in
    let two = field_behind xs at 2 1 in
    let three = field_behind xs at 3 1 in
    let none : at + 0 ≡ at = omega arith in
    let start : field xs (at + 0) 2 ≡ field xs at 2 = ap (λ k. field xs k 2) none in
    cc

pub entry_part : (xs : List ℕ) (at : ℕ) → entry_at (take (length xs - at) (drop at xs)) 0 ≡ entry_at xs at
entry_part xs at = ap (λ ys. entry_at ys 0) (take_rest xs at) ∙ entry_behind xs at

-- one more entry is read
pub entries_more : (f : ℕ → TopologyEntry) (i : ℕ) → i < 22 → set (map f (range_with_len 0 i) ++ replicate (22 - i) blank) i (f i) ≡ map f (range_with_len 0 (i + 1)) ++ replicate (22 - (i + 1)) blank
entries_more f i less =
    let count : 22 - i ≡ suc (22 - (i + 1)) = omega arith in
    let front : List TopologyEntry = map f (range_with_len 0 i) in
    let rest : List TopologyEntry = replicate (22 - (i + 1)) blank in
    let listed = map-range_with_len_more f 0 i i (omega arith) in
    ap (λ n. set (front ++ replicate n blank) i (f i)) count ∙ set_at front blank rest (f i) i (length-map-range_with_len f 0 i) ∙ sym (append_assoc front (f i ∷ []) rest) ∙ ap (λ xs. xs ++ rest) (sym listed)

-- an entry is written at an offset
pub entry_written : (out ys : List ℕ) (at : ℕ) (e : TopologyEntry) → at + 4 ≤ length out → entry_at ys 0 ≡ e → entry_at (put_mid at (length out - at) out ys) at ≡ e
entry_written out ys at e room is =
    let n : ℕ = length out - at in
    let new : List ℕ = put_mid at n out ys in
    let none : drop n (drop at out) ≡ [] = drop_all n (drop at out) (simp length-drop (omega arith)) in
    let place : length (take at out) ≡ at = simp length-take (omega arith) in
    let behind : drop at new ≡ ys = drop_at (take at out) (ys ++ drop n (drop at out)) at place ∙ rw none (append-nil ys) in
    sym (entry_behind new at) ∙ ap (λ xs. entry_at xs 0) behind ∙ is

-- and the entries in front of it stay
pub entry_kept : (out ys : List ℕ) (at n k : ℕ) → k + 4 ≤ at → at ≤ length out → entry_at (put_mid at n out ys) k ≡ entry_at out k
entry_kept out ys at n k less room =
    let same = take-put_mid_below at n out ys at (omega arith) room in
    let one = field_front (put_mid at n out ys) out k 2 at (omega arith) same in
    let two = field_front (put_mid at n out ys) out (k + 2) 1 at (omega arith) same in
    let three = field_front (put_mid at n out ys) out (k + 3) 1 at (omega arith) same in
    cc
