-- The row of elements and the areas that hold it.
use Rattle.std.proofs.Common.{◌≡◌, ℕ, suc, ◌+◌, ◌-◌, ◌*◌, ◌≤◌, Bool, true, ◌&&◌, List, [], ◌∷◌, ◌++◌, length, take, drop, replicate, ap, sym, subst, ◌∙◌, arith, length-append, append_assoc, append-nil}
use Rattle.std.specs.List.{flat_map, list_all}
use Rattle.std.proofs.lemmas.List.{drop-drop, length-take-le, length-drop}
use Rattle.mpt_sgl.specs.declared.chained.ChainFrame.{ChainFrame}
use Rattle.mpt_sgl.specs.declared.element.Element.{Element}
use Rattle.mpt_sgl.specs.declared.list.Piece.{Piece}
use Rattle.mpt_sgl.specs.Areas.{simple_run}
use Rattle.mpt_sgl.specs.Elements.{chain_element, elements_in, is_zero, unused_element}
use Rattle.mpt_sgl.specs.Spelling.{addresses, row_from}
use Rattle.mpt_sgl.proofs.Complete.{append_split}
use Rattle.mpt_sgl.proofs.ElementRows.{elements_in-add, length-elements_in}
use Rattle.mpt_sgl.specs.Held.{Begins, FramesFit, Held}
use Rattle.mpt_sgl.proofs.RowSplit.{row_last, row_run}
use Rattle.mpt_sgl.proofs.WriteSteps.{length-simple_run}
use Rattle.mpt_sgl.proofs.ZeroBytes.{and_true, elements_zero, zero_behind, zero_elements}

-- the elements that an area and the frames behind it have room for
abbrev pub elements_from : ℕ → List ℕ → List ChainFrame → List Element
elements_from room bytes frames = elements_in (room + 1) bytes ++ flat_map (λ (frame : ChainFrame). elements_in 10 frame.bytes) frames

-- what is behind them is zero
abbrev pub is_clear_from : ℕ → List ℕ → List ChainFrame → Bool
is_clear_from room bytes frames = is_zero (drop (12 * (room + 1)) bytes) && list_all (λ (frame : ChainFrame). is_zero (drop 120 frame.bytes)) frames

-- bytes that begin with elements, and the elements that there is room for
pub begins_row : (elements : List Element) (room : ℕ) (bytes : List ℕ) → length elements ≤ room → Begins elements bytes → (elements_in room bytes ≡ elements ++ replicate (room - length elements) unused_element) × (is_zero (drop (12 * room) bytes) ≡ true)
begins_row elements room bytes few begins =
    let n : ℕ = length elements in
    let u : ℕ = room - n in
    let sum : n + u ≡ room = omega arith in
    let place : 12 * n + 12 * u ≡ 12 * room = omega arith in
    let rest = zero_elements u (drop (12 * n) bytes) begins.zero in (
      ap (λ k. elements_in k bytes) (sym sum) ∙ elements_in-add n u bytes ∙ ap (λ es. es ++ elements_in u (drop (12 * n) bytes)) begins.first ∙ ap (λ es. elements ++ es) rest,
      ap (λ k. is_zero (drop k bytes)) (sym place) ∙ zero_behind (12 * n) (12 * u) bytes begins.zero,
    )

-- and the other way round
pub row_begins : (elements : List Element) (room unused : ℕ) (bytes : List ℕ) → length elements ≤ room → elements_in room bytes ≡ elements ++ replicate unused unused_element → is_zero (drop (12 * room) bytes) ≡ true → Begins elements bytes
row_begins elements room unused bytes few row clear =
    let n : ℕ = length elements in
    let u : ℕ = room - n in
    let sum : n + u ≡ room = omega arith in
    let place : 12 * n + 12 * u ≡ 12 * room = omega arith in
    let all : elements_in n bytes ++ elements_in u (drop (12 * n) bytes) ≡ elements ++ replicate unused unused_element = sym (elements_in-add n u bytes) ∙ ap (λ k. elements_in k bytes) sum ∙ row in
    let split = append_split (elements_in n bytes) elements (elements_in u (drop (12 * n) bytes)) (replicate unused unused_element) (length-elements_in n bytes) all in
    record {
      first = split.0;
      zero = elements_zero u unused (drop (12 * n) bytes) split.1 (ap is_zero (drop-drop (12 * u) (12 * n) bytes) ∙ ap (λ k. is_zero (drop k bytes)) place ∙ clear);
    }

-- the areas' elements are the row
pub record RowFrom (to_device : Bool) (number room : ℕ) (pieces : List Piece) (bytes : List ℕ) (frames : List ChainFrame) : Type 0 where
  pub unused : ℕ
  pub row : elements_from room bytes frames ≡ row_from to_device number pieces (addresses frames) ++ replicate unused unused_element
  pub clear : is_clear_from room bytes frames ≡ true

pub held_row : (frames : List ChainFrame) (number room j : ℕ) (to_device : Bool) (pieces : List Piece) (bytes : List ℕ) → number + room ≡ 9 * j + 1 → 1 ≤ room → room ≤ 9 → Held to_device room pieces bytes frames → RowFrom to_device number room pieces bytes frames
held_row [] number room j to_device pieces bytes place least most held =
    let run : List Element = simple_run to_device 0xd3 pieces in
    let long = length-simple_run to_device 0xd3 pieces in
    let row = begins_row run (room + 1) bytes (omega (arith, long, held.1)) held.2 in
    record {
      unused = room + 1 - length run;
      row = append-nil (elements_in (room + 1) bytes) ∙ row.0 ∙ ap (λ es. es ++ replicate (room + 1 - length run) unused_element) (sym (row_last to_device number room j pieces [] place least most held.1));
      clear = ap (λ b. b && true) row.1;
    }
held_row (frame ∷ frames) number room j to_device pieces bytes place least most held =
    let run : List Element = simple_run to_device 0x92 (take room pieces) in
    let chain : Element = chain_element (length pieces - room) frame.address in
    let long : length (run ++ chain ∷ []) ≡ room + 1 = length-append run (chain ∷ []) ∙ ap (λ n. n + 1) (length-simple_run to_device 0x92 (take room pieces) ∙ length-take-le room pieces (omega (arith, held.0))) in
    let ih = held_row frames (9 * j + 1) 9 (suc j) to_device (drop room pieces) frame.bytes (omega arith) (omega arith) (omega arith) held.2 in
    let rest : List Element = row_from to_device (9 * j + 1) (drop room pieces) (addresses frames) in
    let zeros : List Element = replicate ih.unused unused_element in
    let here : elements_in (room + 1) bytes ≡ run ++ chain ∷ [] = ap (λ n. elements_in n bytes) (sym long) ∙ held.1.first in
    let clear : is_zero (drop (12 * (room + 1)) bytes) ≡ true = ap (λ n. is_zero (drop (12 * n) bytes)) (sym long) ∙ held.1.zero in
    record {
      unused = ih.unused;
      row =
          ap (λ es. es ++ elements_from 9 frame.bytes frames) here ∙ ap (λ es. (run ++ chain ∷ []) ++ es) ih.row
          ∙ append_assoc run (chain ∷ []) (rest ++ zeros) ∙ sym (append_assoc run (chain ∷ rest) zeros)
          ∙ ap (λ es. es ++ zeros) (sym (row_run to_device number room j pieces (addresses (frame ∷ frames)) place least most held.0));
      clear = ap (λ b. b && is_clear_from 9 frame.bytes frames) clear ∙ ih.clear;
    }

-- the row stands in the areas
pub row_held : (frames : List ChainFrame) (number room j : ℕ) (to_device : Bool) (pieces : List Piece) (bytes : List ℕ) → number + room ≡ 9 * j + 1 → 1 ≤ room → room ≤ 9 → FramesFit room (length pieces) frames → RowFrom to_device number room pieces bytes frames → Held to_device room pieces bytes frames
row_held [] number room j to_device pieces bytes place least most fit from =
    let run : List Element = simple_run to_device 0xd3 pieces in
    let long = length-simple_run to_device 0xd3 pieces in
    let clear = (and_true (is_zero (drop (12 * (room + 1)) bytes)) true from.clear).0 in
    let row : elements_in (room + 1) bytes ≡ run ++ replicate from.unused unused_element =
    sym (append-nil (elements_in (room + 1) bytes)) ∙ from.row ∙ ap (λ es. es ++ replicate from.unused unused_element) (row_last to_device number room j pieces [] place least most fit.1) in
    (fit.0, fit.1, row_begins run (room + 1) from.unused bytes (omega (arith, long, fit.1)) row clear)
row_held (frame ∷ frames) number room j to_device pieces bytes place least most fit from =
    let run : List Element = simple_run to_device 0x92 (take room pieces) in
    let chain : Element = chain_element (length pieces - room) frame.address in
    let long : length (run ++ chain ∷ []) ≡ room + 1 = length-append run (chain ∷ []) ∙ ap (λ n. n + 1) (length-simple_run to_device 0x92 (take room pieces) ∙ length-take-le room pieces (omega (arith, fit.0))) in
    let rest : List Element = row_from to_device (9 * j + 1) (drop room pieces) (addresses frames) in
    let zeros : List Element = replicate from.unused unused_element in
    let all : elements_in (room + 1) bytes ++ elements_from 9 frame.bytes frames ≡ (run ++ chain ∷ []) ++ (rest ++ zeros) =
    from.row ∙ ap (λ es. es ++ zeros) (row_run to_device number room j pieces (addresses (frame ∷ frames)) place least most fit.0) ∙ append_assoc run (chain ∷ rest) zeros ∙ sym (append_assoc run (chain ∷ []) (rest ++ zeros)) in
    let split = append_split (elements_in (room + 1) bytes) (run ++ chain ∷ []) (elements_from 9 frame.bytes frames) (rest ++ zeros) (length-elements_in (room + 1) bytes ∙ sym long) all in
    let clear = and_true (is_zero (drop (12 * (room + 1)) bytes)) (is_clear_from 9 frame.bytes frames) from.clear in
    let left : length (drop room pieces) ≡ length pieces - room = length-drop room pieces in
    let fit' : FramesFit 9 (length (drop room pieces)) frames = subst (λ n. FramesFit 9 n frames) (sym left) fit.1 in
    let ih = row_held frames (9 * j + 1) 9 (suc j) to_device (drop room pieces) frame.bytes (omega arith) (omega arith) (omega arith) fit' (record { unused = from.unused; row = split.1; clear = clear.1 }) in (
      fit.0,
      record { first = ap (λ n. elements_in n bytes) long ∙ split.0; zero = ap (λ n. is_zero (drop (12 * n) bytes)) long ∙ clear.0 },
      ih,
    )
