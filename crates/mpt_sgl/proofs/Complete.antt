-- Where the areas hold pieces, no fault is found, and the pieces are told.
use Rattle.std.proofs.Common.{◌≡◌, ◌≢◌, ℕ, zero, suc, ◌+◌, ◌-◌, ◌*◌, ◌≤◌, Bool, true, eqb, leb, cond, List, [], ◌∷◌, ◌++◌, length, map, take, drop, Option, Some, None, refl, ap, sym, subst, ◌∙◌, arith, length-append}
use Rattle.std.specs.List.{list_all}
use Rattle.std.specs.Option.{option_or, option_map_or}
use Rattle.std.proofs.lemmas.Bool.Decides.{nat_tests}
use Rattle.std.proofs.lemmas.List.{length-take-le, take-append-drop, length-drop}
use Rattle.mpt_sgl.specs.declared.chained.ChainFrame.{ChainFrame}
use Rattle.mpt_sgl.specs.declared.element.Element.{Element}
use Rattle.mpt_sgl.specs.declared.element.Shape.{Shape}
use Rattle.mpt_sgl.specs.declared.fault.SglFault.TheVariants as fault
use Rattle.mpt_sgl.specs.declared.list.Piece.{Piece}
use Rattle.mpt_sgl.specs.Areas.{simple_run}
use Rattle.mpt_sgl.specs.Elements.{chain_element, chain_shape, element_at, elements_in, is_zero}
use Rattle.mpt_sgl.specs.Faults.{chain_faults, chain_pieces}
use Rattle.mpt_sgl.specs.Pieces.{is_piece}
use Rattle.mpt_sgl.specs.Segments.{chain_fault, due_flags, next_shape, piece_of, segment_fault, segment_pieces, simple_fault, simples_fault, unused_fault}
use Rattle.mpt_sgl.proofs.ElementRows.{elements_in-more, length-elements_in}
use Rattle.mpt_sgl.specs.Held.{Begins, Held}
use Rattle.mpt_sgl.proofs.ReadSteps.{sound_element}
use Rattle.mpt_sgl.proofs.Shapes.{chain_shape-length, chained_shape, last_shape, shape_for, shape_for-chained, shape_for-last}
use Rattle.mpt_sgl.proofs.WriteSteps.{length-simple_run, list_all-take}
use Rattle.mpt_sgl.proofs.ZeroBytes.{and_true}

-- no fault in the elements of pieces
simples_none : (segment place last : ℕ) (to_device : Bool) (pieces : List Piece) → list_all is_piece pieces ≡ true → simples_fault segment place to_device last (simple_run to_device last pieces) ≡ None
simples_none segment place last to_device [] sound = refl
simples_none segment place last to_device (p ∷ pieces) sound =
    let both = and_true (is_piece p) (list_all is_piece pieces) sound in
    let least = (and_true (leb 1 p.len) (leb p.len 16777215) both.0).0 in
    let some : p.len ≢ 0 = grind (arith, nat_tests) in
    let long = length-simple_run to_device last pieces in
    let here : simple_fault segment place (due_flags to_device last (length (simple_run to_device last pieces))) (record { length = p.len; flags = due_flags to_device last (length pieces); address = p.address }) ≡ None =
    sound_element segment place (due_flags to_device last (length (simple_run to_device last pieces))) (record { length = p.len; flags = due_flags to_device last (length pieces); address = p.address }) (ap (due_flags to_device last) (sym long)) some in
    let ih = simples_none segment (suc place) last to_device pieces both.1 in
    ap (λ o. option_or o (simples_fault segment (suc place) to_device last (simple_run to_device last pieces))) here ∙ ih

-- the pieces of their elements
pieces_told : (last : ℕ) (to_device : Bool) (pieces : List Piece) → map piece_of (simple_run to_device last pieces) ≡ pieces
pieces_told last to_device [] = refl
pieces_told last to_device (p ∷ pieces) = ap (λ ps. p ∷ ps) (pieces_told last to_device pieces)

-- two lists that are equal are so in parts
pub append_split : {X : Type 0} (a c b d : List X) → length a ≡ length c → a ++ b ≡ c ++ d → (a ≡ c) × (b ≡ d)
append_split [] [] b d long e = (refl, e)
append_split [] (y ∷ c) b d long e = absurd (omega arith)
append_split (x ∷ a) [] b d long e = absurd (omega arith)
append_split (x ∷ a) (y ∷ c) b d long e =
    let first : x ≡ y = cc in
    let rest : a ++ b ≡ c ++ d = cc in
    let ih = append_split a c b d (omega arith) rest in
    (cc, ih.1)

-- a last area
last_none : (segment : ℕ) (to_device : Bool) (pieces : List Piece) (bytes : List ℕ) (next : Option ℕ) → list_all is_piece pieces ≡ true → Begins (simple_run to_device 0xd3 pieces) bytes → (segment_fault segment (last_shape (length pieces)) to_device bytes next ≡ None) × (segment_pieces (last_shape (length pieces)) bytes ≡ pieces)
unfolding segment_fault
last_none segment to_device pieces bytes next sound begins =
    let long = length-simple_run to_device 0xd3 pieces in
    let run : elements_in (length pieces) bytes ≡ simple_run to_device 0xd3 pieces = ap (λ n. elements_in n bytes) (sym long) ∙ begins.first in
    let zero : is_zero (drop (12 * length pieces) bytes) ≡ true = ap (λ n. is_zero (drop (12 * n) bytes)) (sym long) ∙ begins.zero in
    let none = simples_none segment 0 0xd3 to_device pieces sound in
    (rw (run, none, zero) refl, ap (map piece_of) run ∙ pieces_told 0xd3 to_device pieces)

-- no fault in a chain element
chain_none : (segment place left address : ℕ) (e : Element) → 2 ≤ left → e ≡ chain_element left address → chain_fault segment place e (Some address) ≡ None
chain_none segment place left address e more is =
    let shape = chain_shape-length left more in
    let same : eqb address address ≡ true = grind (arith, nat_tests) in
    rw (is, shape, same) refl

-- any other area
chained_none : (segment room left address : ℕ) (to_device : Bool) (front : List Piece) (bytes : List ℕ) → list_all is_piece front ≡ true → length front ≡ room → 2 ≤ left → Begins (simple_run to_device 0x92 front ++ chain_element left address ∷ []) bytes
    → (segment_fault segment (chained_shape room) to_device bytes (Some address) ≡ None) × (segment_pieces (chained_shape room) bytes ≡ front) × (next_shape (chained_shape room) bytes ≡ Some (shape_for 9 left))
unfolding segment_fault next_shape
chained_none segment room left address to_device front bytes sound held more begins =
    let run : List Element = simple_run to_device 0x92 front in
    let chain : Element = chain_element left address in
    let long : length (run ++ chain ∷ []) ≡ room + 1 = length-append run (chain ∷ []) ∙ ap (λ n. n + 1) (length-simple_run to_device 0x92 front ∙ held) in
    let all : elements_in room bytes ++ element_at (drop (12 * room) bytes) ∷ [] ≡ run ++ chain ∷ [] = sym (elements_in-more room bytes) ∙ ap (λ n. elements_in n bytes) (sym long) ∙ begins.first in
    let split = append_split (elements_in room bytes) run (element_at (drop (12 * room) bytes) ∷ []) (chain ∷ []) (length-elements_in room bytes ∙ sym (length-simple_run to_device 0x92 front ∙ held)) all in
    let last : element_at (drop (12 * room) bytes) ≡ chain = one_same (element_at (drop (12 * room) bytes)) chain split.1 in
    let place : 12 * (room + 1) ≡ 12 * room + 12 = omega arith in
    let zero : is_zero (drop (12 * room + 12) bytes) ≡ true = ap (λ k. is_zero (drop k bytes)) (sym place) ∙ ap (λ n. is_zero (drop (12 * n) bytes)) (sym long) ∙ begins.zero in
    let none = simples_none segment 0 0x92 to_device front sound in
    let none' = chain_none segment room left address (element_at (drop (12 * room) bytes)) more last in (
      ap (λ es. option_or (simples_fault segment 0 to_device 0x92 es) (option_or (chain_fault segment room (element_at (drop (12 * room) bytes)) (Some address)) (unused_fault segment (drop (12 * room + 12) bytes)))) split.0
          ∙ ap (λ o. option_or o (option_or (chain_fault segment room (element_at (drop (12 * room) bytes)) (Some address)) (unused_fault segment (drop (12 * room + 12) bytes)))) none
          ∙ ap (λ o. option_or o (unused_fault segment (drop (12 * room + 12) bytes))) none'
          ∙ ap (λ b. cond b None (Some (fault.Stray segment))) zero,
      ap (map piece_of) split.0 ∙ pieces_told 0x92 to_device front,
      ap (λ (x : Element). chain_shape x.length) last ∙ chain_shape-length left more,
    ) where
      one_same : (x y : Element) → x ∷ [] ≡ y ∷ [] → x ≡ y
      one_same x y e = cc

-- what is said of pieces that are held
pub record NoFault (to_device : Bool) (segment : ℕ) (shape : Shape) (pieces : List Piece) (bytes : List ℕ) (frames : List ChainFrame) : Type 0 where
  pub none : chain_faults segment shape to_device bytes frames ≡ None
  pub told : chain_pieces shape bytes frames ≡ pieces

pub list_all-drop : (n : ℕ) (pieces : List Piece) → list_all is_piece pieces ≡ true → list_all is_piece (drop n pieces) ≡ true
list_all-drop zero pieces sound = sound
list_all-drop (suc n) [] sound = refl
list_all-drop (suc n) (p ∷ pieces) sound = list_all-drop n pieces (and_true (is_piece p) (list_all is_piece pieces) sound).1

pub complete_from : (frames : List ChainFrame) (segment room : ℕ) (to_device : Bool) (pieces : List Piece) (bytes : List ℕ) → list_all is_piece pieces ≡ true → room ≤ 9 → Held to_device room pieces bytes frames → NoFault to_device segment (shape_for room (length pieces)) pieces bytes frames
unfolding chain_faults chain_pieces
complete_from [] segment room to_device pieces bytes sound small held =
    let shape = shape_for-last room (length pieces) held.1 in
    let last = last_none segment to_device pieces bytes None sound held.2 in
    subst (λ (s : Shape). NoFault to_device segment s pieces bytes []) (sym shape) (record { none = last.0; told = last.1 })
complete_from (frame ∷ frames) segment room to_device pieces bytes sound small held =
    let shape = shape_for-chained room (length pieces) held.0 in
    let left : ℕ = length pieces - room in
    let behind : length (drop room pieces) ≡ left = length-drop room pieces in
    let chained = chained_none segment room left frame.address to_device (take room pieces) bytes (list_all-take is_piece room pieces sound) (length-take-le room pieces (omega (arith, held.0))) (omega (arith, held.0)) held.1 in
    let ih = complete_from frames (suc segment) 9 to_device (drop room pieces) frame.bytes (list_all-drop room pieces sound) (omega arith) held.2 in
    let next : next_shape (chained_shape room) bytes ≡ Some (shape_for 9 (length (drop room pieces))) = chained.2 ∙ ap (λ n. Some (shape_for 9 n)) (sym behind) in
    subst (λ (s : Shape). NoFault to_device segment s pieces bytes (frame ∷ frames)) (sym shape)
    (record {
      none =
          ap (λ o. option_or o (option_map_or (λ (s : Shape). chain_faults (suc segment) s to_device frame.bytes frames) (next_shape (chained_shape room) bytes) (Some (fault.Extra segment (segment + suc (length frames)))))) chained.0
          ∙ ap (λ o. option_map_or (λ (s : Shape). chain_faults (suc segment) s to_device frame.bytes frames) o (Some (fault.Extra segment (segment + suc (length frames))))) next
          ∙ ih.none;
      told =
          ap (λ o. segment_pieces (chained_shape room) bytes ++ option_map_or (λ (s : Shape). chain_pieces s frame.bytes frames) o []) next
          ∙ ap (λ ps. ps ++ chain_pieces (shape_for 9 (length (drop room pieces))) frame.bytes frames) chained.1
          ∙ ap (λ ps. take room pieces ++ ps) ih.told
          ∙ take-append-drop room pieces;
    })
