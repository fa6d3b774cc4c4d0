-- The reading of one segment after the other.
use Rattle.std.proofs.Common.{◌≡◌, ℕ, suc, ◌+◌, ◌*◌, ◌<◌, ◌≤◌, inl, inr, Bool, true, eqb, cond, List, [], ◌∷◌, ◌++◌, length, drop, get_or, Option, Some, None, IfSome, refl, ap, sym, subst, ◌∙◌, append_assoc, arith}
use Rattle.std.specs.Option.{option_or, option_map_or}
use Rattle.std.proofs.lemmas.Bool.Decides.{nat_tests}
use Rattle.std.proofs.lemmas.List.{drop_all, length-drop, take_all}
use borrow.Rule.Slice.PartMut.{mid_of}
use Rattle.std.proofs.Math.Seq.{drop-cons}
use Rattle.mpt_sgl.specs.declared.chained.ChainFrame.{ChainFrame}
use Rattle.mpt_sgl.specs.declared.element.Element.{Element}
use Rattle.mpt_sgl.specs.declared.element.Shape.{Shape}
use Rattle.mpt_sgl.specs.declared.fault.SglFault.{SglFault}
use Rattle.mpt_sgl.specs.declared.fault.SglFault.TheVariants as fault
use Rattle.mpt_sgl.specs.declared.list.Piece.{Piece}
use Rattle.mpt_sgl.specs.Faults.{IsFault, chain_faults, chain_pieces, empty_fault}
use Rattle.mpt_sgl.specs.Segments.{element_count, next_shape, segment_fault, segment_pieces, unused_fault}

frame_left : (frames : List ChainFrame) (i : ℕ) (d : ChainFrame) → i < length frames → drop i frames ≡ get_or frames i d ∷ drop (i + 1) frames
frame_left frames i d less =
    let next : suc i ≡ i + 1 = omega arith in
    drop-cons frames i d less ∙ ap (λ k. get_or frames i d ∷ drop k frames) next

-- the first fault is this segment's
pub segment_fails : (segment i : ℕ) (shape : Shape) (to_device : Bool) (bytes : List ℕ) (frames : List ChainFrame) (d : ChainFrame) (cause : SglFault) → i < length frames → segment_fault segment shape to_device bytes (Some (get_or frames i d).address) ≡ Some cause → chain_faults segment shape to_device bytes (drop i frames) ≡ Some cause
unfolding chain_faults
segment_fails segment i shape to_device bytes frames d cause less fails =
    ap (chain_faults segment shape to_device bytes) (frame_left frames i d less)
    ∙ ap (λ o. option_or o (option_map_or (λ (next : Shape). chain_faults (suc segment) next to_device (get_or frames i d).bytes (drop (i + 1) frames)) (next_shape shape bytes) (Some (fault.Extra segment (segment + suc (length (drop (i + 1) frames))))))) fails

-- or frames are left over
pub frames_left_over : (segment i : ℕ) (shape : Shape) (to_device : Bool) (bytes : List ℕ) (frames : List ChainFrame) (d : ChainFrame) → i < length frames → segment ≡ i → segment_fault segment shape to_device bytes (Some (get_or frames i d).address) ≡ None → next_shape shape bytes ≡ None
    → chain_faults segment shape to_device bytes (drop i frames) ≡ Some (fault.Extra segment (length frames))
unfolding chain_faults
frames_left_over segment i shape to_device bytes frames d less is none ends_here =
    let count : segment + suc (length (drop (i + 1) frames)) ≡ length frames = omega (arith, length-drop (i + 1) frames) in
    ap (chain_faults segment shape to_device bytes) (frame_left frames i d less)
    ∙ ap (λ o. option_or o (option_map_or (λ (next : Shape). chain_faults (suc segment) next to_device (get_or frames i d).bytes (drop (i + 1) frames)) (next_shape shape bytes) (Some (fault.Extra segment (segment + suc (length (drop (i + 1) frames))))))) none
    ∙ ap (λ o. option_map_or (λ (next : Shape). chain_faults (suc segment) next to_device (get_or frames i d).bytes (drop (i + 1) frames)) o (Some (fault.Extra segment (segment + suc (length (drop (i + 1) frames)))))) ends_here
    ∙ ap (λ n. Some (fault.Extra segment n)) count

-- or what is wrong is what is wrong from the next segment on
pub next_segment : (segment i : ℕ) (shape next : Shape) (to_device : Bool) (bytes : List ℕ) (frames : List ChainFrame) (d : ChainFrame) → i < length frames → segment_fault segment shape to_device bytes (Some (get_or frames i d).address) ≡ None → next_shape shape bytes ≡ Some next
    → chain_faults segment shape to_device bytes (drop i frames) ≡ chain_faults (segment + 1) next to_device (get_or frames i d).bytes (drop (i + 1) frames)
unfolding chain_faults
next_segment segment i shape next to_device bytes frames d less none leads =
    let number : suc segment ≡ segment + 1 = omega arith in
    ap (chain_faults segment shape to_device bytes) (frame_left frames i d less)
    ∙ ap (λ o. option_or o (option_map_or (λ (next : Shape). chain_faults (suc segment) next to_device (get_or frames i d).bytes (drop (i + 1) frames)) (next_shape shape bytes) (Some (fault.Extra segment (segment + suc (length (drop (i + 1) frames))))))) none
    ∙ ap (λ o. option_map_or (λ (next : Shape). chain_faults (suc segment) next to_device (get_or frames i d).bytes (drop (i + 1) frames)) o (Some (fault.Extra segment (segment + suc (length (drop (i + 1) frames)))))) leads
    ∙ ap (λ n. chain_faults n next to_device (get_or frames i d).bytes (drop (i + 1) frames)) number

pub next_pieces : (i : ℕ) (shape next : Shape) (bytes : List ℕ) (frames : List ChainFrame) (d : ChainFrame) (told after all : List Piece) → i < length frames → next_shape shape bytes ≡ Some next → after ≡ told ++ segment_pieces shape bytes → all ≡ told ++ chain_pieces shape bytes (drop i frames)
    → all ≡ after ++ chain_pieces next (get_or frames i d).bytes (drop (i + 1) frames)
unfolding chain_pieces
next_pieces i shape next bytes frames d told after all less leads more is =
    let rest : List Piece = chain_pieces next (get_or frames i d).bytes (drop (i + 1) frames) in
    let here : chain_pieces shape bytes (drop i frames) ≡ segment_pieces shape bytes ++ rest =
    ap (chain_pieces shape bytes) (frame_left frames i d less) ∙ ap (λ o. segment_pieces shape bytes ++ option_map_or (λ (s : Shape). chain_pieces s (get_or frames i d).bytes (drop (i + 1) frames)) o []) leads in
    is ∙ ap (λ ps. told ++ ps) here ∙ sym (append_assoc told (segment_pieces shape bytes) rest) ∙ ap (λ ps. ps ++ rest) (sym more)

-- the last segment
pub last_segment : (segment i : ℕ) (shape : Shape) (to_device : Bool) (bytes : List ℕ) (frames : List ChainFrame) → length frames ≤ i → chain_faults segment shape to_device bytes (drop i frames) ≡ segment_fault segment shape to_device bytes None
unfolding chain_faults
last_segment segment i shape to_device bytes frames past = ap (chain_faults segment shape to_device bytes) (drop_all i frames past)

pub last_pieces : (i : ℕ) (shape : Shape) (bytes : List ℕ) (frames : List ChainFrame) (told after all : List Piece) → length frames ≤ i → after ≡ told ++ segment_pieces shape bytes → all ≡ told ++ chain_pieces shape bytes (drop i frames) → after ≡ all
unfolding chain_pieces
last_pieces i shape bytes frames told after all past more is = more ∙ ap (λ ps. told ++ ps) (sym (ap (chain_pieces shape bytes) (drop_all i frames past))) ∙ sym is

-- a fault that is first here is first of all
pub fault_moves : {a b : Option SglFault} (cause : SglFault) → ((b ≡ Some cause) → a ≡ Some cause) → IsFault b cause → IsFault a cause
fault_moves cause f (inl wanting) = inl wanting
fault_moves cause f (inr first) = inr (f first)

-- the empty list
pub empty_stray : (lead : Element) (first : List ℕ) (frames : List ChainFrame) (cause : SglFault) → lead.address ≡ 0xffff_ffff_ffff_ffff → unused_fault 0 (drop 12 first) ≡ Some cause → empty_fault lead first frames ≡ Some cause
empty_stray lead first frames cause address stray =
    let test : eqb lead.address 0xffff_ffff_ffff_ffff ≡ true = grind (arith, nat_tests) in
    rw test (ap (λ o. option_or o (cond (eqb (length frames) 0) None (Some (fault.Extra 0 (length frames))))) stray)

pub empty_clear : (lead : Element) (first : List ℕ) (frames : List ChainFrame) → lead.address ≡ 0xffff_ffff_ffff_ffff → unused_fault 0 (drop 12 first) ≡ None → empty_fault lead first frames ≡ cond (eqb (length frames) 0) None (Some (fault.Extra 0 (length frames)))
empty_clear lead first frames address clear =
    let test : eqb lead.address 0xffff_ffff_ffff_ffff ≡ true = grind (arith, nat_tests) in
    rw test (ap (λ o. option_or o (cond (eqb (length frames) 0) None (Some (fault.Extra 0 (length frames))))) clear)

-- the bytes behind the empty list's element
pub behind_empty : (first : List ℕ) → length first ≡ 32 → mid_of 12 20 first ≡ drop 12 first
behind_empty first long = take_all 20 (drop 12 first) (simp length-drop (omega arith))

-- no shape is none
pub none_when : {X : Type 0} (o : Option X) → ((x : X) → o ≡ Some x → ⊥) → o ≡ None
none_when None none = refl
none_when (Some x) none = absurd (none x refl)

-- a shape that a chain element tells has room in a frame
pub room_in : (o : Option Shape) (next : Shape) (bytes : List ℕ) → o ≡ Some next → IfSome o (λ s. element_count s ≤ 10) → length bytes ≡ 128 → 12 * element_count next ≤ length bytes
room_in o next bytes is room long =
    let small : element_count next ≤ 10 = subst (λ (o : Option Shape). IfSome o (λ s. element_count s ≤ 10)) is room in
    omega (arith, small)
