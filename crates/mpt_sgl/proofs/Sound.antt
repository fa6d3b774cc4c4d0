-- Where no fault is found, the areas hold the pieces that they tell.
use Rattle.std.proofs.Common.{◌≡◌, ℕ, suc, ◌+◌, ◌-◌, ◌*◌, inl, inr, Bool, true, false, eqb, cond, List, [], ◌∷◌, ◌++◌, length, map, take, drop, Option, Some, None, refl, ap, sym, subst, ◌∙◌, arith, length-append}
use Rattle.std.specs.Prelude.{is_none}
use Rattle.std.specs.Option.{option_or, option_map_or}
use Rattle.std.proofs.lemmas.Bool.Decides.{eqb_tells}
use Rattle.std.proofs.lemmas.List.{length-map}
use Rattle.std.proofs.Math.Seq.{drop-append_seam, take-append_seam}
use Rattle.mpt_sgl.specs.declared.chained.ChainFrame.{ChainFrame}
use Rattle.mpt_sgl.specs.declared.element.Element.{Element}
use Rattle.mpt_sgl.specs.declared.element.Shape.{Shape}
use Rattle.mpt_sgl.specs.declared.fault.SglFault.TheVariants as fault
use Rattle.mpt_sgl.specs.declared.list.Piece.{Piece}
use Rattle.mpt_sgl.specs.Areas.{area_elements, simple_run}
use Rattle.mpt_sgl.specs.Elements.{chain_element, chain_length, chain_shape, element_at, elements_in, is_zero}
use Rattle.mpt_sgl.specs.Faults.{chain_faults, chain_pieces}
use Rattle.mpt_sgl.specs.Segments.{chain_fault, due_flags, next_shape, piece_of, segment_fault, simple_fault, simples_fault, unused_fault}
use Rattle.mpt_sgl.proofs.ElementRows.{elements_in-more, length-elements_in}
use Rattle.mpt_sgl.specs.Held.{Begins, Held}
use Rattle.mpt_sgl.proofs.Shapes.{IsShape, IsTold-length, IsTold-shape, chain_shape-tells, chained_shape, chains, ends, last_shape, shape_for, shape_for-chained, shape_for-last}

pub or_none : {X : Type 0} (a b : Option X) → option_or a b ≡ None → (a ≡ None) × (b ≡ None)
or_none None b e = (refl, e)
or_none (Some x) b e = cc

sound_simple : (segment element flags : ℕ) (e : Element) → simple_fault segment element flags e ≡ None → e.flags ≡ flags
sound_simple segment element flags e none =
    elim (eqb_tells e.flags flags) [ inl t ↦ t.1 | inr t ↦ (let wrong = rw t.0 at none in cc) ]

-- elements of pieces in which no fault is found
pub sound_simples : (segment place last : ℕ) (to_device : Bool) (es : List Element) → simples_fault segment place to_device last es ≡ None → es ≡ simple_run to_device last (map piece_of es)
sound_simples segment place last to_device [] none = refl
sound_simples segment place last to_device (e ∷ es) none =
    let both = or_none (simple_fault segment place (due_flags to_device last (length es)) e) (simples_fault segment (suc place) to_device last es) none in
    let flags = sound_simple segment place (due_flags to_device last (length es)) e both.0 in
    let ih = sound_simples segment (suc place) last to_device es both.1 in
    let long : length (map piece_of es) ≡ length es = length-map es piece_of in
    let here : e ≡ record { length = e.length; flags = due_flags to_device last (length es); address = e.address } = rw (← flags) refl in
    let due : due_flags to_device last (length es) ≡ due_flags to_device last (length (map piece_of es)) = ap (due_flags to_device last) (sym long) in
    let first : e ≡ record { length = e.length; flags = due_flags to_device last (length (map piece_of es)); address = e.address } = rw (← due, ← flags) refl in
    ap (λ x. x ∷ es) first ∙ ap (λ xs. record { length = e.length; flags = due_flags to_device last (length (map piece_of es)); address = e.address } ∷ xs) ih

-- a chain element in which no fault is found
pub record SoundChain (e : Element) (next : Option ℕ) : Type 0 where
  pub address : ℕ
  pub frame : next ≡ Some address
  pub flags : e.flags ≡ 0x32
  pub leads : e.address ≡ address

pub sound_chain : (segment place : ℕ) (e : Element) (next : Option ℕ) → chain_fault segment place e next ≡ None → SoundChain e next
sound_chain segment place e None none = absurd (elim (eqb_tells e.flags 0x32) [ inl t ↦ missing (is_none (chain_shape e.length)) (rw t.0 at none) | inr t ↦ (let wrong = rw t.0 at none in cc) ]) where
  missing : (b : Bool) → cond b (Some (fault.Length segment place)) (Some (fault.Missing segment)) ≡ None → ⊥
  missing true e = cc
  missing false e = cc
sound_chain segment place e (Some address) none =
    elim (eqb_tells e.flags 0x32) [ inl t ↦ led t.1 (is_none (chain_shape e.length)) (rw t.0 at none) | inr t ↦ (let wrong = rw t.0 at none in cc) ] where
      led : e.flags ≡ 0x32 → (b : Bool) → cond b (Some (fault.Length segment place)) (cond (eqb e.address address) None (Some (fault.Address segment place))) ≡ None → SoundChain e (Some address)
      led flags true none = cc
      led flags false none = elim (eqb_tells e.address address) [ inl t ↦ record { address = address; frame = refl; flags = flags; leads = t.1 } | inr t ↦ (let wrong = rw t.0 at none in cc) ]

pub sound_unused : (segment : ℕ) (bytes : List ℕ) → unused_fault segment bytes ≡ None → is_zero bytes ≡ true
sound_unused segment bytes none = tested (is_zero bytes) none where
  tested : (b : Bool) → cond b None (Some (fault.Stray segment)) ≡ None → b ≡ true
  tested true e = refl
  tested false e = cc

-- a last segment in which no fault is found
sound_last : (segment room count : ℕ) (to_device : Bool) (bytes : List ℕ) (next : Option ℕ) → segment_fault segment (last_shape count) to_device bytes next ≡ None → Begins (area_elements to_device room (map piece_of (elements_in count bytes)) None) bytes
unfolding segment_fault
sound_last segment room count to_device bytes next none =
    let es : List Element = elements_in count bytes in
    let both = or_none (simples_fault segment 0 to_device 0xd3 es) (unused_fault segment (drop (12 * count) bytes)) none in
    let run = sound_simples segment 0 0xd3 to_device es both.0 in
    let long : length es ≡ count = length-elements_in count bytes in
    let zero = sound_unused segment (drop (12 * count) bytes) both.1 in
    subst (λ (xs : List Element). Begins xs bytes) run (record { first = ap (λ n. elements_in n bytes) long; zero = ap (λ n. is_zero (drop (12 * n) bytes)) long ∙ zero })

-- any other segment in which no fault is found, with as many pieces left as its chain element tells
sound_chained : (segment room address left : ℕ) (to_device : Bool) (bytes : List ℕ) (next : Option ℕ) → next ≡ Some address → segment_fault segment (chained_shape room) to_device bytes next ≡ None → (element_at (drop (12 * room) bytes)).length ≡ chain_length left
    → Begins (simple_run to_device 0x92 (map piece_of (elements_in room bytes)) ++ chain_element left address ∷ []) bytes
unfolding segment_fault
sound_chained segment room address left to_device bytes next is none told =
    let es : List Element = elements_in room bytes in
    let e : Element = element_at (drop (12 * room) bytes) in
    let both = or_none (simples_fault segment 0 to_device 0x92 es) (option_or (chain_fault segment room e next) (unused_fault segment (drop (12 * room + 12) bytes))) none in
    let rest = or_none (chain_fault segment room e next) (unused_fault segment (drop (12 * room + 12) bytes)) both.1 in
    let run = sound_simples segment 0 0x92 to_device es both.0 in
    let chain = sound_chain segment room e next rest.0 in
    let zero = sound_unused segment (drop (12 * room + 12) bytes) rest.1 in
    let same : chain.address ≡ address = some_same chain.address address (sym chain.frame ∙ is) in
    let flags : e.flags ≡ 0x32 = chain.flags in
    let leads : e.address ≡ address = chain.leads ∙ same in
    let last : e ≡ chain_element left address = chain_is e left address told flags leads in
    let all : elements_in (room + 1) bytes ≡ es ++ e ∷ [] = elements_in-more room bytes in
    let long : length (es ++ e ∷ []) ≡ room + 1 = length-append es (e ∷ []) ∙ ap (λ n. n + 1) (length-elements_in room bytes) in
    let place : 12 * (room + 1) ≡ 12 * room + 12 = omega arith in
    subst (λ (xs : List Element). Begins xs bytes) (ap (λ xs. xs ++ e ∷ []) run ∙ ap (λ x. simple_run to_device 0x92 (map piece_of es) ++ x ∷ []) last)
    (record { first = ap (λ n. elements_in n bytes) long ∙ all; zero = ap (λ n. is_zero (drop (12 * n) bytes)) long ∙ ap (λ k. is_zero (drop k bytes)) place ∙ zero }) where
      some_same : (a b : ℕ) → Some a ≡ Some b → a ≡ b
      some_same a b e = cc

      chain_is : (e : Element) (left address : ℕ) → e.length ≡ chain_length left → e.flags ≡ 0x32 → e.address ≡ address → e ≡ chain_element left address
      chain_is e left address a b d = rw (← a, ← b, ← d) refl

-- the pieces of an area and those behind it
pub pieces_split : (room : ℕ) (front rest : List Piece) → length front ≡ room → (take room (front ++ rest) ≡ front) × (drop room (front ++ rest) ≡ rest) × (length (front ++ rest) ≡ room + length rest)
pieces_split room front rest long =
    (subst (λ n. take n (front ++ rest) ≡ front) long (take-append_seam front rest), subst (λ n. drop n (front ++ rest) ≡ rest) long (drop-append_seam front rest), length-append front rest ∙ ap (λ n. n + length rest) long)

-- a chain element leads to a frame
no_frame : (segment room : ℕ) (to_device : Bool) (bytes : List ℕ) → segment_fault segment (chained_shape room) to_device bytes None ≡ None → ⊥
unfolding segment_fault
no_frame segment room to_device bytes none =
    let e : Element = element_at (drop (12 * room) bytes) in
    let both = or_none (simples_fault segment 0 to_device 0x92 (elements_in room bytes)) (option_or (chain_fault segment room e None) (unused_fault segment (drop (12 * room + 12) bytes))) none in
    let rest = or_none (chain_fault segment room e None) (unused_fault segment (drop (12 * room + 12) bytes)) both.1 in
    let chain = sound_chain segment room e None rest.0 in
    let wrong = chain.frame in
    cc

-- what no fault from a segment on says
pub record SoundFrom (to_device : Bool) (room : ℕ) (shape : Shape) (pieces : List Piece) (bytes : List ℕ) (frames : List ChainFrame) : Type 0 where
  pub held : Held to_device room pieces bytes frames
  pub shape_is : shape ≡ shape_for room (length pieces)

pub sound_from : (frames : List ChainFrame) (segment room : ℕ) (shape : Shape) (to_device : Bool) (bytes : List ℕ) → IsShape room shape → chain_faults segment shape to_device bytes frames ≡ None → SoundFrom to_device room shape (chain_pieces shape bytes frames) bytes frames
unfolding chain_faults chain_pieces next_shape
sound_from [] segment room _ to_device bytes chains none =
    absurd (no_frame segment room to_device bytes none)
sound_from [] segment room _ to_device bytes (ends count least most) none =
    let es : List Element = elements_in count bytes in
    let long : length (map piece_of es) ≡ count = length-map es piece_of ∙ length-elements_in count bytes in
    record {
      held = (omega (arith, long), omega (arith, long), sound_last segment room count to_device bytes None none);
      shape_is = sym (shape_for-last room (length (map piece_of es)) (omega (arith, long)) ∙ ap last_shape long);
    }
sound_from (frame ∷ frames) segment room _ to_device bytes (ends count least most) none =
    let both = or_none (segment_fault segment (last_shape count) to_device bytes (Some frame.address)) (Some (fault.Extra segment (segment + suc (length frames)))) none in
    let wrong = both.1 in
    cc
sound_from (frame ∷ frames) segment room _ to_device bytes chains none =
    let e : Element = element_at (drop (12 * room) bytes) in
    let both = or_none (segment_fault segment (chained_shape room) to_device bytes (Some frame.address)) (option_map_or (λ (next : Shape). chain_faults (suc segment) next to_device frame.bytes frames) (chain_shape e.length) (Some (fault.Extra segment (segment + suc (length frames))))) none in
    told segment room to_device bytes frame frames both.0 (λ (shape : Shape) is rest. sound_from frames (suc segment) 9 shape to_device frame.bytes is rest) (chain_shape e.length) refl both.1 where
      told : (segment room : ℕ) (to_device : Bool) (bytes : List ℕ) (frame : ChainFrame) (frames : List ChainFrame) → segment_fault segment (chained_shape room) to_device bytes (Some frame.address) ≡ None
          → ((shape : Shape) → IsShape 9 shape → chain_faults (suc segment) shape to_device frame.bytes frames ≡ None → SoundFrom to_device 9 shape (chain_pieces shape frame.bytes frames) frame.bytes frames)
          → (next : Option Shape) → chain_shape (element_at (drop (12 * room) bytes)).length ≡ next → option_map_or (λ (next : Shape). chain_faults (suc segment) next to_device frame.bytes frames) next (Some (fault.Extra segment (segment + suc (length frames)))) ≡ None
          → SoundFrom to_device room (chained_shape room) (map piece_of (elements_in room bytes) ++ option_map_or (λ (next : Shape). chain_pieces next frame.bytes frames) next []) bytes (frame ∷ frames)
      told segment room to_device bytes frame frames here ih None is rest = cc
      told segment room to_device bytes frame frames here ih (Some shape) is rest =
          let tells = chain_shape-tells (element_at (drop (12 * room) bytes)).length shape is in
          let behind = ih shape (IsTold-shape _ shape tells) rest in
          let front : List Piece = map piece_of (elements_in room bytes) in
          let others : List Piece = chain_pieces shape frame.bytes frames in
          let long : length front ≡ room = length-map (elements_in room bytes) piece_of ∙ length-elements_in room bytes in
          let split = pieces_split room front others long in
          let led = IsTold-length _ (length others) shape tells behind.shape_is in
          let left : length (front ++ others) - room ≡ length others = omega (arith, split.2) in
          let begins = sound_chained segment room frame.address (length others) to_device bytes (Some frame.address) refl here led.0 in
          record {
            held = (
              omega (arith, split.2, led.1),
              subst (λ (xs : List Element). Begins xs bytes) (ap (λ ps. simple_run to_device 0x92 ps ++ chain_element (length others) frame.address ∷ []) (sym split.0) ∙ ap (λ n. simple_run to_device 0x92 (take room (front ++ others)) ++ chain_element n frame.address ∷ []) (sym left)) begins,
              subst (λ (ps : List Piece). Held to_device 9 ps frame.bytes frames) (sym split.1) behind.held,
            );
            shape_is = sym (shape_for-chained room (length (front ++ others)) (omega (arith, split.2, led.1)));
          }
