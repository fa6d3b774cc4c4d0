-- The writing of one frame after the other.
use Rattle.std.proofs.Common.{◌≡◌, ℕ, zero, suc, ◌+◌, ◌-◌, ◌*◌, ◌/◌, ◌<◌, ◌≤◌, Bool, true, false, ltb, eqb, cond, List, [], ◌∷◌, ◌++◌, length, take, drop, replicate, get_or, Option, Some, None, refl, ap, sym, subst, ◌∙◌, append-nil, append_assoc, arith}
use Rattle.std.specs.List.{slice_get}
use Rattle.std.specs.Option.{ForNone, ForSome}
use Rattle.std.proofs.lemmas.Bool.Decides.{nat_tests}
use Rattle.std.proofs.lemmas.List.{drop-drop, drop-replicate, drop_all, length-drop, take_all, take_more}
use Rattle.std.proofs.Math.Seq.{drop-cons}
use Rattle.mpt_sgl.specs.declared.chained.ChainFrame.{ChainFrame}
use Rattle.mpt_sgl.specs.declared.element.Element.{Element}
use Rattle.mpt_sgl.specs.declared.list.Piece.{Piece}
use Rattle.mpt_sgl.specs.Areas.{area_elements}
use Rattle.mpt_sgl.specs.Elements.{elements_in, is_zero}
use Rattle.mpt_sgl.specs.Held.{Begins, FramesHold, Held}
use Rattle.mpt_sgl.specs.Pieces.{frame_count}
use Rattle.mpt_sgl.specs.Spelling.{addresses}

zero_replicate : (n : ℕ) → is_zero (replicate n 0) ≡ true
zero_replicate zero = refl
zero_replicate (suc n) = zero_replicate n

-- an area that was zero, with these elements written into it
pub area_begins : (elements : List Element) (size : ℕ) (out : List ℕ) → elements_in (length elements) out ≡ elements → drop (12 * length elements) out ≡ drop (12 * length elements) (replicate size 0) → Begins elements out
area_begins elements size out written rest =
    record { first = written; zero = ap is_zero (rest ∙ drop-replicate (12 * length elements) size 0) ∙ zero_replicate (size - 12 * length elements) }

-- the first frame's address, if there is a frame
abbrev pub next_address : List ChainFrame → Option ℕ
next_address [] = None
next_address (frame ∷ frames) = Some frame.address

slice_get-drop : (xs : List ℕ) (i : ℕ) → slice_get xs i ≡ slice_get (drop i xs) 0
slice_get-drop [] zero = refl
slice_get-drop [] (suc i) = refl
slice_get-drop (x ∷ xs) zero = refl
slice_get-drop (x ∷ xs) (suc i) = slice_get-drop xs i

first_address : (frames : List ChainFrame) → slice_get (addresses frames) 0 ≡ next_address frames
first_address [] = refl
first_address (frame ∷ frames) = refl

pub address_of_next : (chains : List ℕ) (i : ℕ) (frames : List ChainFrame) → addresses frames ≡ drop i chains → slice_get chains i ≡ next_address frames
address_of_next heads i frames same = slice_get-drop heads i ∙ ap (λ xs. slice_get xs 0) (sym same) ∙ first_address frames

-- an area and the frames behind it
pub held_area : (frames : List ChainFrame) (to_device : Bool) (room : ℕ) (pieces : List Piece) (bytes : List ℕ) (next : Option ℕ) → next ≡ next_address frames → 1 ≤ length pieces → ForNone next (length pieces ≤ room + 1) → ForSome next (λ _. room + 2 ≤ length pieces)
    → Begins (area_elements to_device room pieces next) bytes → FramesHold to_device (drop room pieces) frames → Held to_device room pieces bytes frames
held_area [] to_device room pieces bytes next is some few more begins hold =
    (some, few is, subst (λ (n : Option ℕ). Begins (area_elements to_device room pieces n) bytes) is begins)
held_area (frame ∷ frames) to_device room pieces bytes next is some few more begins hold =
    (more frame.address is, subst (λ (n : Option ℕ). Begins (area_elements to_device room pieces n) bytes) is begins, hold)

-- the frames so far, with any that hold what is left
pub record FramesSoFar (to_device : Bool) (pieces : List Piece) (heads : List ℕ) (frames : List ChainFrame) (i : ℕ) : Type 0 where
  pub hold : (rest : List ChainFrame) → addresses rest ≡ drop i heads → FramesHold to_device (drop (9 * i) pieces) rest → FramesHold to_device pieces (frames ++ rest)
  pub told : addresses frames ≡ take i heads

pub no_frame_yet : (to_device : Bool) (pieces : List Piece) (heads : List ℕ) → FramesSoFar to_device pieces heads [] 0
no_frame_yet to_device pieces heads = record { hold = λ rest same held. held; told = refl }

addresses-more : (frames : List ChainFrame) (frame : ChainFrame) → addresses (frames ++ frame ∷ []) ≡ addresses frames ++ frame.address ∷ []
addresses-more [] frame = refl
addresses-more (first ∷ frames) frame = ap (λ xs. first.address ∷ xs) (addresses-more frames frame)

pub one_frame_more : (to_device : Bool) (pieces rest : List Piece) (heads : List ℕ) (frames after : List ChainFrame) (frame : ChainFrame) (i : ℕ) (next : Option ℕ) → i < length heads → frame.address ≡ get_or heads i 0 → after ≡ frames ++ frame ∷ []
    → rest ≡ drop (9 * i) pieces → next ≡ slice_get heads (i + 1) → 1 ≤ length rest → ForNone next (length rest ≤ 10) → ForSome next (λ _. 11 ≤ length rest) → Begins (area_elements to_device 9 rest next) frame.bytes
    → FramesSoFar to_device pieces heads frames i → FramesSoFar to_device pieces heads after (i + 1)
one_frame_more to_device pieces rest heads frames after frame i next less address more is next_is some few many begins so_far =
    record {
      hold = λ (others : List ChainFrame) same held. (
          let place : 9 * i + 9 ≡ 9 * (i + 1) = omega arith in
          let step : suc i ≡ i + 1 = omega arith in
          let left : drop 9 rest ≡ drop (9 * (i + 1)) pieces = ap (drop 9) is ∙ drop-drop 9 (9 * i) pieces ∙ ap (λ k. drop k pieces) place in
          let here : Held to_device 9 rest frame.bytes others = held_area others to_device 9 rest frame.bytes next (next_is ∙ address_of_next heads (i + 1) others same) some few many begins (subst (λ (ps : List Piece). FramesHold to_device ps others) (sym left) held) in
          let heads_left : addresses (frame ∷ others) ≡ drop i heads = ap (λ xs. frame.address ∷ xs) same ∙ ap (λ a. a ∷ drop (i + 1) heads) address ∙ ap (λ k. get_or heads i 0 ∷ drop k heads) (sym step) ∙ sym (drop-cons heads i 0 less) in
          let all = so_far.hold (frame ∷ others) heads_left (subst (λ (ps : List Piece). Held to_device 9 ps frame.bytes others) is here) in
          subst (λ (fs : List ChainFrame). FramesHold to_device pieces fs) (sym (append_assoc frames (frame ∷ []) others) ∙ ap (λ fs. fs ++ others) (sym more)) all
          );
      told = ap addresses more ∙ addresses-more frames frame ∙ ap (λ xs. xs ++ frame.address ∷ []) so_far.told ∙ ap (λ a. take i heads ++ a ∷ []) address ∙ sym (take_more heads i 0 less);
    }

pub all_frames : (to_device : Bool) (pieces : List Piece) (heads : List ℕ) (frames : List ChainFrame) (i : ℕ) → length heads ≤ i → FramesSoFar to_device pieces heads frames i → FramesHold to_device pieces frames × (addresses frames ≡ heads)
all_frames to_device pieces heads frames i past so_far =
    (subst (λ (fs : List ChainFrame). FramesHold to_device pieces fs) (append-nil frames) (so_far.hold [] (sym (drop_all i heads past)) tt), so_far.told ∙ take_all i heads past)

slice_none : (xs : List ℕ) (i : ℕ) → slice_get xs i ≡ None → length xs ≤ i
slice_none [] i e = omega arith
slice_none (x ∷ xs) zero e = cc
slice_none (x ∷ xs) (suc i) e = let ih = slice_none xs i e in omega (arith, ih)

slice_some : (xs : List ℕ) (i x : ℕ) → slice_get xs i ≡ Some x → i < length xs
slice_some [] i x e = cc
slice_some (y ∷ xs) zero x e = omega arith
slice_some (y ∷ xs) (suc i) x e = let ih = slice_some xs i x e in omega (arith, ih)

-- how many pieces are left at a frame
pub few_left : (pieces rest : List Piece) (heads : List ℕ) (i : ℕ) (next : Option ℕ) → rest ≡ drop (9 * i) pieces → next ≡ slice_get heads (i + 1) → length pieces ≤ 9 * length heads + 1 → ForNone next (length rest ≤ 10)
few_left pieces rest heads i next is next_is most none =
    let past = slice_none heads (i + 1) (sym next_is ∙ none) in
    let left : length rest ≡ length pieces - 9 * i = ap length is ∙ length-drop (9 * i) pieces in
    omega (arith, past, left)

pub many_left : (pieces rest : List Piece) (heads : List ℕ) (i : ℕ) (next : Option ℕ) → rest ≡ drop (9 * i) pieces → next ≡ slice_get heads (i + 1) → i < length heads → (0 < length heads → 9 * length heads ≤ length pieces + 7) → ForSome next (λ _. 11 ≤ length rest)
many_left pieces rest heads i next is next_is less least x some =
    let within = slice_some heads (i + 1) x (sym next_is ∙ some) in
    let least' = least (omega arith) in
    let left : length rest ≡ length pieces - 9 * i = ap length is ∙ length-drop (9 * i) pieces in
    omega (arith, within, left, least')

pub some_left : (pieces rest : List Piece) (heads : List ℕ) (i : ℕ) → rest ≡ drop (9 * i) pieces → i < length heads → (0 < length heads → 9 * length heads ≤ length pieces + 7) → 1 ≤ length rest
some_left pieces rest heads i is less least =
    let least' = least (omega arith) in
    let left : length rest ≡ length pieces - 9 * i = ap length is ∙ length-drop (9 * i) pieces in
    omega (arith, left, least')

-- the offset
pub offset_is : (pieces : ℕ) (heads : List ℕ) → length heads ≡ frame_count pieces → ◌≡◌ {A = ℕ} (cond (eqb (length heads) 0) 0 0x1b) (cond (ltb 2 pieces) 0x1b 0)
offset_is pieces heads count = tested (ltb 2 pieces) refl where
  tested : (b : Bool) → ltb 2 pieces ≡ b → ◌≡◌ {A = ℕ} (cond (eqb (length heads) 0) 0 0x1b) (cond b 0x1b 0)
  tested true t =
      let few : ltb pieces 3 ≡ false = grind (arith, nat_tests) in
      let some : length heads ≡ (pieces - 3) / 9 + 1 = count ∙ ap (λ b. cond b 0 ((pieces - 3) / 9 + 1)) few in
      let test : eqb (length heads) 0 ≡ false = grind (arith, nat_tests) in
      rw test refl
  tested false t =
      let few : ltb pieces 3 ≡ true = grind (arith, nat_tests) in
      let none : length heads ≡ 0 = count ∙ ap (λ b. cond b 0 ((pieces - 3) / 9 + 1)) few in
      rw none refl

-- how many pieces there are at the first area
pub first_few : (pieces : ℕ) (heads : List ℕ) (next : Option ℕ) → next ≡ slice_get heads 0 → length heads ≡ frame_count pieces → ForNone next (pieces ≤ 2)
first_few pieces heads next is count none = tested (ltb pieces 3) refl count where
  past : length heads ≤ 0
  past = slice_none heads 0 (sym is ∙ none)

  tested : (b : Bool) → ltb pieces 3 ≡ b → length heads ≡ cond b 0 ((pieces - 3) / 9 + 1) → pieces ≤ 2
  tested true t e = grind (arith, nat_tests)
  tested false t e = let none_at_all = past in absurd (omega arith)

pub first_many : (pieces : ℕ) (heads : List ℕ) (next : Option ℕ) → next ≡ slice_get heads 0 → length heads ≡ frame_count pieces → ForSome next (λ _. 3 ≤ pieces)
first_many pieces heads next is count x some = tested (ltb pieces 3) refl count where
  within : 0 < length heads
  within = slice_some heads 0 x (sym is ∙ some)

  tested : (b : Bool) → ltb pieces 3 ≡ b → length heads ≡ cond b 0 ((pieces - 3) / 9 + 1) → 3 ≤ pieces
  tested true t e = let one = within in absurd (omega arith)
  tested false t e = grind (arith, nat_tests)

pub nothing : (pieces : List Piece) → eqb (length pieces) 0 ≡ true → pieces ≡ []
nothing [] e = refl
nothing (p ∷ pieces) e =
    let test : eqb (suc (length pieces)) 0 ≡ false = grind (arith, nat_tests) in
    let wrong = rw test at e in
    cc

pub something : (pieces : List Piece) → eqb (length pieces) 0 ≡ false → 1 ≤ length pieces
something pieces e = grind (arith, nat_tests)
