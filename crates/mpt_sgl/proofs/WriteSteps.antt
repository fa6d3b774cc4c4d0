-- The writing of one element after the other.
use Rattle.std.proofs.Common.{◌≡◌, ◌≢◌, ℕ, zero, suc, ◌+◌, ◌-◌, ◌*◌, ◌<◌, ◌≤◌, IsTrue, Bool, true, false, ◌&&◌, eqb, cond, List, [], ◌∷◌, ◌++◌, length, take, drop, get_or, length-append, Option, Some, None, refl, ap, sym, subst, ◌∙◌, append_assoc, append-nil, arith}
use Rattle.std.specs.List.{list_all}
use Rattle.std.proofs.lemmas.Bool.Decides.{nat_tests}
use Rattle.std.proofs.lemmas.List.{take_all, drop_all, drop-drop, length-drop, length-take, length-take-le}
use Rattle.std.proofs.Math.Seq.{drop-append_seam, drop-cons}
use Rattle.std.proofs.lemmas.Slice.{take-put_mid_below}
use borrow.Rule.Slice.PartMut.{put_mid}
use Rattle.mpt_sgl.specs.declared.element.Element.{Element}
use Rattle.mpt_sgl.specs.declared.list.Piece.{Piece}
use Rattle.mpt_sgl.specs.Areas.{area_elements, simple_run}
use Rattle.mpt_sgl.specs.Elements.{chain_element, element_at, elements_in, simple_element}
use Rattle.mpt_sgl.proofs.ElementRows.{elements_in-front, elements_in-more}
use Rattle.mpt_sgl.proofs.ReadSteps.{same_test}

-- what the writing of an element at an offset leaves
pub record ElementPut (at : ℕ) (old new : List ℕ) (e : Element) : Type 0 where
  pub front : take at new ≡ take at old
  pub element : element_at (drop at new) ≡ e
  pub back : drop (at + 12) new ≡ drop (at + 12) old

pub element_put : (at : ℕ) (old buf : List ℕ) (e : Element) → at ≤ length old → element_at buf ≡ e → drop 12 buf ≡ drop 12 (take (length old - at) (drop at old)) → ElementPut at old (put_mid at (length old - at) old buf) e
element_put at old buf e room is behind =
    let none : drop (length old - at) (drop at old) ≡ [] = drop_all (length old - at) (drop at old) (simp length-drop (omega arith)) in
    let kept : take (length old - at) (drop at old) ≡ drop at old = take_all (length old - at) (drop at old) (simp length-drop (omega arith)) in
    let new : List ℕ = put_mid at (length old - at) old buf in
    let place : length (take at old) ≡ at = simp length-take (omega arith) in
    let dropped : drop at new ≡ buf = (let seam = drop-append_seam (take at old) (buf ++ drop (length old - at) (drop at old)) in rw place at seam) ∙ rw none (append-nil buf) in
    record {
      front = take-put_mid_below at (length old - at) old buf at (omega arith) room;
      element = ap element_at dropped ∙ is;
      back = sym (drop-drop 12 at new) ∙ ap (drop 12) dropped ∙ behind ∙ ap (drop 12) kept ∙ drop-drop 12 at old;
    }

-- one more element stands behind those so far
pub elements_more : (place : ℕ) (old new : List ℕ) (e : Element) → ElementPut (12 * place) old new e → elements_in (place + 1) new ≡ elements_in place old ++ e ∷ []
elements_more place old new e put =
    elements_in-more place new ∙ ap (λ es. es ++ element_at (drop (12 * place) new) ∷ []) (elements_in-front place new old put.front) ∙ ap (λ x. elements_in place old ++ x ∷ []) put.element

-- what is behind both offsets is the same
pub drop_behind : (at n m : ℕ) (xs ys : List ℕ) → n ≡ at + m → drop at xs ≡ drop at ys → drop n xs ≡ drop n ys
drop_behind at n m xs ys is same =
    ap (λ k. drop k xs) is ∙ sym (drop-drop m at xs) ∙ ap (drop m) same ∙ drop-drop m at ys ∙ ap (λ k. drop k ys) (sym is)

-- the elements so far and the run that is left, and the bytes behind
pub record WrittenSoFar (to_device : Bool) (last : ℕ) (pieces : List Piece) (before out : List ℕ) (place : ℕ) : Type 0 where
  pub elements : elements_in place out ++ simple_run to_device last (drop place pieces) ≡ simple_run to_device last pieces
  pub rest : drop (12 * place) out ≡ drop (12 * place) before

pub written_none : (to_device : Bool) (last : ℕ) (pieces : List Piece) (out : List ℕ) → WrittenSoFar to_device last pieces out out 0
unfolding elements_in
written_none to_device last pieces out = record { elements = refl; rest = refl }

-- the first of the run that is left
run_left : (to_device : Bool) (last place : ℕ) (pieces : List Piece) (d : Piece) → place < length pieces → simple_run to_device last (drop place pieces) ≡ simple_element to_device (cond (eqb (place + 1) (length pieces)) last 0x12) (get_or pieces place d) ∷ simple_run to_device last (drop (place + 1) pieces)
run_left to_device last place pieces d less =
    let next : suc place ≡ place + 1 = omega arith in
    let long : length (drop (place + 1) pieces) ≡ length pieces - (place + 1) = length-drop (place + 1) pieces in
    let p : Piece = get_or pieces place d in
    let rest : List Element = simple_run to_device last (drop (place + 1) pieces) in
    ap (simple_run to_device last) (drop-cons pieces place d less ∙ ap (λ k. p ∷ drop k pieces) next)
    ∙ ap (λ n. simple_element to_device (cond (eqb n 0) last 0x12) p ∷ rest) long
    ∙ ap (λ b. simple_element to_device (cond b last 0x12) p ∷ rest) (sym (same_test place (length pieces) less))

pub written_more : (to_device : Bool) (last flags place : ℕ) (pieces : List Piece) (before out new : List ℕ) (d : Piece) → place < length pieces → flags ≡ cond (eqb (place + 1) (length pieces)) last 0x12
    → ElementPut (12 * place) out new (simple_element to_device flags (get_or pieces place d)) → WrittenSoFar to_device last pieces before out place → WrittenSoFar to_device last pieces before new (place + 1)
written_more to_device last flags place pieces before out new d less due put so_far =
    let next : 12 * (place + 1) ≡ 12 * place + 12 = omega arith in
    let left = run_left to_device last place pieces d less in
    let e : Element = simple_element to_device flags (get_or pieces place d) in
    let rest : List Element = simple_run to_device last (drop (place + 1) pieces) in
    record {
      elements = ap (λ es. es ++ rest) (elements_more place out new e put) ∙ append_assoc (elements_in place out) (e ∷ []) rest ∙ ap (λ n. elements_in place out ++ simple_element to_device n (get_or pieces place d) ∷ rest) due ∙ ap (λ es. elements_in place out ++ es) (sym left) ∙ so_far.elements;
      rest = ap (λ k. drop k new) next ∙ put.back ∙ ap (λ k. drop k out) (sym next) ∙ drop_behind (12 * place) (12 * (place + 1)) 12 out before next so_far.rest;
    }

-- the whole run
pub written_all : (to_device : Bool) (last place : ℕ) (pieces : List Piece) (before out : List ℕ) → length pieces ≤ place → place ≤ length pieces → WrittenSoFar to_device last pieces before out place → (elements_in (length pieces) out ≡ simple_run to_device last pieces) × (drop (12 * length pieces) out ≡ drop (12 * length pieces) before)
written_all to_device last place pieces before out past within so_far =
    let e : place ≡ length pieces = omega arith in
    let none : drop place pieces ≡ [] = drop_all place pieces past in
    let all : elements_in place out ≡ simple_run to_device last pieces = sym (append-nil (elements_in place out)) ∙ ap (λ ps. elements_in place out ++ simple_run to_device last ps) (sym none) ∙ so_far.elements in
    (ap (λ n. elements_in n out) (sym e) ∙ all, ap (λ n. drop (12 * n) out) (sym e) ∙ so_far.rest ∙ ap (λ n. drop (12 * n) before) e)

pub length-simple_run : (to_device : Bool) (last : ℕ) (pieces : List Piece) → length (simple_run to_device last pieces) ≡ length pieces
length-simple_run to_device last [] = refl
length-simple_run to_device last (p ∷ ps) = ap suc (length-simple_run to_device last ps)

-- what holds of all holds of those in front
pub list_all-take : {X : Type 0} (p : X → Bool) (n : ℕ) (xs : List X) → IsTrue (list_all p xs) → IsTrue (list_all p (take n xs))
list_all-take p zero xs all = refl
list_all-take p (suc n) [] all = refl
list_all-take p (suc n) (x ∷ xs) all = split (p x) all (list_all-take p n xs) where
  split : (b : Bool) → IsTrue (b && list_all p xs) → (IsTrue (list_all p xs) → IsTrue (list_all p (take n xs))) → IsTrue (b && list_all p (take n xs))
  split true h f = f h
  split false h f = h

-- the flags on either side of the test
pub due_last : (place n last flags : ℕ) → place + 1 ≡ n → flags ≡ last → flags ≡ cond (eqb (place + 1) n) last 0x12
due_last place n last flags is e =
    let test : eqb (place + 1) n ≡ true = grind (arith, nat_tests) in
    rw test e

pub due_inner : (place n last flags : ℕ) → place + 1 ≢ n → flags ≡ 0x12 → flags ≡ cond (eqb (place + 1) n) last 0x12
due_inner place n last flags is e =
    let test : eqb (place + 1) n ≡ false = grind (arith, nat_tests) in
    rw test e

-- an area begins with these elements, and behind them it is as before
pub record AreaWritten (elements : List Element) (before out : List ℕ) : Type 0 where
  pub written : elements_in (length elements) out ≡ elements
  pub rest : drop (12 * length elements) out ≡ drop (12 * length elements) before

pub run_written : (to_device : Bool) (last : ℕ) (pieces : List Piece) (before out : List ℕ) → elements_in (length pieces) out ≡ simple_run to_device last pieces → drop (12 * length pieces) out ≡ drop (12 * length pieces) before → AreaWritten (simple_run to_device last pieces) before out
run_written to_device last pieces before out written rest =
    let long = length-simple_run to_device last pieces in
    record { written = ap (λ n. elements_in n out) long ∙ written; rest = ap (λ n. drop (12 * n) out) long ∙ rest ∙ ap (λ n. drop (12 * n) before) (sym long) }

chain_written : (elements : List Element) (e : Element) (before between out : List ℕ) → AreaWritten elements before between → ElementPut (12 * length elements) between out e → AreaWritten (elements ++ e ∷ []) before out
chain_written elements e before between out run put =
    let long : length (elements ++ e ∷ []) ≡ length elements + 1 = length-append elements (e ∷ []) in
    let next : 12 * (length elements + 1) ≡ 12 * length elements + 12 = omega arith in
    record {
      written = ap (λ n. elements_in n out) long ∙ elements_more (length elements) between out e put ∙ ap (λ es. es ++ e ∷ []) run.written;
      rest = ap (λ n. drop (12 * n) out) long ∙ ap (λ k. drop k out) next ∙ put.back ∙ drop_behind (12 * length elements) (12 * length elements + 12) 12 between before refl run.rest ∙ ap (λ k. drop k before) (sym next) ∙ ap (λ n. drop (12 * n) before) (sym long);
    }

pub last_area : (to_device : Bool) (room : ℕ) (pieces : List Piece) (next : Option ℕ) (before out : List ℕ) → next ≡ None → elements_in (length pieces) out ≡ simple_run to_device 0xd3 pieces → drop (12 * length pieces) out ≡ drop (12 * length pieces) before → AreaWritten (area_elements to_device room pieces next) before out
last_area to_device room pieces next before out none written rest =
    subst (λ (n : Option ℕ). AreaWritten (area_elements to_device room pieces n) before out) (sym none) (run_written to_device 0xd3 pieces before out written rest)

pub chained_area : (to_device : Bool) (room address : ℕ) (pieces : List Piece) (next : Option ℕ) (before between out : List ℕ) → next ≡ Some address → room ≤ length pieces
    → elements_in (length (take room pieces)) between ≡ simple_run to_device 0x92 (take room pieces) → drop (12 * length (take room pieces)) between ≡ drop (12 * length (take room pieces)) before
    → ElementPut (12 * room) between out (chain_element (length pieces - room) address) → AreaWritten (area_elements to_device room pieces next) before out
chained_area to_device room address pieces next before between out some within written rest put =
    let run = run_written to_device 0x92 (take room pieces) before between written rest in
    let long : room ≡ length (simple_run to_device 0x92 (take room pieces)) = sym (length-simple_run to_device 0x92 (take room pieces) ∙ length-take-le room pieces within) in
    let put' = subst (λ n. ElementPut (12 * n) between out (chain_element (length pieces - room) address)) long put in
    subst (λ (n : Option ℕ). AreaWritten (area_elements to_device room pieces n) before out) (sym some) (chain_written _ _ before between out run put')
