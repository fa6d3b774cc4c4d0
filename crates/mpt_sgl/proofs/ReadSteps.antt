-- The reading of one element after the other.
use Rattle.std.proofs.Common.{◌≡◌, ◌≢◌, ℕ, suc, ◌+◌, ◌-◌, ◌*◌, ◌^◌, ◌<◌, ◌≤◌, IsTrue, Bool, true, false, eqb, cond, List, [], ◌∷◌, ◌++◌, map, drop, Option, Some, None, refl, ap, sym, ◌∙◌, append_assoc, append-nil, arith}
use Rattle.std.specs.List.{list_all}
use Rattle.std.specs.Option.{option_or}
use Rattle.std.proofs.lemmas.List.Folds.{list_all-append}
use Rattle.std.proofs.lemmas.Bool.Decides.{nat_tests}
use Rattle.mpt_sgl.specs.declared.element.Element.{Element}
use Rattle.mpt_sgl.specs.declared.fault.SglFault.{SglFault}
use Rattle.mpt_sgl.specs.declared.fault.SglFault.TheVariants as fault
use Rattle.mpt_sgl.specs.declared.list.Piece.{Piece}
use Rattle.mpt_sgl.specs.Elements.{element_at, elements_in}
use Rattle.mpt_sgl.specs.Pieces.{is_piece}
use Rattle.mpt_sgl.specs.Segments.{due_flags, piece_of, simple_fault, simples_fault}
use Rattle.mpt_sgl.proofs.ElementRows.{elements_left, length-elements_in}

-- none is behind the last
pub same_test : (place count : ℕ) → place < count → eqb (place + 1) count ≡ eqb (count - (place + 1)) 0
same_test place count less = tested (eqb (place + 1) count) (eqb (count - (place + 1)) 0) refl refl where
  tested : (a b : Bool) → eqb (place + 1) count ≡ a → eqb (count - (place + 1)) 0 ≡ b → a ≡ b
  tested true true e f = refl
  tested false false e f = refl
  tested true false e f = absurd (grind (arith, nat_tests))
  tested false true e f = absurd (grind (arith, nat_tests))

-- the flags as the code takes them
abbrev pub flags_at : Bool → (last place count : ℕ) → ℕ
flags_at to_device last place count = cond to_device (cond (eqb (place + 1) count) last 0x12 + 4) (cond (eqb (place + 1) count) last 0x12)

-- what is wrong with the elements that are left is what is wrong with the first of them, or else with the others
pub read_step : (segment count place last flags : ℕ) (to_device : Bool) (bytes : List ℕ) (e : Element) → place < count → e ≡ element_at (drop (12 * place) bytes) → flags ≡ flags_at to_device last place count
    → simples_fault segment place to_device last (elements_in (count - place) (drop (12 * place) bytes)) ≡ option_or (simple_fault segment place flags e) (simples_fault segment (place + 1) to_device last (elements_in (count - (place + 1)) (drop (12 * (place + 1)) bytes)))
read_step segment count place last flags to_device bytes e less is due =
    let left = elements_left count place bytes less in
    let behind = length-elements_in (count - (place + 1)) (drop (12 * (place + 1)) bytes) in
    let next : suc place ≡ place + 1 = omega arith in
    let flags_due : due_flags to_device last (count - (place + 1)) ≡ flags = ap (λ b. cond to_device (cond b last 0x12 + 4) (cond b last 0x12)) (sym (same_test place count less)) ∙ sym due in
    let here : Element = element_at (drop (12 * place) bytes) in
    let others : ℕ → Option SglFault = λ p. simples_fault segment p to_device last (elements_in (count - (place + 1)) (drop (12 * (place + 1)) bytes)) in
    ap (simples_fault segment place to_device last) left
    ∙ ap (λ n. option_or (simple_fault segment place (due_flags to_device last n) here) (others (suc place))) behind
    ∙ ap (λ f. option_or (simple_fault segment place f here) (others (suc place))) flags_due
    ∙ ap (λ x. option_or (simple_fault segment place flags x) (others (suc place))) (sym is)
    ∙ ap (λ p. option_or (simple_fault segment place flags e) (others p)) next

wrong_flags : (segment place flags : ℕ) (e : Element) → e.flags ≢ flags → simple_fault segment place flags e ≡ Some (fault.Flags segment place)
wrong_flags segment place flags e wrong =
    let test : eqb e.flags flags ≡ false = grind (arith, nat_tests) in
    rw test refl

no_length : (segment place flags : ℕ) (e : Element) → e.flags ≡ flags → e.length ≡ 0 → simple_fault segment place flags e ≡ Some (fault.Length segment place)
no_length segment place flags e right wrong =
    let test : eqb e.flags flags ≡ true = grind (arith, nat_tests) in
    let test' : eqb e.length 0 ≡ true = grind (arith, nat_tests) in
    rw (test, test') refl

pub sound_element : (segment place flags : ℕ) (e : Element) → e.flags ≡ flags → e.length ≢ 0 → simple_fault segment place flags e ≡ None
sound_element segment place flags e right sound =
    let test : eqb e.flags flags ≡ true = grind (arith, nat_tests) in
    let test' : eqb e.length 0 ≡ false = grind (arith, nat_tests) in
    rw (test, test') refl

pub flags_fault : (segment count place last flags : ℕ) (to_device : Bool) (bytes : List ℕ) (e : Element) → place < count → e ≡ element_at (drop (12 * place) bytes) → flags ≡ flags_at to_device last place count → e.flags ≢ flags
    → simples_fault segment place to_device last (elements_in (count - place) (drop (12 * place) bytes)) ≡ Some (fault.Flags segment place)
flags_fault segment count place last flags to_device bytes e less is due wrong =
    read_step segment count place last flags to_device bytes e less is due ∙ rw (wrong_flags segment place flags e wrong) refl

pub length_fault : (segment count place last flags : ℕ) (to_device : Bool) (bytes : List ℕ) (e : Element) → place < count → e ≡ element_at (drop (12 * place) bytes) → flags ≡ flags_at to_device last place count → e.flags ≡ flags → e.length ≡ 0
    → simples_fault segment place to_device last (elements_in (count - place) (drop (12 * place) bytes)) ≡ Some (fault.Length segment place)
length_fault segment count place last flags to_device bytes e less is due right wrong =
    read_step segment count place last flags to_device bytes e less is due ∙ rw (no_length segment place flags e right wrong) refl

pub sound_step : (segment count place last flags : ℕ) (to_device : Bool) (bytes : List ℕ) (e : Element) → place < count → e ≡ element_at (drop (12 * place) bytes) → flags ≡ flags_at to_device last place count → e.flags ≡ flags → e.length ≢ 0
    → simples_fault segment place to_device last (elements_in (count - place) (drop (12 * place) bytes)) ≡ simples_fault segment (place + 1) to_device last (elements_in (count - (place + 1)) (drop (12 * (place + 1)) bytes))
sound_step segment count place last flags to_device bytes e less is due right sound =
    read_step segment count place last flags to_device bytes e less is due ∙ rw (sound_element segment place flags e right sound) refl

-- one more piece is told
pub told_more : (count place : ℕ) (bytes : List ℕ) (e : Element) (told after all : List Piece) → place < count → e ≡ element_at (drop (12 * place) bytes) → after ≡ told ++ piece_of e ∷ []
    → told ++ map piece_of (elements_in (count - place) (drop (12 * place) bytes)) ≡ all → after ++ map piece_of (elements_in (count - (place + 1)) (drop (12 * (place + 1)) bytes)) ≡ all
told_more count place bytes e told after all less is more before =
    let left = elements_left count place bytes less in
    let rest : List Piece = map piece_of (elements_in (count - (place + 1)) (drop (12 * (place + 1)) bytes)) in
    ap (λ front. front ++ rest) (more ∙ ap (λ x. told ++ piece_of x ∷ []) is) ∙ append_assoc told _ rest ∙ ap (λ es. told ++ map piece_of es) (sym left) ∙ before

-- none is left
pub none_left : (segment place last : ℕ) (to_device : Bool) (count : ℕ) (bytes : List ℕ) (told : List Piece) → count ≤ place → (simples_fault segment place to_device last (elements_in (count - place) bytes) ≡ None) × (told ++ map piece_of (elements_in (count - place) bytes) ≡ told)
unfolding elements_in
none_left segment place last to_device count bytes told past =
    let e : count - place ≡ 0 = omega arith in
    rw e (refl, append-nil told)

-- one more piece is one that a list may have
pub sound_more : (e : Element) (told after : List Piece) → e.length ≢ 0 → e.length < 2 ^ 24 → after ≡ told ++ piece_of e ∷ [] → IsTrue (list_all is_piece told) → IsTrue (list_all is_piece after)
sound_more e told after some short more sound =
    let piece : is_piece (piece_of e) ≡ true = grind (arith, nat_tests) in
    ap (list_all is_piece) more ∙ list_all-append is_piece told (piece_of e ∷ []) ∙ rw (sound, piece) refl
