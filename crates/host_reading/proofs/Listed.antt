-- The changes that an event names, one after the other.
use Rattle.std.proofs.Common.{◌≡◌, ◌∙◌, ℕ, zero, suc, ◌+◌, ◌-◌, ◌*◌, ◌<◌, ◌≤◌, ◌==◌, Bool, true, false, [], ◌∷◌, ◌++◌, List, length, replicate, get_or, bit_and, Option, Some, None, min, refl, sym, ap, arith, inl, inr}
use Rattle.std.specs.Prelude.{if◌then◌else◌}
use Rattle.std.proofs.lemmas.Bool.{cases_lt}
use Rattle.std.proofs.lemmas.Bool.Decides.{nat_tests}
use Rattle.std.proofs.lemmas.List.{get_or_past}
use Rattle.std.proofs.lemmas.List.Elements.{filter_map-append}
use Rattle.mpi_layout.specs.Rows.{field}
use Rattle.mpi_layout.proofs.Obeyed.{field-one}
use Rattle.removal.specs.declared.phase.Phase.{Phase}
use Rattle.removal.specs.declared.phase.Phase.TheVariants as phase
use Rattle.removal.specs.Handles.{phase_at, with_phase}
use Rattle.removal.specs.Phases.{after_added}
use Rattle.mpt_wire.specs.Messages.Fields.{Change, change_at, changes_from, changes_in, event_in, topology_change_list}
use Rattle.mpt_rules.specs.Host.Removal.{added_handle, added_handles, first_not_absent, is_absent}
use Rattle.host_reading.specs.Changes.{IsCount, beyond}

-- ---- more changes than the frame has room for

changes_split : (frame : List ℕ) (at a b : ℕ) → changes_from frame at (a + b) ≡ changes_from frame at a ++ changes_from frame (at + 4 * a) b
unfolding changes_from
changes_split frame at zero b = let none : at + 4 * 0 ≡ at = omega arith in let sum : 0 + b ≡ b = omega arith in rw (none, sum) refl
changes_split frame at (suc a) b =
    let sum : suc a + b ≡ suc (a + b) = omega arith in
    let place : at + 4 * suc a ≡ at + 4 + 4 * a = omega arith in
    rw (sum, place) (ap (λ cs. change_at frame at ∷ cs) (changes_split frame (at + 4) a b))

no_byte : (frame : List ℕ) (at w : ℕ) → length frame ≤ at → field frame at w ≡ 0
unfolding field
no_byte frame at zero past = refl
no_byte frame at (suc w) past =
    let rest : field frame at w ≡ 0 = no_byte frame at w past in
    let none : get_or frame (at + w) 0 ≡ 0 = get_or_past frame (at + w) 0 (omega arith) in
    rw (rest, none) (omega arith)

no_change : (frame : List ℕ) (at : ℕ) → length frame ≤ at → change_at frame at ≡ beyond
no_change frame at past =
    let handle : field frame at 2 ≡ 0 = no_byte frame at 2 past in
    let status : field frame (at + 3) 1 ≡ 0 = no_byte frame (at + 3) 1 (omega arith) in
    rw (handle, status) refl

changes_past : (frame : List ℕ) (at n : ℕ) → length frame ≤ at → changes_from frame at n ≡ replicate n beyond
unfolding changes_from
changes_past frame at zero past = refl
changes_past frame at (suc n) past = rw (no_change frame at past, changes_past frame (at + 4) n (omega arith)) refl

-- a frame of 128 bytes has room for 22
pub counted : (frame : List ℕ) (n : ℕ) → length frame ≡ 128 → event_in frame ≡ topology_change_list → n ≡ min (field frame 0x24 1) 22 → IsCount n frame
counted frame n long event count =
    let named : ℕ = field frame 0x24 1 in
    elim (cases_lt 22 named) [
      | inl above ↦
          let most : n ≡ 22 = omega (arith, count, above) in
          let sum : 22 + (named - 22) ≡ named = omega (arith, above) in
          (named - 22, in_topology (changes_from frame 0x28 n ++ replicate (named - 22) beyond) (rw most (sym (ap (changes_from frame 0x28) sum) ∙ changes_split frame 0x28 22 (named - 22) ∙ ap (λ cs. changes_from frame 0x28 22 ++ cs) (changes_past frame (0x28 + 4 * 22) (named - 22) (omega arith)))))
      | inr within ↦
          let all : n ≡ named = omega (arith, count, within) in
          (0, in_topology (changes_from frame 0x28 n ++ []) (rw all (sym (no_more (changes_from frame 0x28 named)))))
    ]
  where
    in_topology : (cs : List Change) → changes_from frame 0x28 (field frame 0x24 1) ≡ cs → changes_in frame ≡ cs
    in_topology cs is = ap (λ ev. if ev == topology_change_list then changes_from frame 0x28 (field frame 0x24 1) else []) event ∙ is

    no_more : (cs : List Change) → cs ++ [] ≡ cs
    no_more [] = refl
    no_more (c ∷ cs) = ap (λ rest. c ∷ rest) (no_more cs)

-- any other event names none
pub counted_none : (frame : List ℕ) → (event_in frame == topology_change_list) ≡ false → IsCount 0 frame
unfolding changes_from
counted_none frame other = (0, ap (λ (b : Bool). if b then changes_from frame 0x28 (field frame 0x24 1) else []) other)

-- ---- the first handle that isn't absent

none_added : (more : ℕ) → added_handles (replicate more beyond) ≡ []
none_added zero = refl
none_added (suc more) = none_added more

-- only those count for which there is room
pub added_counted : (frame : List ℕ) (n : ℕ) → IsCount n frame → added_handles (changes_in frame) ≡ added_handles (changes_from frame 0x28 n)
added_counted frame n count =
    ap added_handles count.1 ∙ filter_map-append added_handle (changes_from frame 0x28 n) (replicate count.0 beyond)
    ∙ ap (λ hs. added_handles (changes_from frame 0x28 n) ++ hs) (none_added count.0) ∙ no_more (added_handles (changes_from frame 0x28 n))
  where
    no_more : (hs : List ℕ) → hs ++ [] ≡ hs
    no_more [] = refl
    no_more (h ∷ hs) = ap (λ rest. h ∷ rest) (no_more hs)

-- the changes from a place on
pub change_next : (frame : List ℕ) (place end : ℕ) → place < end → changes_from frame (0x28 + 4 * place) (end - place) ≡ change_at frame (0x28 + 4 * place) ∷ changes_from frame (0x28 + 4 * (place + 1)) (end - (place + 1))
unfolding changes_from
change_next frame place end within =
    let left : end - place ≡ suc (end - (place + 1)) = omega arith in
    let next : 0x28 + 4 * (place + 1) ≡ 0x28 + 4 * place + 4 = omega arith in
    rw (left, next) refl

change_none : (frame : List ℕ) (at n : ℕ) → n ≡ 0 → changes_from frame at n ≡ []
unfolding changes_from
change_none frame at n none = rw none refl

pub not_added : (phases : List Phase) (c : Change) (cs : List Change) → added_handle c ≡ None → first_not_absent phases (added_handles (c ∷ cs)) ≡ first_not_absent phases (added_handles cs)
not_added phases c cs none = rw none refl

pub added_there : (phases : List Phase) (c : Change) (cs : List Change) (handle : ℕ) → added_handle c ≡ Some handle → is_absent (phase_at phases handle) ≡ false → first_not_absent phases (added_handles (c ∷ cs)) ≡ Some handle
unfolding first_not_absent
added_there phases c cs handle added there = rw (added, there) refl

absent_of : (p : Phase) → is_absent p ≡ true → p ≡ phase.Absent
absent_of phase.Absent is = refl
absent_of phase.WaitRead is = absurd (cc)
absent_of (phase.Reading smid) is = absurd (cc)
absent_of (phase.Ready address) is = absurd (cc)
absent_of phase.WaitHigh is = absurd (cc)
absent_of (phase.Resetting smid) is = absurd (cc)
absent_of phase.WaitInternal is = absurd (cc)
absent_of (phase.Removing smid) is = absurd (cc)

pub added_absent : (phases next : List Phase) (c : Change) (cs : List Change) (handle : ℕ) → added_handle c ≡ Some handle → is_absent (phase_at phases handle) ≡ true → next ≡ with_phase phases handle (after_added (phase_at phases handle))
    → first_not_absent phases (added_handles (c ∷ cs)) ≡ first_not_absent next (added_handles cs)
unfolding first_not_absent
added_absent phases next c cs handle added absent is =
    let here : phase_at phases handle ≡ phase.Absent = absent_of (phase_at phases handle) absent in
    let after : next ≡ with_phase phases handle (after_added phase.Absent) = is ∙ ap (λ p. with_phase phases handle (after_added p)) here in
    rw (added, absent, after) refl

none_left : (phases : List Phase) → first_not_absent phases (added_handles []) ≡ None
unfolding first_not_absent
none_left phases = refl

-- ---- the walk over the changes

-- what is looked for among the changes from a place on
abbrev pub found_from : List Phase → List ℕ → ℕ → ℕ → Option ℕ
found_from phases frame place end = first_not_absent phases (added_handles (changes_from frame (0x28 + 4 * place) (end - place)))

pub whole : (phases copy : List Phase) (frame : List ℕ) (end : ℕ) → copy ≡ phases → IsCount end frame → first_not_absent phases (added_handles (changes_in frame)) ≡ first_not_absent copy (added_handles (changes_from frame 0x28 end))
whole phases copy frame end same count =
    ap (first_not_absent phases) (added_counted frame end count) ∙ ap (λ p. first_not_absent p (added_handles (changes_from frame 0x28 end))) (sym same)

here : (phases : List Phase) (frame : List ℕ) (place end : ℕ) → place < end → found_from phases frame place end ≡ first_not_absent phases (added_handles (change_at frame (0x28 + 4 * place) ∷ changes_from frame (0x28 + 4 * (place + 1)) (end - (place + 1))))
here phases frame place end within = ap (λ cs. first_not_absent phases (added_handles cs)) (change_next frame place end within)

pub found_there : (phases : List Phase) (frame : List ℕ) (place end handle : ℕ) → place < end → added_handle (change_at frame (0x28 + 4 * place)) ≡ Some handle → is_absent (phase_at phases handle) ≡ false → found_from phases frame place end ≡ Some handle
found_there phases frame place end handle within added there = here phases frame place end within ∙ added_there phases (change_at frame (0x28 + 4 * place)) (changes_from frame (0x28 + 4 * (place + 1)) (end - (place + 1))) handle added there

pub found_later : (phases next : List Phase) (frame : List ℕ) (place end handle : ℕ) → place < end → added_handle (change_at frame (0x28 + 4 * place)) ≡ Some handle → is_absent (phase_at phases handle) ≡ true → next ≡ with_phase phases handle (after_added (phase_at phases handle)) → found_from phases frame place end ≡ found_from next frame (place + 1) end
found_later phases next frame place end handle within added absent is = here phases frame place end within ∙ added_absent phases next (change_at frame (0x28 + 4 * place)) (changes_from frame (0x28 + 4 * (place + 1)) (end - (place + 1))) handle added absent is

pub found_past : (phases next : List Phase) (frame : List ℕ) (place end : ℕ) → place < end → added_handle (change_at frame (0x28 + 4 * place)) ≡ None → next ≡ phases → found_from phases frame place end ≡ found_from next frame (place + 1) end
found_past phases next frame place end within none same =
    here phases frame place end within ∙ not_added phases (change_at frame (0x28 + 4 * place)) (changes_from frame (0x28 + 4 * (place + 1)) (end - (place + 1))) none ∙ ap (λ p. found_from p frame (place + 1) end) (sym same)

pub found_none : (phases : List Phase) (frame : List ℕ) (place end : ℕ) → end - place ≡ 0 → found_from phases frame place end ≡ None
found_none phases frame place end none = ap (λ cs. first_not_absent phases (added_handles cs)) (change_none frame (0x28 + 4 * place) (end - place) none) ∙ none_left phases

-- the change that is read
pub change_read : (frame : List ℕ) (place from handle : ℕ) → from ≡ place → handle ≡ field frame (0x28 + 4 * from) 2 → let c : Change = record { handle = handle; status = bit_and (get_or frame (0x28 + 4 * from + 3) 0) 15 } in c ≡ change_at frame (0x28 + 4 * place)
change_read frame place from handle from_is handle_is =
    let at : ℕ = 0x28 + 4 * from in
    let byte : field frame (at + 3) 1 ≡ get_or frame (at + 3) 0 = field-one frame (at + 3) in
    let read : let c : Change = record { handle = handle; status = bit_and (get_or frame (at + 3) 0) 15 } in c ≡ change_at frame at = rw (handle_is, sym byte) refl in
    read ∙ ap (λ p. change_at frame (0x28 + 4 * p)) from_is

pub differs : (n k : ℕ) → (n ≡ k → ⊥) → (n == k) ≡ false
differs n k other = grind (arith, nat_tests)
