-- The bytes that spell a list are those in which no fault is found, and it is the list that they tell.
use Rattle.std.proofs.Common.{◌≡◌, ◌≢◌, ℕ, suc, ◌≤◌, inl, inr, Bool, true, false, ◌&&◌, ◌||◌, not, eqb, ltb, cond, IsTrue, List, [], ◌∷◌, ◌++◌, length, drop, replicate, Option, Some, None, refl, ap, sym, subst, ◌∙◌, arith, append-nil}
use Rattle.std.specs.List.{flat_map, list_all}
use Rattle.std.specs.Option.{option_or}
use Rattle.std.proofs.lemmas.Bool.Decides.{nat_tests, eqb_tells}
use Rattle.mpt_sgl.specs.declared.chained.ChainFrame.{ChainFrame}
use Rattle.mpt_sgl.specs.declared.chained.Chained.{Chained}
use Rattle.mpt_sgl.specs.declared.element.Element.{Element}
use Rattle.mpt_sgl.specs.declared.element.Shape.{Shape}
use Rattle.mpt_sgl.specs.declared.fault.SglFault.{SglFault}
use Rattle.mpt_sgl.specs.declared.fault.SglFault.TheVariants as fault
use Rattle.mpt_sgl.specs.declared.list.Piece.{Piece}
use Rattle.mpt_sgl.specs.declared.list.List.{List as ScatterList}
use Rattle.mpt_sgl.specs.Areas.{simple_run}
use Rattle.mpt_sgl.specs.Elements.{element_at, elements_in, empty_element, is_to_device, is_zero, simple_element, unused_element}
use Rattle.mpt_sgl.specs.Faults.{IsFault, chain_faults, chain_pieces, empty_fault, first_fault, first_shape, is_empty_lead, pieces_told}
use Rattle.mpt_sgl.specs.Pieces.{IsScatterList, frame_count, is_piece}
use Rattle.mpt_sgl.specs.Segments.{unused_fault}
use Rattle.mpt_sgl.specs.Spelling.{Spells, addresses, row_from, row_of}
use Rattle.mpt_sgl.proofs.Complete.{complete_from}
use Rattle.mpt_sgl.proofs.ElementRows.{elements_in-suc, elements_in-zero}
use Rattle.mpt_sgl.proofs.FrameCounts.{fit_count, frames_fit, held_fits}
use Rattle.mpt_sgl.specs.Held.{Begins, FramesFit, Held}
use Rattle.mpt_sgl.proofs.Rows.{begins_row, held_row, row_begins, row_held}
use Rattle.mpt_sgl.proofs.Shapes.{IsShape, chained_shape, chains, ends, last_shape, shape_for, shape_for-chained}
use Rattle.mpt_sgl.proofs.Sound.{or_none, sound_from, sound_unused}
use Rattle.mpt_sgl.proofs.ZeroBytes.{and_true}

-- the list that the bytes tell
abbrev pub list_told : Chained → ScatterList
list_told c = record { to_device = is_to_device (element_at c.first).flags; pieces = pieces_told c }

-- the first fault, by what is known of the lead
abbrev faults_with : (known empty : Bool) → Shape → Bool → Chained → Option SglFault
faults_with known empty shape to_device c =
    cond (not known) (Some (fault.Offset c.offset))
    (
    cond empty (empty_fault (element_at c.first) c.first c.frames)
    (option_or (chain_faults 0 shape to_device c.first c.frames) (cond (ltb 256 (length (cond empty [] (chain_pieces shape c.first c.frames)))) (Some fault.Many) None))
    )

abbrev is_known : ℕ → Bool
is_known offset = eqb offset 0 || eqb offset 0x1b

-- what the first element of pieces says
record LeadIs (to_device : Bool) (count offset : ℕ) (lead : Element) : Type 0 where
  known : is_known offset ≡ true
  some : is_empty_lead offset lead ≡ false
  shape_is : first_shape offset lead ≡ shape_for 1 count
  direction : is_to_device lead.flags ≡ to_device

lead_at : (e : Element) (es : List Element) (bytes : List ℕ) → Begins (e ∷ es) bytes → element_at bytes ≡ e
lead_at e es bytes begins =
    let all : element_at bytes ∷ elements_in (length es) (drop 12 bytes) ≡ e ∷ es = sym (elements_in-suc (length es) bytes) ∙ begins.first in
    cc

and_false : (a : Bool) → (a && false) ≡ false
and_false true = refl
and_false false = refl

not_empty : (offset : ℕ) (lead : Element) → lead.length ≢ 0 → is_empty_lead offset lead ≡ false
not_empty offset lead some =
    let test : eqb lead.length 0 ≡ false = grind (arith, nat_tests) in
    rw test (and_false (eqb offset 0 && eqb lead.flags 0xd3))

sound_length : (p : Piece) → is_piece p ≡ true → p.len ≢ 0
sound_length p sound = grind (arith, nat_tests)

lead_is : (to_device : Bool) (p : Piece) (pieces : List Piece) (frames : List ChainFrame) (offset : ℕ) (bytes : List ℕ) → is_piece p ≡ true → offset ≡ cond (ltb 2 (suc (length pieces))) 0x1b 0 → Held to_device 1 (p ∷ pieces) bytes frames → LeadIs to_device (suc (length pieces)) offset (element_at bytes)
lead_is to_device p [] [] offset bytes sound is held =
    let lead = lead_at (simple_element to_device 0xd3 p) [] bytes held.2 in
    let at_zero : offset ≡ 0 = is in
    subst (λ (e : Element). LeadIs to_device 1 offset e) (sym lead) (subst (λ n. LeadIs to_device 1 n (simple_element to_device 0xd3 p)) (sym at_zero) (one to_device)) where
      one : (d : Bool) → LeadIs d 1 0 (simple_element d 0xd3 p)
      one true = record { known = refl; some = not_empty 0 (simple_element true 0xd3 p) (sound_length p sound); shape_is = refl; direction = refl }
      one false = record { known = refl; some = not_empty 0 (simple_element false 0xd3 p) (sound_length p sound); shape_is = refl; direction = refl }
lead_is to_device p (q ∷ []) [] offset bytes sound is held =
    let lead = lead_at (simple_element to_device 0x12 p) (simple_run to_device 0xd3 (q ∷ [])) bytes held.2 in
    let at_zero : offset ≡ 0 = is in
    subst (λ (e : Element). LeadIs to_device 2 offset e) (sym lead) (subst (λ n. LeadIs to_device 2 n (simple_element to_device 0x12 p)) (sym at_zero) (two to_device)) where
      two : (d : Bool) → LeadIs d 2 0 (simple_element d 0x12 p)
      two true = record { known = refl; some = not_empty 0 (simple_element true 0x12 p) (sound_length p sound); shape_is = refl; direction = refl }
      two false = record { known = refl; some = not_empty 0 (simple_element false 0x12 p) (sound_length p sound); shape_is = refl; direction = refl }
lead_is to_device p (q ∷ r ∷ pieces) [] offset bytes sound is held = let most = held.1 in absurd (omega arith)
lead_is to_device p pieces (frame ∷ frames) offset bytes sound is held =
    let more = held.0 in
    let test : ltb 2 (suc (length pieces)) ≡ true = grind (arith, nat_tests) in
    let set : offset ≡ 0x1b = is ∙ ap (λ b. cond b 0x1b 0) test in
    let lead = lead_at (simple_element to_device 0x92 p) _ bytes held.1 in
    let shape = shape_for-chained 1 (suc (length pieces)) more in
    subst (λ (e : Element). LeadIs to_device (suc (length pieces)) offset e) (sym lead) (subst (λ n. LeadIs to_device (suc (length pieces)) n (simple_element to_device 0x92 p)) (sym set) (many to_device shape)) where
      many : (d : Bool) → shape_for 1 (suc (length pieces)) ≡ chained_shape 1 → LeadIs d (suc (length pieces)) 0x1b (simple_element d 0x92 p)
      many true shape = record { known = refl; some = refl; shape_is = sym shape; direction = refl }
      many false shape = record { known = refl; some = refl; shape_is = sym shape; direction = refl }

-- a list with pieces
some_told : (to_device : Bool) (p : Piece) (pieces : List Piece) (c : Chained) → length (p ∷ pieces) ≤ 256 → list_all is_piece (p ∷ pieces) ≡ true → c.offset ≡ cond (ltb 2 (suc (length pieces))) 0x1b 0 → Held to_device 1 (p ∷ pieces) c.first c.frames
    → (first_fault c ≡ None) × (is_to_device (element_at c.first).flags ≡ to_device) × (pieces_told c ≡ p ∷ pieces)
some_told to_device p pieces c few sound offset held =
    let lead = lead_is to_device p pieces c.frames c.offset c.first (and_true (is_piece p) (list_all is_piece pieces) sound).0 offset held in
    let none = complete_from c.frames 0 1 to_device (p ∷ pieces) c.first sound (omega arith) held in
    let shape : Shape = first_shape c.offset (element_at c.first) in
    let d : Bool = is_to_device (element_at c.first).flags in
    let told : pieces_told c ≡ p ∷ pieces = ap (λ e. cond e [] (chain_pieces shape c.first c.frames)) lead.some ∙ ap (λ (s : Shape). chain_pieces s c.first c.frames) lead.shape_is ∙ none.told in
    let test : ltb 256 (suc (length pieces)) ≡ false = grind (arith, nat_tests) in (
      ap (λ k. faults_with k (is_empty_lead c.offset (element_at c.first)) shape d c) lead.known
          ∙ ap (λ e. faults_with true e shape d c) lead.some
          ∙ ap (λ (s : Shape). faults_with true false s d c) lead.shape_is
          ∙ ap (λ b. faults_with true false (shape_for 1 (suc (length pieces))) b c) lead.direction
          ∙ ap (λ o. option_or o (cond (ltb 256 (length (chain_pieces (shape_for 1 (suc (length pieces))) c.first c.frames))) (Some fault.Many) None)) none.none
          ∙ ap (λ (ps : List Piece). cond (ltb 256 (length ps)) (Some fault.Many) None) none.told
          ∙ ap (λ b. cond b (Some fault.Many) None) test,
      lead.direction,
      told,
    )

-- the empty list
none_told : (offset : ℕ) (first : List ℕ) (frames : List ChainFrame) → offset ≡ 0 → Begins (empty_element ∷ []) first → frames ≡ []
    → (let c : Chained = record { offset = offset; first = first; frames = frames } in (first_fault c ≡ None) × (is_to_device (element_at first).flags ≡ false) × (pieces_told c ≡ []))
none_told offset first frames at_zero begins none =
    let lead = lead_at empty_element [] first begins in
    let length_is = ap (λ (e : Element). e.length) lead in
    let flags_is = ap (λ (e : Element). e.flags) lead in
    let address_is = ap (λ (e : Element). e.address) lead in
    let clear : list_all (λ byte. eqb byte 0) (drop 12 first) ≡ true = begins.zero in
    (rw (at_zero, flags_is, length_is, address_is, none, clear) refl, rw flags_is refl, rw (at_zero, flags_is, length_is) refl)

no_frames : (frames : List ChainFrame) → length frames ≡ 0 → frames ≡ []
no_frames [] e = refl
no_frames (frame ∷ frames) e = absurd (omega arith)

pub spelled : (list : ScatterList) (c : Chained) → Spells list c → (first_fault c ≡ None) × (list_told c ≡ list)
spelled list c spells = by_pieces list.to_device list.pieces spells.sound spells.offset spells.frames spells.row spells.clear where
  by_pieces : (to_device : Bool) (pieces : List Piece) → IsScatterList to_device pieces → c.offset ≡ cond (ltb 2 (length pieces)) 0x1b 0 → length c.frames ≡ frame_count (length pieces)
      → ((unused : ℕ) × (elements_in 2 c.first ++ flat_map (λ (frame : ChainFrame). elements_in 10 frame.bytes) c.frames ≡ row_of to_device pieces (addresses c.frames) ++ replicate unused unused_element))
      → IsTrue (is_zero (drop 24 c.first) && list_all (λ (frame : ChainFrame). is_zero (drop 120 frame.bytes)) c.frames)
      → (first_fault c ≡ None) × (list_told c ≡ (let l : ScatterList = record { to_device = to_device; pieces = pieces } in l))
  by_pieces to_device [] sound offset frames row clear =
      let none = no_frames c.frames frames in
      let here : elements_in 2 c.first ≡ (empty_element ∷ []) ++ replicate row.0 unused_element =
      sym (append-nil (elements_in 2 c.first)) ∙ ap (λ (fs : List ChainFrame). elements_in 2 c.first ++ flat_map (λ (frame : ChainFrame). elements_in 10 frame.bytes) fs) (sym none) ∙ row.1 in
      let begins = row_begins (empty_element ∷ []) 2 row.0 c.first (omega arith) here (and_true _ _ clear).0 in
      let told = none_told c.offset c.first c.frames offset begins none in
      let inward : to_device ≡ false = sound.direction refl in
      (told.0, ap (λ b. record { to_device = b; pieces = pieces_told c }) (told.1 ∙ sym inward) ∙ ap (λ ps. record { to_device = to_device; pieces = ps }) told.2)
  by_pieces to_device (p ∷ pieces) sound offset frames row clear =
      let fit = frames_fit c.frames (suc (length pieces)) (omega arith) frames in
      let held = row_held c.frames 0 1 0 to_device (p ∷ pieces) c.first (omega arith) (omega arith) (omega arith) fit (record { unused = row.0; row = row.1; clear = clear }) in
      let told = some_told to_device p pieces c sound.few sound.sound offset held in
      (told.0, ap (λ b. record { to_device = b; pieces = pieces_told c }) told.1 ∙ ap (λ ps. record { to_device = to_device; pieces = ps }) told.2)

row_of-some : (to_device : Bool) (pieces : List Piece) (heads : List ℕ) → 1 ≤ length pieces → row_of to_device pieces heads ≡ row_from to_device 0 pieces heads
row_of-some to_device [] heads some = absurd (omega arith)
row_of-some to_device (p ∷ pieces) heads some = refl

-- what the first area has
first_shape-is : (offset : ℕ) (lead : Element) (left : ℕ) → is_known offset ≡ true → IsShape 1 (first_shape offset lead) × (first_shape offset lead ≡ shape_for 1 left → offset ≡ cond (ltb 2 left) 0x1b 0)
first_shape-is offset lead left known =
    elim (eqb_tells offset 0x1b) [
      | inl t ↦ subst (λ b. IsShape 1 (cond b (chained_shape 1) (ending lead)) × (cond b (chained_shape 1) (ending lead) ≡ shape_for 1 left → offset ≡ cond (ltb 2 left) 0x1b 0)) (sym t.0) (chains, λ e. chained_offset (ltb 2 left) t.1 e)
      | inr t ↦ subst (λ b. IsShape 1 (cond b (chained_shape 1) (ending lead)) × (cond b (chained_shape 1) (ending lead) ≡ shape_for 1 left → offset ≡ cond (ltb 2 left) 0x1b 0)) (sym t.0) (ending_shape (eqb lead.flags 0xd3 || eqb lead.flags 0xd7), λ e. ended_offset (ltb 2 left) (zero_offset (rw t.0 at known)) (eqb lead.flags 0xd3 || eqb lead.flags 0xd7) e)
    ] where
      ending : Element → Shape
      ending lead = cond (eqb lead.flags 0xd3 || eqb lead.flags 0xd7) (last_shape 1) (last_shape 2)

      ending_shape : (b : Bool) → IsShape 1 (cond b (last_shape 1) (last_shape 2))
      ending_shape true = ends 1 (omega arith) (omega arith)
      ending_shape false = ends 2 (omega arith) (omega arith)

      chained_offset : (b : Bool) → offset ≡ 0x1b → chained_shape 1 ≡ cond b (chained_shape 1) (last_shape left) → offset ≡ cond b 0x1b 0
      chained_offset true is e = is
      chained_offset false is e = let wrong : true ≡ false = ap (λ (s : Shape). s.chained) e in cc

      zero_offset : (eqb offset 0 || false) ≡ true → offset ≡ 0
      zero_offset e = elim (eqb_tells offset 0) [ inl t ↦ t.1 | inr t ↦ (let wrong = rw t.0 at e in cc) ]

      ended_offset : (b : Bool) → offset ≡ 0 → (d : Bool) → cond d (last_shape 1) (last_shape 2) ≡ cond b (chained_shape 1) (last_shape left) → offset ≡ cond b 0x1b 0
      ended_offset false is d e = is
      ended_offset true is true e = let wrong : false ≡ true = ap (λ (s : Shape). s.chained) e in cc
      ended_offset true is false e = let wrong : false ≡ true = ap (λ (s : Shape). s.chained) e in cc

-- the empty list's lead
lead_empty : (offset : ℕ) (lead : Element) → is_empty_lead offset lead ≡ true → (offset ≡ 0) × (lead.flags ≡ 0xd3) × (lead.length ≡ 0)
lead_empty offset lead e =
    let outer = and_true (eqb offset 0 && eqb lead.flags 0xd3) (eqb lead.length 0) e in
    let inner = and_true (eqb offset 0) (eqb lead.flags 0xd3) outer.0 in
    (grind (arith, nat_tests), grind (arith, nat_tests), grind (arith, nat_tests))

-- no fault in the empty list
sound_empty : (lead : Element) (first : List ℕ) (frames : List ChainFrame) → empty_fault lead first frames ≡ None → (lead.address ≡ 0xffff_ffff_ffff_ffff) × (is_zero (drop 12 first) ≡ true) × (frames ≡ [])
sound_empty lead first frames none =
    elim (eqb_tells lead.address 0xffff_ffff_ffff_ffff) [
      | inl t ↦ (
          let rest = rw t.0 at none in
          let both = or_none (unused_fault 0 (drop 12 first)) (cond (eqb (length frames) 0) None (Some (fault.Extra 0 (length frames)))) rest in
          (t.1, sound_unused 0 (drop 12 first) both.0, no_extra frames both.1)
          )
      | inr t ↦ (let wrong = rw t.0 at none in cc)
    ] where
      no_extra : (frames : List ChainFrame) → cond (eqb (length frames) 0) None (Some (fault.Extra 0 (length frames))) ≡ None → frames ≡ []
      no_extra [] e = refl
      no_extra (frame ∷ frames) e =
          let test : eqb (suc (length frames)) 0 ≡ false = grind (arith, nat_tests) in
          let wrong = rw test at e in
          cc

lead_same : (e : Element) → e.length ≡ 0 → e.flags ≡ 0xd3 → e.address ≡ 0xffff_ffff_ffff_ffff → e ≡ empty_element
lead_same e a b d = rw (← a, ← b, ← d) refl

pub empty_begins : (first : List ℕ) → element_at first ≡ empty_element → is_zero (drop 12 first) ≡ true → Begins (empty_element ∷ []) first
empty_begins first lead clear =
    record { first = elements_in-suc 0 first ∙ ap (λ es. element_at first ∷ es) (elements_in-zero (drop 12 first)) ∙ ap (λ e. e ∷ []) lead; zero = clear }

-- the bytes of the empty list
pub empty_spelled : (c : Chained) → c.offset ≡ 0 → Begins (empty_element ∷ []) c.first → c.frames ≡ [] → Spells (record { to_device = false; pieces = [] }) c
empty_spelled c at_zero begins none =
    let row = begins_row (empty_element ∷ []) 2 c.first (omega arith) begins in
    record {
      sound = record { few = omega arith; sound = refl; direction = λ _. refl };
      offset = at_zero;
      frames = ap length none;
      row = (1, ap (λ (fs : List ChainFrame). elements_in 2 c.first ++ flat_map (λ (frame : ChainFrame). elements_in 10 frame.bytes) fs) none ∙ append-nil (elements_in 2 c.first) ∙ row.0);
      clear = rw (row.1, none) refl;
    }

fit_some : (left : ℕ) (frames : List ChainFrame) → FramesFit 1 left frames → 1 ≤ left
fit_some left [] fit = fit.0
fit_some left (frame ∷ frames) fit = let more = fit.0 in omega arith

-- the bytes of a list with pieces
pub some_spelled : (to_device : Bool) (pieces : List Piece) (c : Chained) → length pieces ≤ 256 → IsTrue (list_all is_piece pieces) → c.offset ≡ cond (ltb 2 (length pieces)) 0x1b 0 → Held to_device 1 pieces c.first c.frames → Spells (record { to_device = to_device; pieces = pieces }) c
some_spelled to_device pieces c few sound offset held =
    let fits = held_fits c.frames 1 to_device pieces c.first held in
    let some = fit_some (length pieces) c.frames fits in
    let row = held_row c.frames 0 1 0 to_device pieces c.first (omega arith) (omega arith) (omega arith) held in
    record {
      sound = record { few = few; sound = sound; direction = λ (none : pieces ≡ []). absurd (let wrong = ap length none in omega (arith, wrong)) };
      offset = offset;
      frames = fit_count c.frames (length pieces) fits;
      row = (row.unused, row.row ∙ ap (λ es. es ++ replicate row.unused unused_element) (sym (row_of-some to_device pieces (addresses c.frames) some)));
      clear = row.clear;
    }

at_most_256 : (n : ℕ) → cond (ltb 256 n) (Some fault.Many) None ≡ None → n ≤ 256
at_most_256 n e = tested (ltb 256 n) refl e where
  tested : (b : Bool) → ltb 256 n ≡ b → cond b (Some fault.Many) None ≡ None → n ≤ 256
  tested true t e = cc
  tested false t e = grind (arith, nat_tests)

unfaulted_empty : (c : Chained) → is_empty_lead c.offset (element_at c.first) ≡ true → empty_fault (element_at c.first) c.first c.frames ≡ None → Spells (list_told c) c
unfaulted_empty c empty none =
    let lead = lead_empty c.offset (element_at c.first) empty in
    let sound = sound_empty (element_at c.first) c.first c.frames none in
    let begins = empty_begins c.first (lead_same (element_at c.first) lead.2 lead.1 sound.0) sound.1 in
    let told = none_told c.offset c.first c.frames lead.0 begins sound.2 in
    let same : list_told c ≡ (let l : ScatterList = record { to_device = false; pieces = [] } in l) =
    ap (λ b. record { to_device = b; pieces = pieces_told c }) told.1 ∙ ap (λ ps. record { to_device = false; pieces = ps }) told.2 in
    subst (λ (l : ScatterList). Spells l c) (sym same) (empty_spelled c lead.0 begins sound.2)

unfaulted_some : (c : Chained) → is_known c.offset ≡ true → is_empty_lead c.offset (element_at c.first) ≡ false → IsTrue (list_all is_piece (pieces_told c))
    → faults_with true false (first_shape c.offset (element_at c.first)) (is_to_device (element_at c.first).flags) c ≡ None → Spells (list_told c) c
unfaulted_some c known some sound none =
    let lead : Element = element_at c.first in
    let shape : Shape = first_shape c.offset lead in
    let d : Bool = is_to_device lead.flags in
    let pieces : List Piece = chain_pieces shape c.first c.frames in
    let both = or_none (chain_faults 0 shape d c.first c.frames) (cond (ltb 256 (length pieces)) (Some fault.Many) None) none in
    let first = first_shape-is c.offset lead (length pieces) known in
    let from = sound_from c.frames 0 1 shape d c.first first.0 both.0 in
    let told : pieces_told c ≡ pieces = ap (λ b. cond b [] pieces) some in
    let sound' : IsTrue (list_all is_piece pieces) = subst (λ (ps : List Piece). IsTrue (list_all is_piece ps)) told sound in
    let same : list_told c ≡ (let l : ScatterList = record { to_device = d; pieces = pieces } in l) = ap (λ ps. record { to_device = d; pieces = ps }) told in
    subst (λ (l : ScatterList). Spells l c) (sym same) (some_spelled d pieces c (at_most_256 (length pieces) both.1) sound' (first.1 from.shape_is) from.held)

pub unfaulted : (c : Chained) → first_fault c ≡ None → IsTrue (list_all is_piece (pieces_told c)) → Spells (list_told c) c
unfaulted c none sound = by_known (is_known c.offset) refl none where
  by_known : (k : Bool) → is_known c.offset ≡ k → faults_with k (is_empty_lead c.offset (element_at c.first)) (first_shape c.offset (element_at c.first)) (is_to_device (element_at c.first).flags) c ≡ None → Spells (list_told c) c
  by_known false known e = cc
  by_known true known e = by_lead (is_empty_lead c.offset (element_at c.first)) refl e where
    by_lead : (b : Bool) → is_empty_lead c.offset (element_at c.first) ≡ b → faults_with true b (first_shape c.offset (element_at c.first)) (is_to_device (element_at c.first).flags) c ≡ None → Spells (list_told c) c
    by_lead true empty e = unfaulted_empty c empty e
    by_lead false some e = unfaulted_some c known some sound e

-- the first fault, where the lead is the empty list's
pub first_of_empty : (c : Chained) (lead : Element) → lead ≡ element_at c.first → is_known c.offset ≡ true → is_empty_lead c.offset lead ≡ true → (first_fault c ≡ empty_fault lead c.first c.frames) × (list_told c ≡ (let l : ScatterList = record { to_device = false; pieces = [] } in l))
first_of_empty c lead is known empty =
    let empty' : is_empty_lead c.offset (element_at c.first) ≡ true = ap (is_empty_lead c.offset) (sym is) ∙ empty in
    let shape : Shape = first_shape c.offset (element_at c.first) in
    let d : Bool = is_to_device (element_at c.first).flags in
    let flags = (lead_empty c.offset lead empty).1 in
    let inward : is_to_device (element_at c.first).flags ≡ false = ap (λ (e : Element). is_to_device e.flags) (sym is) ∙ ap is_to_device flags in
    let none : pieces_told c ≡ [] = ap (λ b. cond b [] (chain_pieces shape c.first c.frames)) empty' in (
      ap (λ k. faults_with k (is_empty_lead c.offset (element_at c.first)) shape d c) known ∙ ap (λ e. faults_with true e shape d c) empty' ∙ ap (λ (e : Element). empty_fault e c.first c.frames) (sym is),
      ap (λ b. record { to_device = b; pieces = pieces_told c }) inward ∙ ap (λ ps. record { to_device = false; pieces = ps }) none,
    )

-- and where it is a piece's
pub first_of_some : (c : Chained) (lead : Element) (shape : Shape) (to_device : Bool) → lead ≡ element_at c.first → is_known c.offset ≡ true → is_empty_lead c.offset lead ≡ false → shape ≡ first_shape c.offset lead → to_device ≡ is_to_device lead.flags
    → (first_fault c ≡ option_or (chain_faults 0 shape to_device c.first c.frames) (cond (ltb 256 (length (chain_pieces shape c.first c.frames))) (Some fault.Many) None)) × (list_told c ≡ (let l : ScatterList = record { to_device = to_device; pieces = chain_pieces shape c.first c.frames } in l))
first_of_some c lead shape to_device is known some shape_is direction =
    let some' : is_empty_lead c.offset (element_at c.first) ≡ false = ap (is_empty_lead c.offset) (sym is) ∙ some in
    let shape' : first_shape c.offset (element_at c.first) ≡ shape = ap (first_shape c.offset) (sym is) ∙ sym shape_is in
    let direction' : is_to_device (element_at c.first).flags ≡ to_device = ap (λ (e : Element). is_to_device e.flags) (sym is) ∙ sym direction in
    let told : pieces_told c ≡ chain_pieces shape c.first c.frames = ap (λ b. cond b [] (chain_pieces (first_shape c.offset (element_at c.first)) c.first c.frames)) some' ∙ ap (λ (s : Shape). chain_pieces s c.first c.frames) shape' in (
      ap (λ k. faults_with k (is_empty_lead c.offset (element_at c.first)) (first_shape c.offset (element_at c.first)) (is_to_device (element_at c.first).flags) c) known
          ∙ ap (λ e. faults_with true e (first_shape c.offset (element_at c.first)) (is_to_device (element_at c.first).flags) c) some'
          ∙ ap (λ (s : Shape). faults_with true false s (is_to_device (element_at c.first).flags) c) shape'
          ∙ ap (λ b. faults_with true false shape b c) direction',
      ap (λ b. record { to_device = b; pieces = pieces_told c }) direction' ∙ ap (λ ps. record { to_device = to_device; pieces = ps }) told,
    )

pub first_of_offset : (c : Chained) → is_known c.offset ≡ false → first_fault c ≡ Some (fault.Offset c.offset)
first_of_offset c known = ap (λ k. faults_with k (is_empty_lead c.offset (element_at c.first)) (first_shape c.offset (element_at c.first)) (is_to_device (element_at c.first).flags) c) known

-- bytes with a fault spell no list
pub spells_none : (c : Chained) (cause : SglFault) → IsFault (first_fault c) cause → (list : ScatterList) → Spells list c → cause ≡ fault.OutOfMemory
spells_none c cause (inl wanting) list spells = wanting
spells_none c cause (inr first) list spells = let none = (spelled list c spells).0 in cc

-- and other bytes the list that they tell alone
pub spells_told : (c : Chained) (told : ScatterList) → list_told c ≡ told → (list : ScatterList) → Spells list c → told ≡ list
spells_told c told is list spells = sym is ∙ (spelled list c spells).1

pub told_spells : (c : Chained) (told : ScatterList) → list_told c ≡ told → first_fault c ≡ None → IsTrue (list_all is_piece told.pieces) → Spells told c
told_spells c told is none sound =
    let sound' : IsTrue (list_all is_piece (pieces_told c)) = subst (λ (l : ScatterList). IsTrue (list_all is_piece l.pieces)) (sym is) sound in
    subst (λ (l : ScatterList). Spells l c) is (unfaulted c none sound')
