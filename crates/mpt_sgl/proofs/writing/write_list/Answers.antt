use Rattle.std.proofs.Common.{◌≡◌, ℕ, ◌∷◌, List, [], false, length, drop, refl, ap, sym, subst, ◌∙◌, arith}
use Rattle.std.proofs.lemmas.List.{take_rest}
use Rattle.mpt_sgl.specs.declared.chained.ChainFrame.{ChainFrame}
use Rattle.mpt_sgl.specs.declared.chained.Chained.{Chained}
use Rattle.mpt_sgl.specs.declared.list.Piece.{Piece}
use Rattle.mpt_sgl.specs.declared.list.List.{List as ScatterList}
use Rattle.mpt_sgl.specs.Elements.{is_zero}
use Rattle.mpt_sgl.specs.Held.{FramesHold}
use Rattle.mpt_sgl.specs.Pieces.{frame_count}
use Rattle.mpt_sgl.specs.Spelling.{Spells, addresses, are_sized}
use Rattle.mpt_sgl.proofs.FrameSteps.{address_of_next, area_begins, first_few, first_many, held_area, nothing, offset_is, something}
use Rattle.mpt_sgl.proofs.ListsTold.{empty_begins, empty_spelled, some_spelled}
use Rattle.mpt_sgl.proofs.OneSpelling.{one_spelling, sized_area}
use Rattle.mpt_sgl.proofs.writing.write_list.Goals as goal

pub write_area-requires-clause-last : goal.write_area-requires-clause-last
write_area-requires-clause-last c = first_few (length c.args.pieces.now) c.args.chains.now c.address_at.result c.address_at.ensures c.requires.frames

pub returns-then-is_empty-clause-spelled : goal.returns-then-is_empty-clause-spelled
returns-then-is_empty-clause-spelled c =
    let none = nothing c.args.pieces.now (sym c.is_empty.ensures ∙ c.if-is_empty.true) in
    let inward = c.requires.list.direction none in
    let all : Chained = record { offset = 0; first = c.write.new.out; frames = c.new-then-is_empty.result } in
    let begins = empty_begins c.write.new.out c.write.ensures.element (ap is_zero c.write.ensures.rest) in
    let same : (let l : ScatterList = record { to_device = c.args.to_device; pieces = c.args.pieces.now } in l) ≡ record { to_device = false; pieces = [] } =
    ap (λ b. record { to_device = b; pieces = c.args.pieces.now }) inward ∙ ap (λ ps. record { to_device = false; pieces = ps }) none in
    subst (λ (l : ScatterList). Spells l all) (sym same) (empty_spelled all refl begins (c.new-then-is_empty.ensures ∙ c.new.ensures.items))

pub returns-clause-spelled : goal.returns-clause-spelled
returns-clause-spelled c =
    let all : Chained = record { offset = c.chain_offset.result; first = c.write_area.new.out; frames = c.new-2.result } in
    let some = something c.args.pieces.now (sym c.is_empty.ensures ∙ c.if-is_empty.false) in
    let told : addresses c.new-2.result ≡ c.args.chains.now = ap addresses c.new-2.ensures ∙ c.in_ok-frames.ensures.addresses in
    let next = c.address_at.ensures ∙ address_of_next c.args.chains.now 0 c.new-2.result told in
    let hold = subst (λ (ps : List Piece). FramesHold c.args.to_device ps c.in_ok-frames.frames.items) (take_rest c.args.pieces.now 1) c.in_ok-frames.ensures.held in
    let hold' = subst (λ (fs : List ChainFrame). FramesHold c.args.to_device (drop 1 c.args.pieces.now) fs) (sym c.new-2.ensures) hold in
    let held = held_area c.new-2.result c.args.to_device 1 c.args.pieces.now c.write_area.new.out c.address_at.result next some (first_few (length c.args.pieces.now) c.args.chains.now c.address_at.result c.address_at.ensures c.requires.frames) (first_many (length c.args.pieces.now) c.args.chains.now c.address_at.result c.address_at.ensures c.requires.frames) (area_begins _ 32 c.write_area.new.out c.write_area.ensures.elements c.write_area.ensures.rest) hold' in
    some_spelled c.args.to_device c.args.pieces.now all c.requires.list.few c.requires.list.sound (c.chain_offset.ensures ∙ offset_is (length c.args.pieces.now) c.args.chains.now c.requires.frames) held

-- no pieces have no frames
no_heads : (pieces : List Piece) (chains : List ℕ) → pieces ≡ [] → length chains ≡ frame_count (length pieces) → chains ≡ []
no_heads pieces [] none few = refl
no_heads pieces (head ∷ chains) none few = let zero_is : frame_count (length pieces) ≡ 0 = ap (λ (ps : List Piece). frame_count (length ps)) none in absurd (omega (arith, few, zero_is))

pub returns-then-is_empty-clause-only : goal.returns-then-is_empty-clause-only
returns-then-is_empty-clause-only c = λ other sized heads spells. (
    let all : Chained = record { offset = 0; first = c.write.new.out; frames = c.new-then-is_empty.result } in
    let none = nothing c.args.pieces.now (sym c.is_empty.ensures ∙ c.if-is_empty.true) in
    let no_frames : c.new-then-is_empty.result ≡ [] = c.new-then-is_empty.ensures ∙ c.new.ensures.items in
    let bare = no_heads c.args.pieces.now c.args.chains.now none c.requires.frames in
    one_spelling (record { to_device = c.args.to_device; pieces = c.args.pieces.now }) all other (record { first = sized_area 32 c.write.new.out c.write.auto.out c.write.ensures.bytes; frames = ap are_sized no_frames }) sized
    (ap addresses no_frames ∙ sym bare ∙ sym heads) (returns-then-is_empty-clause-spelled c) spells
    )

pub returns-clause-only : goal.returns-clause-only
returns-clause-only c = λ other sized heads spells. (
    let all : Chained = record { offset = c.chain_offset.result; first = c.write_area.new.out; frames = c.new-2.result } in
    let told : addresses c.new-2.result ≡ c.args.chains.now = ap addresses c.new-2.ensures ∙ c.in_ok-frames.ensures.addresses in
    one_spelling (record { to_device = c.args.to_device; pieces = c.args.pieces.now }) all other (record { first = sized_area 32 c.write_area.new.out c.write_area.auto.out c.write_area.ensures.bytes; frames = ap are_sized c.new-2.ensures ∙ c.in_ok-frames.ensures.sized }) sized
    (told ∙ sym heads) (returns-clause-spelled c) spells
    )
