use Rattle.std.proofs.Common.{◌*◌, IsTrue, List, subst, refl, sym}
use Rattle.std.specs.List.{list_all}
use Rattle.std.proofs.lemmas.List.{take_rest}
use Rattle.mpt_sgl.specs.declared.list.Piece.{Piece}
use Rattle.mpt_sgl.specs.Pieces.{is_piece}
use Rattle.mpt_sgl.proofs.Complete.{list_all-drop}
use Rattle.mpt_sgl.proofs.FrameSteps.{all_frames, area_begins, few_left, many_left, one_frame_more, some_left}
use Rattle.mpt_sgl.proofs.OneSpelling.{sized_area, sized_more}
use Rattle.mpt_sgl.proofs.writing.write_frames.Goals as goal

pub write_area-requires-clause-sound : goal.write_area-requires-clause-sound
write_area-requires-clause-sound c =
    let rest = take_rest c.args.pieces.now (9 * c.loop-i.i) in
    subst (λ (ps : List Piece). IsTrue (list_all is_piece ps)) (sym rest) (list_all-drop (9 * c.loop-i.i) c.args.pieces.now c.requires.sound)

pub write_area-requires-clause-last : goal.write_area-requires-clause-last
write_area-requires-clause-last c =
    few_left c.args.pieces.now _ c.args.chains.now c.loop-i.i c.address_at.result (take_rest c.args.pieces.now (9 * c.loop-i.i)) c.address_at.ensures c.requires.most

pub write_area-requires-clause-more : goal.write_area-requires-clause-more
write_area-requires-clause-more c =
    many_left c.args.pieces.now _ c.args.chains.now c.loop-i.i c.address_at.result (take_rest c.args.pieces.now (9 * c.loop-i.i)) c.address_at.ensures c.loop-i-test.true c.requires.least

pub loop-i-preserved : goal.loop-i-preserved
loop-i-preserved c =
    let rest = take_rest c.args.pieces.now (9 * c.loop-i.i) in
    let more = one_frame_more c.args.to_device c.args.pieces.now _ c.args.chains.now c.loop-i.frames.items _ _ c.loop-i.i c.address_at.result c.loop-i-test.true refl c.in_ok-push.ensures.items rest c.address_at.ensures
    (some_left c.args.pieces.now _ c.args.chains.now c.loop-i.i rest c.loop-i-test.true c.requires.least)
    (few_left c.args.pieces.now _ c.args.chains.now c.loop-i.i c.address_at.result rest c.address_at.ensures c.requires.most)
    (many_left c.args.pieces.now _ c.args.chains.now c.loop-i.i c.address_at.result rest c.address_at.ensures c.loop-i-test.true c.requires.least)
    (area_begins _ 128 c.write_area.new.out c.write_area.ensures.elements c.write_area.ensures.rest)
    c.loop-i.invariant.0 in
    (more, sized_more c.loop-i.frames.items _ _ c.in_ok-push.ensures.items c.loop-i.invariant.1 (sized_area 128 c.write_area.new.out c.write_area.auto.out c.write_area.ensures.bytes))

pub returns-clause-held : goal.returns-clause-held
returns-clause-held c = (all_frames c.args.to_device c.args.pieces.now c.args.chains.now c.loop-i.frames.items c.loop-i.i c.loop-i-test.false c.loop-i.invariant.0).0
