use Rattle.std.proofs.Common.{◌≡◌, ◌*◌, ◌+◌, length, eqb, cond, ◌∙◌, arith}
use Rattle.mpt_sgl.proofs.WriteSteps.{due_inner, due_last, element_put, written_all, written_more, written_none}
use Rattle.mpt_sgl.proofs.area.write_simple.Goals as goal
use Rattle.mpt_sgl.proofs.area.write_simple.Goals.{then-place-pieces, else-place-pieces}

pub loop-place-init : goal.loop-place-init
loop-place-init c = written_none c.args.to_device c.args.last c.args.pieces.now c.args.out.now

pub loop-place-preserved : goal.loop-place-preserved
loop-place-preserved c =
    let put = element_put (12 * c.loop-place.place) c.loop-place.out c.write.new.out _ (omega arith) (c.write.ensures.element ∙ c.simple-element.ensures) c.write.ensures.rest in
    let due : c.if-place-pieces.flags ≡ cond (eqb (c.loop-place.place + 1) (length c.args.pieces.now)) c.args.last 18 = elim c.if-place-pieces.branch [ then-place-pieces w ↦ due_last c.loop-place.place (length c.args.pieces.now) c.args.last _ w.if-place-pieces.true w.flags-is | else-place-pieces w ↦ due_inner c.loop-place.place (length c.args.pieces.now) c.args.last _ w.if-place-pieces.false w.flags-is ] in
    written_more c.args.to_device c.args.last c.if-place-pieces.flags c.loop-place.place c.args.pieces.now c.args.out.now c.loop-place.out _ _ (omega arith) due put c.loop-place.invariant

pub returns-clause-elements : goal.returns-clause-elements
returns-clause-elements c =
    (written_all c.args.to_device c.args.last c.loop-place.place c.args.pieces.now c.args.out.now c.loop-place.out c.loop-place-test.false c.loop-place.auto.place-end c.loop-place.invariant).0

pub returns-clause-rest : goal.returns-clause-rest
returns-clause-rest c =
    (written_all c.args.to_device c.args.last c.loop-place.place c.args.pieces.now c.args.out.now c.loop-place.out c.loop-place-test.false c.loop-place.auto.place-end c.loop-place.invariant).1
