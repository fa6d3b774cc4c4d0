use Rattle.std.proofs.Common.{◌*◌, List, [], ◌∷◌, ◌++◌, inr, cond, not, ap, sym, ◌∙◌}
use Rattle.std.proofs.lemmas.List.{take_rest}
use Rattle.mpt_sgl.specs.Elements.{element_at}
use Rattle.mpt_sgl.specs.Segments.{piece_of}
use Rattle.mpt_sgl.specs.declared.list.Piece.{Piece}
use Rattle.mpt_sgl.proofs.ReadSteps.{flags_fault, length_fault, none_left, sound_more, sound_step, told_more}
use Rattle.mpt_sgl.proofs.area.read_simple.Goals as goal

pub returns-then-element-flags-clause-read : goal.returns-then-element-flags-clause-read
returns-then-element-flags-clause-read c =
    let is = c.read-element.ensures.element ∙ ap element_at (take_rest c.args.bytes.now (12 * c.loop-place.place)) in
    inr (c.loop-place.invariant.faults ∙ flags_fault c.args.segment c.args.count c.loop-place.place c.args.last c.due_flags-flags.result c.args.to_device c.args.bytes.now c.read-element.result c.loop-place-test.true is c.due_flags-flags.ensures c.if-element-flags.true)

pub returns-then-element-eq0-clause-read : goal.returns-then-element-eq0-clause-read
returns-then-element-eq0-clause-read c =
    let is = c.read-element.ensures.element ∙ ap element_at (take_rest c.args.bytes.now (12 * c.loop-place.place)) in
    inr (c.loop-place.invariant.faults ∙ length_fault c.args.segment c.args.count c.loop-place.place c.args.last c.due_flags-flags.result c.args.to_device c.args.bytes.now c.read-element.result c.loop-place-test.true is c.due_flags-flags.ensures c.if-element-flags.false c.if-element-eq0.true)

pub loop-place-preserved : goal.loop-place-preserved
loop-place-preserved c =
    let is = c.read-element.ensures.element ∙ ap element_at (take_rest c.args.bytes.now (12 * c.loop-place.place)) in
    let ok = c.is_err.ensures.negation ∙ ap not c.if-is_err.false in
    let items : List Piece = c.loop-place.pieces.items in
    let pushed = c.push.ensures.items ∙ ap (λ b. cond b (items ++ piece_of c.read-element.result ∷ []) items) ok in
    record {
      faults = c.loop-place.invariant.faults ∙ sound_step c.args.segment c.args.count c.loop-place.place c.args.last c.due_flags-flags.result c.args.to_device c.args.bytes.now c.read-element.result c.loop-place-test.true is c.due_flags-flags.ensures c.if-element-flags.false c.if-element-eq0.false;
      told = told_more c.args.count c.loop-place.place c.args.bytes.now c.read-element.result c.loop-place.pieces.items _ _ c.loop-place-test.true is pushed c.loop-place.invariant.told;
      sound = λ h. sound_more c.read-element.result items _ c.if-element-eq0.false c.read-element.ensures.short pushed (c.loop-place.invariant.sound h);
    }

pub returns-clause-read : goal.returns-clause-read
returns-clause-read c =
    let done = none_left c.args.segment c.loop-place.place c.args.last c.args.to_device c.args.count _ c.loop-place.pieces.items c.loop-place-test.false in
    (c.loop-place.invariant.faults ∙ done.0, sym done.1 ∙ c.loop-place.invariant.told)
