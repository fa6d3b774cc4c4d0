use Rattle.std.proofs.Common.{◌+◌, ◌++◌, drop, inr, refl, ap, sym, ◌∙◌, arith}
use Rattle.std.proofs.lemmas.Result.{err_from_is_err_and}
use Rattle.mpt_sgl.specs.Faults.{chain_faults, chain_pieces}
use Rattle.mpt_sgl.proofs.ChainSteps.{fault_moves, frames_left_over, last_pieces, last_segment, next_pieces, next_segment, none_when, room_in, segment_fails}
use Rattle.mpt_sgl.proofs.reading.read_pieces.Goals as goal

pub loop-frame-init : goal.loop-frame-init
loop-frame-init c = record {
  faults = refl;
  told = rw c.new-pieces.ensures.items refl;
  sound = rw c.new-pieces.ensures.items refl;
  room = c.requires.room;
  counted = refl;
}

pub read_area-requires : goal.read_area-requires
read_area-requires c = c.loop-frame.invariant.room

pub returns-in_err-following-clause-read : goal.returns-in_err-following-clause-read
returns-in_err-following-clause-read c =
    let p = err_from_is_err_and c.from_residual.result c.from_residual.ensures.1 in
    rw (p.1, p.2) (fault_moves _ (λ e. c.loop-frame.invariant.faults ∙ segment_fails c.loop-frame.segment c.loop-frame.frame-index c.loop-frame.current c.args.to_device c.loop-frame.bytes.now c.args.frames.now _ _ c.loop-frame-test.true e) c.in_err-following.ensures.read)

pub returns-in_default-clause-read : goal.returns-in_default-clause-read
returns-in_default-clause-read c =
    let read = c.in_ok-following.ensures.read in
    let none = none_when c.in_ok-following.following c.in_default.not-Some in
    inr (c.loop-frame.invariant.faults ∙ frames_left_over c.loop-frame.segment c.loop-frame.frame-index c.loop-frame.current c.args.to_device c.loop-frame.bytes.now c.args.frames.now _ c.loop-frame-test.true c.loop-frame.invariant.counted read.0 (sym read.1 ∙ none))

pub overflow_add-segment : goal.overflow_add-segment
overflow_add-segment c = omega (arith, c.loop-frame.invariant.counted, c.requires.few)

pub loop-frame-preserved : goal.loop-frame-preserved
loop-frame-preserved c =
    let read = c.in_ok-following.ensures.read in
    let leads = sym read.1 ∙ c.in-Some.is in
    let step = next_segment c.loop-frame.segment c.loop-frame.frame-index c.loop-frame.current c.in-Some.next c.args.to_device c.loop-frame.bytes.now c.args.frames.now _ c.loop-frame-test.true read.0 leads in
    let pieces = next_pieces c.loop-frame.frame-index c.loop-frame.current c.in-Some.next c.loop-frame.bytes.now c.args.frames.now _ _ _ _ c.loop-frame-test.true leads read.2 c.loop-frame.invariant.told in
    record {
      faults = c.loop-frame.invariant.faults ∙ step ∙ ap (λ bs. chain_faults (c.loop-frame.segment + 1) c.in-Some.next c.args.to_device bs (drop (c.loop-frame.frame-index + 1) c.args.frames.now)) (sym c.area-bytes.ensures.value);
      told = pieces ∙ ap (λ bs. c.read_area.new.pieces.items ++ chain_pieces c.in-Some.next bs (drop (c.loop-frame.frame-index + 1) c.args.frames.now)) (sym c.area-bytes.ensures.value);
      sound = c.in_ok-following.ensures.sound c.loop-frame.invariant.sound;
      room = room_in _ c.in-Some.next _ c.in-Some.is c.in_ok-following.ensures.room c.area-bytes.ensures.length;
      counted = ap (λ n. n + 1) c.loop-frame.invariant.counted;
    }

pub read_area-requires-2 : goal.read_area-requires-2
read_area-requires-2 c = c.loop-frame.invariant.room

pub returns-in_err-read_area-clause-read : goal.returns-in_err-read_area-clause-read
returns-in_err-read_area-clause-read c =
    let p = err_from_is_err_and c.from_residual-in_err-read_area.result c.from_residual-in_err-read_area.ensures.1 in
    rw (p.1, p.2) (fault_moves _ (λ e. c.loop-frame.invariant.faults ∙ last_segment c.loop-frame.segment c.loop-frame.frame-index c.loop-frame.current c.args.to_device c.loop-frame.bytes.now c.args.frames.now c.loop-frame-test.false ∙ e) c.in_err-read_area.ensures.read)

pub returns-clause-read : goal.returns-clause-read
returns-clause-read c =
    let read = c.in_ok-read_area.ensures.read in
    (c.loop-frame.invariant.faults ∙ last_segment c.loop-frame.segment c.loop-frame.frame-index c.loop-frame.current c.args.to_device c.loop-frame.bytes.now c.args.frames.now c.loop-frame-test.false ∙ read.0, last_pieces c.loop-frame.frame-index c.loop-frame.current c.loop-frame.bytes.now c.args.frames.now _ _ _ c.loop-frame-test.false read.2 c.loop-frame.invariant.told)

pub returns-clause-sound : goal.returns-clause-sound
returns-clause-sound c = c.in_ok-read_area.ensures.sound c.loop-frame.invariant.sound
