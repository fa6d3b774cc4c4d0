use Rattle.std.proofs.Common.{◌∙◌, ◌<◌, ◌++◌, ap, length, sym, arith}
use Rattle.ioc_core.specs.Plays.{HasPlayed, after_moves, talk_from, told_by}
use Rattle.ioc_core.proofs.Played.{all_played, nothing_played, nothing_said, nothing_told, on_err_given, part_goes_on, talk_goes_on, told_goes_on}
use Rattle.ioc_core.proofs.playing.play.Goals as goal

pub loop-place-init : goal.loop-place-init
loop-place-init c =
    record {
      part = nothing_played c.args.ioc.now.part;
      told = nothing_told c.args.ioc.now.part c.args.ioc.now.told;
      talk = c.new-talk.ensures.items ∙ sym (nothing_said c.args.ioc.now.part);
    }

pub loop-place-preserved : goal.loop-place-preserved
loop-place-preserved c =
    let moves = c.args.moves.now in
    let j = c.loop-place.place in
    let m = c.index-moves-place.result in
    let first = c.args.ioc.now.part in
    let part = c.loop-place.ioc.part in
    let below : j < length moves = omega arith in
    let is = sym c.index-moves-place.is in
    record {
      part = part_goes_on moves j m first part c.play_move.new.self.part below is c.loop-place.invariant.part c.in_ok-play_move.ensures.part;
      told = told_goes_on moves j m first part c.args.ioc.now.told c.loop-place.ioc.told c.play_move.new.self.told below is c.loop-place.invariant.part c.loop-place.invariant.told c.in_ok-play_move.ensures.told;
      talk = talk_goes_on moves j m first part c.loop-place.talk.items c.play_move.new.talk.items below is c.loop-place.invariant.part c.loop-place.invariant.talk c.in_ok-play_move.ensures.talk;
    }

pub returns-in_err-play_move-clause-stands : goal.returns-in_err-play_move-clause-stands
returns-in_err-play_move-clause-stands c =
    let stands : HasPlayed c.args.ioc.now c.play_move.new.self c.args.moves.now =
    record {
      count = c.loop-place.place;
      within = omega arith;
      part = c.in_err-play_move.ensures.stays ∙ c.loop-place.invariant.part;
      told = c.in_err-play_move.ensures.silent ∙ c.loop-place.invariant.told;
    } in
    on_err_given c.from_residual.result stands

pub returns-clause-talk : goal.returns-clause-talk
returns-clause-talk c =
    let all = all_played c.args.moves.now c.loop-place.place (omega arith) in
    c.new.ensures ∙ c.loop-place.invariant.talk ∙ ap (talk_from 0 c.args.ioc.now.part) all

pub returns-clause-part : goal.returns-clause-part
returns-clause-part c =
    let all = all_played c.args.moves.now c.loop-place.place (omega arith) in
    c.loop-place.invariant.part ∙ ap (after_moves c.args.ioc.now.part) all

pub returns-clause-told : goal.returns-clause-told
returns-clause-told c =
    let all = all_played c.args.moves.now c.loop-place.place (omega arith) in
    c.loop-place.invariant.told ∙ ap (λ ms. c.args.ioc.now.told ++ told_by c.args.ioc.now.part ms) all
