use Rattle.std.proofs.Common.{◌∙◌, ◌<◌, ap, length, refl, sym, arith}
use Rattle.host_core.specs.Plays.{HasPlayed, after_moves, talk_from, talk_in, told_after}
use Rattle.host_core.proofs.Played.{all_played, host_goes_on, nothing_played, nothing_said, on_err_given, talk_goes_on, told_goes_on}
use Rattle.host_core.proofs.playing.play.Goals as goal

pub loop-place-init : goal.loop-place-init
loop-place-init c =
    record {
      host = nothing_played c.args.host.now.host;
      told = refl;
      talk = ap talk_in c.new-sayings.ensures.items ∙ sym (nothing_said c.args.host.now.host c.args.host.now.told);
    }

pub loop-place-preserved : goal.loop-place-preserved
loop-place-preserved c =
    let moves = c.args.moves.now in
    let j = c.loop-place.place in
    let m = c.index-moves-place.result in
    let first = c.args.host.now.host in
    let had = c.args.host.now.told in
    let below : j < length moves = omega arith in
    let is = sym c.index-moves-place.is in
    record {
      host = host_goes_on moves j m first c.loop-place.host.host c.play_move.new.self.host below is c.loop-place.invariant.host c.in_ok-play_move.ensures.host;
      told = told_goes_on moves j m had c.play_move.new.self.told below is c.in_ok-play_move.ensures.told;
      talk = talk_goes_on moves j m first c.loop-place.host.host had c.loop-place.host.told (talk_in c.loop-place.sayings.items) (talk_in c.play_move.new.sayings.items) below is c.loop-place.invariant.host c.loop-place.invariant.told c.loop-place.invariant.talk c.in_ok-play_move.ensures.talk;
    }

pub returns-in_err-play_move-clause-stands : goal.returns-in_err-play_move-clause-stands
returns-in_err-play_move-clause-stands c =
    let stands : HasPlayed c.args.host.now c.play_move.new.self c.args.moves.now =
    record {
      count = c.loop-place.place;
      within = omega arith;
      host = c.in_err-play_move.ensures.stays.host ∙ c.loop-place.invariant.host;
      told = c.in_err-play_move.ensures.stays.told ∙ c.loop-place.invariant.told;
    } in
    on_err_given c.from_residual.result stands

pub returns-clause-talk : goal.returns-clause-talk
returns-clause-talk c =
    let all = all_played c.args.moves.now c.loop-place.place (omega arith) in
    c.new.ensures ∙ c.loop-place.invariant.talk ∙ ap (talk_from 0 c.args.host.now.host c.args.host.now.told) all

pub returns-clause-host : goal.returns-clause-host
returns-clause-host c =
    let all = all_played c.args.moves.now c.loop-place.place (omega arith) in
    c.loop-place.invariant.host ∙ ap (after_moves c.args.host.now.host) all

pub returns-clause-told : goal.returns-clause-told
returns-clause-told c =
    let all = all_played c.args.moves.now c.loop-place.place (omega arith) in
    c.loop-place.invariant.told ∙ ap (told_after c.args.host.now.told) all
