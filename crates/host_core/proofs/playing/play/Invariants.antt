use Rattle.std.proofs.Common.{◌≡◌, take}
use Rattle.host_core.specs.Plays.{after_moves, talk_from, talk_in, told_after}
use Rattle.host_core.proofs.playing.play.Given as goal

abbrev pub invariant-loop-place : goal.invariant-loop-place
invariant-loop-place l =
    record {
      host : l.host.host ≡ after_moves l.initial.host.host (take l.place l.moves);
      told : l.host.told ≡ told_after l.initial.host.told (take l.place l.moves);
      talk : talk_in l.sayings.items ≡ talk_from 0 l.initial.host.host l.initial.host.told (take l.place l.moves);
    }
