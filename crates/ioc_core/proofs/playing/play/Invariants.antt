use Rattle.std.proofs.Common.{◌≡◌, ◌++◌, take}
use Rattle.ioc_core.specs.Plays.{after_moves, talk_from, told_by}
use Rattle.ioc_core.proofs.playing.play.Given as goal

abbrev pub invariant-loop-place : goal.invariant-loop-place
invariant-loop-place l =
    record {
      part : l.ioc.part ≡ after_moves l.initial.ioc.part (take l.place l.moves);
      told : l.ioc.told ≡ l.initial.ioc.told ++ told_by l.initial.ioc.part (take l.place l.moves);
      talk : l.talk.items ≡ talk_from 0 l.initial.ioc.part (take l.place l.moves);
    }
