use Rattle.std.proofs.Common.{◌≡◌, ◌++◌, length}
use Rattle.host_core.specs.Plays.{talk_in}
use Rattle.host_core.proofs.talk.HostTalk.into_vec.Given as goal

abbrev pub invariant-loop-saying : goal.invariant-loop-saying
invariant-loop-saying l = l.pairs.items ++ talk_in l.sayings.items ≡ talk_in l.initial.sayings.items

abbrev pub decreases-loop-saying : goal.decreases-loop-saying
decreases-loop-saying l = length l.sayings.items
