use Rattle.std.proofs.Common.{vec_len}
use Rattle.live_lanes.proofs.Settled.{AreSettledTo}
use Rattle.live_lanes.proofs.settling.settle_all.Given as goal

abbrev pub invariant-loop-giving : goal.invariant-loop-giving
invariant-loop-giving g l = AreSettledTo l.fn.givings.items l.fn.takings.items l.givings.items l.takings.items

abbrev pub decreases-loop-giving : goal.decreases-loop-giving
decreases-loop-giving g l = vec_len l.givings
