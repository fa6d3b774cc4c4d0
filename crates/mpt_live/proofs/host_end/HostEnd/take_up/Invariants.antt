use Rattle.std.proofs.Common.{◌≡◌}
use Rattle.mpt_live.proofs.host_end.HostEnd.take_up.Given as goal

abbrev pub invariant-loop-queue : goal.invariant-loop-queue
invariant-loop-queue g l = record { recorded : l.self.recorded ≡ l.fn.self.recorded; lanes : l.self.lanes ≡ l.fn.self.lanes }
