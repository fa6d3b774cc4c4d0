use Rattle.std.proofs.Common.{◌≡◌}
use Rattle.mpt_live.proofs.host_end.HostEnd.take_ask.Given as goal

abbrev pub invariant-loop-submitter : goal.invariant-loop-submitter
invariant-loop-submitter g l = record { recorded : l.self.recorded ≡ l.fn.self.recorded; lanes : l.self.lanes ≡ l.fn.self.lanes }
