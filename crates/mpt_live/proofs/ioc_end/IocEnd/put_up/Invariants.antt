use Rattle.std.proofs.Common.{◌≡◌}
use Rattle.mpt_live.proofs.ioc_end.IocEnd.put_up.Given as goal

abbrev pub invariant-loop-queue : goal.invariant-loop-queue
invariant-loop-queue g l = record { recorded : l.self.recorded ≡ l.initial.self.recorded; lanes : l.self.lanes ≡ l.initial.self.lanes }
