use Rattle.std.proofs.Common.{◌≡◌}
use Rattle.mpt_live.proofs.ioc_end.IocEnd.make_move.Given as goal

abbrev pub invariant-loop-work : goal.invariant-loop-work
invariant-loop-work g l = record { recorded : l.self.recorded ≡ l.fn.self.recorded; lanes : l.self.lanes ≡ l.fn.self.lanes }
