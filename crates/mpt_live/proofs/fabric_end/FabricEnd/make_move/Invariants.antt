use Rattle.std.proofs.Common.{◌≡◌}
use Rattle.mpt_live.proofs.fabric_end.FabricEnd.make_move.Given as goal

abbrev pub invariant-loop-work : goal.invariant-loop-work
invariant-loop-work g l = record { recorded : l.self.recorded ≡ l.fn.self.recorded; lanes : l.self.lanes ≡ l.fn.self.lanes }
