use Rattle.mpt_rules.specs.Session.OpenCases.{fabric_does}
use Rattle.mpt_live.proofs.FabricKeeps.{fabric_books}
use Rattle.mpt_live.proofs.Led.{IsLed}
use Rattle.mpt_live.proofs.fabric_end.FabricEnd.make_moves.Given as goal

abbrev pub invariant-loop-moves : goal.invariant-loop-moves
invariant-loop-moves g l = IsLed fabric_does fabric_books l.fn.self l.self
