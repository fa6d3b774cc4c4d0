use Rattle.mpt_rules.specs.Session.OpenCases.{ioc_does}
use Rattle.mpt_live.proofs.IocKeeps.{ioc_books}
use Rattle.mpt_live.proofs.Led.{IsLed}
use Rattle.mpt_live.proofs.ioc_end.IocEnd.make_moves.Given as goal

abbrev pub invariant-loop-moves : goal.invariant-loop-moves
invariant-loop-moves g l = IsLed ioc_does ioc_books l.fn.self l.self
