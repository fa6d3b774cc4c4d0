use Rattle.mpt_system.proofs.RoundsMade.{Made}
use Rattle.mpt_system.proofs.system.System.make_rounds.Given as goal

abbrev pub invariant-loop-rounds : goal.invariant-loop-rounds
invariant-loop-rounds l = Made l.fn.self l.most l.rounds l.self
