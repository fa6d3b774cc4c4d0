use Rattle.mpt_live.proofs.Submitters.{IsLed}
use Rattle.mpt_live.proofs.submitter_end.SubmitterEnd.make_moves.Given as goal

abbrev pub invariant-loop-moves : goal.invariant-loop-moves
invariant-loop-moves g l = IsLed l.fn.self l.self
