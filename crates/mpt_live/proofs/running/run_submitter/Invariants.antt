use Rattle.mpt_live.proofs.Submitters.{IsLed}
use Rattle.mpt_live.proofs.running.run_submitter.Given as goal

abbrev pub invariant-loop : goal.invariant-loop
invariant-loop g l = IsLed l.fn.end l.end
