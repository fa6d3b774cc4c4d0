use Rattle.mpt_trace.proofs.FitSoFar.{FitSoFar}
use Rattle.mpt_trace.proofs.ranges.entries_fit.Given as goal

-- the entries so far fit
abbrev pub invariant-loop-e : goal.invariant-loop-e
invariant-loop-e l = FitSoFar l.entries l.e-index
