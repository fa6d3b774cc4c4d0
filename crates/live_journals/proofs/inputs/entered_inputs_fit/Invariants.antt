use Rattle.live_journals.proofs.Entered.{EnteredSoFar}
use Rattle.live_journals.proofs.inputs.entered_inputs_fit.Given as goal

-- the inputs so far fit
abbrev pub invariant-loop-entry : goal.invariant-loop-entry
invariant-loop-entry l = EnteredSoFar l.entries l.entry-index
