use Rattle.mpt_replay.proofs.Lines.{IsSteppedTo}
use Rattle.mpt_replay.proofs.carrying.make_steps.Given as goal

abbrev pub invariant-loop-step : goal.invariant-loop-step
invariant-loop-step l = IsSteppedTo l.fn.system l.choice l._step l.system
