use Rattle.std.proofs.Common.{◌↔◌, length}
use Rattle.mpt_wire.specs.Fits.Plan.{AsksAreDone}
use Rattle.plan_fits.proofs.asks.asks_are_done.Given as goal

abbrev pub invariant-loop-entry : goal.invariant-loop-entry
invariant-loop-entry l = AsksAreDone l.t ↔ AsksAreDone l.rest

abbrev pub decreases-loop-entry : goal.decreases-loop-entry
decreases-loop-entry l = length l.rest
