use Rattle.std.proofs.Common.{◌≡◌, ◌≤◌, length}
use Rattle.mpt_wire.specs.Fits.Plan.{inputs_of}
use Rattle.plan_fits.proofs.walks.next_input.Given as goal

-- what was passed over has nothing to do with it
abbrev pub invariant-loop-entry : goal.invariant-loop-entry
invariant-loop-entry l = (inputs_of l.of l.fn.t ≡ inputs_of l.of l.rest) × (length l.rest ≤ length l.fn.t)

abbrev pub decreases-loop-entry : goal.decreases-loop-entry
decreases-loop-entry l = length l.rest
