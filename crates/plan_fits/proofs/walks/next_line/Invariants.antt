use Rattle.std.proofs.Common.{◌≡◌, ◌≤◌, filter_map, length}
use Rattle.mpt_wire.specs.Fits.Plan.{line_asked}
use Rattle.plan_fits.proofs.walks.next_line.Given as goal

-- what was passed over has nothing to do with it
abbrev pub invariant-loop-entry : goal.invariant-loop-entry
invariant-loop-entry l = (filter_map line_asked l.fn.t ≡ filter_map line_asked l.rest) × (length l.rest ≤ length l.fn.t)

abbrev pub decreases-loop-entry : goal.decreases-loop-entry
decreases-loop-entry l = length l.rest
