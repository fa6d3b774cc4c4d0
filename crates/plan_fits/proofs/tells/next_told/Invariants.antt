use Rattle.std.proofs.Common.{◌≡◌, filter_map, length}
use Rattle.mpt_wire.specs.Fits.Plan.{tell_of}
use Rattle.plan_fits.proofs.tells.next_told.Given as goal

abbrev pub invariant-loop-entry : goal.invariant-loop-entry
invariant-loop-entry l = filter_map (tell_of l.lines) l.t ≡ filter_map (tell_of l.lines) l.rest

abbrev pub decreases-loop-entry : goal.decreases-loop-entry
decreases-loop-entry l = length l.rest
