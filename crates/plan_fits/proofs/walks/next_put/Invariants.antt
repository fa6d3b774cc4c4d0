use Rattle.std.proofs.Common.{◌≡◌, ◌≤◌, filter_map, length}
use Rattle.mpt_wire.specs.Queues.Lanes.{put_on_lane}
use Rattle.plan_fits.proofs.walks.next_put.Given as goal

-- what was passed over has nothing to do with it
abbrev pub invariant-loop-entry : goal.invariant-loop-entry
invariant-loop-entry l = (filter_map (put_on_lane l.lane) l.fn.t ≡ filter_map (put_on_lane l.lane) l.rest) × (length l.rest ≤ length l.fn.t)

abbrev pub decreases-loop-entry : goal.decreases-loop-entry
decreases-loop-entry l = length l.rest
