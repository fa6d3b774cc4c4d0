use Rattle.std.proofs.Common.{◌≡◌, ◌↔◌, filter_map, length}
use Rattle.mpt_trace.specs.declared.lane.LaneName.TheVariants as lane
use Rattle.mpt_wire.specs.Fits.Plan.{tell_of}
use Rattle.mpt_wire.specs.Queues.Lanes.{put_on_lane}
use Rattle.plan_fits.proofs.tells.is_told.Given as goal

abbrev pub invariant-loop-item : goal.invariant-loop-item
invariant-loop-item l = (filter_map (put_on_lane (lane.Tell l.number)) l.t ≡ filter_map (tell_of l.lines) l.t) ↔ (filter_map (put_on_lane (lane.Tell l.number)) l.puts ≡ filter_map (tell_of l.lines) l.told)

abbrev pub decreases-loop-item : goal.decreases-loop-item
decreases-loop-item l = length l.puts
