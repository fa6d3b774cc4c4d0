use Rattle.std.proofs.Common.{◌≡◌, ◌↔◌, filter_map, length}
use Rattle.mpt_trace.specs.declared.lane.LaneName.TheVariants as lane
use Rattle.mpt_wire.specs.Fits.Plan.{asks_of}
use Rattle.mpt_wire.specs.Queues.Lanes.{put_on_lane}
use Rattle.plan_fits.proofs.asks.asks.Given as goal

abbrev pub invariant-loop-line : goal.invariant-loop-line
invariant-loop-line l = (filter_map (put_on_lane (lane.Ask l.number)) l.t ≡ asks_of l.lines) ↔ (filter_map (put_on_lane (lane.Ask l.number)) l.behind ≡ asks_of l.left)

abbrev pub decreases-loop-line : goal.decreases-loop-line
decreases-loop-line l = length l.left
