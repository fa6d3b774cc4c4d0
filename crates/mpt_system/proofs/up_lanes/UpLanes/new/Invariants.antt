use Rattle.std.proofs.Common.{◌≡◌, [], replicate}
use Rattle.mpt_system.proofs.up_lanes.UpLanes.new.Given as goal

abbrev pub invariant-loop : goal.invariant-loop
invariant-loop l = l.lanes.items ≡ replicate l.counter []
