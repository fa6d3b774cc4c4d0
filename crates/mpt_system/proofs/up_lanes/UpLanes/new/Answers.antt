use Rattle.std.proofs.Common.{[], length, List, ap, arith}
use Rattle.std.proofs.lemmas.List.{length-replicate}
use Rattle.mpt_trace.specs.declared.item.Up.{Up}
use Rattle.mpt_system.proofs.up_lanes.UpLanes.new.Goals as goal

pub invariant_of-result : goal.invariant_of-result
invariant_of-result c = let size = ap length c.loop.invariant in omega (arith, size, length-replicate {A = List Up} c.loop.counter [])
