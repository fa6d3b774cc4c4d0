use Rattle.std.proofs.Common.{◌≡◌, ◌≤◌, ◌*◌, ◌^◌, sum_by, take}
use Rattle.mpt_rules.specs.World.Weight.{up_items}
use Rattle.mpt_system.proofs.up_lanes.count_items.Given as goal

abbrev pub invariant-loop-lane : goal.invariant-loop-lane
invariant-loop-lane l = record { counted : l.count ≡ sum_by up_items (take l.lane-index l.lanes); most : l.count ≤ l.lane-index * 2 ^ 64 }
