-- What the lanes have of the things that there are to do.
use Rattle.std.specs.Prelude.{ℕ, ◌+◌, length, sum_by}
use Rattle.mpt_rules.specs.World.State.{World}
use Rattle.mpt_rules.specs.World.Weight.{down_items, up_items}

-- the items on all lanes, other than reads and their values
abbrev pub lane_items : World → ℕ
lane_items w = down_items w.down + sum_by up_items w.up + length w.out + length w.back
