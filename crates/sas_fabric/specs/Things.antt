-- How much a fabric has to do.
use Rattle.std.specs.Prelude.{ℕ, ◌+◌, length}
use Rattle.mpt_rules.specs.Fabric.Parts.{Fabric}
use Rattle.mpt_rules.specs.World.Weight.{open_notices, queued_tasks}

-- what it puts, the tasks that didn't run, and what isn't announced
abbrev pub fabric_things : Fabric → ℕ
fabric_things fabric = length fabric.out + queued_tasks fabric + open_notices fabric
