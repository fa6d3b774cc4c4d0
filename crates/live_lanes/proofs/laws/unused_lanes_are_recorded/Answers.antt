use Rattle.live_lanes.proofs.Unused.{all_unused}
use Rattle.live_lanes.proofs.laws.unused_lanes_are_recorded.Goals as goal

pub returns : goal.returns
returns c = all_unused
