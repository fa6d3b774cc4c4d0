use Rattle.live_lanes.proofs.Counted.{counts_tell}
use Rattle.live_lanes.proofs.laws.counts_tell_all_is_taken.Goals as goal

pub returns : goal.returns
returns c = counts_tell
