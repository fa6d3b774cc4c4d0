use Rattle.live_lanes.proofs.Later.{lanes_later}
use Rattle.live_lanes.proofs.laws.closed_lanes_are_later.Goals as goal

pub returns : goal.returns
returns c = lanes_later
