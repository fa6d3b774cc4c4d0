use Rattle.law_sessions.proofs.Lanes.{lanes_law}
use Rattle.law_sessions.proofs.laws.session_lanes_are_queues.Goals as goal

pub returns : goal.returns
returns c = lanes_law
