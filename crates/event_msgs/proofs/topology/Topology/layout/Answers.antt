use Rattle.event_msgs.specs.Topology.{topology_layout}
use Rattle.event_msgs.proofs.topology.Topology.layout.Goals as goal

pub returns : goal.returns
unfolding topology_layout
returns c = c.new.ensures
