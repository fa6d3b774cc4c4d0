use Rattle.event_msgs.specs.Topology.{topology_values}
use Rattle.event_msgs.proofs.topology.Topology.values.Goals as goal

pub returns : goal.returns
unfolding topology_values
returns c = cc
