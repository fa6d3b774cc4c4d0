use Rattle.std.proofs.Common.{refl}
use Rattle.event_msgs.specs.Topology.{topology_layout, topology_values}
use Rattle.event_msgs.proofs.topology.Topology.from_values.Goals as goal

pub returns : goal.returns
unfolding topology_layout topology_values
returns c = refl
