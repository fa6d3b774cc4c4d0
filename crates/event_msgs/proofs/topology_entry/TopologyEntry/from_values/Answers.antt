use Rattle.std.proofs.Common.{refl}
use Rattle.event_msgs.specs.TopologyEntry.{topology_entry_layout, topology_entry_values}
use Rattle.event_msgs.proofs.topology_entry.TopologyEntry.from_values.Goals as goal

pub returns : goal.returns
unfolding topology_entry_layout topology_entry_values
returns c = refl
