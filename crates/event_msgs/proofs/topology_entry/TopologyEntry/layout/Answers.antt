use Rattle.event_msgs.specs.TopologyEntry.{topology_entry_layout}
use Rattle.event_msgs.proofs.topology_entry.TopologyEntry.layout.Goals as goal

pub returns : goal.returns
unfolding topology_entry_layout
returns c = c.new.ensures
