use Rattle.std.proofs.Common.{arith}
use Rattle.event_msgs.proofs.TopologyEntryFields.{entry_fits}
use Rattle.event_msgs.specs.TopologyEntry.{topology_entry_values}
use Rattle.event_msgs.proofs.topology_entry.TopologyEntry.values.Goals as goal

pub returns-clause-values : goal.returns-clause-values
unfolding topology_entry_values
returns-clause-values c = cc

pub returns-clause-fitting : goal.returns-clause-fitting
returns-clause-fitting c = entry_fits c.from.result c.from-2.result c.from-3.result (omega (arith, c.from.ensures)) (omega (arith, c.from-2.ensures)) (omega (arith, c.from-3.ensures))
