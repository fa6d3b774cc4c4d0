use Rattle.std.proofs.Common.{refl}
use Rattle.ioc_msgs.specs.PortFacts.{port_facts_layout, port_facts_values}
use Rattle.ioc_msgs.proofs.port_facts.PortFacts.from_values.Goals as goal

pub returns : goal.returns
unfolding port_facts_layout port_facts_values
returns c = refl
