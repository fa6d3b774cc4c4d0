use Rattle.ioc_msgs.specs.PortFacts.{port_facts_values}
use Rattle.ioc_msgs.proofs.port_facts.PortFacts.values.Goals as goal

pub returns : goal.returns
unfolding port_facts_values
returns c = cc
