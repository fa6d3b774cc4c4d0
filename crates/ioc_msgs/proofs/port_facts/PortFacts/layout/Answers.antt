use Rattle.ioc_msgs.specs.PortFacts.{port_facts_layout}
use Rattle.ioc_msgs.proofs.port_facts.PortFacts.layout.Goals as goal

pub returns : goal.returns
unfolding port_facts_layout
returns c = c.new.ensures
