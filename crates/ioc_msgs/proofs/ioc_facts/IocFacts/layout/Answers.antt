use Rattle.ioc_msgs.specs.IocFacts.{ioc_facts_layout}
use Rattle.ioc_msgs.proofs.ioc_facts.IocFacts.layout.Goals as goal

pub returns : goal.returns
unfolding ioc_facts_layout
returns c = c.new.ensures
