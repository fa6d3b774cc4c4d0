use Rattle.ioc_msgs.specs.IocFacts.{ioc_facts_values}
use Rattle.ioc_msgs.proofs.ioc_facts.IocFacts.values.Goals as goal

pub returns : goal.returns
unfolding ioc_facts_values
returns c = cc
