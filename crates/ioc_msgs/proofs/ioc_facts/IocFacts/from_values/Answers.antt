use Rattle.std.proofs.Common.{refl}
use Rattle.ioc_msgs.specs.IocFacts.{ioc_facts_layout, ioc_facts_values}
use Rattle.ioc_msgs.proofs.ioc_facts.IocFacts.from_values.Goals as goal

pub returns : goal.returns
unfolding ioc_facts_layout ioc_facts_values
returns c = refl
