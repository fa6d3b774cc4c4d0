use Rattle.law_says.proofs.Strange.{facts_say}
use Rattle.law_says.proofs.laws.facts_say.Goals as goal

pub returns : goal.returns
returns c = facts_say
