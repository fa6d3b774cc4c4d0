use Rattle.law_says.proofs.Strange.{strange_say}
use Rattle.law_says.proofs.laws.nothing_is_strange_by_facts.Goals as goal

pub returns : goal.returns
returns c = strange_say
