use Rattle.law_first.proofs.FactsFirst.{facts_first}
use Rattle.law_first.proofs.laws.facts_stand_at_first.Goals as goal

pub returns : goal.returns
returns c = facts_first
