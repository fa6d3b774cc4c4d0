use Rattle.law.proofs.FactsKept.{facts_stay}
use Rattle.law.proofs.laws.facts_are_kept_but_for_the_missing.Goals as goal

pub returns : goal.returns
returns c = λ w h x a missing. facts_stay w h x a missing
