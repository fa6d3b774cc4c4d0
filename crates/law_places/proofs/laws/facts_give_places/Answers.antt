use Rattle.law_places.proofs.Says.{have_places}
use Rattle.law_places.proofs.laws.facts_give_places.Goals as goal

pub returns : goal.returns
returns c = have_places
