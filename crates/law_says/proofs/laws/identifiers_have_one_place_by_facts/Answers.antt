use Rattle.law_says.proofs.Places.{identifiers_say}
use Rattle.law_says.proofs.laws.identifiers_have_one_place_by_facts.Goals as goal

pub returns : goal.returns
returns c = identifiers_say
