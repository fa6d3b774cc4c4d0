use Rattle.law_says.proofs.Places.{whole_say}
use Rattle.law_says.proofs.laws.nothing_faults_by_facts.Goals as goal

pub returns : goal.returns
returns c = whole_say
