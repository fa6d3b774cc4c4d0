use Rattle.law_parties.proofs.AnsweredOnce.{answered_law}
use Rattle.law_parties.proofs.laws.answered_at_most_once.Goals as goal

pub returns : goal.returns
returns c = answered_law
