use Rattle.law_parties.proofs.AnsweredOnce.{quiet_law}
use Rattle.law_parties.proofs.laws.quiet_is_answered.Goals as goal

pub returns : goal.returns
returns c = quiet_law
