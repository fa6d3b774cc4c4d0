use Rattle.law_parties.proofs.ShortQueues.{short_law}
use Rattle.law_parties.proofs.laws.controllers_are_short.Goals as goal

pub returns : goal.returns
returns c = short_law
