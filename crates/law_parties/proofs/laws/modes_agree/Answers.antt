use Rattle.law_parties.proofs.ModesAgree.{modes_law}
use Rattle.law_parties.proofs.laws.modes_agree.Goals as goal

pub returns : goal.returns
returns c = modes_law
