use Rattle.law_parties.proofs.InPlace.{tells_law}
use Rattle.law_parties.proofs.laws.tells_stand_behind.Goals as goal

pub returns : goal.returns
returns c = tells_law
