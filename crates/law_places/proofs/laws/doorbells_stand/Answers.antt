use Rattle.law_places.proofs.Says.{doorbells}
use Rattle.law_places.proofs.laws.doorbells_stand.Goals as goal

pub returns : goal.returns
returns c = doorbells
