use Rattle.law_ties.proofs.HoldersKept.{least_passes}
use Rattle.law_ties.proofs.laws.least_identifiers_are_accepted.Goals as goal

pub returns : goal.returns
returns c = λ w h x f known agree. least_passes w h f known agree x
