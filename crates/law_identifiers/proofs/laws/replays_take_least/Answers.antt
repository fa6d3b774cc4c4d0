use Rattle.law_identifiers.proofs.LeastTaken.{replays_least}
use Rattle.law_identifiers.proofs.laws.replays_take_least.Goals as goal

pub returns : goal.returns
returns c = replays_least c.replays_are_of_cases.ensures
