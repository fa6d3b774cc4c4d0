use Rattle.law_identifiers.proofs.LeastTaken.{least_law}
use Rattle.law_identifiers.proofs.laws.least_identifiers_are_taken.Goals as goal

pub returns : goal.returns
returns c = least_law
