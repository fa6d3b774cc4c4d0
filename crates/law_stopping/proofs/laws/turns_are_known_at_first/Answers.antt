use Rattle.law_stopping.proofs.TargetsKept.{targets_at_first}
use Rattle.law_stopping.proofs.laws.turns_are_known_at_first.Goals as goal

pub returns : goal.returns
returns c = targets_at_first
