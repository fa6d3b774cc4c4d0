use Rattle.law_stopping.proofs.TargetsKept.{targets_known}
use Rattle.law_stopping.proofs.laws.targets_are_known.Goals as goal

pub returns : goal.returns
returns c = λ w h k f plain vectors known. targets_known w h f known plain vectors k
