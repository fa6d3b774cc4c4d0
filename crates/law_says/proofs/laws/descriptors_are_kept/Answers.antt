use Rattle.law_says.proofs.Descriptors.{descriptors_kept}
use Rattle.law_says.proofs.laws.descriptors_are_kept.Goals as goal

pub returns : goal.returns
returns c = descriptors_kept
