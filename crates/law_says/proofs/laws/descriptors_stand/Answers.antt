use Rattle.law_says.proofs.Descriptors.{descriptors_of_every_world}
use Rattle.law_says.proofs.laws.descriptors_stand.Goals as goal

pub returns : goal.returns
returns c = descriptors_of_every_world
