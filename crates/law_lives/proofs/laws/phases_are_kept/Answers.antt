use Rattle.law_lives.proofs.Standing.{phases_stand}
use Rattle.law_lives.proofs.laws.phases_are_kept.Goals as goal

pub returns : goal.returns
returns c = λ w h x f. phases_stand w h x f
