use Rattle.law_lives.proofs.Standing.{bindings_stand}
use Rattle.law_lives.proofs.laws.bindings_are_kept.Goals as goal

pub returns : goal.returns
returns c = λ w h x f. bindings_stand w h x f
