use Rattle.law_lives.proofs.Lives.{lives_stand}
use Rattle.law_lives.proofs.laws.lives_are_kept.Goals as goal

pub returns : goal.returns
returns c = λ w h x f plain. lives_stand w h x f plain
