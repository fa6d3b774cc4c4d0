use Rattle.law_given.proofs.HighWorld.{high_given}
use Rattle.law_given.proofs.laws.high_identifiers_are_given.Goals as goal

pub returns : goal.returns
returns c = λ w h x f plain. high_given w h f plain x
