use Rattle.law_bring_up.proofs.Kept.{enables_stay}
use Rattle.law_bring_up.proofs.laws.enables_stay.Goals as goal

pub returns : goal.returns
returns c = λ w h c f plain bare stand enables. enables_stay w h f plain bare stand enables c
