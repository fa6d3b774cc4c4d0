use Rattle.law_bring_up.proofs.Kept.{brought_up}
use Rattle.law_bring_up.proofs.laws.starts_are_brought_up.Goals as goal

pub returns : goal.returns
returns c = λ w h c f plain bare stand enables. brought_up w h f plain bare stand enables c
