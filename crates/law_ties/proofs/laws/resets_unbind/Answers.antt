use Rattle.law_ties.proofs.ResetsUnbind.{unbinds}
use Rattle.law_ties.proofs.laws.resets_unbind.Goals as goal

pub returns : goal.returns
returns c = λ w h x f plain. unbinds w h f plain x
