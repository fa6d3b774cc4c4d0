use Rattle.law_classes.proofs.Classed.{classes_kept}
use Rattle.law_classes.proofs.laws.classes_are_kept.Goals as goal

pub returns : goal.returns
returns c = λ w h x f plain. classes_kept w h f plain x
