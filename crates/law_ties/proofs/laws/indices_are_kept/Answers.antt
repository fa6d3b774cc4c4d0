use Rattle.law_ties.proofs.IndicesKept.{indices_kept}
use Rattle.law_ties.proofs.laws.indices_are_kept.Goals as goal

pub returns : goal.returns
returns c = λ w h x f plain further. indices_kept w h f plain further x
