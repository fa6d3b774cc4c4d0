use Rattle.law_ties.proofs.IndicesKept.{goes}
use Rattle.law_ties.proofs.laws.indices_go_on.Goals as goal

pub returns : goal.returns
returns c = λ w h x f plain further. (goes w h f plain further x).passes
