use Rattle.law_served.proofs.Served.{served}
use Rattle.law_served.proofs.laws.plugs_are_served.Goals as goal

pub returns : goal.returns
returns c = λ w h x f plain. served w h f plain x
