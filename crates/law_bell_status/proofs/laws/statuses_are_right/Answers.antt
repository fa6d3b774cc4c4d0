use Rattle.law_bell_status.proofs.BellStand.{bell_passes}
use Rattle.law_bell_status.proofs.laws.statuses_are_right.Goals as goal

pub returns : goal.returns
returns c = λ w h x f plain t g. bell_passes w h x f plain t g
