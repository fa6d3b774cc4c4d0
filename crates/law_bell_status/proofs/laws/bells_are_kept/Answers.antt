use Rattle.law_bell_status.proofs.BellStand.{bell_kept}
use Rattle.law_bell_status.proofs.laws.bells_are_kept.Goals as goal

pub returns : goal.returns
returns c = λ w h x f plain t g. bell_kept w h x f plain t g
