use Rattle.law_leaving.proofs.Known.{leavings_known}
use Rattle.law_leaving.proofs.laws.leavings_are_known.Goals as goal

pub returns : goal.returns
returns c = λ w h x f plain vectors. leavings_known w h x f plain vectors
