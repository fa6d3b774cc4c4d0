use Rattle.law_notices.proofs.Fit.{notices_fit}
use Rattle.law_notices.proofs.laws.notices_stay_fit.Goals as goal

pub returns : goal.returns
returns c = λ w h x f plain. notices_fit w h x f plain
