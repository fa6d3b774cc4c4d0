use Rattle.law_stopping.proofs.StopsPass.{lives_fair}
use Rattle.law_stopping.proofs.laws.lives_stay_fair.Goals as goal

pub returns : goal.returns
returns c = λ w h k f plain orders ends s. lives_fair w h f orders ends s plain k
