use Rattle.law_stopping.proofs.StopsPass.{stops_passed}
use Rattle.law_stopping.proofs.laws.stops_pass.Goals as goal

pub returns : goal.returns
returns c = λ w h k f plain orders ends s. stops_passed w h f orders ends s plain k
