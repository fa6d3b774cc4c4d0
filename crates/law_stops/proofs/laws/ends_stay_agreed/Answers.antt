use Rattle.law_stops.proofs.OneEnd.{ends_kept}
use Rattle.law_stops.proofs.laws.ends_stay_agreed.Goals as goal

pub returns : goal.returns
returns c = λ w h k f plain a. ends_kept w h f a plain k
