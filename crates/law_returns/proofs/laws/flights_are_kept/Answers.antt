use Rattle.law_returns.proofs.Whole.{flights_kept}
use Rattle.law_returns.proofs.laws.flights_are_kept.Goals as goal

pub returns : goal.returns
returns c = λ w h x f plain more. flights_kept w h x f plain more
