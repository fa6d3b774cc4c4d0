use Rattle.law_returns.proofs.Whole.{holds_none}
use Rattle.law_returns.proofs.laws.frames_are_returned.Goals as goal

pub returns : goal.returns
returns c = λ w h x f plain. holds_none w h x f plain
