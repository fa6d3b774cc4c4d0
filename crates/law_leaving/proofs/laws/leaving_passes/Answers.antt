use Rattle.law_leaving.proofs.Passed.{leaving_passes}
use Rattle.law_leaving.proofs.laws.leaving_passes.Goals as goal

pub returns : goal.returns
returns c = λ w h x f plain handle. leaving_passes w h f plain handle x
