use Rattle.law_targets.proofs.KnownKept.{pages_known}
use Rattle.law_targets.proofs.laws.pages_stay_known.Goals as goal

pub returns : goal.returns
returns c = λ w h x f plain off. pages_known w h f plain off x
