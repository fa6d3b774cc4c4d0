use Rattle.law_targets.proofs.BoundKept.{bound_kept}
use Rattle.law_targets.proofs.laws.commands_stay_bound.Goals as goal

pub returns : goal.returns
returns c = λ w h x f plain aborts more n. bound_kept w h x f plain aborts more n
