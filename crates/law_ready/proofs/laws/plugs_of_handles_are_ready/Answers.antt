use Rattle.law_ready.proofs.HandlesKept.{handles_kept}
use Rattle.law_ready.proofs.laws.plugs_of_handles_are_ready.Goals as goal

pub returns : goal.returns
returns c = λ w h x f plain off. handles_kept w h f plain off x
