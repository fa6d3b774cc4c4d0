use Rattle.law_targets.proofs.AimedKept.{aimed_kept, unchosen_kept}
use Rattle.law_targets.proofs.laws.commands_stay_aimed.Goals as goal

pub returns : goal.returns
returns c = λ w h x f plain aborts more. record { aimed = aimed_kept w h x f plain aborts more; unchosen = unchosen_kept w h x f plain aborts more }
