use Rattle.law_classes.proofs.NoticesFirst.{notices_kept}
use Rattle.law_classes.proofs.laws.notifications_stay_first.Goals as goal

pub returns : goal.returns
returns c = λ w h x f plain stand. notices_kept w h f plain stand x
