use Rattle.law_classes.proofs.NoticesFirst.{notices_first}
use Rattle.law_classes.proofs.laws.notifications_stand_at_first.Goals as goal

pub returns : goal.returns
returns c = notices_first
