use Rattle.law_replies.proofs.EventsKept.{events_kept}
use Rattle.law_replies.proofs.laws.events_are_kept.Goals as goal

pub returns : goal.returns
returns c = λ w h c a n e. events_kept w h a n e c
