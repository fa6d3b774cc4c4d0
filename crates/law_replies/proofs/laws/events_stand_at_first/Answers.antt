use Rattle.law_replies.proofs.EventsKept.{events_at_first}
use Rattle.law_replies.proofs.laws.events_stand_at_first.Goals as goal

pub returns : goal.returns
returns c = events_at_first
