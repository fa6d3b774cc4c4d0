use Rattle.law_replies.proofs.Events.{events_tell_one_change}
use Rattle.law_replies.proofs.laws.events_tell_one_change.Goals as goal

pub returns : goal.returns
returns c = events_tell_one_change
