use Rattle.law_messages.proofs.AcceptedKept.{aborts_accepted_at_first}
use Rattle.law_messages.proofs.laws.aborts_are_of_accepted_at_first.Goals as goal

pub returns : goal.returns
returns c = aborts_accepted_at_first
