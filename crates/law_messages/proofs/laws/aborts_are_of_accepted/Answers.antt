use Rattle.law_messages.proofs.Shown.{aborts_stay}
use Rattle.law_messages.proofs.laws.aborts_are_of_accepted.Goals as goal

pub returns : goal.returns
returns c = aborts_stay
