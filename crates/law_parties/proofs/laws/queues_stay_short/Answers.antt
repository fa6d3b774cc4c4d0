use Rattle.law_parties.proofs.ShortQueues.{worlds_short}
use Rattle.law_parties.proofs.laws.queues_stay_short.Goals as goal

pub returns : goal.returns
returns c = worlds_short
