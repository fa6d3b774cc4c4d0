use Rattle.law_starts.proofs.StartsKept.{all_queues}
use Rattle.law_starts.proofs.laws.init_asks_for_all_queues.Goals as goal

pub returns : goal.returns
returns c = all_queues
