use Rattle.law_ties.proofs.IndicesKept.{indices_at_first}
use Rattle.law_ties.proofs.laws.indices_are_of_queues_at_first.Goals as goal

pub returns : goal.returns
returns c = indices_at_first
