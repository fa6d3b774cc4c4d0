use Rattle.law_says.proofs.Queues.{queues_say}
use Rattle.law_says.proofs.laws.queues_are_short_by_facts.Goals as goal

pub returns : goal.returns
returns c = queues_say
