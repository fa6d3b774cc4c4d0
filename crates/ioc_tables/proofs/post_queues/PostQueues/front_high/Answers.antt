use Rattle.ioc_tables.proofs.Queued.{high_front}
use Rattle.ioc_tables.proofs.post_queues.PostQueues.front_high.Goals as goal

pub returns-clause-identifier : goal.returns-clause-identifier
returns-clause-identifier c = high_front c.self.inside.high.items c.front.result c.self.invariant.sorted.high_only c.front.ensures
