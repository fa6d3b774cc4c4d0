use Rattle.ioc_tables.proofs.Queued.{normal_front}
use Rattle.ioc_tables.proofs.post_queues.PostQueues.front_normal.Goals as goal

pub returns-clause-identifier : goal.returns-clause-identifier
returns-clause-identifier c = normal_front c.self.inside.normal.items c.front.result c.self.invariant.sorted.normal_only c.front.ensures
