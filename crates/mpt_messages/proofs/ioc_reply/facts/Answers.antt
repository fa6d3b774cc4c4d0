use Rattle.mpt_messages.proofs.IocFits.{facts_fits}
use Rattle.mpt_messages.proofs.ioc_reply.facts.Goals as goal

pub returns-clause-fitting : goal.returns-clause-fitting
returns-clause-fitting c = facts_fits c.args.who_init c.args.queues c.ranges.who_init.fits c.ranges.queues.fits
