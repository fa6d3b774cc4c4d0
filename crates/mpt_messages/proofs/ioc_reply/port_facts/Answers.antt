use Rattle.mpt_messages.proofs.IocFits.{port_facts_fits}
use Rattle.mpt_messages.proofs.ioc_reply.port_facts.Goals as goal

pub returns-clause-fitting : goal.returns-clause-fitting
returns-clause-fitting c = port_facts_fits c.args.port c.args.status c.ranges.port.fits c.ranges.status.fits
