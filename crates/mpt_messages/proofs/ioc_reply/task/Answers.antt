use Rattle.mpt_messages.proofs.IocFits.{task_fits}
use Rattle.mpt_messages.proofs.ioc_reply.task.Goals as goal

pub returns-clause-fitting : goal.returns-clause-fitting
returns-clause-fitting c = task_fits c.args.handle c.args.task_type c.args.status c.args.code c.args.count c.ranges.handle.fits c.ranges.task_type.fits c.ranges.status.fits c.ranges.code.fits c.ranges.count.fits
