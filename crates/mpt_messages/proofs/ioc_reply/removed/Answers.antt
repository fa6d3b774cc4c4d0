use Rattle.mpt_messages.proofs.IocFits.{removed_fits}
use Rattle.mpt_messages.proofs.ioc_reply.removed.Goals as goal

pub returns-clause-fitting : goal.returns-clause-fitting
returns-clause-fitting c = removed_fits c.args.handle c.args.operation c.args.status c.ranges.handle.fits c.ranges.operation.fits c.ranges.status.fits
