use Rattle.mpt_messages.proofs.HostFits.{task_fits}
use Rattle.mpt_messages.proofs.host_ask.task.Goals as goal

pub returns-clause-fitting : goal.returns-clause-fitting
returns-clause-fitting c = task_fits c.args.handle c.args.task_type c.args.task_mid c.ranges.handle.fits c.requires
