use Rattle.mpt_messages.proofs.HostFits.{init_fits}
use Rattle.mpt_messages.proofs.host_ask.init.Goals as goal

pub returns-clause-fitting : goal.returns-clause-fitting
returns-clause-fitting c = init_fits c.args.queues c.requires
