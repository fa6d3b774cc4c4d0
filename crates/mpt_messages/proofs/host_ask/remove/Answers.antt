use Rattle.mpt_messages.proofs.HostFits.{removal_fits}
use Rattle.mpt_messages.proofs.host_ask.remove.Goals as goal

pub returns-clause-fitting : goal.returns-clause-fitting
returns-clause-fitting c = removal_fits c.args.handle c.ranges.handle.fits
