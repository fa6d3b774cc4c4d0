use Rattle.mpt_messages.proofs.HostFits.{ack_fits}
use Rattle.mpt_messages.proofs.host_ask.ack.Goals as goal

pub returns-clause-fitting : goal.returns-clause-fitting
returns-clause-fitting c = ack_fits c.args.event c.args.context c.ranges.event.fits c.ranges.context.fits
