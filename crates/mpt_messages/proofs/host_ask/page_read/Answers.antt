use Rattle.mpt_messages.proofs.HostFits.{page_fits}
use Rattle.mpt_messages.proofs.host_ask.page_read.Goals as goal

pub returns-clause-fitting : goal.returns-clause-fitting
returns-clause-fitting c = rw (c.page_address.ensures, c.data_address.ensures) (page_fits c.args.smid c.args.handle c.requires c.ranges.handle.fits)
