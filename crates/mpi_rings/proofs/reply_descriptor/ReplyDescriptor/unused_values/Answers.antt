use Rattle.mpi_rings.proofs.Fitting.{unused_fits}
use Rattle.mpi_rings.proofs.reply_descriptor.ReplyDescriptor.unused_values.Goals as goal

pub returns-clause-fitting : goal.returns-clause-fitting
returns-clause-fitting c = rw (c.from.ensures, c.from-2.ensures, c.from-3.ensures, c.from-4.ensures) (unused_fits c.args.flags c.args.msix c.args.smid c.args.rest c.requires c.ranges.flags.fits c.ranges.msix.fits c.ranges.smid.fits c.ranges.rest.fits)
