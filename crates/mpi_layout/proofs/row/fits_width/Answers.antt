use Rattle.mpi_layout.proofs.Widths.{fits-wide, fits-shift}
use Rattle.mpi_layout.proofs.row.fits_width.Goals as goal

pub returns-then-width-ge8 : goal.returns-then-width-ge8
returns-then-width-ge8 c = fits-wide c.args.value c.args.width c.if-width-ge8.true c.ranges.value.fits

pub returns-else-width-ge8 : goal.returns-else-width-ge8
returns-else-width-ge8 c = fits-shift c.args.value c.args.width
