use Rattle.std.proofs.Common.{ap, ◌∙◌}
use Rattle.mpi_layout.specs.Rows.{Shape, values_fit}
use Rattle.mpi_layout.proofs.Moves.{values_fit-map}
use Rattle.mpi_layout.proofs.layout.fits.Goals as goal

pub returns : goal.returns
returns g c = c.rows_fit.ensures ∙ values_fit-map c.layout.inside.rows.now c.args.values.now ∙ ap (λ (shape : Shape). values_fit shape.rows c.args.values.now) c.layout.view_is
