use Rattle.std.proofs.Common.{IsTrue, subst, sym, ap, lit<, lit≤}
use Rattle.mpi_layout.specs.Rows.{Shape, values_fit}
use Rattle.mpi_rings.specs.RequestDescriptor.{request_layout}
use Rattle.mpi_rings.proofs.request_descriptor.write_post.Goals as goal

pub bytes_of-requires : goal.bytes_of-requires
unfolding request_layout
bytes_of-requires c =
    let fitting = subst (λ (s : Shape). IsTrue (values_fit s.rows c.values.result)) (sym c.layout.ensures) c.values.ensures.fitting in (
      lit< tt,
      (lit< tt, (lit≤ tt, (fitting, ap (λ (s : Shape). s.length) c.layout.ensures))),
    )
