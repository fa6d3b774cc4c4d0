use Rattle.std.proofs.Common.{IsTrue, subst, sym, ap, lit<, lit≤}
use Rattle.mpi_layout.specs.Rows.{Shape, values_fit}
use Rattle.mpi_rings.specs.ReplyDescriptor.{success_layout, address_layout, unused_layout}
use Rattle.mpi_rings.proofs.reply_descriptor.write_reply.Goals as goal

pub bytes_of-requires : goal.bytes_of-requires
unfolding success_layout
bytes_of-requires c =
    let fitting = subst (λ (s : Shape). IsTrue (values_fit s.rows c.success_values.result)) (sym c.success_layout.ensures) c.success_values.ensures.fitting in (
      lit< tt,
      (lit< tt, (lit≤ tt, (fitting, ap (λ (s : Shape). s.length) c.success_layout.ensures))),
    )

pub bytes_of-requires-in-Address : goal.bytes_of-requires-in-Address
unfolding address_layout
bytes_of-requires-in-Address c =
    let fitting = subst (λ (s : Shape). IsTrue (values_fit s.rows c.address_values.result)) (sym c.address_layout.ensures) c.address_values.ensures.fitting in (
      lit< tt,
      (lit< tt, (lit≤ tt, (fitting, ap (λ (s : Shape). s.length) c.address_layout.ensures))),
    )

pub bytes_of-requires-in-Unused : goal.bytes_of-requires-in-Unused
unfolding unused_layout
bytes_of-requires-in-Unused c =
    let fitting = subst (λ (s : Shape). IsTrue (values_fit s.rows c.unused_values.result)) (sym c.unused_layout.ensures) c.unused_values.ensures.fitting in (
      lit< tt,
      (lit< tt, (lit≤ tt, (fitting, ap (λ (s : Shape). s.length) c.unused_layout.ensures))),
    )
