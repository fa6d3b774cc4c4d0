use Rattle.std.proofs.Common.{IsTrue, subst, sym}
use Rattle.mpi_layout.specs.Rows.{Shape, Stands, values_fit}
use Rattle.mpi_layout.proofs.Moves.{read_stands}
use Rattle.mpi_rings.specs.ReplyDescriptor.{success_layout, reply_values}
use Rattle.mpi_rings.proofs.reply_descriptor.read_success.Goals as goal

pub success_from-requires : goal.success_from-requires
success_from-requires c = subst (λ (s : Shape). IsTrue (values_fit s.rows c.in_ok-values.values)) c.success_layout.ensures c.in_ok-values.ensures.fitting

pub returns : goal.returns
returns c =
    subst (λ (s : Shape). Stands s (reply_values c.success_from.result) c.args.bytes.now) (sym c.success_from.ensures.layout)
    (read_stands success_layout c.success_layout.result c.args.bytes.now c.in_ok-values.values (reply_values c.success_from.result) c.success_layout.ensures c.in_ok-values.ensures.exact c.in_ok-values.ensures.fitting c.success_from.ensures.values)
