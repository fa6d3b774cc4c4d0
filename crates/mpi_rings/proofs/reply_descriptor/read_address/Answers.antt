use Rattle.std.proofs.Common.{IsTrue, subst, sym}
use Rattle.mpi_layout.specs.Rows.{Shape, Stands, values_fit}
use Rattle.mpi_layout.proofs.Moves.{read_stands}
use Rattle.mpi_rings.specs.ReplyDescriptor.{address_layout, reply_values}
use Rattle.mpi_rings.proofs.reply_descriptor.read_address.Goals as goal

pub address_from-requires : goal.address_from-requires
address_from-requires c = subst (λ (s : Shape). IsTrue (values_fit s.rows c.in_ok-values.values)) c.address_layout.ensures c.in_ok-values.ensures.fitting

pub returns : goal.returns
returns c =
    subst (λ (s : Shape). Stands s (reply_values c.address_from.result) c.args.bytes.now) (sym c.address_from.ensures.layout)
    (read_stands address_layout c.address_layout.result c.args.bytes.now c.in_ok-values.values (reply_values c.address_from.result) c.address_layout.ensures c.in_ok-values.ensures.exact c.in_ok-values.ensures.fitting c.address_from.ensures.values)
