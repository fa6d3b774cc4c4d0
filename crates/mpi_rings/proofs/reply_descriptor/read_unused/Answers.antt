use Rattle.std.proofs.Common.{subst, sym}
use Rattle.mpi_layout.specs.Rows.{Shape, Stands}
use Rattle.mpi_layout.proofs.Moves.{read_stands}
use Rattle.mpi_rings.specs.ReplyDescriptor.{unused_layout, reply_values}
use Rattle.mpi_rings.proofs.reply_descriptor.read_unused.Goals as goal

pub returns : goal.returns
returns c =
    subst (λ (s : Shape). Stands s (reply_values c.unused_from.result) c.args.bytes.now) (sym c.unused_from.ensures.layout)
    (read_stands unused_layout c.unused_layout.result c.args.bytes.now c.in_ok-values.values (reply_values c.unused_from.result) c.unused_layout.ensures c.in_ok-values.ensures.exact c.in_ok-values.ensures.fitting c.unused_from.ensures.values)
