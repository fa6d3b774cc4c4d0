use Rattle.std.proofs.Common.{Ok, ap, IsTrue, subst}
use Rattle.mpi_layout.specs.Rows.{Shape, values_fit}
use Rattle.mpi_layout.proofs.Moves.{Stands-same, read_stands}
use Rattle.mpi_rings.specs.RequestDescriptor.{request_layout, request_values}
use Rattle.mpi_rings.proofs.Requests.{request_values-injective}
use Rattle.mpi_rings.proofs.request_descriptor.read_post.Goals as goal

pub from_values-requires : goal.from_values-requires
from_values-requires c = subst (λ (s : Shape). IsTrue (values_fit s.rows c.in_ok-values.values)) c.layout.ensures c.in_ok-values.ensures.fitting

pub returns-clause-read : goal.returns-clause-read
returns-clause-read c =
    read_stands request_layout c.layout.result c.args.bytes.now c.in_ok-values.values (request_values c.from_values.result) c.layout.ensures c.in_ok-values.ensures.exact c.in_ok-values.ensures.fitting c.from_values.ensures

pub returns-clause-only : goal.returns-clause-only
returns-clause-only c =
    let stands = read_stands request_layout c.layout.result c.args.bytes.now c.in_ok-values.values (request_values c.from_values.result) c.layout.ensures c.in_ok-values.ensures.exact c.in_ok-values.ensures.fitting c.from_values.ensures in
    λ d other. ap Ok (request_values-injective c.from_values.result d (Stands-same request_layout (request_values c.from_values.result) (request_values d) c.args.bytes.now stands other))
