use Rattle.std.proofs.Common.{◌∷◌, [], ◌%◌, get_or, ap, arith}
use Rattle.mpi_rings.specs.RequestDescriptor.{request_layout, request_values}
use Rattle.mpi_rings.proofs.Flags.{request_cut}
use Rattle.mpi_rings.proofs.request_descriptor.RequestDescriptor.from_values.Goals as goal

pub from_flags-requires : goal.from_flags-requires
from_flags-requires c = request_cut c.args.values.now (omega arith) c.requires

pub returns : goal.returns
unfolding request_layout request_values
returns c = ap (λ flags. flags ∷ get_or c.args.values.now 1 0 % 256 ∷ get_or c.args.values.now 2 0 % 65536 ∷ get_or c.args.values.now 3 0 % 65536 ∷ get_or c.args.values.now 4 0 % 65536 ∷ []) c.from_flags.ensures
