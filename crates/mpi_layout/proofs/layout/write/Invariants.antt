use Rattle.std.proofs.Common.{map}
use Rattle.mpi_layout.specs.Rows.{row_shape}
use Rattle.mpi_layout.proofs.Writing.{WrittenSoFar}
use Rattle.mpi_layout.proofs.layout.write.Given as goal

-- the rows so far read back, and the bytes past the layout are as before
abbrev pub invariant-loop-i : goal.invariant-loop-i
invariant-loop-i g l = WrittenSoFar (map row_shape l.layout-inside.rows.now) l.layout-inside.len l.values l.initial.out l.out l.i
