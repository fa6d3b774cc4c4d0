use Rattle.std.proofs.Common.{map}
use Rattle.mpi_layout.specs.Rows.{row_shape}
use Rattle.mpi_layout.proofs.Reading.{ReadSoFar}
use Rattle.mpi_layout.proofs.layout.read_rows.Given as goal

-- the rows so far obey their rules, and their numbers stand in front
abbrev pub invariant-loop-i : goal.invariant-loop-i
invariant-loop-i g l = ReadSoFar (map row_shape l.rows) l.bytes l.values l.i
