use Rattle.std.proofs.Common.{◌≡◌, drop, map}
use Rattle.mpi_layout.specs.Rows.{row_shape}
use Rattle.mpt_messages.specs.Listing.{name_at}
use Rattle.mpt_messages.proofs.listing.row_name.Given as goal

-- the rows that are left have the name
abbrev pub invariant-loop-row : goal.invariant-loop-row
invariant-loop-row l = name_at (map row_shape l.rows) l.at ≡ name_at (map row_shape (drop l.row-index l.rows)) l.at
