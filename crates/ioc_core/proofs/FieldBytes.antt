-- The fields of one and of two bytes.
use Rattle.std.proofs.Common.{◌≡◌, ℕ, ◌+◌, ◌*◌, List, get_or, arith}
use Rattle.mpi_layout.specs.Rows.{field}

pub field_one : (bytes : List ℕ) (at : ℕ) → field bytes at 1 ≡ get_or bytes at 0
unfolding field
field_one bytes at = let place : at + 0 ≡ at = omega arith in rw place (omega arith)

pub field_two : (bytes : List ℕ) (at : ℕ) → field bytes at 2 ≡ field bytes at 1 + 256 * field bytes (at + 1) 1
unfolding field
field_two bytes at = let place : at + 1 + 0 ≡ at + 1 = omega arith in rw place (omega arith)
