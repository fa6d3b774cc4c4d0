-- What a reader of a layout's bytes knows of one row.
use Rattle.std.proofs.Common.{◌≡◌, ℕ, zero, suc, ◌<◌, true, List, [], ◌∷◌, length, get_or, slice_index, None, arith}
use Rattle.std.specs.List.{find}
use Rattle.mpi_layout.specs.Rows.{RowShape, breaks, field, number_in, obeys}
use Rattle.mpi_layout.proofs.Reading.{find_front, not_false}

-- where none breaks its rule, each obeys it
pub obeyed_row : (rows : List RowShape) (bytes : List ℕ) (i : ℕ) (d : RowShape) → find (breaks bytes) rows ≡ None → i < length rows → obeys (get_or rows i d).rule (number_in bytes (get_or rows i d)) ≡ true
obeyed_row [] bytes i d none less = absurd (omega arith)
obeyed_row (row ∷ rows) bytes zero d none less = not_false (obeys row.rule (number_in bytes row)) (find_front (breaks bytes) row rows none).0
obeyed_row (row ∷ rows) bytes (suc i) d none less = obeyed_row rows bytes i d (find_front (breaks bytes) row rows none).1 (omega arith)

-- a field of one byte is that byte
pub field-one : (bytes : List ℕ) (at : ℕ) → field bytes at 1 ≡ slice_index bytes at
unfolding field
field-one bytes at = grind arith
