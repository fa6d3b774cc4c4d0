-- Where the rows of a layout lie.
use Rattle.std.proofs.Common.{◌≡◌, ℕ, zero, suc, ◌+◌, ◌<◌, ◌≤◌, IsTrue, List, [], ◌∷◌, length, get_or, map, subst, arith}
use Rattle.std.proofs.lemmas.Bool.Decides.{nat_tests}
use Rattle.std.proofs.lemmas.List.{length-map}
use Rattle.std.proofs.Math.ListN.{get_or-map}
use Rattle.mpi_layout.specs.declared.row.Row.{Row}
use Rattle.mpi_layout.specs.Rows.{RowShape, row_shape, tiles}

-- the row lies between the offset and the length, and is from 1 to 8 bytes wide
pub record LiesIn (from end : ℕ) (row : RowShape) : Type 0 where
  pub wide : 1 ≤ row.width
  pub narrow : row.width ≤ 8
  pub after : from ≤ row.at
  pub within : row.at + row.width ≤ end

-- what the test says of the first row
pub first_row : (from end : ℕ) (row : RowShape) (rows : List RowShape) → IsTrue (tiles from end (row ∷ rows)) → (row.at ≡ from) × (1 ≤ row.width) × (row.width ≤ 8) × IsTrue (tiles (from + row.width) end rows)
first_row from end row rows h = grind (arith, nat_tests)

-- rows that tile a stretch do not turn back
pub tiles_end : (from end : ℕ) (rows : List RowShape) → IsTrue (tiles from end rows) → from ≤ end
tiles_end from end [] h = grind (arith, nat_tests)
tiles_end from end (row ∷ rows) h =
    let first = first_row from end row rows h in
    let ih = tiles_end (from + row.width) end rows first.3 in
    omega arith

-- each row lies in the stretch that the rows tile
pub tiles_row : (from end : ℕ) (rows : List RowShape) (i : ℕ) (d : RowShape) → IsTrue (tiles from end rows) → i < length rows → LiesIn from end (get_or rows i d)
tiles_row from end [] i d h less = absurd (omega arith)
tiles_row from end (first ∷ rows) zero d h less =
    let facts = first_row from end first rows h in
    let rest = tiles_end (from + first.width) end rows facts.3 in
    record { wide = facts.1; narrow = facts.2; after = omega arith; within = omega arith }
tiles_row from end (first ∷ rows) (suc i) d h less =
    let facts = first_row from end first rows h in
    let ih = tiles_row (from + first.width) end rows i d facts.3 (omega arith) in
    record { wide = ih.wide; narrow = ih.narrow; after = omega arith; within = ih.within }

-- the same of a row of the code
pub code_row : (from end : ℕ) (rows : List Row) (i : ℕ) (d : Row) → IsTrue (tiles from end (map row_shape rows)) → i < length rows → LiesIn from end (row_shape (get_or rows i d))
code_row from end rows i d h less =
    subst (LiesIn from end) (get_or-map row_shape rows i d) (tiles_row from end (map row_shape rows) i (row_shape d) h (simp length-map less))

pub code_room : (from end room : ℕ) (rows : List Row) (i : ℕ) (d : Row) → IsTrue (tiles from end (map row_shape rows)) → i < length rows → end ≤ room → (get_or rows i d).at + (get_or rows i d).width ≤ room
code_room from end room rows i d h less enough = let lies = code_row from end rows i d h less in omega (arith, lies.within)
