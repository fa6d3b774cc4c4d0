-- Layouts under a write behind them.
use Rattle.std.proofs.Common.{◌≡◌, ℕ, zero, suc, ◌+◌, ◌<◌, ◌≤◌, true, IsTrue, List, [], ◌∷◌, length, take, get_or, refl, sym, ◌∙◌, arith}
use Rattle.mpi_layout.specs.Rows.{RowShape, Shape, Stands, IsTiled, fields, tiles, obeys, values_fit}
use Rattle.mpi_layout.proofs.Tiling.{first_row, tiles_end}
use Rattle.mpi_layout.proofs.Writing.{field_front, fits_front, fits_obeyed}

-- each value that fits obeys its row's rule
pub fits_at : (rows : List RowShape) (values : List ℕ) (i : ℕ) (d : RowShape) → IsTrue (values_fit rows values) → i < length rows → i < length values → obeys (get_or rows i d).rule (get_or values i 0) ≡ true
fits_at [] values i d h less room = absurd (omega arith)
fits_at (row ∷ rows) [] i d h less room = absurd (omega arith)
fits_at (row ∷ rows) (value ∷ values) zero d h less room = (fits_front row value rows values h).1
fits_at (row ∷ rows) (value ∷ values) (suc i) d h less room =
    fits_at rows values i d (fits_front row value rows values h).2 (omega arith) (omega arith)

-- the fields of the rows read the layout's bytes alone
fields_same : (from end : ℕ) (rows : List RowShape) (xs ys : List ℕ) → IsTrue (tiles from end rows) → take end xs ≡ take end ys → fields rows xs ≡ fields rows ys
fields_same from end [] xs ys h same = refl
fields_same from end (row ∷ rows) xs ys h same =
    let facts = first_row from end row rows h in
    let behind = tiles_end (from + row.width) end rows facts.3 in
    let here = field_front xs ys row.at row.width end (omega arith) same in
    let ih = fields_same (from + row.width) end rows xs ys facts.3 same in
    rw (here, ih) refl

-- what stands for values still does after a write behind the layout
pub Stands-front : (layout : Shape) (values xs ys : List ℕ) → IsTiled layout → IsTrue (values_fit layout.rows values) → Stands layout values xs → layout.length ≤ length ys → take layout.length xs ≡ take layout.length ys → Stands layout values ys
Stands-front layout values xs ys tiled fit stands enough same =
    let numbers : fields layout.rows ys ≡ values = sym (fields_same 0 layout.length layout.rows xs ys tiled same) ∙ stands.numbers in
    record { enough = enough; numbers = numbers; obeyed = fits_obeyed layout.rows values ys fit numbers }
