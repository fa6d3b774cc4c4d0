-- A listing as it grows row by row.
use Rattle.std.proofs.Common.{◌≡◌, ℕ, ◌+◌, ◌<◌, ◌≤◌, List, ◌++◌, length, take, get_or, map, ap, sym, ◌∙◌, arith}
use Rattle.std.specs.List.{flat_map, zip}
use Rattle.std.proofs.Math.ListN.{get_or-map}
use Rattle.std.proofs.lemmas.List.{flat_map_more, length-map, take_all, take_more}
use Rattle.std.proofs.lemmas.Slice.Zip.{get_or-zip, length-zip}
use Rattle.mpi_layout.specs.declared.row.Row.{Row}
use Rattle.mpi_layout.specs.Rows.{RowShape, Shape, IsTiled, row_shape}
use Rattle.mpi_layout.proofs.Tiling.{code_row}
use Rattle.mpt_messages.specs.Listing.{row_text, rows_text}

abbrev pair_text : ℕ → RowShape × ℕ → List ℕ
pair_text start p = row_text start p.0 p.1

-- the text holds the rows in front
abbrev pub ListedSoFar : ℕ → List RowShape → List ℕ → List ℕ → List ℕ → ℕ → Type 0
ListedSoFar start rows values before text i = text ≡ before ++ flat_map (λ (p : RowShape × ℕ). row_text start p.0 p.1) (take i (zip rows values))

-- one more row
pub listed_more : (start : ℕ) (code : List Row) (rows : List RowShape) (values before text new : List ℕ) (i : ℕ) (d : Row) → map row_shape code ≡ rows → i < length code → i < length values → new ≡ text ++ row_text start (row_shape (get_or code i d)) (get_or values i 0) → ListedSoFar start rows values before text i → ListedSoFar start rows values before new (i + 1)
listed_more start code rows values before text new i d same less room grown so_far =
    let there : i < length rows = omega (arith, ap length same, length-map code row_shape) in
    let pair : get_or (zip rows values) i (row_shape d, 0) ≡ (get_or rows i (row_shape d), get_or values i 0) = get_or-zip rows values i (row_shape d, 0) there room in
    let shape : get_or rows i (row_shape d) ≡ row_shape (get_or code i d) = ap (λ (xs : List RowShape). get_or xs i (row_shape d)) (sym same) ∙ get_or-map row_shape code i d in
    let inside : i < length (zip rows values) = rw (length-zip rows values) (omega arith) in
    let taken = take_more (zip rows values) i (row_shape d, 0) inside in
    let here : (pair_text start) (get_or (zip rows values) i (row_shape d, 0)) ≡ row_text start (row_shape (get_or code i d)) (get_or values i 0) = ap (pair_text start) pair ∙ ap (λ (r : RowShape). row_text start r (get_or values i 0)) shape in
    grown ∙ ap (λ xs. xs ++ row_text start (row_shape (get_or code i d)) (get_or values i 0)) so_far ∙ ap (λ xs. (before ++ flat_map (pair_text start) (take i (zip rows values))) ++ xs) (sym here) ∙ flat_map_more (pair_text start) before (take i (zip rows values)) (get_or (zip rows values) i (row_shape d, 0)) ∙ ap (λ ps. before ++ flat_map (pair_text start) ps) (sym taken)

-- all rows
pub listed_all : (start : ℕ) (rows : List RowShape) (values before text : List ℕ) (i : ℕ) → length rows ≤ i → ListedSoFar start rows values before text i → text ≡ before ++ rows_text start rows values
listed_all start rows values before text i all so_far =
    let whole : length (zip rows values) ≤ i = rw (length-zip rows values) (omega arith) in
    so_far ∙ ap (λ ps. before ++ flat_map (pair_text start) ps) (take_all i (zip rows values) whole)

-- a row of the code is at most 8 bytes wide
pub row_narrow : (code : List Row) (layout : Shape) (i : ℕ) (d : Row) → map row_shape code ≡ layout.rows → IsTiled layout → i < length code → (get_or code i d).width ≤ 8
row_narrow code layout i d same tiled less =
    let lies = code_row 0 layout.length code i d (rw same tiled) less in
    lies.narrow
