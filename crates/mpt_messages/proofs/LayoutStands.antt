-- The bytes of a layout's numbers stand for them, whatever follows.
use Rattle.std.proofs.Common.{◌≡◌, ℕ, ◌+◌, ◌^◌, ◌<◌, IsTrue, Bool, true, false, not, List, [], ◌∷◌, ◌++◌, length, drop, None, append_assoc, length-append, refl, sym, ap, subst, ◌∙◌, arith}
use Rattle.std.specs.List.{find}
use Rattle.std.proofs.Math.Seq.{drop-append_seam}
use Rattle.std.proofs.lemmas.Bool.Decides.{nat_tests}
use Rattle.byteorder.specs.Endian.{little_bytes, little_number}
use Rattle.byteorder.specs.Numbers.{little_number-reads_back, length-bytes_low_first}
use Rattle.mpi_layout.specs.Rows.{Shape, RowShape, IsTiled, Stands, breaks, field, fields, number_in, obeys, tiles, values_fit}
use Rattle.mpi_layout.proofs.Fields.{field_reads}
use Rattle.mpi_layout.proofs.Tiling.{first_row}
use Rattle.mpt_messages.specs.FrameBytes.{layout_bytes, rows_bytes}

-- as many values as rows
abbrev pub pair_up : List RowShape → List ℕ → Bool
pair_up [] [] = true
pair_up [] (value ∷ values) = false
pair_up (row ∷ rows) [] = false
pair_up (row ∷ rows) (value ∷ values) = pair_up rows values

-- a number's bytes at an offset are read back
field_back : (front rest : List ℕ) (at width value : ℕ) → length front ≡ at → value < 256 ^ width → field (front ++ (little_bytes width value ++ rest)) at width ≡ value
field_back front rest at width value long small =
    let all = front ++ (little_bytes width value ++ rest) in
    let behind : drop at all ≡ little_bytes width value ++ rest = subst (λ n. drop n all ≡ little_bytes width value ++ rest) long (drop-append_seam front (little_bytes width value ++ rest)) in
    sym (field_reads all at width) ∙ ap (little_number width) behind ∙ little_number-reads_back width value rest small

-- what the test says of the first value
first_fits : (row : RowShape) (value : ℕ) (rows : List RowShape) (values : List ℕ) → IsTrue (values_fit (row ∷ rows) (value ∷ values)) → (value < 256 ^ row.width) × (obeys row.rule value ≡ true) × IsTrue (values_fit rows values)
first_fits row value rows values fit = grind (arith, nat_tests)

-- the numbers are read back, and no row is broken
record ReadBack (rows : List RowShape) (values bytes : List ℕ) : Type 0 where
  numbers : fields rows bytes ≡ values
  obeyed : find (breaks bytes) rows ≡ None

rows_back : (from end : ℕ) (rows : List RowShape) (values front rest : List ℕ) → IsTrue (tiles from end rows) → IsTrue (pair_up rows values) → IsTrue (values_fit rows values) → length front ≡ from → ReadBack rows values (front ++ (rows_bytes rows values ++ rest))
rows_back from end [] [] front rest tiled paired fit long = record { numbers = refl; obeyed = refl }
rows_back from end [] (value ∷ values) front rest tiled paired fit long = absurd (cc)
rows_back from end (row ∷ rows) [] front rest tiled paired fit long = absurd (cc)
rows_back from end (row ∷ rows) (value ∷ values) front rest tiled paired fit long =
    let first = first_row from end row rows tiled in
    let fits = first_fits row value rows values fit in
    let low = little_bytes row.width value in
    let high = rows_bytes rows values in
    let bytes = front ++ (low ++ high ++ rest) in
    let further : length (front ++ low) ≡ from + row.width = length-append front low ∙ ap (λ n. n + length low) long ∙ ap (λ n. from + n) (length-bytes_low_first 0 row.width value) in
    let ih = rows_back (from + row.width) end rows values (front ++ low) rest first.3 paired fits.2 further in
    let inner : bytes ≡ front ++ (low ++ (high ++ rest)) = ap (λ xs. front ++ xs) (append_assoc low high rest) in
    let same : (front ++ low) ++ (high ++ rest) ≡ bytes = append_assoc front low (high ++ rest) ∙ sym inner in
    let others : ReadBack rows values bytes = subst (ReadBack rows values) same ih in
    let here : number_in bytes row ≡ value = subst (λ xs. number_in xs row ≡ value) (sym inner) (field_back front (high ++ rest) row.at row.width value (long ∙ sym first.0) fits.0) in
    let safe : breaks bytes row ≡ false = ap (λ n. not (obeys row.rule n)) here ∙ ap not fits.1 in
    record { numbers = ap (λ n. n ∷ fields rows bytes) here ∙ ap (λ ns. value ∷ ns) others.numbers; obeyed = rw safe others.obeyed }

-- the rows' bytes are as many as the rows cover
rows_bytes-length : (from end : ℕ) (rows : List RowShape) (values : List ℕ) → IsTrue (tiles from end rows) → IsTrue (pair_up rows values) → from + length (rows_bytes rows values) ≡ end
rows_bytes-length from end [] [] tiled paired = grind (arith, nat_tests)
rows_bytes-length from end [] (value ∷ values) tiled paired = absurd (cc)
rows_bytes-length from end (row ∷ rows) [] tiled paired = absurd (cc)
rows_bytes-length from end (row ∷ rows) (value ∷ values) tiled paired =
    let first = first_row from end row rows tiled in
    let ih = rows_bytes-length (from + row.width) end rows values first.3 paired in
    let both = length-append (little_bytes row.width value) (rows_bytes rows values) in
    let low = length-bytes_low_first 0 row.width value in
    omega (arith, both, low, ih)

-- how many bytes a layout's numbers have
pub layout_bytes-length : (layout : Shape) (values : List ℕ) → IsTiled layout → IsTrue (pair_up layout.rows values) → length (layout_bytes layout values) ≡ layout.length
layout_bytes-length layout values tiled paired = let e = rows_bytes-length 0 layout.length layout.rows values tiled paired in omega (arith, e)

-- a layout's numbers' bytes stand for them, whatever follows
pub bytes_stand : (layout : Shape) (values rest : List ℕ) → IsTiled layout → IsTrue (pair_up layout.rows values) → IsTrue (values_fit layout.rows values) → Stands layout values (layout_bytes layout values ++ rest)
bytes_stand layout values rest tiled paired fit =
    let back = rows_back 0 layout.length layout.rows values [] rest tiled paired fit refl in
    let long = layout_bytes-length layout values tiled paired in
    record { enough = omega (arith, long, length-append (layout_bytes layout values) rest); numbers = back.numbers; obeyed = back.obeyed }
