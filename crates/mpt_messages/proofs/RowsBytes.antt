-- Bytes that stand for a layout's numbers are these numbers' bytes, one row after the other.
use Rattle.std.proofs.Common.{◌≡◌, ℕ, zero, suc, ◌+◌, ◌-◌, ◌*◌, ◌/◌, ◌%◌, ◌^◌, ◌<◌, ◌≤◌, IsTrue, List, [], ◌∷◌, ◌++◌, length, take, drop, get_or, refl, sym, ap, ◌∙◌, arith}
use Rattle.std.specs.Int.{bytes_low_first, byte_at}
use Rattle.std.proofs.Math.Nat.{pow-suc, div-div-eq-div-mul}
use Rattle.std.proofs.Math.Seq.{take-add, drop-cons}
use Rattle.std.proofs.lemmas.List.{drop-drop}
use Rattle.std.proofs.lemmas.Bool.Decides.{nat_tests}
use Rattle.byteorder.specs.Endian.{little_from, little_bytes}
use Rattle.mpi_layout.specs.Rows.{Shape, RowShape, IsTiled, Stands, fields, tiles}
use Rattle.mpi_layout.proofs.Fields.{field-little}
use Rattle.mpi_layout.proofs.Tiling.{first_row, tiles_end}
use Rattle.mpt_messages.specs.FrameBytes.{layout_bytes, rows_bytes}

-- a byte above the lowest is a byte of what is left above it
byte_above : (j b y : ℕ) → b < 256 → byte_at (suc j) (b + 256 * y) ≡ byte_at j y
byte_above zero b y h =
    let cut : (b + 256 * y) / 256 ≡ y = omega arith in
    ap (λ n. n % 256) cut
byte_above (suc j) b y h =
    let cut : (b + 256 * y) / 256 ≡ y = omega arith in
    let power : 256 ^ suc (suc j) ≡ 256 * 256 ^ suc j = grind (arith, pow-suc 256 (suc j)) in
    let both : (b + 256 * y) / 256 / 256 ^ suc j ≡ (b + 256 * y) / (256 * 256 ^ suc j) = div-div-eq-div-mul (b + 256 * y) 256 (256 ^ suc j) in
    ap (λ p. (b + 256 * y) / p % 256) power ∙ ap (λ q. q % 256) (sym both) ∙ ap (λ n. n / 256 ^ suc j % 256) cut

bytes_above : (n j b y : ℕ) → b < 256 → bytes_low_first (suc j) n (b + 256 * y) ≡ bytes_low_first j n y
bytes_above zero j b y h = refl
bytes_above (suc n) j b y h =
    let first = byte_above j b y h in
    let ih = bytes_above n (suc j) b y h in
    rw (first, ih) refl

-- the bytes of the number that bytes are
pub bytes-number : (i n : ℕ) (xs : List ℕ) → ((k : ℕ) → get_or xs k 0 < 256) → i + n ≤ length xs → bytes_low_first 0 n (little_from i n xs) ≡ take n (drop i xs)
bytes-number i zero xs small within = refl
bytes-number i (suc n) xs small within =
    let here : i < length xs = omega arith in
    let ih = bytes-number (suc i) n xs small (omega arith) in
    let low : (get_or xs i 0 + 256 * little_from (suc i) n xs) % 256 ≡ get_or xs i 0 = let byte = small i in omega arith in
    let above = bytes_above n 0 (get_or xs i 0) (little_from (suc i) n xs) (small i) in
    rw (drop-cons xs i 0 here, low, above, ih) refl

-- rows that tile a stretch of the bytes
pub rows_taken : (from end : ℕ) (rows : List RowShape) (bytes : List ℕ) → IsTrue (tiles from end rows) → end ≤ length bytes → ((k : ℕ) → get_or bytes k 0 < 256) → rows_bytes rows (fields rows bytes) ≡ take (end - from) (drop from bytes)
rows_taken from end [] bytes tiled enough small =
    let same : end - from ≡ 0 = grind (arith, nat_tests) in
    rw same refl
rows_taken from end (row ∷ rows) bytes tiled enough small =
    let first = first_row from end row rows tiled in
    let rest = tiles_end (from + row.width) end rows first.3 in
    let ih = rows_taken (from + row.width) end rows bytes first.3 enough small in
    let head = ap (little_bytes row.width) (field-little bytes row.at row.width) ∙ bytes-number row.at row.width bytes small (omega arith) ∙ ap (λ at. take row.width (drop at bytes)) first.0 in
    let count : end - from ≡ row.width + (end - (from + row.width)) = omega arith in
    let parts = take-add row.width (end - (from + row.width)) (drop from bytes) in
    let on = drop-drop row.width from bytes in
    ap (λ xs. xs ++ rows_bytes rows (fields rows bytes)) head ∙ ap (λ xs. take row.width (drop from bytes) ++ xs) (ih ∙ ap (take (end - (from + row.width))) (sym on)) ∙ sym parts ∙ ap (λ n. take n (drop from bytes)) (sym count)

-- the front of bytes that stand for a layout's numbers
pub stands_front : (layout : Shape) (n : ℕ) (values bytes : List ℕ) → layout.length ≡ n → IsTiled layout → ((k : ℕ) → get_or bytes k 0 < 256) → Stands layout values bytes → take n bytes ≡ layout_bytes layout values
stands_front layout n values bytes long tiled small stands =
    let taken = rows_taken 0 layout.length layout.rows bytes tiled stands.enough small in
    let count : layout.length - 0 ≡ n = omega (arith, long) in
    sym (ap (λ k. take k bytes) count) ∙ sym taken ∙ ap (rows_bytes layout.rows) stands.numbers
