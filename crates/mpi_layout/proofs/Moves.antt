-- The moves between a message's fields and an array of numbers.
use Rattle.std.proofs.Common.{◌≡◌, ℕ, suc, ◌^◌, ◌<◌, ◌≤◌, Bool, IsTrue, List, [], ◌∷◌, length, get_or, map, ◌&&◌, cond, ltb, true, false, subst, Option, None, Some, Result, Ok, Err, refl, ap, sym, ◌∙◌, arith}
use Rattle.std.proofs.Math.Nat.{mod-eq_of_lt}
use Rattle.std.specs.List.{find, list_all, zip}
use Rattle.std.specs.Option.{MatchOption, option_map}
use Rattle.std.proofs.lemmas.Bool.Decides.{nat_tests}
use Rattle.std.proofs.lemmas.List.{length-map}
use Rattle.mpi_layout.specs.declared.fault.Fault.{Fault}
use Rattle.mpi_layout.specs.declared.fault.Fault.TheVariants.{Short, Field}
use Rattle.mpi_layout.specs.declared.row.Row.{Row}
use Rattle.mpi_layout.specs.Rows.{RowShape, Shape, row_shape, breaks, fields, number_in, value_fits, low_bytes, cut_from, first_fault, values_fit, Stands}
use Rattle.mpi_layout.proofs.Reading.{first_fault-none}
use Rattle.mpi_layout.proofs.Writing.{fits_front}

-- a number in front moves the places on
cut_from-cons : (rows : List RowShape) (value : ℕ) (values : List ℕ) (i : ℕ) → cut_from rows (value ∷ values) (suc i) ≡ cut_from rows values i
cut_from-cons [] value values i = refl
cut_from-cons (row ∷ rows) value values i = ap (λ rest. low_bytes row.width (get_or values i 0) ∷ rest) (cut_from-cons rows value values (suc i))

-- a value that fits loses nothing
low_bytes-small : (width value : ℕ) → value < 256 ^ width → low_bytes width value ≡ value
low_bytes-small width value small = let same = mod-eq_of_lt small in grind (arith, nat_tests, same)

-- values that fit lose nothing when they are cut
pub cut_from-fit : (rows : List RowShape) (values : List ℕ) → length values ≡ length rows → IsTrue (values_fit rows values) → cut_from rows values 0 ≡ values
cut_from-fit [] [] whole h = refl
cut_from-fit [] (value ∷ values) whole h = absurd (omega arith)
cut_from-fit (row ∷ rows) [] whole h = absurd (omega arith)
cut_from-fit (row ∷ rows) (value ∷ values) whole h =
    let facts = fits_front row value rows values h in
    let small : low_bytes row.width value ≡ value = low_bytes-small row.width value facts.0 in
    let ih = cut_from-fit rows values (omega arith) facts.2 in
    rw (small, cut_from-cons rows value values 0, ih) refl

-- bytes that stand for values have no fault
pub Stands-no_fault : (layout : Shape) (values bytes : List ℕ) → Stands layout values bytes → first_fault layout bytes ≡ None
Stands-no_fault layout values bytes stands = first_fault-none layout bytes stands.enough stands.obeyed

-- the test of the values, row by row of the code
pub values_fit-map : (rows : List Row) (values : List ℕ) → list_all (λ (p : Row × ℕ). value_fits (row_shape p.0) p.1) (zip rows values) ≡ values_fit (map row_shape rows) values
values_fit-map [] values = refl
values_fit-map (row ∷ rows) [] = refl
values_fit-map (row ∷ rows) (value ∷ values) = ap (λ rest. value_fits (row_shape row) value && rest) (values_fit-map rows values)

-- no fault: the bytes are enough and each row obeys its rule
faultless : (layout : Shape) (bytes : List ℕ) → first_fault layout bytes ≡ None → (layout.length ≤ length bytes) × (find (breaks bytes) layout.rows ≡ None)
faultless layout bytes none = split (ltb (length bytes) layout.length) (find (breaks bytes) layout.rows) refl refl none where
  split : (few : Bool) (broken : Option RowShape) → ltb (length bytes) layout.length ≡ few → find (breaks bytes) layout.rows ≡ broken → cond few (Some (Short layout.length (length bytes))) (option_map (λ (row : RowShape). Field row.at) broken) ≡ None → (layout.length ≤ length bytes) × (find (breaks bytes) layout.rows ≡ None)
  split true broken is found e = cc
  split false None is found e = (grind (arith, nat_tests), found)
  split false (Some row) is found e = cc

abbrev read_as : List ℕ → Result (List ℕ) Fault
read_as values = Ok values

-- what a reading answers
abbrev pub ReadsAs : Shape → List ℕ → Result (List ℕ) Fault → Type 0
ReadsAs layout bytes answer = MatchOption (first_fault layout bytes) (answer ≡ Ok (fields layout.rows bytes)) (λ fault. answer ≡ Err fault)

-- the numbers that were read are the fields
read_fields : (layout : Shape) (bytes values : List ℕ) → ReadsAs layout bytes (Ok values) → (first_fault layout bytes ≡ None) × (values ≡ fields layout.rows bytes)
read_fields layout bytes values h = split (first_fault layout bytes) refl h where
  split : (fault : Option Fault) → first_fault layout bytes ≡ fault → MatchOption fault (read_as values ≡ Ok (fields layout.rows bytes)) (λ fault. read_as values ≡ Err fault) → (first_fault layout bytes ≡ None) × (values ≡ fields layout.rows bytes)
  split None is e = (is, cc)
  split (Some fault) is e = cc

-- numbers that were read lose nothing when they are cut
read_cut : (layout : Shape) (bytes values message : List ℕ) → values ≡ fields layout.rows bytes → IsTrue (values_fit layout.rows values) → message ≡ cut_from layout.rows values 0 → message ≡ values
read_cut layout bytes values message is fit cut =
    let whole : length values ≡ length layout.rows = ap length is ∙ length-map layout.rows (number_in bytes) in
    cut ∙ cut_from-fit layout.rows values whole fit

-- a message whose fields are the numbers that were read: the bytes stand for it
pub read_stands : (layout code : Shape) (bytes values message : List ℕ) → code ≡ layout → ReadsAs code bytes (Ok values) → IsTrue (values_fit code.rows values) → message ≡ cut_from layout.rows values 0 → Stands layout message bytes
read_stands layout code bytes values message is exact fit cut =
    let found = read_fields layout bytes values (subst (λ (s : Shape). ReadsAs s bytes (Ok values)) is exact) in
    let same = read_cut layout bytes values message found.1 (subst (λ (s : Shape). IsTrue (values_fit s.rows values)) is fit) cut in
    let clean = faultless layout bytes found.0 in
    record { enough = clean.0; numbers = sym (same ∙ found.1); obeyed = clean.1 }

-- and it fits
pub read_fits : (layout code : Shape) (bytes values message : List ℕ) → code ≡ layout → ReadsAs code bytes (Ok values) → IsTrue (values_fit code.rows values) → message ≡ cut_from layout.rows values 0 → IsTrue (values_fit layout.rows message)
read_fits layout code bytes values message is exact fit cut =
    let found = read_fields layout bytes values (subst (λ (s : Shape). ReadsAs s bytes (Ok values)) is exact) in
    let fit' = subst (λ (s : Shape). IsTrue (values_fit s.rows values)) is fit in
    let same = read_cut layout bytes values message found.1 fit' cut in
    subst (λ xs. IsTrue (values_fit layout.rows xs)) (sym same) fit'

-- bytes stand for one list of values at most
pub Stands-same : (layout : Shape) (values others bytes : List ℕ) → Stands layout values bytes → Stands layout others bytes → values ≡ others
Stands-same layout values others bytes one other = sym one.numbers ∙ other.numbers

-- bytes that stand for values aren't refused
pub Stands-not_refused : (layout : Shape) (values bytes : List ℕ) (fault : Fault) → Stands layout values bytes → first_fault layout bytes ≡ Some fault → ⊥
Stands-not_refused layout values bytes fault stands refused = let none = Stands-no_fault layout values bytes stands in cc
