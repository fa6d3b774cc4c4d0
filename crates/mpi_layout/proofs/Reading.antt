-- What a reading has found by the time it has come to a row.
use Rattle.std.proofs.Common.{◌≡◌, ℕ, zero, suc, ◌+◌, ◌^◌, ◌<◌, ◌≤◌, Bool, true, false, IsTrue, List, [], ◌∷◌, ◌++◌, length, take, get_or, set, map, ltb, Some, None, cond, not, refl, ap, sym, ◌∙◌, arith}
use Rattle.std.specs.List.{find}
use Rattle.std.proofs.lemmas.Bool.Decides.{nat_tests}
use Rattle.std.proofs.Math.ListN.{get_or-map, length-set}
use Rattle.std.proofs.lemmas.List.{length-map, take_all, take_more_set, map_more}
use Rattle.byteorder.specs.Numbers.{little_from-lt}
use Rattle.mpi_layout.proofs.Fields.{field-little}
use Rattle.mpi_layout.specs.declared.row.Row.{Row}
use Rattle.mpi_layout.specs.Rows.{RowShape, Shape, row_shape, breaks, field, fields, first_fault, obeys, number_in, values_fit}
use Rattle.mpi_layout.specs.declared.fault.Fault.TheVariants.{Field}

-- the rows in front obey their rules, and their numbers stand in front of the values
pub record ReadSoFar (rows : List RowShape) (bytes values : List ℕ) (i : ℕ) : Type 0 where
  pub held : length values ≡ length rows
  pub obeyed : find (breaks bytes) (take i rows) ≡ None
  pub numbers : take i values ≡ fields (take i rows) bytes

-- nothing passes, so neither does the first nor any behind it
pub find_front : {X : Type 0} (p : X → Bool) (x : X) (xs : List X) → find p (x ∷ xs) ≡ None → (p x ≡ false) × (find p xs ≡ None)
find_front p x xs none = tested (p x) none where
  tested : (b : Bool) → cond b (Some x) (find p xs) ≡ None → (b ≡ false) × (find p xs ≡ None)
  tested true e = cc
  tested false e = (refl, e)

-- nothing passes in front, and this does
find_first : {X : Type 0} (p : X → Bool) (xs : List X) (i : ℕ) (d : X) → find p (take i xs) ≡ None → i < length xs → p (get_or xs i d) ≡ true → find p xs ≡ Some (get_or xs i d)
find_first p [] i d none less hit = absurd (omega arith)
find_first p (y ∷ xs) zero d none less hit = rw hit refl
find_first p (y ∷ xs) (suc i) d none less hit =
    let tested = find_front p y (take i xs) none in
    let ih = find_first p xs i d tested.1 (omega arith) hit in
    rw (tested.0) ih

-- nothing passes in front, and neither does this
find_more : {X : Type 0} (p : X → Bool) (xs : List X) (i : ℕ) (d : X) → find p (take i xs) ≡ None → i < length xs → p (get_or xs i d) ≡ false → find p (take (i + 1) xs) ≡ None
find_more p [] i d none less miss = absurd (omega arith)
find_more p (y ∷ xs) zero d none less miss = rw miss refl
find_more p (y ∷ xs) (suc i) d none less miss =
    let tested = find_front p y (take i xs) none in
    let ih = find_more p xs i d tested.1 (omega arith) miss in
    let step : suc i + 1 ≡ suc (i + 1) = omega arith in
    rw (step, tested.0) ih

pub read_none : (rows : List RowShape) (bytes values : List ℕ) → length values ≡ length rows → ReadSoFar rows bytes values 0
read_none rows bytes values whole = record { held = whole; obeyed = refl; numbers = refl }

pub read_more : (rows : List RowShape) (bytes values : List ℕ) (i : ℕ) (d : RowShape) (v : ℕ) → i < length rows → v ≡ number_in bytes (get_or rows i d) → obeys (get_or rows i d).rule v ≡ true → ReadSoFar rows bytes values i → ReadSoFar rows bytes (set values i v) (i + 1)
read_more rows bytes values i d v less is ok so_far = record {
  held = simp length-set so_far.held;
  obeyed = find_more (breaks bytes) rows i d so_far.obeyed less (ap not (ap (obeys (get_or rows i d).rule) (sym is) ∙ ok));
  numbers =
      let room : i < length values = omega (arith, so_far.held) in
      let written = take_more_set values i v room in
      let listed = map_more (number_in bytes) rows i d less in
      written ∙ ap (λ front. front ++ v ∷ []) so_far.numbers ∙ sym (listed ∙ ap (λ x. fields (take i rows) bytes ++ x ∷ []) (sym is));
}

pub read_breaks : (rows : List RowShape) (bytes values : List ℕ) (i : ℕ) (d : RowShape) (v : ℕ) → i < length rows → v ≡ number_in bytes (get_or rows i d) → obeys (get_or rows i d).rule v ≡ false → ReadSoFar rows bytes values i → find (breaks bytes) rows ≡ Some (get_or rows i d)
read_breaks rows bytes values i d v less is ok so_far =
    find_first (breaks bytes) rows i d so_far.obeyed less (ap not (ap (obeys (get_or rows i d).rule) (sym is) ∙ ok))

pub read_all : (rows : List RowShape) (bytes values : List ℕ) (i : ℕ) → length rows ≤ i → ReadSoFar rows bytes values i → (find (breaks bytes) rows ≡ None) × (values ≡ fields rows bytes)
read_all rows bytes values i all so_far =
    let e = take_all i rows all in
    let f = take_all i values (omega (arith, so_far.held)) in
    (rw e at so_far.obeyed, sym f ∙ so_far.numbers ∙ ap (λ front. fields front bytes) e)

-- the first fault, by what a reading finds
pub first_fault-field : (layout : Shape) (bytes : List ℕ) (row : RowShape) → layout.length ≤ length bytes → find (breaks bytes) layout.rows ≡ Some row → first_fault layout bytes ≡ Some (Field row.at)
first_fault-field layout bytes row enough found =
    let whole : ltb (length bytes) layout.length ≡ false = grind (arith, nat_tests) in
    rw (whole, found) refl

pub first_fault-none : (layout : Shape) (bytes : List ℕ) → layout.length ≤ length bytes → find (breaks bytes) layout.rows ≡ None → first_fault layout bytes ≡ None
first_fault-none layout bytes enough found =
    let whole : ltb (length bytes) layout.length ≡ false = grind (arith, nat_tests) in
    rw (whole, found) refl

pub not_false : (b : Bool) → not b ≡ false → b ≡ true
not_false b h = grind arith

-- a field is below the power of its width
field-lt : (bytes : List ℕ) (at width : ℕ) → ((k : ℕ) → get_or bytes k 0 < 256) → field bytes at width < 256 ^ width
field-lt bytes at width small = rw (field-little bytes at width) (little_from-lt at width bytes small)

-- one more value fits
first_fits : (row : RowShape) (value : ℕ) (rows : List RowShape) (values : List ℕ) → value < 256 ^ row.width → obeys row.rule value ≡ true → IsTrue (values_fit rows values) → IsTrue (values_fit (row ∷ rows) (value ∷ values))
first_fits row value rows values low allowed rest = grind (arith, nat_tests)

-- what is read fits its rows, since each byte is below 256
pub fields_fit : (rows : List RowShape) (bytes values : List ℕ) → ((k : ℕ) → get_or bytes k 0 < 256) → find (breaks bytes) rows ≡ None → values ≡ fields rows bytes → IsTrue (values_fit rows values)
fields_fit [] bytes values small none is = refl
fields_fit (row ∷ rows) bytes [] small none is = cc
fields_fit (row ∷ rows) bytes (value ∷ values) small none is =
    let front = find_front (breaks bytes) row rows none in
    let here : value ≡ number_in bytes row = cc in
    let behind : values ≡ fields rows bytes = cc in
    let ih : IsTrue (values_fit rows values) = fields_fit rows bytes values small front.1 behind in
    let low : value < 256 ^ row.width = rw here (field-lt bytes row.at row.width small) in
    let allowed : obeys row.rule value ≡ true = ap (obeys row.rule) here ∙ not_false (obeys row.rule (number_in bytes row)) front.0 in
    first_fits row value rows values low allowed ih

-- the steps for a row of the code
pub code_more : (rows : List Row) (bytes values : List ℕ) (i : ℕ) (d : Row) (v : ℕ) → i < length rows → v ≡ number_in bytes (row_shape (get_or rows i d)) → obeys (get_or rows i d).rule v ≡ true → ReadSoFar (map row_shape rows) bytes values i → ReadSoFar (map row_shape rows) bytes (set values i v) (i + 1)
code_more rows bytes values i d v less is ok so_far =
    let row = get_or-map row_shape rows i d in
    read_more (map row_shape rows) bytes values i (row_shape d) v (simp length-map less) (is ∙ ap (number_in bytes) (sym row)) (ap (λ (r : RowShape). obeys r.rule v) row ∙ ok) so_far

pub code_breaks : (rows : List Row) (bytes values : List ℕ) (i : ℕ) (d : Row) (v : ℕ) → i < length rows → v ≡ number_in bytes (row_shape (get_or rows i d)) → obeys (get_or rows i d).rule v ≡ false → ReadSoFar (map row_shape rows) bytes values i → find (breaks bytes) (map row_shape rows) ≡ Some (row_shape (get_or rows i d))
code_breaks rows bytes values i d v less is ok so_far =
    let row = get_or-map row_shape rows i d in
    read_breaks (map row_shape rows) bytes values i (row_shape d) v (simp length-map less) (is ∙ ap (number_in bytes) (sym row)) (ap (λ (r : RowShape). obeys r.rule v) row ∙ ok) so_far ∙ ap Some row
