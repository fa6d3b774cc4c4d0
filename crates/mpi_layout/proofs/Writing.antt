-- What a writing has left by the time it has come to a row.
use Rattle.std.proofs.Common.{◌≡◌, ℕ, zero, suc, ◌+◌, ◌-◌, ◌^◌, ◌<◌, ◌≤◌, true, false, IsTrue, List, [], ◌∷◌, ◌++◌, length, take, drop, get_or, not, None, refl, append-nil, map, subst, ap, sym, ◌∙◌, arith}
use Rattle.std.specs.List.{find}
use Rattle.std.proofs.lemmas.Bool.Decides.{nat_tests}
use Rattle.std.proofs.lemmas.List.{take_all, map_more, take_more, length-map, drop_all, drop-drop, length-drop, length-take}
use Rattle.std.proofs.Math.ListN.{get_or-map}
use Rattle.std.proofs.Math.Seq.{drop-append_seam}
use Rattle.std.proofs.lemmas.Slice.{take-put_mid_below}
use borrow.Rule.Slice.PartMut.{put_mid}
use Rattle.byteorder.specs.Endian.{little_from, little_number, little_bytes}
use Rattle.byteorder.specs.Numbers.{length-bytes_low_first, little_from-take, little_number-reads_back}
use Rattle.mpi_layout.specs.declared.row.Row.{Row}
use Rattle.mpi_layout.specs.Rows.{RowShape, Shape, row_shape, breaks, field, fields, number_in, obeys, tiles, values_fit, Stands}
use Rattle.mpi_layout.proofs.Fields.{field-little, field_reads}
use Rattle.mpi_layout.proofs.Tiling.{tiles_row, first_row}

-- the rows in front read back their values, and the bytes past the layout are as before
pub record WrittenSoFar (rows : List RowShape) (end : ℕ) (values before out : List ℕ) (i : ℕ) : Type 0 where
  pub numbers : fields (take i rows) out ≡ take i values
  pub rest : drop end out ≡ drop end before

-- a field reads only its own bytes
pub field_front : (xs ys : List ℕ) (at n m : ℕ) → at + n ≤ m → take m xs ≡ take m ys → field xs at n ≡ field ys at n
field_front xs ys at n m within same =
    field-little xs at n ∙ sym (little_from-take at n m xs within) ∙ ap (little_from at n) same ∙ little_from-take at n m ys within ∙ sym (field-little ys at n)

-- the rows in front of a row read the bytes in front of it alone
fields_front : (from end : ℕ) (rows : List RowShape) (i : ℕ) (d : RowShape) (xs ys : List ℕ) → IsTrue (tiles from end rows) → i < length rows → take (get_or rows i d).at xs ≡ take (get_or rows i d).at ys → fields (take i rows) xs ≡ fields (take i rows) ys
fields_front from end [] i d xs ys h less same = absurd (omega arith)
fields_front from end (first ∷ rows) zero d xs ys h less same = refl
fields_front from end (first ∷ rows) (suc i) d xs ys h less same =
    let facts = first_row from end first rows h in
    let behind = tiles_row (from + first.width) end rows i d facts.3 (omega arith) in
    let here = field_front xs ys first.at first.width (get_or rows i d).at (omega (arith, behind.after)) same in
    let ih = fields_front (from + first.width) end rows i d xs ys facts.3 (omega arith) same in
    rw (here, ih) refl

-- what a write of one field leaves
pub record WrittenAt (old : List ℕ) (at width v : ℕ) (new : List ℕ) : Type 0 where
  pub number : field new at width ≡ v
  pub front : take at new ≡ take at old
  pub back : drop (at + width) new ≡ drop (at + width) old

-- the bytes from the offset on begin with the number's
pub written_at : (old : List ℕ) (at width v : ℕ) (buf : List ℕ) → at + width ≤ length old → v < 256 ^ width → buf ≡ little_bytes width v ++ drop width (take (length old - at) (drop at old)) → WrittenAt old at width v (put_mid at (length old - at) old buf)
written_at old at width v buf room small is =
    let behind : List ℕ = drop width (drop at old) in
    let above : at ≤ length old = omega arith in
    let none : drop (length old - at) (drop at old) ≡ [] = drop_all (length old - at) (drop at old) (simp length-drop (omega arith)) in
    let kept : take (length old - at) (drop at old) ≡ drop at old = take_all (length old - at) (drop at old) (simp length-drop (omega arith)) in
    let new : List ℕ = put_mid at (length old - at) old buf in
    let place : length (take at old) ≡ at = simp length-take (omega arith) in
    let wide : length (little_bytes width v) ≡ width = length-bytes_low_first 0 width v in
    let dropped : drop at new ≡ little_bytes width v ++ behind =
    (let seam = drop-append_seam (take at old) (buf ++ drop (length old - at) (drop at old)) in rw place at seam) ∙ rw none (append-nil buf ∙ is ∙ ap (λ xs. little_bytes width v ++ drop width xs) kept) in
    let further : drop width (little_bytes width v ++ behind) ≡ behind = (let seam = drop-append_seam (little_bytes width v) behind in rw wide at seam) in
    record {
      number = sym (field_reads new at width) ∙ ap (little_number width) dropped ∙ little_number-reads_back width v behind small;
      front = take-put_mid_below at (length old - at) old buf at (omega arith) above;
      back = sym (drop-drop width at new) ∙ ap (drop width) dropped ∙ further ∙ drop-drop width at old;
    }

-- what is behind both offsets is the same
pub drop_further : (xs ys : List ℕ) (n m : ℕ) → n ≤ m → drop n xs ≡ drop n ys → drop m xs ≡ drop m ys
drop_further xs ys n m le same =
    let sum : n + (m - n) ≡ m = omega arith in
    let left = ap (λ k. drop k xs) (sym sum) ∙ sym (drop-drop (m - n) n xs) in
    let right = ap (λ k. drop k ys) (sym sum) ∙ sym (drop-drop (m - n) n ys) in
    left ∙ ap (drop (m - n)) same ∙ sym right

-- one more row is written
pub written_more : (rows : List RowShape) (end : ℕ) (values before out new : List ℕ) (i : ℕ) (d : RowShape) → IsTrue (tiles 0 end rows) → i < length rows → i < length values → number_in new (get_or rows i d) ≡ get_or values i 0 → take (get_or rows i d).at new ≡ take (get_or rows i d).at out → drop ((get_or rows i d).at + (get_or rows i d).width) new ≡ drop ((get_or rows i d).at + (get_or rows i d).width) out → WrittenSoFar rows end values before out i
    → WrittenSoFar rows end values before new (i + 1)
written_more rows end values before out new i d h less room here front back so_far =
    let lies = tiles_row 0 end rows i d h less in
    let same = fields_front 0 end rows i d new out h less front in
    let listed = map_more (number_in new) rows i d less in
    record {
      numbers = listed ∙ ap (λ xs. xs ++ number_in new (get_or rows i d) ∷ []) (same ∙ so_far.numbers) ∙ ap (λ x. take i values ++ x ∷ []) here ∙ sym (take_more values i 0 room);
      rest = drop_further new out ((get_or rows i d).at + (get_or rows i d).width) end lies.within back ∙ so_far.rest;
    }

-- what the test says of the first value
pub fits_front : (row : RowShape) (value : ℕ) (rows : List RowShape) (values : List ℕ) → IsTrue (values_fit (row ∷ rows) (value ∷ values)) → (value < 256 ^ row.width) × (obeys row.rule value ≡ true) × IsTrue (values_fit rows values)
fits_front row value rows values h = grind (arith, nat_tests)

-- values that fit obey their rules where they are read
pub fits_obeyed : (rows : List RowShape) (values bytes : List ℕ) → IsTrue (values_fit rows values) → fields rows bytes ≡ values → find (breaks bytes) rows ≡ None
fits_obeyed [] values bytes h e = refl
fits_obeyed (row ∷ rows) [] bytes h e = cc
fits_obeyed (row ∷ rows) (value ∷ values) bytes h e =
    let facts = fits_front row value rows values h in
    let here : number_in bytes row ≡ value = cc in
    let behind : fields rows bytes ≡ values = cc in
    let ih = fits_obeyed rows values bytes facts.2 behind in
    let allowed : breaks bytes row ≡ false = ap not (ap (obeys row.rule) here ∙ facts.1) in
    rw allowed ih

-- each value that fits is below the power of its width
pub fits_small : (rows : List RowShape) (values : List ℕ) (i : ℕ) (d : RowShape) → IsTrue (values_fit rows values) → i < length rows → i < length values → get_or values i 0 < 256 ^ (get_or rows i d).width
fits_small [] values i d h less room = absurd (omega arith)
fits_small (row ∷ rows) [] i d h less room = absurd (omega arith)
fits_small (row ∷ rows) (value ∷ values) zero d h less room = (fits_front row value rows values h).0
fits_small (row ∷ rows) (value ∷ values) (suc i) d h less room =
    fits_small rows values i d (fits_front row value rows values h).2 (omega arith) (omega arith)

-- all rows are written
pub written_all : (layout : Shape) (values before out : List ℕ) (i : ℕ) → length layout.rows ≤ i → length values ≤ i → layout.length ≤ length out → IsTrue (values_fit layout.rows values) → WrittenSoFar layout.rows layout.length values before out i → Stands layout values out
written_all layout values before out i all whole enough h so_far =
    let numbers = ap (λ front. fields front out) (sym (take_all i layout.rows all)) ∙ so_far.numbers ∙ take_all i values whole in
    record { enough = enough; numbers = numbers; obeyed = fits_obeyed layout.rows values out h numbers }

-- the step for a row of the code
pub code_written : (rows : List Row) (end : ℕ) (values before out new : List ℕ) (i : ℕ) (d : Row) → IsTrue (tiles 0 end (map row_shape rows)) → i < length rows → i < length values → number_in new (row_shape (get_or rows i d)) ≡ get_or values i 0 → take (get_or rows i d).at new ≡ take (get_or rows i d).at out → drop ((get_or rows i d).at + (get_or rows i d).width) new ≡ drop ((get_or rows i d).at + (get_or rows i d).width) out → WrittenSoFar (map row_shape rows) end values before out i
    → WrittenSoFar (map row_shape rows) end values before new (i + 1)
code_written rows end values before out new i d h less room here front back so_far =
    let row = sym (get_or-map row_shape rows i d) in
    written_more (map row_shape rows) end values before out new i (row_shape d) h (simp length-map less) room
    (subst (λ (r : RowShape). number_in new r ≡ get_or values i 0) row here)
    (subst (λ (r : RowShape). take r.at new ≡ take r.at out) row front)
    (subst (λ (r : RowShape). drop (r.at + r.width) new ≡ drop (r.at + r.width) out) row back) so_far

pub code_small : (rows : List Row) (values : List ℕ) (i : ℕ) (d : Row) → IsTrue (values_fit (map row_shape rows) values) → i < length rows → i < length values → get_or values i 0 < 256 ^ (get_or rows i d).width
code_small rows values i d h less room =
    subst (λ (r : RowShape). get_or values i 0 < 256 ^ r.width) (get_or-map row_shape rows i d) (fits_small (map row_shape rows) values i (row_shape d) h (simp length-map less) room)
