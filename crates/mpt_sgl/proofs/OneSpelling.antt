-- For given addresses a list has one spelling.
use Rattle.std.proofs.Common.{◌≡◌, ℕ, zero, suc, ◌+◌, ◌*◌, ◌<◌, ◌≤◌, Bool, true, eqb, ltb, List, [], ◌∷◌, ◌++◌, length, take, drop, get_or, replicate, refl, ap, sym, ◌∙◌, arith, length-append}
use Rattle.std.specs.List.{flat_map, list_all}
use Rattle.std.proofs.lemmas.Bool.Decides.{nat_tests}
use Rattle.std.proofs.lemmas.List.Folds.{list_all-append}
use Rattle.std.proofs.lemmas.List.{drop-drop, length-drop, take-append-drop}
use Rattle.std.proofs.Math.Seq.{take-add}
use Rattle.byteorder.specs.Endian.{little_from}
use Rattle.byteorder.specs.Numbers.{little_from-cons}
use Rattle.mpi_layout.specs.Rows.{field}
use Rattle.mpi_layout.proofs.Fields.{field_reads}
use Rattle.mpt_sgl.specs.declared.chained.ChainFrame.{ChainFrame}
use Rattle.mpt_sgl.specs.declared.chained.Chained.{Chained}
use Rattle.mpt_sgl.specs.declared.element.Element.{Element}
use Rattle.mpt_sgl.specs.declared.list.List.{List as ScatterList}
use Rattle.mpt_sgl.specs.Elements.{element_at, elements_in, is_zero, unused_element}
use Rattle.mpt_sgl.specs.Spelling.{IsSized, Spells, addresses, are_bytes, are_sized, elements, is_area, row_of}
use Rattle.mpt_sgl.proofs.Complete.{append_split}
use Rattle.mpt_sgl.proofs.ElementRows.{elements_in-suc, length-elements_in}
use Rattle.mpt_sgl.proofs.ZeroBytes.{and_true}

abbrev is_byte : ℕ → Bool
is_byte byte = ltb byte 256

-- an array's numbers are bytes
pub all_bytes : (bytes : List ℕ) → ((i : ℕ) → get_or bytes i 0 < 256) → are_bytes bytes ≡ true
all_bytes [] fit = refl
all_bytes (b ∷ bytes) fit = rw (low b (fit 0), all_bytes bytes (λ i. fit (suc i))) refl where
  low : (b : ℕ) → b < 256 → ltb b 256 ≡ true
  low b less = grind (arith, nat_tests)

pub sized_area : (size : ℕ) (bytes : List ℕ) → length bytes ≡ size → are_bytes bytes ≡ true → is_area size bytes ≡ true
sized_area size bytes long all = rw (test (length bytes) size long, all) refl where
  test : (a b : ℕ) → a ≡ b → eqb a b ≡ true
  test a b e = grind (arith, nat_tests)

pub sized_more : (frames after : List ChainFrame) (frame : ChainFrame) → after ≡ frames ++ frame ∷ [] → are_sized frames ≡ true → is_area 128 frame.bytes ≡ true → are_sized after ≡ true
sized_more frames after frame more sized here = ap are_sized more ∙ list_all-append (λ (f : ChainFrame). is_area 128 f.bytes) frames (frame ∷ []) ∙ rw (sized, here) refl

-- so many bytes, at least
record Bytes (n : ℕ) (bytes : List ℕ) : Type 0 where
  long : n ≤ length bytes
  all : list_all is_byte bytes ≡ true

all_behind : (n : ℕ) (bytes : List ℕ) → list_all is_byte bytes ≡ true → list_all is_byte (drop n bytes) ≡ true
all_behind zero bytes e = e
all_behind (suc n) [] e = refl
all_behind (suc n) (b ∷ bytes) e = all_behind n bytes (and_true (is_byte b) (list_all is_byte bytes) e).1

bytes_behind : (at n size : ℕ) (bytes : List ℕ) → at + n ≤ size → Bytes size bytes → Bytes n (drop at bytes)
bytes_behind at n size bytes fits b = record { long = let long = b.long in simp length-drop (omega arith); all = all_behind at bytes b.all }

-- the number of bytes tells them
same_bytes : (n : ℕ) (xs ys : List ℕ) → Bytes n xs → Bytes n ys → little_from 0 n xs ≡ little_from 0 n ys → take n xs ≡ take n ys
same_bytes zero xs ys a b e = refl
same_bytes (suc n) [] ys a b e = absurd (omega (arith, a.long))
same_bytes (suc n) (x ∷ xs) [] a b e = absurd (omega (arith, b.long))
same_bytes (suc n) (x ∷ xs) (y ∷ ys) a b e =
    let all_x = and_true (is_byte x) (list_all is_byte xs) a.all in
    let all_y = and_true (is_byte y) (list_all is_byte ys) b.all in
    let low_x : x < 256 = below x all_x.0 in
    let low_y : y < 256 = below y all_y.0 in
    let moved_x = little_from-cons 0 n x xs in
    let moved_y = little_from-cons 0 n y ys in
    let first : x ≡ y = omega arith in
    let rest : little_from 0 n xs ≡ little_from 0 n ys = omega arith in
    let ih = same_bytes n xs ys (record { long = omega (arith, a.long); all = all_x.1 }) (record { long = omega (arith, b.long); all = all_y.1 }) rest in
    ap (λ b. b ∷ take n xs) first ∙ ap (λ bs. y ∷ bs) ih where
      below : (x : ℕ) → ltb x 256 ≡ true → x < 256
      below x e = grind (arith, nat_tests)

same_field : (at n : ℕ) (xs ys : List ℕ) → at + n ≤ 12 → Bytes 12 xs → Bytes 12 ys → field xs at n ≡ field ys at n → take n (drop at xs) ≡ take n (drop at ys)
same_field at n xs ys fits a b e =
    same_bytes n (drop at xs) (drop at ys) (bytes_behind at n 12 xs fits a) (bytes_behind at n 12 ys fits b) (field_reads xs at n ∙ e ∙ sym (field_reads ys at n))

-- an element's bytes in its three parts
in_parts : (bytes : List ℕ) → take 12 bytes ≡ (take 3 bytes ++ take 1 (drop 3 bytes)) ++ take 8 (drop 4 bytes)
in_parts bytes =
    let four : take 4 bytes ≡ take 3 bytes ++ take 1 (drop 3 bytes) = take-add 3 1 bytes in
    let twelve : take 12 bytes ≡ take 4 bytes ++ take 8 (drop 4 bytes) = take-add 4 8 bytes in
    twelve ∙ ap (λ front. front ++ take 8 (drop 4 bytes)) four

-- an element tells its bytes
same_element : (xs ys : List ℕ) → Bytes 12 xs → Bytes 12 ys → element_at xs ≡ element_at ys → take 12 xs ≡ take 12 ys
same_element xs ys a b e =
    let first = same_field 0 3 xs ys (omega arith) a b (ap (λ (x : Element). x.length) e) in
    let second = same_field 3 1 xs ys (omega arith) a b (ap (λ (x : Element). x.flags) e) in
    let third = same_field 4 8 xs ys (omega arith) a b (ap (λ (x : Element). x.address) e) in
    in_parts xs ∙ ap (λ part. (part ++ take 1 (drop 3 xs)) ++ take 8 (drop 4 xs)) first ∙ ap (λ part. (take 3 ys ++ part) ++ take 8 (drop 4 xs)) second
    ∙ ap (λ part. (take 3 ys ++ take 1 (drop 3 ys)) ++ part) third ∙ sym (in_parts ys)

-- bytes that are zero are told by how many they are
same_zeros : (xs ys : List ℕ) → length xs ≡ length ys → is_zero xs ≡ true → is_zero ys ≡ true → xs ≡ ys
same_zeros [] [] long a b = refl
same_zeros [] (y ∷ ys) long a b = absurd (omega arith)
same_zeros (x ∷ xs) [] long a b = absurd (omega arith)
same_zeros (x ∷ xs) (y ∷ ys) long a b =
    let both_x = and_true (eqb x 0) (is_zero xs) a in
    let both_y = and_true (eqb y 0) (is_zero ys) b in
    let first : x ≡ y = zero_is x both_x.0 ∙ sym (zero_is y both_y.0) in
    let ih = same_zeros xs ys (omega arith) both_x.1 both_y.1 in
    ap (λ b. b ∷ xs) first ∙ ap (λ bs. y ∷ bs) ih where
      zero_is : (x : ℕ) → eqb x 0 ≡ true → x ≡ 0
      zero_is x e = grind (arith, nat_tests)

-- an area's elements tell its bytes, where what is behind them is zero
same_area : (n size : ℕ) (xs ys : List ℕ) → 12 * n ≤ size → length xs ≡ length ys → Bytes size xs → Bytes size ys → elements_in n xs ≡ elements_in n ys → is_zero (drop (12 * n) xs) ≡ true → is_zero (drop (12 * n) ys) ≡ true → xs ≡ ys
same_area zero size xs ys fits long a b e clear_x clear_y = same_zeros xs ys long clear_x clear_y
same_area (suc n) size xs ys fits long a b e clear_x clear_y =
    let split : element_at xs ∷ elements_in n (drop 12 xs) ≡ element_at ys ∷ elements_in n (drop 12 ys) = sym (elements_in-suc n xs) ∙ e ∙ elements_in-suc n ys in
    let first : element_at xs ≡ element_at ys = cc in
    let others : elements_in n (drop 12 xs) ≡ elements_in n (drop 12 ys) = cc in
    let next : 12 + 12 * n ≡ 12 * suc n = omega arith in
    let size_x : Bytes (12 * suc n) xs = record { long = omega (arith, a.long); all = a.all } in
    let size_y : Bytes (12 * suc n) ys = record { long = omega (arith, b.long); all = b.all } in
    let front_x : Bytes 12 xs = record { long = omega (arith, a.long); all = a.all } in
    let front_y : Bytes 12 ys = record { long = omega (arith, b.long); all = b.all } in
    let long' : length (drop 12 xs) ≡ length (drop 12 ys) = simp length-drop (omega arith) in
    let rest = same_area n (12 * n) (drop 12 xs) (drop 12 ys) (omega arith) long' (bytes_behind 12 (12 * n) (12 * suc n) xs (omega arith) size_x) (bytes_behind 12 (12 * n) (12 * suc n) ys (omega arith) size_y) others
    (ap is_zero (drop-drop (12 * n) 12 xs ∙ ap (λ k. drop k xs) next) ∙ clear_x) (ap is_zero (drop-drop (12 * n) 12 ys ∙ ap (λ k. drop k ys) next) ∙ clear_y) in
    sym (take-append-drop 12 xs) ∙ ap (λ front. front ++ drop 12 xs) (same_element xs ys front_x front_y first) ∙ ap (λ back. take 12 ys ++ back) rest ∙ take-append-drop 12 ys

-- an area of its size
area_bytes : (size : ℕ) (bytes : List ℕ) → is_area size bytes ≡ true → (length bytes ≡ size) × Bytes size bytes
area_bytes size bytes e =
    let both = and_true (eqb (length bytes) size) (list_all is_byte bytes) e in
    let long : length bytes ≡ size = size_is (length bytes) size both.0 in
    (long, record { long = omega arith; all = both.1 }) where
      size_is : (a b : ℕ) → eqb a b ≡ true → a ≡ b
      size_is a b e = grind (arith, nat_tests)

same_sized : (n size : ℕ) (xs ys : List ℕ) → 12 * n ≤ size → is_area size xs ≡ true → is_area size ys ≡ true → elements_in n xs ≡ elements_in n ys → is_zero (drop (12 * n) xs) ≡ true → is_zero (drop (12 * n) ys) ≡ true → xs ≡ ys
same_sized n size xs ys fits area_x area_y e clear_x clear_y =
    let a = area_bytes size xs area_x in
    let b = area_bytes size ys area_y in
    same_area n size xs ys fits (a.0 ∙ sym b.0) a.1 b.1 e clear_x clear_y

abbrev frame_elements : List ChainFrame → List Element
frame_elements frames = flat_map (λ (frame : ChainFrame). elements_in 10 frame.bytes) frames

abbrev are_clear : List ChainFrame → Bool
are_clear frames = list_all (λ (frame : ChainFrame). is_zero (drop 120 frame.bytes)) frames

-- frames are told by their addresses and elements
same_frames : (xs ys : List ChainFrame) → addresses xs ≡ addresses ys → frame_elements xs ≡ frame_elements ys → are_sized xs ≡ true → are_sized ys ≡ true → are_clear xs ≡ true → are_clear ys ≡ true → xs ≡ ys
same_frames [] [] heads e sized_x sized_y clear_x clear_y = refl
same_frames [] (y ∷ ys) heads e sized_x sized_y clear_x clear_y = cc
same_frames (x ∷ xs) [] heads e sized_x sized_y clear_x clear_y = cc
same_frames (x ∷ xs) (y ∷ ys) heads e sized_x sized_y clear_x clear_y =
    let head : x.address ≡ y.address = cc in
    let heads' : addresses xs ≡ addresses ys = cc in
    let split = append_split (elements_in 10 x.bytes) (elements_in 10 y.bytes) (frame_elements xs) (frame_elements ys) (length-elements_in 10 x.bytes ∙ sym (length-elements_in 10 y.bytes)) e in
    let sx = and_true (is_area 128 x.bytes) (are_sized xs) sized_x in
    let sy = and_true (is_area 128 y.bytes) (are_sized ys) sized_y in
    let cx = and_true (is_zero (drop 120 x.bytes)) (are_clear xs) clear_x in
    let cy = and_true (is_zero (drop 120 y.bytes)) (are_clear ys) clear_y in
    let bytes : x.bytes ≡ y.bytes = same_sized 10 128 x.bytes y.bytes (omega arith) sx.0 sy.0 split.0 cx.0 cy.0 in
    let here : x ≡ y = ap (λ at. record { address = at; bytes = x.bytes }) head ∙ ap (λ bs. record { address = y.address; bytes = bs }) bytes in
    let ih = same_frames xs ys heads' split.1 sx.1 sy.1 cx.1 cy.1 in
    ap (λ f. f ∷ xs) here ∙ ap (λ fs. y ∷ fs) ih

length-frame_elements : (frames : List ChainFrame) → length (frame_elements frames) ≡ 10 * length frames
length-frame_elements [] = refl
length-frame_elements (frame ∷ frames) =
    let ih = length-frame_elements frames in
    length-append (elements_in 10 frame.bytes) (frame_elements frames) ∙ omega (arith, ih, length-elements_in 10 frame.bytes)

length-elements : (first : List ℕ) (frames : List ChainFrame) → length (elements first frames) ≡ 2 + 10 * length frames
length-elements first frames =
    length-append (elements_in 2 first) (frame_elements frames) ∙ omega (arith, length-frame_elements frames, length-elements_in 2 first)

length-addresses : (frames : List ChainFrame) → length (addresses frames) ≡ length frames
length-addresses [] = refl
length-addresses (frame ∷ frames) = ap suc (length-addresses frames)

length-zeros : (n : ℕ) → length (replicate n unused_element) ≡ n
length-zeros zero = refl
length-zeros (suc n) = ap suc (length-zeros n)

-- two rows of a list have as many unused elements behind it
same_rows : (row xs ys : List Element) (u v : ℕ) → length xs ≡ length ys → xs ≡ row ++ replicate u unused_element → ys ≡ row ++ replicate v unused_element → xs ≡ ys
same_rows row xs ys u v long a b =
    let long_x = ap length a ∙ length-append row (replicate u unused_element) in
    let long_y = ap length b ∙ length-append row (replicate v unused_element) in
    let same : u ≡ v = omega (arith, long_x, long_y, length-zeros u, length-zeros v) in
    a ∙ ap (λ n. row ++ replicate n unused_element) same ∙ sym b

-- a list with given addresses has one spelling
pub one_spelling : (list : ScatterList) (a b : Chained) → IsSized a → IsSized b → addresses a.frames ≡ addresses b.frames → Spells list a → Spells list b → a ≡ b
one_spelling list a b sized_a sized_b heads x y =
    let count : length a.frames ≡ length b.frames = sym (length-addresses a.frames) ∙ ap length heads ∙ length-addresses b.frames in
    let long : length (elements a.first a.frames) ≡ length (elements b.first b.frames) = length-elements a.first a.frames ∙ ap (λ n. 2 + 10 * n) count ∙ sym (length-elements b.first b.frames) in
    let row_b : elements b.first b.frames ≡ row_of list.to_device list.pieces (addresses a.frames) ++ replicate y.row.0 unused_element =
    y.row.1 ∙ ap (λ hs. row_of list.to_device list.pieces hs ++ replicate y.row.0 unused_element) (sym heads) in
    let all = same_rows (row_of list.to_device list.pieces (addresses a.frames)) (elements a.first a.frames) (elements b.first b.frames) x.row.0 y.row.0 long x.row.1 row_b in
    let split = append_split (elements_in 2 a.first) (elements_in 2 b.first) (frame_elements a.frames) (frame_elements b.frames) (length-elements_in 2 a.first ∙ sym (length-elements_in 2 b.first)) all in
    let clear_a = and_true (is_zero (drop 24 a.first)) (are_clear a.frames) x.clear in
    let clear_b = and_true (is_zero (drop 24 b.first)) (are_clear b.frames) y.clear in
    let first : a.first ≡ b.first = same_sized 2 32 a.first b.first (omega arith) sized_a.first sized_b.first split.0 clear_a.0 clear_b.0 in
    let frames : a.frames ≡ b.frames = same_frames a.frames b.frames heads split.1 sized_a.frames sized_b.frames clear_a.1 clear_b.1 in
    let offset : a.offset ≡ b.offset = x.offset ∙ sym y.offset in
    ap (λ o. record { offset = o; first = a.first; frames = a.frames }) offset ∙ ap (λ f. record { offset = b.offset; first = f; frames = a.frames }) first
    ∙ ap (λ fs. record { offset = b.offset; first = b.first; frames = fs }) frames
