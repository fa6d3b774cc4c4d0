-- Elements one after the other.
use Rattle.std.proofs.Common.{◌≡◌, ℕ, zero, suc, ◌+◌, ◌-◌, ◌*◌, ◌<◌, ◌≤◌, List, [], ◌∷◌, ◌++◌, length, take, drop, refl, ap, sym, ◌∙◌, arith}
use Rattle.std.proofs.lemmas.List.{drop-drop, drop-take}
use Rattle.mpi_layout.proofs.Writing.{field_front}
use Rattle.mpt_sgl.specs.Elements.{element_at, elements_in}

pub length-elements_in : (n : ℕ) (bytes : List ℕ) → length (elements_in n bytes) ≡ n
unfolding elements_in
length-elements_in zero bytes = refl
length-elements_in (suc n) bytes = ap suc (length-elements_in n (drop 12 bytes))

pub elements_in-suc : (n : ℕ) (bytes : List ℕ) → elements_in (suc n) bytes ≡ element_at bytes ∷ elements_in n (drop 12 bytes)
unfolding elements_in
elements_in-suc n bytes = refl

pub elements_in-zero : (bytes : List ℕ) → elements_in 0 bytes ≡ []
unfolding elements_in
elements_in-zero bytes = refl

-- twelve more bytes on
drop_on : (n : ℕ) (bytes : List ℕ) → drop (12 * n) (drop 12 bytes) ≡ drop (12 * suc n) bytes
drop_on n bytes =
    let e : 12 + 12 * n ≡ 12 * suc n = omega arith in
    drop-drop (12 * n) 12 bytes ∙ ap (λ k. drop k bytes) e

-- in two parts
pub elements_in-add : (n m : ℕ) (bytes : List ℕ) → elements_in (n + m) bytes ≡ elements_in n bytes ++ elements_in m (drop (12 * n) bytes)
unfolding elements_in
elements_in-add zero m bytes = let e : 0 + m ≡ m = omega arith in rw e refl
elements_in-add (suc n) m bytes =
    let e : suc n + m ≡ suc (n + m) = omega arith in
    let ih = elements_in-add n m (drop 12 bytes) in
    rw (e, ih, drop_on n bytes) refl

-- one more at the end
pub elements_in-more : (n : ℕ) (bytes : List ℕ) → elements_in (n + 1) bytes ≡ elements_in n bytes ++ element_at (drop (12 * n) bytes) ∷ []
unfolding elements_in
elements_in-more n bytes = elements_in-add n 1 bytes

-- the first of those that are left
pub elements_left : (count i : ℕ) (bytes : List ℕ) → i < count → elements_in (count - i) (drop (12 * i) bytes) ≡ element_at (drop (12 * i) bytes) ∷ elements_in (count - (i + 1)) (drop (12 * (i + 1)) bytes)
elements_left count i bytes less =
    let e : count - i ≡ suc (count - (i + 1)) = omega arith in
    let f : 12 * i + 12 ≡ 12 * (i + 1) = omega arith in
    rw e (elements_in-suc (count - (i + 1)) (drop (12 * i) bytes) ∙ ap (λ bs. element_at (drop (12 * i) bytes) ∷ elements_in (count - (i + 1)) bs) (drop-drop 12 (12 * i) bytes ∙ ap (λ k. drop k bytes) f))

-- an element reads its own bytes alone
element_front : (n : ℕ) (xs ys : List ℕ) → 12 ≤ n → take n xs ≡ take n ys → element_at xs ≡ element_at ys
element_front n xs ys room same =
    let length = field_front xs ys 0 3 n (omega arith) same in
    let flags = field_front xs ys 3 1 n (omega arith) same in
    let address = field_front xs ys 4 8 n (omega arith) same in
    rw (length, flags, address) refl

pub elements_in-front : (n : ℕ) (xs ys : List ℕ) → take (12 * n) xs ≡ take (12 * n) ys → elements_in n xs ≡ elements_in n ys
unfolding elements_in
elements_in-front zero xs ys same = refl
elements_in-front (suc n) xs ys same =
    let e : 12 * suc n ≡ 12 + 12 * n = omega arith in
    let here = element_front (12 * suc n) xs ys (omega arith) same in
    let same' = ap (drop 12) (ap (λ k. take k xs) (sym e) ∙ same ∙ ap (λ k. take k ys) e) in
    let rest : take (12 * n) (drop 12 xs) ≡ take (12 * n) (drop 12 ys) = sym (drop-take 12 (12 * n) xs) ∙ same' ∙ drop-take 12 (12 * n) ys in
    let ih = elements_in-front n (drop 12 xs) (drop 12 ys) rest in
    rw (here, ih) refl
