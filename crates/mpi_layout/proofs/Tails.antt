-- The zeros behind a message's last bytes.
use Rattle.std.proofs.Common.{◌≡◌, ℕ, zero, suc, ◌-◌, ◌≤◌, Bool, true, false, IsTrue, ◌&&◌, eqb, List, [], ◌∷◌, ◌++◌, length, take, drop, replicate, refl, ap, sym, ◌∙◌, arith}
use Rattle.std.specs.List.{list_all}
use Rattle.std.proofs.lemmas.Bool.Decides.{nat_tests}
use Rattle.std.proofs.lemmas.List.{take-append-drop, take-append-le, take_all, length-take, length-drop}
use Rattle.mpi_layout.specs.Tail.{padded}

-- zeros pass
pub zeros-pass : (n : ℕ) → list_all (λ byte. eqb byte 0) (replicate n 0) ≡ true
zeros-pass zero = refl
zeros-pass (suc n) = zeros-pass n

-- what passes is zeros
zeros-are : (xs : List ℕ) → list_all (λ byte. eqb byte 0) xs ≡ true → xs ≡ replicate (length xs) 0
zeros-are [] h = refl
zeros-are (x ∷ xs) h =
    let facts : (x ≡ 0) × (list_all (λ byte. eqb byte 0) xs ≡ true) = grind (arith, nat_tests) in
    let ih = zeros-are xs facts.1 in
    cc

-- both tests
pub both : (a b : Bool) → IsTrue (a && b) → IsTrue a × (b ≡ true)
both true true h = (refl, refl)
both true false h = cc
both false b h = cc

pub joined : (a b : Bool) → IsTrue a → b ≡ true → IsTrue (a && b)
joined a b one two = rw two (elim a as (λ v. IsTrue v → IsTrue (v && true)) [ true ↦ λ h. h | false ↦ λ h. h ] one)

-- an array with zeros past its front is its front and zeros
pub padded_tail : (n most : ℕ) (tail : List ℕ) → length tail ≡ most → n ≤ most → list_all (λ byte. eqb byte 0) (drop n tail) ≡ true → tail ≡ padded most (take n tail)
padded_tail n most tail long less zero_past =
    let past = zeros-are (drop n tail) zero_past in
    let count : length (drop n tail) ≡ most - length (take n tail) = simp (length-take, length-drop) (omega arith) in
    sym (take-append-drop n tail) ∙ ap (λ xs. take n tail ++ xs) (past ∙ ap (λ k. replicate k 0) count)

-- a part with zeros behind it begins with the part
pub padded-front : (n most : ℕ) (kept part : List ℕ) → length part ≡ n → kept ≡ padded most part → take n kept ≡ part
padded-front n most kept part long behind =
    ap (take n) behind ∙ take-append-le n part (replicate (most - length part) 0) (omega (arith, long)) ∙ take_all n part (omega (arith, long))
