-- Lemmas on bytes in memory that are given a piece at a time.
use Rattle.std.proofs.Common.{◌≡◌, ℕ, ◌+◌, ◌-◌, ◌<◌, ◌≤◌, List, [], ◌++◌, length, take, drop, sym, ap, ◌∙◌, arith, length-drop, length-take-le, drop_of_length-le}
use Rattle.std.proofs.lemmas.List.{take-append-drop, drop-drop}
use Rattle.std.proofs.Math.Seq.{take-append_seam}
use Rattle.mpt_outside.specs.Memory.{moved}

-- what a call wrote to its buffer is what stood next
pub piece_next : (bytes rest new : List ℕ) (at count : ℕ) → count ≤ length bytes - at → new ≡ take count (drop at bytes) ++ rest
    → drop at bytes ≡ take count new ++ drop (at + count) bytes
piece_next bytes rest new at count within copied =
    let there : count ≤ length (drop at bytes) = omega (arith, length-drop at bytes) in
    let long : length (take count (drop at bytes)) ≡ count = length-take-le count (drop at bytes) there in
    let front : take count new ≡ take count (drop at bytes) = ap (take count) copied ∙ ap (λ n. take n (take count (drop at bytes) ++ rest)) (sym long) ∙ take-append_seam (take count (drop at bytes)) rest in
    sym (take-append-drop count (drop at bytes)) ∙ ap (λ l. l ++ drop count (drop at bytes)) (sym front) ∙ ap (λ l. take count new ++ l) (drop-drop count at bytes)

-- a call that gave nothing and had room met the end
pub piece_end : (bytes : List ℕ) (at piece count room : ℕ) → 0 < piece → count ≡ moved piece (length bytes - at) room → count ≡ 0 → 0 < room → drop (at + count) bytes ≡ []
piece_end bytes at piece count room some long none space = drop_of_length-le bytes (omega arith)
