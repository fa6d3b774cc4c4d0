-- The sum over a disk's bytes, byte by byte.
use Rattle.std.proofs.Common.{◌≡◌, ℕ, ◌+◌, ◌*◌, ◌<◌, ◌≤◌, List, [], ◌∷◌, ◌++◌, length, take, get_or, refl, add-one, arith}
use Rattle.std.proofs.Math.Nat.{mul-le-mul}
use Rattle.std.proofs.Math.Seq.{take-suc}
use Rattle.std.proofs.lemmas.List.{length-take-le}
use Rattle.mpt_wire.specs.Machine.Reports.{byte_sum, sum_from}

sum_from-push : (place : ℕ) (bytes : List ℕ) (byte : ℕ) → sum_from place (bytes ++ byte ∷ []) ≡ sum_from place bytes + (place + length bytes + 1) * byte
sum_from-push place [] byte = omega arith
sum_from-push place (b ∷ bytes) byte = omega (arith, sum_from-push (place + 1) bytes byte)

-- one byte more
pub byte_sum-next : (bytes : List ℕ) (place sum byte : ℕ) → place < length bytes → byte ≡ get_or bytes place 0 → sum ≡ byte_sum (take place bytes) → sum + (place + 1) * byte ≡ byte_sum (take (place + 1) bytes)
byte_sum-next bytes place sum byte below is so_far =
    let long : length (take place bytes) ≡ place = length-take-le place bytes (omega arith) in
    let pushed : byte_sum (take place bytes ++ get_or bytes place 0 ∷ []) ≡ byte_sum (take place bytes) + (place + 1) * get_or bytes place 0 =
    omega (arith, rw long at (sum_from-push 0 (take place bytes) (get_or bytes place 0))) in
    rw (add-one place, take-suc bytes place 0 below, pushed, is, so_far, add-one place) refl

-- what one byte adds is at most 524,288 times 255
pub one_byte : (place byte : ℕ) → place < 524288 → byte < 256 → (place + 1) * byte ≤ 133693440
one_byte place byte below small =
    let most : (place + 1) * byte ≤ 524288 * 255 = mul-le-mul {n₁ = place + 1} {m₁ = byte} {n₂ = 524288} {m₂ = 255} (omega arith) (omega arith) in
    omega arith
