-- Whether a number fits so many bytes.
use Rattle.std.proofs.Common.{◌≡◌, ℕ, zero, suc, ◌+◌, ◌*◌, ◌/◌, ◌^◌, ◌<◌, ◌≤◌, eqb, leb, ltb, refl, ap, sym, ◌∙◌, pow-add, arith}
use Rattle.std.proofs.Math.Nat.{pow-suc, pow-le-pow_right, div-lt_iff_lt-mul}
use Rattle.std.proofs.lemmas.Nat.{pow_pos}
use Rattle.std.proofs.lemmas.Bool.Decides.{nat_tests}

-- eight bits a byte
pub pow-bytes : (w : ℕ) → 2 ^ (8 * w) ≡ 256 ^ w
pow-bytes zero = refl
pow-bytes (suc w) =
    let ih = pow-bytes w in
    let bits : 8 * suc w ≡ 8 * w + 8 = omega arith in
    ap (λ k. 2 ^ k) bits ∙ pow-add 2 (8 * w) 8 ∙ ap (λ p. p * 256) ih ∙ sym (pow-suc 256 w)

-- a u64 fits 8 bytes and more
pub fits-wide : (v w : ℕ) → 8 ≤ w → v < 18446744073709551616 → leb 8 w ≡ ltb v (256 ^ w)
fits-wide v w wide small =
    let most : 256 ^ 8 ≤ 256 ^ w = pow-le-pow_right (omega arith) wide in
    grind (arith, nat_tests)

-- nothing is left above the width
pub fits-shift : (v w : ℕ) → eqb (v / 2 ^ (8 * w)) 0 ≡ ltb v (256 ^ w)
fits-shift v w =
    let power = pow-bytes w in
    let above : 0 < 2 ^ (8 * w) = pow_pos (8 * w) in
    let cut = div-lt_iff_lt-mul {k = 2 ^ (8 * w)} {x = v} {y = 1} above in
    grind (arith, nat_tests, power, cut.0, cut.1)
