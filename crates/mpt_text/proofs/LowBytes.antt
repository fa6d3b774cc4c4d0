-- The lowest bytes of a number among all its bytes.
use Rattle.std.proofs.Common.{◌≡◌, ℕ, zero, suc, ◌+◌, ◌-◌, ◌≤◌, ◌∷◌, take, drop, refl, ap, arith}
use Rattle.std.specs.Int.{byte_at, bytes_high_first, bytes_low_first}
use Rattle.byteorder.specs.Endian.{big_bytes, little_bytes}

-- highest first: the last of them
drop-bytes_high_first : (k n m x : ℕ) → k + n ≡ m → drop k (bytes_high_first m x) ≡ bytes_high_first n x
drop-bytes_high_first zero n m x e = let same : m ≡ n = omega arith in ap (λ i. bytes_high_first i x) same
drop-bytes_high_first (suc k) n zero x e = absurd (omega arith)
drop-bytes_high_first (suc k) n (suc m) x e = drop-bytes_high_first k n m x (omega arith)

pub low_big_bytes : (width x : ℕ) → width ≤ 8 → drop (8 - width) (big_bytes 8 x) ≡ big_bytes width x
low_big_bytes width x narrow = drop-bytes_high_first (8 - width) width 8 x (omega arith)

-- lowest first: the first of them
take-bytes_low_first : (k m i x : ℕ) → k ≤ m → take k (bytes_low_first i m x) ≡ bytes_low_first i k x
take-bytes_low_first zero m i x h = refl
take-bytes_low_first (suc k) zero i x h = absurd (omega arith)
take-bytes_low_first (suc k) (suc m) i x h = ap (λ rest. byte_at i x ∷ rest) (take-bytes_low_first k m (suc i) x (omega arith))

pub low_little_bytes : (width x : ℕ) → width ≤ 8 → take width (little_bytes 8 x) ≡ little_bytes width x
low_little_bytes width x narrow = take-bytes_low_first width 8 0 x narrow
