-- Returns, one after the other.
use Rattle.std.proofs.Common.{◌≡◌, ◌∙◌, ℕ, zero, suc, ◌+◌, refl, ap, arith}
use Rattle.std.specs.List.{fold, range_with_len}
use Rattle.mpt_rules.specs.Host.Parts.{Host}
use Rattle.mpt_rules.specs.Host.Returns.{with_return}

one_more : {X : Type 0} (f : X → ℕ → X) (x : X) (a n : ℕ) → fold f x (range_with_len a (suc n)) ≡ f (fold f x (range_with_len a n)) (a + n)
one_more f x a zero = let same : a + 0 ≡ a = omega arith in rw same refl
one_more f x a (suc n) =
    let next : a + 1 + n ≡ a + suc n = omega arith in
    one_more f (f x a) (a + 1) n ∙ ap (λ (k : ℕ). f (fold f (f x a) (range_with_len (a + 1) n)) k) next

-- the returns of one more frame
pub returns-more : (host : Host) (n : ℕ) → fold with_return host (range_with_len 0 (n + 1)) ≡ with_return (fold with_return host (range_with_len 0 n)) n
returns-more host n =
    let next : n + 1 ≡ suc n = omega arith in
    let at : 0 + n ≡ n = omega arith in
    rw next (one_more with_return host 0 n ∙ ap (λ (k : ℕ). with_return (fold with_return host (range_with_len 0 n)) k) at)
