-- Lemmas on counts that stand still at their last value.
use Rattle.std.proofs.Common.{◌≡◌, ℕ, ◌+◌, ◌≤◌, arith}
use Rattle.mpt_outside.specs.Counts.{counted, last_count}

pub counted-zero : (g : ℕ) → counted g 0 ≡ g
unfolding counted
counted-zero g = omega arith

pub counted-counted : (g a b : ℕ) → counted (counted g a) b ≡ counted g (a + b)
unfolding counted
counted-counted g a b = omega arith

pub counted-fresh : (a : ℕ) → a ≤ last_count → counted 0 a ≡ a
unfolding counted
counted-fresh a h = omega arith
