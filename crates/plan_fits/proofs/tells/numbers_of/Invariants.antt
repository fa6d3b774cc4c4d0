use Rattle.std.proofs.Common.{◌≡◌, ◌||◌, ℕ, length}
use Rattle.std.specs.List.{list_any}
use Rattle.std.specs.Ordering.{eq_by_cmp, nat_cmp}
use Rattle.mpt_wire.specs.Fits.Plan.{has_number}
use Rattle.plan_fits.proofs.tells.numbers_of.Given as goal

abbrev pub invariant-loop-line : goal.invariant-loop-line
invariant-loop-line l = (n : ℕ) → (list_any (eq_by_cmp nat_cmp n) l.numbers.keys || has_number l.left n) ≡ has_number l.lines n

abbrev pub decreases-loop-line : goal.decreases-loop-line
decreases-loop-line l = length l.left
