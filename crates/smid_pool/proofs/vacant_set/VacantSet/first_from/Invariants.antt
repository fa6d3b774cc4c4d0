use Rattle.std.proofs.Common.{◌≡◌, ◌+◌, ◌*◌, ◌<◌, ◌≤◌, ℕ, false}
use Rattle.smid_pool.specs.VacantSet.{has}
use Rattle.smid_pool.proofs.vacant_set.VacantSet.first_from.Given as goal

abbrev pub invariant-loop-i : goal.invariant-loop-i
invariant-loop-i l =
    (l.low < 64) × (l.start ≤ 64 * l.i + l.low)
    × ((place : ℕ) → l.start ≤ place → place < 64 * l.i + l.low → has l.self.words place ≡ false)
