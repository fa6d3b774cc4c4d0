use Rattle.std.proofs.Common.{◌≡◌, ℕ, ◌<◌, false, get_or}
use Rattle.smid_pool.specs.Pool.{Free, is_open}
use Rattle.host_tables.proofs.identifiers.Identifiers.has_open.Given as goal

abbrev pub invariant-loop-place : goal.invariant-loop-place
invariant-loop-place l = (k : ℕ) → k < l.place → is_open (get_or l.self-inside.pool k Free) ≡ false
