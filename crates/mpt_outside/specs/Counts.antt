-- Counts of 64 bits, which stand still at their last value.
use Rattle.std.specs.Prelude.{◌≡◌, ℕ, ◌+◌, ◌-◌, ◌^◌, ◌<◌, ◌≤◌, min, max, ◌⊎◌}

-- the last value of a count
abbrev pub last_count : ℕ
last_count = 2 ^ 64 - 1

-- a count after so many more, which stands still at its last value
unfoldable pub counted : ℕ → ℕ → ℕ
counted count more = max count (min (count + more) last_count)

-- the count is greater than before, or stands at its last value
abbrev pub Rose : ℕ → ℕ → Type 0
Rose before after = (before < after) ⊎ (after ≡ last_count)

-- the count is at least what it was
abbrev pub NeverFalls : ℕ → ℕ → Type 0
NeverFalls before after = before ≤ after
