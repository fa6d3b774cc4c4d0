-- The lines of the input.
use Rattle.std.specs.Prelude.{ℕ, ◌+◌, ◌-◌, Bool, not, ◌==◌, ◌&&◌, nat_lt, if◌then◌else◌, List, length, count_by, slice_index}

-- bytes follow the last LF
abbrev pub is_unended : List ℕ → Bool
is_unended text = nat_lt 0 (length text) && not (slice_index text (length text - 1) == 10)

-- one line for each LF, and one more where bytes follow the last LF
abbrev pub line_count : List ℕ → ℕ
line_count text = count_by (λ byte. byte == 10) text + (if is_unended text then 1 else 0)
