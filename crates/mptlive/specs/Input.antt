-- How much an input has.
use Rattle.std.specs.Prelude.{ℕ, ◌+◌, ◌-◌, ◌<◌, ◌⊎◌, Bool, false, not, ◌==◌, ◌&&◌, ◌||◌, nat_lt, if◌then◌else◌, List, [], ◌∷◌, bytes_eq, codes, length, count_by, slice_index}
use Rattle.mpt_lines.specs.Words.{lines, words}
use Rattle.mptlive.specs.declared.limits.TheConstants.{MOST_ASKING, MOST_LINES}

-- bytes follow the last LF
abbrev pub is_unended : List ℕ → Bool
is_unended text = nat_lt 0 (length text) && not (slice_index text (length text - 1) == 10)

-- one line for each LF, and one more where bytes follow the last LF
abbrev pub line_count : List ℕ → ℕ
line_count text = count_by (λ byte. byte == 10) text + (if is_unended text then 1 else 0)

-- the words by which a line asks something of the host
abbrev pub is_asking_word : List ℕ → Bool
is_asking_word word = bytes_eq word (codes "submit") || bytes_eq word (codes "abort") || bytes_eq word (codes "treset") || bytes_eq word (codes "reset")

-- the first of these words is one
abbrev pub asks_by : List (List ℕ) → Bool
asks_by [] = false
asks_by (word ∷ others) = is_asking_word word

abbrev pub is_asking : List ℕ → Bool
is_asking line = asks_by (words line)

-- how many lines ask something of the host
abbrev pub asking_count : List ℕ → ℕ
asking_count text = count_by is_asking (lines text)

-- too many lines, or too many that ask something of the host
abbrev pub HasTooMuch : List ℕ → Type 0
HasTooMuch text = (MOST_LINES < line_count text) ⊎ (MOST_ASKING < asking_count text)
