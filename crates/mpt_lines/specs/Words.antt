-- The lines of a text, and the words of a line.
use Rattle.std.specs.Prelude.{ℕ, ◌==◌, nat_lt, Bool, false, List, [], ◌∷◌, bytes_eq, find, Option, Some, None, Result, Ok, Err}
use Rattle.std.specs.List.{list_all, slice_split}
use Rattle.mpt_lines.specs.declared.fault.Cause.{Cause}
use Rattle.mpt_lines.specs.declared.fault.Cause.TheVariants.{Form}

-- the pieces between the separators: one more than there are separators
abbrev pub pieces : ℕ → List ℕ → List (List ℕ)
pieces separator text = slice_split (λ byte. byte == separator) text

-- the words of a line, between its single spaces
abbrev pub words : List ℕ → List (List ℕ)
words line = pieces 32 line

-- the lines of a text, and what follows the last LF
abbrev pub lines : List ℕ → List (List ℕ)
lines text = pieces 10 text

-- no word
abbrev pub nothing : List (List ℕ) → Result Unit Cause
nothing [] = Ok tt
nothing _ = Err Form

-- one word
abbrev pub one : List (List ℕ) → Result (List ℕ) Cause
one (first ∷ []) = Ok first
one _ = Err Form

-- two words
abbrev pub two : List (List ℕ) → Result (List ℕ × List ℕ) Cause
two (first ∷ second ∷ []) = Ok (first, second)
two _ = Err Form

-- three words
abbrev pub three : List (List ℕ) → Result (List ℕ × List ℕ × List ℕ) Cause
three (first ∷ second ∷ third ∷ []) = Ok (first, second, third)
three _ = Err Form

-- a word that a line may begin with, and what the words after it say
pub record Keyword (A : Type 0) : Type 0 where
  pub word : List ℕ
  pub reads : List (List ℕ) → Result A Cause

abbrev pub keyword : {A : Type 0} → List ℕ → (List (List ℕ) → Result A Cause) → Keyword A
keyword word reads = record { word = word; reads = reads }

-- what words say, where there is a keyword for them
abbrev pub read_with : {A : Type 0} → Option (Keyword A) → List (List ℕ) → Result A Cause
read_with None words = Err Form
read_with (Some k) words = k.reads words

-- what words say by their first, which is one of these
abbrev pub read_by : {A : Type 0} → List (Keyword A) → List (List ℕ) → Result A Cause
read_by keywords [] = Err Form
read_by keywords (word ∷ others) = read_with (find (λ k. bytes_eq word k.word) keywords) others

-- a word that can be a keyword: one or more ASCII characters
abbrev pub is_name : List ℕ → Bool
is_name [] = false
is_name (c ∷ cs) = list_all (λ b. nat_lt b 128) (c ∷ cs)
