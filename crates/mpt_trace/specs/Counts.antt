-- A number of a summary as the code holds it.
use Rattle.std.specs.Prelude.{ℕ, List}
use Rattle.mpt_trace.specs.declared.summary_words.Count.{Count}

-- the name and the number
abbrev pub named_number : Count → List ℕ × ℕ
named_number count = (count.name.now, count.number)
