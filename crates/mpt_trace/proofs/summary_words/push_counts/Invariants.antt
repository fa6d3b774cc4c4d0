use Rattle.std.proofs.Common.{◌≡◌, ◌++◌, ℕ, List, decimal, take, map}
use Rattle.std.specs.List.{flat_map}
use Rattle.mpt_trace.specs.Counts.{named_number}
use Rattle.mpt_trace.proofs.summary_words.push_counts.Given as goal

-- the text holds the names and numbers so far
abbrev pub invariant-loop-count : goal.invariant-loop-count
invariant-loop-count l = l.text ≡ l.initial.text ++ flat_map (λ (count : List ℕ × ℕ). count.0 ++ decimal count.1) (map named_number (take l.count-index l.counts))
