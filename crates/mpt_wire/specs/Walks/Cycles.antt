-- Entries that take turns: those that name one key, an identifier or a reply frame, stand in a cycle of four.
use Rattle.std.specs.Prelude.{◌≡◌, ℕ, ◌<◌, ◌+◌, ◌%◌, Bool, true, false, List, length, slice_index, filter_map, Option, Some, None, if◌then◌else◌}
use Rattle.std.specs.Bool.{MatchBool}
use Rattle.mpt_trace.specs.declared.entry.Entry.{Entry}
use Rattle.mpt_trace.specs.declared.entry.Entry.TheVariants as entry
use Rattle.mpt_wire.specs.Walks.Passes.{Passes}
use Rattle.mpt_wire.specs.Walks.Segments.{segments, EachSegment}

-- an entry that ends a reset
abbrev pub is_reset_end : Entry → Bool
is_reset_end entry.ResetDone = true
is_reset_end _ = false

-- a prefix of 0, 1, 2, 3, repeated
abbrev pub IsPrefixOfCycle : List ℕ → Type 0
IsPrefixOfCycle xs = (k : ℕ) → k < length xs → slice_index xs k ≡ k % 4

module _ (stage : Entry → Option ℕ) where
  -- the entries that have a stage are a prefix of the cycle
  abbrev pub IsInCycle : List Entry → Type 0
  IsInCycle t = IsPrefixOfCycle (filter_map stage t)

  -- from the trace's beginning to the first reset's end, from one end to the next, and since the last
  abbrev pub InCycles : List Entry → Type 0
  InCycles t = EachSegment IsInCycle (segments is_reset_end t)

-- ---- the same as a rule that goes over the trace with the number of such entries since the last reset's end

abbrev pub count_next : ℕ → Option ℕ → ℕ
count_next c None = c
count_next c (Some i) = c + 1

-- it is the turn of this stage
abbrev pub CountAsks : ℕ → Option ℕ → Type 0
CountAsks c None = Unit {0}
CountAsks c (Some i) = i ≡ c % 4

module _ (stage : Entry → Option ℕ) where
  abbrev pub turn_next : ℕ → Entry → ℕ
  turn_next c e = if is_reset_end e then 0 else count_next c (stage e)

  abbrev pub TurnAsks : ℕ → Entry → Type 0
  TurnAsks c e = MatchBool (is_reset_end e) (Unit {0}) (CountAsks c (stage e))

  -- each entry that has a stage stands in its turn
  abbrev pub TurnsPass : List Entry → Type 0
  TurnsPass t = Passes turn_next TurnAsks 0 t
