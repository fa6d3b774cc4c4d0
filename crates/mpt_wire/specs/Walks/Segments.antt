-- A trace cut at each entry of a kind.
use Rattle.std.specs.Prelude.{Bool, List, [], ◌∷◌, if◌then◌else◌}
use Rattle.mpt_trace.specs.declared.entry.Entry.{Entry}

abbrev pub join_first : Entry → List (List Entry) → List (List Entry)
join_first e [] = (e ∷ []) ∷ []
join_first e (part ∷ parts) = (e ∷ part) ∷ parts

-- the parts of a trace between the entries that cut it: one part more than cuts
abbrev pub segments : (Entry → Bool) → List Entry → List (List Entry)
segments is_cut [] = [] ∷ []
segments is_cut (e ∷ t) = if is_cut e then [] ∷ segments is_cut t else join_first e (segments is_cut t)

-- the fact holds of each part
abbrev pub EachSegment : (List Entry → Type 0) → List (List Entry) → Type 0
EachSegment P [] = Unit {0}
EachSegment P (part ∷ parts) = P part × EachSegment P parts
