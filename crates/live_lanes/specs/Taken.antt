-- All that was put on each lane was taken.
use Rattle.std.specs.Prelude.{◌≡◌, Bool, true, false, List, count_by, filter_map}
use Rattle.mpt_trace.specs.declared.entry.Entry.{Entry}
use Rattle.mpt_trace.specs.declared.entry.Entry.TheVariants as entry
use Rattle.mpt_trace.specs.declared.lane.LaneName.{LaneName}
use Rattle.mpt_wire.specs.Queues.Lanes.{LanesInOrder, put_on_lane, taken_from}

-- an item is put on a lane
abbrev pub is_any_put : Entry → Bool
is_any_put (entry.Put lane item) = true
is_any_put _ = false

-- an item is taken from a lane
abbrev pub is_any_take : Entry → Bool
is_any_take (entry.Take lane item) = true
is_any_take _ = false

abbrev pub AllIsTaken : List Entry → Type 0
AllIsTaken t = (lane : LaneName) → filter_map (taken_from lane) t ≡ filter_map (put_on_lane lane) t

-- where the lanes are queues, and as many items were taken from them in all as were put on them, all was taken from each
abbrev pub CountsTellAllIsTaken : Type 0
CountsTellAllIsTaken = (t : List Entry) → LanesInOrder t → count_by is_any_put t ≡ count_by is_any_take t → AllIsTaken t
