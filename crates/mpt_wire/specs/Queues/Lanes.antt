-- What was put on a lane and what was taken from it, and that each lane is a queue.
use Rattle.std.specs.Prelude.{◌≡◌, ℕ, ◌==◌, Bool, true, false, if◌then◌else◌, List, [], ◌∷◌, ◌++◌, take, drop, filter_map, Option, Some, None}
use Rattle.std.specs.Bool.{MatchBool}
use Rattle.mpt_trace.specs.declared.lane.LaneName.{LaneName}
use Rattle.mpt_trace.specs.declared.lane.LaneName.TheVariants as lane
use Rattle.mpt_trace.specs.declared.item.Item.{Item}
use Rattle.mpt_trace.specs.declared.entry.Entry.{Entry}
use Rattle.mpt_trace.specs.declared.entry.Entry.TheVariants as entry
use Rattle.mpt_wire.specs.Walks.Passes.{Passes}

-- the two lanes are one
abbrev pub same_lane : LaneName → LaneName → Bool
same_lane lane.Down lane.Down = true
same_lane lane.Up lane.Up = true
same_lane (lane.UpOn i) (lane.UpOn j) = i == j
same_lane lane.Out lane.Out = true
same_lane lane.Back lane.Back = true
same_lane (lane.Ask i) (lane.Ask j) = i == j
same_lane (lane.Tell i) (lane.Tell j) = i == j
same_lane _ _ = false

-- what the entry puts on the lane
abbrev pub put_on_lane : LaneName → Entry → Option Item
put_on_lane lane (entry.Put l item) = if same_lane l lane then Some item else None
put_on_lane lane _ = None

-- what it takes from the lane
abbrev pub taken_from : LaneName → Entry → Option Item
taken_from lane (entry.Take l item) = if same_lane l lane then Some item else None
taken_from lane _ = None

-- the second list begins with the first
abbrev pub IsPrefixOf : {X : Type 0} → List X → List X → Type 0
IsPrefixOf {X} xs ys = (rest : List X) × (xs ++ rest ≡ ys)

-- in every prefix of the trace, what was taken from the lane is a prefix of what was put on it
abbrev pub IsInOrder : LaneName → List Entry → Type 0
IsInOrder lane t = (k : ℕ) → IsPrefixOf (filter_map (taken_from lane) (take k t)) (filter_map (put_on_lane lane) (take k t))

-- the lanes are in order
abbrev pub LanesInOrder : List Entry → Type 0
LanesInOrder t = (lane : LaneName) → IsInOrder lane t

-- ---- the same as a rule that goes over the trace with what is on the lane

-- the first of the list is this
abbrev pub IsFirst : {X : Type 0} → X → List X → Type 0
IsFirst {X} x xs = (rest : List X) × (xs ≡ x ∷ rest)

-- what is on the lane after the entry
abbrev pub lane_next : LaneName → List Item → Entry → List Item
lane_next lane items (entry.Put l item) = if same_lane l lane then items ++ item ∷ [] else items
lane_next lane items (entry.Take l item) = if same_lane l lane then drop 1 items else items
lane_next lane items _ = items

-- what is taken is the first on the lane
abbrev pub LaneAsks : LaneName → List Item → Entry → Type 0
LaneAsks lane items (entry.Take l item) = MatchBool (same_lane l lane) (IsFirst item items) (Unit {0})
LaneAsks lane items _ = Unit {0}

-- each take from a lane takes the first on it
abbrev pub LanesPass : List Entry → Type 0
LanesPass t = (lane : LaneName) → Passes (lane_next lane) (LaneAsks lane) [] t
