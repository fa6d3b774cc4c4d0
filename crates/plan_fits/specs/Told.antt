-- The order of a plan, and what else its trace is looked at for.
use Rattle.std.specs.Prelude.{◌≡◌, ℕ, Bool, false, List, nat_le}
use Rattle.std.specs.List.{list_any}
use Rattle.std.specs.Ordering.{eq_by_cmp, nat_cmp}
use Rattle.mpt_trace.specs.declared.entry.Entry.{Entry}
use Rattle.mpt_trace.specs.declared.entry.Entry.TheVariants as entry
use Rattle.mpt_trace.specs.declared.input.Input.{Input}
use Rattle.mpt_trace.specs.declared.lane.LaneName.{LaneName}
use Rattle.mpt_trace.specs.declared.lane.LaneName.TheVariants as lane
use Rattle.mpt_script.specs.PlanParts.{PlanParts}
use Rattle.mpt_wire.specs.Fits.Plan.{Order, has_number}

-- what the plan says of the order
abbrev pub order_of : PlanParts → Order
order_of plan = record { plugs = plan.plugs; submitters = plan.submitters; fabric = plan.fabric }

-- the lane is one of a submitter that isn't among so many
abbrev pub is_lane_beyond : ℕ → LaneName → Bool
is_lane_beyond submitters (lane.Ask i) = nat_le submitters i
is_lane_beyond submitters (lane.Tell i) = nat_le submitters i
is_lane_beyond submitters _ = false

-- the entry puts an item on such a lane
abbrev pub is_put_beyond : ℕ → Entry → Bool
is_put_beyond submitters (entry.Put lane item) = is_lane_beyond submitters lane
is_put_beyond submitters _ = false

-- these are the numbers that the lines submit
abbrev pub HasNumbers : List Input → List ℕ → Type 0
HasNumbers lines numbers = (n : ℕ) → list_any (eq_by_cmp nat_cmp n) numbers ≡ has_number lines n
