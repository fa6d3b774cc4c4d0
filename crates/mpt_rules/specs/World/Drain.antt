-- Draining: rounds of choices until the world is quiet.
use Rattle.std.specs.Prelude.{ℕ, zero, suc, ◌+◌, Bool, true, false, not, ◌&&◌, List, [], ◌∷◌, ◌++◌, Option, Some, None, option_map}
use Rattle.std.specs.List.{list_all}
use Rattle.mpt_trace.specs.declared.choice.Choice.{Choice}
use Rattle.mpt_trace.specs.declared.choice.Choice.TheVariants as choice
use Rattle.mpt_trace.specs.declared.entry.Entry.{Entry}
use Rattle.mpt_wire.specs.Fits.Lines.{Try, Chooses, RunsOldest, tries_of_round as tries_of}
use Rattle.mpt_rules.specs.Host.Takes.{host_waits}
use Rattle.mpt_rules.specs.Ioc.Takes.{ioc_quiet}
use Rattle.mpt_rules.specs.Ioc.Places.{is_empty}
use Rattle.mpt_rules.specs.Fabric.Calls.{oldest, fabric_quiet}
use Rattle.mpt_rules.specs.Outcome.{Happening}
use Rattle.mpt_rules.specs.World.State.{World, queues_of, nothing}
use Rattle.mpt_rules.specs.World.Moves.{moves}
use Rattle.mpt_rules.specs.World.Weight.{weight}

-- ---- a round

-- the choice that is tried; none where no task is queued
abbrev pub choice_of : World → Try → Option Choice
choice_of w (Chooses choice) = Some choice
choice_of w RunsOldest = option_map choice.FabricRun (oldest w.fabric)

-- a step that doesn't move makes no entry
abbrev pub moves_if : World → Option (Happening World) → Happening World
moves_if w None = nothing w
moves_if w (Some outcome) = outcome

-- a choice, if there is one
abbrev pub tries_choice : World → Option Choice → Happening World
tries_choice w None = nothing w
tries_choice w (Some choice) = moves_if w (moves w choice)

-- one try
abbrev pub tries : World → Try → Happening World
tries w try = tries_choice w (choice_of w try)

-- entries, and an outcome behind them
abbrev pub behind : List Entry → Happening World → Happening World
behind entries outcome = record { part = outcome.part; entries = entries ++ outcome.entries }

-- an outcome, and the tries that follow it
unfoldable pub followed_by : Happening World → List Try → Happening World
followed_by outcome [] = outcome
followed_by outcome (try ∷ rest) = behind outcome.entries (followed_by (tries outcome.part try) rest)

-- one round
abbrev pub round : World → Happening World
round w = followed_by (nothing w) (tries_of (queues_of w))

-- ---- rounds until the world is quiet

-- nothing is on a lane
abbrev pub lanes_empty : World → Bool
lanes_empty w = is_empty w.down && list_all is_empty w.up && is_empty w.out && is_empty w.back

-- no lane, outbox, queue or list of what waits holds anything, and the host waits for nothing
abbrev pub world_quiet : World → Bool
world_quiet w = lanes_empty w && is_empty w.host.out && not (host_waits w.host) && ioc_quiet w.ioc && fabric_quiet w.fabric

-- at most so many rounds, until the world is quiet, which is looked at before each round
unfoldable pub drain_with : ℕ → World → Happening World
drain_with zero w = nothing w
drain_with (suc fuel) w = elim (world_quiet w) [
  | true ↦ nothing w
  | false ↦ (let first : Happening World = round w in behind first.entries (drain_with fuel first.part))
]

-- the number of these rounds
unfoldable pub rounds_with : ℕ → World → ℕ
rounds_with zero w = 0
rounds_with (suc fuel) w = elim (world_quiet w) [ true ↦ 0 | false ↦ 1 + rounds_with fuel (round w).part ]

-- rounds until the world is quiet: they are at most as many as the world's weight
abbrev pub drains : World → Happening World
drains w = drain_with (weight w) w

-- how many rounds that takes
abbrev pub drain_rounds : World → ℕ
drain_rounds w = rounds_with (weight w) w
