-- The cases: each thing that may happen to the world, what it leaves, and its entries.
use Rattle.std.specs.Prelude.{Bool, true, false, not, ◌&&◌, List, [], ◌∷◌, ◌++◌, Option, Some, None}
use Rattle.mpt_trace.specs.declared.choice.Choice.{Choice}
use Rattle.mpt_trace.specs.declared.entry.Entry.{Entry}
use Rattle.mpt_trace.specs.declared.entry.Entry.TheVariants as entry
use Rattle.mpt_trace.specs.declared.input.Input.{Input}
use Rattle.mpt_trace.specs.declared.input.Input.TheVariants as input
use Rattle.mpt_rules.specs.Host.Parts.{Host}
use Rattle.mpt_rules.specs.Fabric.Parts.{Fabric}
use Rattle.mpt_rules.specs.Host.Takes.{looks, stops, host_waits}
use Rattle.mpt_rules.specs.Fabric.Calls.{calms}
use Rattle.mpt_rules.specs.Outcome.{Happening}
use Rattle.mpt_rules.specs.World.State.{World, nothing, enters}
use Rattle.mpt_rules.specs.World.Moves.{moves}
use Rattle.mpt_rules.specs.World.Inputs.{host_told, fabric_told}
use Rattle.mpt_wire.specs.Machine.Causes.{is_up}

-- one thing that happens
pub data Case : Type 0 where
  -- an input is told to its party
  Told : (input : Input) → Case
  -- a chosen step
  Chosen : (choice : Choice) → Case
  -- in a session: the host reads the Doorbell, or puts its last item, or the fabric has nothing more to tell
  HostLooks : Case
  HostStops : Case
  FabricCalms : Case

-- the host's part of a case is the world's
abbrev pub by_host : World → Happening Host → Happening World
by_host w outcome = record { part = record w { host = outcome.part }; entries = outcome.entries }

-- the fabric's part of a case is the world's
abbrev pub by_fabric : World → Happening Fabric → Happening World
by_fabric w outcome = record { part = record w { fabric = outcome.part }; entries = outcome.entries }

-- an input is told: plugs and unplugs to the fabric, all others to the host
abbrev pub tells : World → Input → Happening World
tells w (input.Plug address expander phy) = by_fabric w (fabric_told w.fabric (input.Plug address expander phy))
tells w (input.Unplug address) = by_fabric w (fabric_told w.fabric (input.Unplug address))
tells w other = by_host w (host_told w.host other)

-- a step that has nothing to take is idle
abbrev pub moves_or_idles : World → Choice → Option (Happening World) → Happening World
moves_or_idles w choice None = enters w (entry.Idle choice)
moves_or_idles w choice (Some outcome) = outcome

-- the host is up and waits for nothing
abbrev pub is_free : Host → Bool
is_free host = is_up host.mode && not (host_waits host)

-- the host reads the Doorbell, if it may
abbrev pub looks_if : Bool → Host → Host
looks_if true host = looks host
looks_if false host = host

-- the host puts its last item, if it may
abbrev pub stops_if : Bool → Host → Host
stops_if true host = stops host
stops_if false host = host

-- what a case leaves, and the entries that it makes
abbrev pub case_of : World → Case → Happening World
case_of w (Told input) = tells w input
case_of w (Chosen choice) = moves_or_idles w choice (moves w choice)
case_of w HostLooks = nothing (record w { host = looks_if (is_free w.host) w.host })
case_of w HostStops = nothing (record w { host = stops_if (is_free w.host) w.host })
case_of w FabricCalms = nothing (record w { fabric = calms w.fabric })

-- the world after a case
abbrev pub happens : World → Case → World
happens w c = (case_of w c).part

-- the entries of a case
abbrev pub entries : World → Case → List Entry
entries w c = (case_of w c).entries

-- the world after a list of cases
abbrev pub run : World → List Case → World
run w [] = w
run w (c ∷ cs) = run (happens w c) cs

-- the entries of a list of cases, in order
abbrev pub trace : World → List Case → List Entry
trace w [] = []
trace w (c ∷ cs) = entries w c ++ trace (happens w c) cs
