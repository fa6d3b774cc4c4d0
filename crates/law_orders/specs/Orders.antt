-- What is at the fabric of each identifier, shown of the world behind a case.
use Rattle.std.specs.Prelude.{ℕ, ◌≤◌}
use Rattle.mpt_rules.specs.World.State.{World}
use Rattle.law_facts.specs.Flights.{OneAtFabric}

-- of each identifier there is at the fabric what the controller keeps of it, and behind a reset what was left there
abbrev pub OrdersStand : World → Type 0
OrdersStand w = (s : ℕ) → 1 ≤ s → s ≤ 280 → OneAtFabric w s
