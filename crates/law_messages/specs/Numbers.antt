-- What is kept of numbers beside the facts.
use Rattle.std.specs.Prelude.{◌≡◌, ℕ, true, is_some}
use Rattle.std.specs.FinMap as finmap
use Rattle.std.specs.FinSet as set
use Rattle.mpt_rules.specs.World.State.{World}

-- an abort is open only of a number that was accepted, also when its command was answered meanwhile
abbrev pub AbortsAreAccepted : World → Type 0
AbortsAreAccepted w = (n : ℕ) → is_some (finmap.get w.host.aborts n) ≡ true → set.contains w.host.accepted n ≡ true
