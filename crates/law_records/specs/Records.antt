-- What the host's tables have of each other: of each identifier and of each number, shown of the world behind a case.
use Rattle.std.specs.Prelude.{◌≡◌, ℕ, ◌≤◌, true, is_some}
use Rattle.std.specs.FinMap as finmap
use Rattle.std.specs.FinSet as finset
use Rattle.mpt_rules.specs.World.State.{World}
use Rattle.law_facts.specs.Flights.{AbortNames, NamedOnce, Number, RecordStands}
use Rattle.law_facts.specs.Words.{slot}

-- a further fact, which no other gives: the number that an open abort names was accepted
abbrev pub AbortsAreKnown : World → Type 0
AbortsAreKnown w = (n : ℕ) → is_some (finmap.get w.host.aborts n) ≡ true → finset.contains w.host.accepted n ≡ true

-- of an identifier: its record is that of the tables by number, and what an abort names is open, or parked for it alone
pub record IsRecorded (w : World) (s : ℕ) : Type 0 where
  pub recorded : RecordStands w s (slot w.host s)
  pub names : AbortNames w (slot w.host s)
  pub named : NamedOnce w s (slot w.host s)

pub record RecordsStand (w : World) : Type 0 where
  pub identifiers : (s : ℕ) → 1 ≤ s → s ≤ 280 → IsRecorded w s
  pub numbers : (n : ℕ) → Number w n
  pub known : AbortsAreKnown w
