-- What lines of a schedule leave.
use Rattle.std.specs.Prelude.{◌≡◌, ℕ, List, Result, Ok, Err}
use Rattle.mpt_wire.specs.Fits.Lines.{Line, turns}
use Rattle.mpt_rules.specs.World.Replays.{replays}
use Rattle.mpt_rules.specs.World.Settings.{Setting}
use Rattle.mpt_rules.specs.World.State.{queues_of}
use Rattle.mpt_system.specs.Making.{made_of}
use Rattle.mpt_system.specs.Turns.{TurnedSoFar}
use Rattle.mpt_system.specs.Whole.{Whole, after}

-- the whole as it is made by a setting
abbrev pub first_whole : Setting → Whole
first_whole s = made_of s.disks s.phys s.queues

-- memory was wanting: the first turns of the lines were done, with some number of rounds of each drain, and no other
pub record CarriedOutSoFar (old : Whole) (lines : List Line) (new : Whole) : Type 0 where
  pub drains : List ℕ
  pub turned : TurnedSoFar old (turns (queues_of old.world) drains lines) new

-- the lines were carried out by the rules, or memory was wanting
abbrev pub HasCarriedOut : {A E : Type 0} → Whole → List Line → Result A E → Whole → Type 0
HasCarriedOut old lines (Ok done) new = new ≡ after old (replays old.world lines)
HasCarriedOut old lines (Err error) new = CarriedOutSoFar old lines new
