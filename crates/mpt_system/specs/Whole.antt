-- The whole: the world, all that was told so far, and what of it isn't in the trace yet.
use Rattle.std.specs.Prelude.{◌≡◌, ◌++◌, ◌⊎◌, List, [], Result, Ok, Err}
use Rattle.mpt_trace.specs.declared.entry.Entry.{Entry}
use Rattle.mpt_rules.specs.Outcome.{Happening}
use Rattle.mpt_rules.specs.World.State.{World}

pub record Whole : Type 0 where
  pub world : World
  -- all that was told so far, the oldest first
  pub entries : List Entry
  -- the last of these, which aren't in the trace yet because memory was wanting
  pub pending : List Entry

-- nothing is pending any more
abbrev pub written : Whole → Whole
written whole = record whole { pending = [] }

-- the whole after something happened
abbrev pub after : Whole → Happening World → Whole
after whole outcome = record { world = outcome.part; entries = whole.entries ++ outcome.entries; pending = [] }

-- nothing happened
pub record Stays (old new : Whole) : Type 0 where
  pub world : new.world ≡ old.world
  pub entries : new.entries ≡ old.entries

-- this happened, and some of its entries may be pending
pub record Happened (old : Whole) (outcome : Happening World) (new : Whole) : Type 0 where
  pub world : new.world ≡ outcome.part
  pub entries : new.entries ≡ old.entries ++ outcome.entries

-- memory was wanting: nothing happened, or all of this did
abbrev pub Halted : Whole → Happening World → Whole → Type 0
Halted old outcome new = Stays old new ⊎ Happened old outcome new

-- what was to happen has, or memory was wanting
abbrev pub HasDone : {A E : Type 0} → Whole → Happening World → Result A E → Whole → Type 0
HasDone old outcome (Ok done) new = new ≡ after old outcome
HasDone old outcome (Err error) new = Halted old outcome new
