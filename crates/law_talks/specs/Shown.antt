-- What is shown of the words of a handshake: of the world behind a case, and of the case's entries.
use Rattle.std.specs.Prelude.{ℕ, List}
use Rattle.mpt_trace.specs.declared.entry.Entry.{Entry}
use Rattle.mpt_wire.specs.Messages.DoorbellWords.{DoorAsks, door_next}
use Rattle.mpt_wire.specs.Walks.Passes.{Passes}
use Rattle.mpt_rules.specs.World.State.{World}
use Rattle.law_facts.specs.History.{History}
use Rattle.law_facts.specs.Ties.{TalkTied}
use Rattle.law_talks.specs.Talking.{TalkStands}

pub record TalkKept (w : World) (h : History) : Type 0 where
  pub tied : TalkTied w h
  pub further : TalkStands w h

abbrev pub TalkPasses : ℕ → History → List Entry → Type 0
TalkPasses q h t = Passes door_next (DoorAsks q) h.door t
