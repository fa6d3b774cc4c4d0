-- What is shown of the interrupt status: of the world behind a case, and of the case's entries.
use Rattle.std.specs.Prelude.{List}
use Rattle.mpt_trace.specs.declared.entry.Entry.{Entry}
use Rattle.mpt_wire.specs.Messages.Registers.{BellAsks, bell_next}
use Rattle.mpt_wire.specs.Walks.Passes.{Passes}
use Rattle.mpt_rules.specs.World.State.{World}
use Rattle.law_facts.specs.History.{History}
use Rattle.law_facts.specs.Ties.{BellTied}
use Rattle.law_bell_status.specs.Bells.{BellStands}

pub record BellKept (w : World) (h : History) : Type 0 where
  pub tied : BellTied w h.bell
  pub further : BellStands w h.bell

abbrev pub BellPasses : History → List Entry → Type 0
BellPasses h t = Passes bell_next BellAsks h.bell t
