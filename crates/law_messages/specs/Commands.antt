-- The trace knows exactly the open commands, each under its identifier and by its number, and they fit.
use Rattle.std.specs.Prelude.{ℕ}
use Rattle.mpt_rules.specs.World.State.{World}
use Rattle.law_facts.specs.History.{History}
use Rattle.law_facts.specs.Messages.{IsUnknown, NamedIsOpen}
use Rattle.law_facts.specs.Words.{slot}

pub record CommandsKnown (w : World) (h : History) : Type 0 where
  pub named : (n : ℕ) → NamedIsOpen w h n
  pub unknown : (s : ℕ) → IsUnknown w h s (slot w.host s)
