-- The doorbell's facts that are shown of the world behind a case.
use Rattle.std.specs.Prelude.{◌≡◌, ℕ, true, List, ◌∷◌}
use Rattle.mpi_doorbell.specs.DoorRegisters.{register_written}
use Rattle.mpt_trace.specs.declared.item.Down.{Down}
use Rattle.mpt_trace.specs.declared.item.Down.TheVariants as down
use Rattle.mpt_rules.specs.Host.Doorbell.{is_reset_item}
use Rattle.mpt_rules.specs.World.State.{World}
use Rattle.law_facts.specs.DoorAhead.{StageFits}
use Rattle.law_facts.specs.History.{History}
use Rattle.law_clock.specs.Premises.{IsStarted}
use Rattle.law_flights.specs.Given.{Resets}
use Rattle.law_resets.specs.Shown.{ShownResets}

-- the write that begins a reset has a reset's effect where it is taken
abbrev pub ResetsAreHeeded : World → Type 0
ResetsAreHeeded w = (reg value : ℕ) (rest : List Down) → w.down ≡ down.Write reg value ∷ rest → is_reset_item (down.Write reg value) ≡ true → Resets (register_written w.ioc.door reg value).effect

-- so the clock of resets and its marks stand without a premise of the doorbell
pub record ShownDoors (w : World) (h : History) : Type 0 where
  pub resets : ShownResets w h
  pub stage : StageFits w
  pub started : IsStarted w
