-- What is shown of a reset's steps, over all cases.
use Rattle.mpt_rules.specs.World.Cases.{Case, happens}
use Rattle.mpt_rules.specs.Law.{NothingIsStrange}
use Rattle.mpt_rules.specs.World.State.{World}
use Rattle.law_facts.specs.DoorAhead.{AdapterBit, ResetSteps}
use Rattle.law_facts.specs.Facts.{Facts}
use Rattle.law_facts.specs.History.{History}
use Rattle.law_starts.specs.Starts.{StartsStand}
use Rattle.law_starts.proofs.StartsKept.{before}
use Rattle.law_steps.proofs.AdapterKept.{adapter_kept}
use Rattle.law_steps.proofs.ResetStepsKept.{reset_steps_kept}

pub adapter_stands : (w : World) (h : History) (c : Case) → Facts w h → NothingIsStrange w → AdapterBit (happens w c)
adapter_stands w h c f plain = adapter_kept w h (before w h f plain) c

pub reset_steps_stand : (w : World) (h : History) (c : Case) → Facts w h → NothingIsStrange w → StartsStand w → ResetSteps (happens w c)
reset_steps_stand w h c f plain s = reset_steps_kept w h (before w h f plain) s c
