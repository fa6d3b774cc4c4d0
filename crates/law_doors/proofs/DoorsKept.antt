-- What is shown of the doorbell, over all cases: of a world of which all facts hold.
use Rattle.mpt_rules.specs.World.Cases.{Case, entries, happens}
use Rattle.mpt_rules.specs.Law.{NothingIsStrange}
use Rattle.mpt_rules.specs.World.State.{World}
use Rattle.law_facts.specs.Facts.{Facts}
use Rattle.law_facts.specs.History.{History, history_after}
use Rattle.law_clock.specs.Premises.{Before, Behind}
use Rattle.law_resets.proofs.ResetsKept.{resets_kept}
use Rattle.law_doors.specs.Shown.{ResetsAreHeeded, ShownDoors}
use Rattle.law_doors.proofs.Heeded.{heeded}
use Rattle.law_doors.proofs.StageWorld.{stage_kept}
use Rattle.law_doors.proofs.Started.{started_kept}
use Rattle.law_doors.proofs.Whole.{whole_kept}

pub resets_heeded : (w : World) (h : History) → Facts w h → ResetsAreHeeded w
resets_heeded w h f reg value rest e t = heeded w h f reg value rest e t

module _ (w : World) (h : History) (c : Case) (f : Facts w h) (plain : NothingIsStrange w) where
  before : Before w h
  before = record { facts = f; plain = plain; heeded = resets_heeded w h f }

  behind : Behind (happens w c)
  behind = record { whole = whole_kept w h f plain c; stage = stage_kept w h before c; started = started_kept w h before c }

  pub doors_kept : ShownDoors (happens w c) (history_after h (entries w c))
  doors_kept = record { resets = resets_kept w h c before behind; stage = behind.stage; started = behind.started }
