-- What is shown of the interrupt status, over all cases.
use Rattle.std.proofs.Common.{arith}
use Rattle.mpt_rules.specs.Law.{NothingIsStrange}
use Rattle.mpt_rules.specs.World.Cases.{Case, entries, happens}
use Rattle.mpt_rules.specs.World.Counts.{how_many}
use Rattle.mpt_rules.specs.World.Settings.{Setting, first_world}
use Rattle.mpt_rules.specs.World.State.{World}
use Rattle.law_facts.specs.Facts.{Facts}
use Rattle.law_facts.specs.History.{History, first_history, history_after}
use Rattle.law_starts.proofs.StartsKept.{before}
use Rattle.law_bells.specs.Talks.{TalksStand}
use Rattle.law_bell_status.specs.Bells.{BellStands}
use Rattle.law_bell_status.specs.Shown.{BellKept, BellPasses}
use Rattle.law_bell_status.proofs.Belled.{of_facts, to_stands, to_tied}
use Rattle.law_bell_status.proofs.BellKept as kept

module _ (w : World) (h : History) (c : Case) (f : Facts w h) (plain : NothingIsStrange w) (t : TalksStand w) (g : BellStands w h.bell) where
  goes : kept.BellGoes w h (before w h f plain) t.starts t.handshakes (of_facts w h.bell f.ties.bell g) (happens w c) (entries w c)
  goes = kept.bell_goes w h (before w h f plain) t.starts t.handshakes (of_facts w h.bell f.ties.bell g) c

  pub bell_kept : BellKept (happens w c) (history_after h (entries w c))
  bell_kept = record { tied = to_tied (happens w c) (history_after h (entries w c)).bell goes.holds; further = to_stands (happens w c) (history_after h (entries w c)).bell goes.holds }

  pub bell_passes : BellPasses h (entries w c)
  bell_passes = goes.passes

pub stands_at_first : (s : Setting) → BellStands (first_world s) (first_history s.disks).bell
unfolding how_many
stands_at_first s = record { fits = tt; one = omega arith; opens = λ e. absurd (cc); heard = λ d x v m a f c. absurd (cc) }
