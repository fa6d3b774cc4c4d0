-- What is shown of the clock of resets, over all cases: of a world of which all facts hold.
use Rattle.std.proofs.Common.{◌≡◌, ℕ, zero, suc, ◌<◌, ◌≤◌, subst, arith}
use Rattle.mpt_rules.specs.World.Cases.{Case, entries, happens}
use Rattle.mpt_rules.specs.World.State.{World, queues_of}
use Rattle.law_facts.specs.Clock.{MarkIsDue, MarkStands, Marks, ResetsSeen}
use Rattle.law_facts.specs.History.{History, history_after}
use Rattle.law_clock.specs.Premises.{Before, Behind}
use Rattle.law_clock.specs.Shown.{ShownClock}
use Rattle.law_resets.specs.Shown.{ShownResets}
use Rattle.law_clock.proofs.ClockKept.{clock_kept}
use Rattle.law_resets.proofs.DroppingKept.{dropping_kept}
use Rattle.law_resets.proofs.FabricWorld.{fabric_kept}
use Rattle.law_resets.proofs.FirstKept.{first_kept, queues_kept}
use Rattle.law_resets.proofs.MarksKept.{mark_kept}
use Rattle.law_resets.proofs.ResettingKept.{resetting_kept}
use Rattle.law_resets.proofs.SeenKept.{due_kept}

module _ (w : World) (h : History) (c : Case) (b : Before w h) (v : Behind (happens w c)) where
  below : (n : ℕ) → n < queues_of (happens w c) → n < queues_of w
  below n l = subst (λ m. n < m) (queues_kept w h b c) l

  marks_kept : Marks (happens w c)
  marks_kept = record { each = each; first = first_kept w h b c v }
    where
      each : (queue : ℕ) → 1 ≤ queue → queue < queues_of (happens w c) → MarkStands (happens w c) queue
      each zero l m = absurd (omega (arith, l))
      each (suc n) l m = mark_kept w h b n (below (suc n) m) c v

  seen_kept : ResetsSeen (happens w c) (history_after h (entries w c))
  seen_kept = record { each = each; dropping = dropping_kept w h b c v; resetting = resetting_kept w h b c v }
    where
      each : (queue : ℕ) → 1 ≤ queue → queue < queues_of (happens w c) → MarkIsDue (happens w c) (history_after h (entries w c)) queue
      each zero l m = absurd (omega (arith, l))
      each (suc n) l m = due_kept w h b n (below (suc n) m) c v

pub resets_kept : (w : World) (h : History) (c : Case) → Before w h → Behind (happens w c) → ShownResets (happens w c) (history_after h (entries w c))
resets_kept w h c b v = record { clock = clock_kept w h c b v; marks = marks_kept w h c b v; resets_seen = seen_kept w h c b v; fabric_off = fabric_kept w h b c v }
