-- What is ready stands also of a host that wasn't started: at first, and behind each case.
use Rattle.std.proofs.Common.{◌≡◌, ℕ, ◌-◌, None, refl, ap, sym, subst, Option}
use Rattle.removal.specs.Handles.{all_absent, phase_at}
use Rattle.mpt_rules.specs.Law.{NothingIsStrange}
use Rattle.mpt_rules.specs.World.Cases.{Case, entries, happens}
use Rattle.mpt_rules.specs.World.Settings.{Setting, first_world}
use Rattle.mpt_rules.specs.World.State.{World}
use Rattle.law_facts.specs.Facts.{Facts}
use Rattle.law_facts.specs.Handles.{phase_of}
use Rattle.law_facts.specs.History.{History, first_history, history_after}
use Rattle.law_ready.specs.Ready.{OffReady}
use Rattle.law_ready.proofs.AddressesKept.{off_addresses}
use Rattle.law_ready.proofs.CountedReady.{at_of, none_ready_at}
use Rattle.law_ready.proofs.Fitting.{Fits, of_fits}
use Rattle.law_ready.proofs.HandlesKept.{off_handles}
use Rattle.law_ready.proofs.Turned.{absent_ready, ready_at}

pub off_at_first : (s : Setting) → OffReady (first_world s) (first_history s.disks)
off_at_first s =
    record {
      handles = λ e g i. of_fits (first_history s.disks) g (phase_of (first_world s) g) None (subst (λ o. Fits o None (λ a. None) (λ a. 0)) (sym (absent_ready 64 (g - 9))) tt);
      addresses = λ e a. none_ready_at a all_absent refl (λ g i. ap (at_of a) (absent_ready 64 (g - 9)));
    }

pub off_kept : (w : World) (h : History) → Facts w h → NothingIsStrange w → OffReady w h → (c : Case) → OffReady (happens w c) (history_after h (entries w c))
off_kept w h f plain off c = record { handles = off_handles w h f plain off c; addresses = off_addresses w h f plain off c }
