-- What holds of the machine by its own steps, over every case.
use Rattle.std.proofs.Common.{◌≡◌, ℕ, ◌&&◌, Bool, true, false, List, Option, Some, None, is_some, is_none, refl, ap, sym, ◌∙◌}
use Rattle.std.specs.FinMap as finmap
use Rattle.std.specs.FinSet as set
use Rattle.mpt_trace.specs.declared.disk_spec.DiskSpec.{DiskSpec}
use Rattle.mpt_wire.specs.Machine.State.{OpenRequest}
use Rattle.mpt_rules.specs.Host.Parts.{Cmd}
use Rattle.mpt_rules.specs.Law.{NothingIsStrange}
use Rattle.mpt_rules.specs.World.Cases.{Case, entries}
use Rattle.mpt_rules.specs.World.State.{World}
use Rattle.law_facts.specs.Disks.{MadeFits}
use Rattle.law_facts.specs.Facts.{Facts}
use Rattle.law_facts.specs.History.{History, first_history, history_after}
use Rattle.law_messages.specs.Numbers.{AbortsAreAccepted}
use Rattle.law_runs.proofs.Runs.{runs}
use Rattle.law_standing.specs.Written.{OutcomesFit}
use Rattle.law_machine.proofs.Inputs.{seen}
use Rattle.law_disks.specs.Machine.{MachineFits, ReadyWasPlugged, is_known}
use Rattle.law_disks.proofs.Fits.{run_kept, step_fits}

module _ (w : World) (h : History) (f : Facts w h) (known : AbortsAreAccepted w) (was : ReadyWasPlugged h) where
  -- what the machine knows was accepted
  known_is : (n : ℕ) → is_known h.machine.requests h.machine.closed n ≡ set.contains w.host.accepted n
  known_is n = Rattle.law_machine.proofs.Causes.used w h f n

  fits : MachineFits h.machine
  fits =
      record {
        plugs = record { made_fits = f.disks.made; ready_fits = was };
        numbers = record {
          unused = λ n e. (f.disks.numbers n).unused (sym (known_is n) ∙ e);
          named = λ n e. known_is n ∙ named n (sym (f.disks.numbers n).aborts ∙ e);
          apart = λ n e. (f.disks.numbers n).closed ∙ none (set.contains w.host.accepted n) (finmap.get w.host.cmds n) (sym (f.disks.numbers n).requests ∙ e);
        };
        opened = λ n r g. by_cmd n r g (finmap.get w.host.cmds n) refl;
      }
    where
      none : {X : Type 0} (b : Bool) (o : Option X) → is_some o ≡ true → (b && is_none o) ≡ false
      none true None e = absurd (cc)
      none true (Some x) e = refl
      none false o e = refl

      named : (n : ℕ) → is_some (finmap.get w.host.aborts n) ≡ true → set.contains w.host.accepted n ≡ true
      named n e = known n e

      by_cmd : (n : ℕ) (r : OpenRequest) → finmap.get h.machine.requests n ≡ Some r → (o : Option Cmd) → finmap.get w.host.cmds n ≡ o → Rattle.law_disks.specs.Machine.RequestFits h.machine.disks h.machine.outcome h.machine.asked h.machine.ran h.machine.aborts h.machine.resets n r
      by_cmd n r g None e = let z : true ≡ false = sym (ap is_some g) ∙ ((f.disks.numbers n).requests ∙ ap is_some e) in absurd (cc)
      by_cmd n r g (Some c) e = let s = f.disks.opened n c r e g in record { least = s.least; most = s.most; has_run = s.ran; reset = s.asked; aborted = s.aborted }

pub machine_kept : (w : World) (h : History) → Facts w h → NothingIsStrange w → OutcomesFit h → AbortsAreAccepted w → ReadyWasPlugged h → (c : Case) → MachineFits (history_after h (entries w c)).machine
machine_kept w h f plain fit known was c = run_kept MachineFits step_fits (seen h) (entries w c) (runs w h f plain fit c) (fits w h f known was)

pub made_kept : (w : World) (h : History) → Facts w h → NothingIsStrange w → OutcomesFit h → AbortsAreAccepted w → ReadyWasPlugged h → (c : Case) (address : ℕ) → MadeFits (history_after h (entries w c)) address
made_kept w h f plain fit known was c address = (machine_kept w h f plain fit known was c).plugs.made_fits address

pub was_kept : (w : World) (h : History) → Facts w h → NothingIsStrange w → OutcomesFit h → AbortsAreAccepted w → ReadyWasPlugged h → (c : Case) → ReadyWasPlugged (history_after h (entries w c))
was_kept w h f plain fit known was c address plug e = (machine_kept w h f plain fit known was c).plugs.ready_fits address plug e

pub was_first : (disks : List DiskSpec) → ReadyWasPlugged (first_history disks)
was_first disks address plug e = absurd (cc)
