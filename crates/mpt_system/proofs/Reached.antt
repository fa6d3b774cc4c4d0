-- Each case leads from a whole that is reached to one that is.
use Rattle.std.proofs.Common.{◌≡◌, Bool, List, [], ◌∷◌, ◌++◌, Option, Some, None, Result, Ok, Err, OnErr, OnOk, inl, inr, refl, sym, ap, ◌∙◌, subst, append-nil, append_assoc}
use Rattle.std.proofs.lemmas.List.Elements.{All-append, All-cons, All-nil}
use Rattle.mpt_trace.specs.declared.choice.Choice.{Choice}
use Rattle.mpt_trace.specs.declared.disk_spec.DiskSpec.{DiskSpec}
use Rattle.mpt_trace.specs.declared.entry.Entry.{Entry}
use Rattle.mpt_rules.specs.Outcome.{Happening}
use Rattle.mpt_rules.specs.World.Cases.{Case, Chosen, case_of, entries, happens, moves_or_idles, run, trace}
use Rattle.mpt_rules.specs.World.Drain.{moves_if}
use Rattle.mpt_rules.specs.World.Moves.{moves}
use Rattle.mpt_rules.specs.World.Settings.{IsCase, IsSetting, Setting, first_world}
use Rattle.mpt_rules.specs.World.State.{World}
use Rattle.mpt_system.specs.Reached.{IsReached}
use Rattle.mpt_system.specs.Steps.{HasStepped, HasTried}
use Rattle.mpt_system.specs.declared.faults.StepFault.{StepFault}
use Rattle.mpt_system.specs.declared.faults.StepFault.TheVariants as fault
use Rattle.mpt_system.specs.Whole.{Halted, Happened, HasDone, Stays, Whole, written}

-- one case more
run-one : (w : World) (cs : List Case) (c : Case) → run w (cs ++ c ∷ []) ≡ happens (run w cs) c
run-one w [] c = refl
run-one w (d ∷ cs) c = run-one (happens w d) cs c

trace-one : (w : World) (cs : List Case) (c : Case) → trace w (cs ++ c ∷ []) ≡ trace w cs ++ entries (run w cs) c
trace-one w [] c = append-nil (entries w c)
trace-one w (d ∷ cs) c =
    ap (λ es. entries w d ++ es) (trace-one (happens w d) cs c) ∙ sym (append_assoc (entries w d) (trace (happens w d) cs) (entries (run (happens w d) cs) c))

-- the first world of a setting is reached
pub reached_first : (s : Setting) → IsSetting s → IsReached s.disks (first_world s) []
reached_first s within = record { setting = s; declared = refl; within = within; of_cases = record { cases = []; allowed = All-nil IsCase; traced = refl; reached = refl } }

module _ {disks : List DiskSpec} where
  -- a case leads on
  pub reached_next : (w : World) (t : List Entry) (c : Case) → IsCase c → IsReached disks w t → IsReached disks (case_of w c).part (t ++ (case_of w c).entries)
  reached_next w t c allowed r =
      let first : World = first_world r.setting in
      let cs : List Case = r.of_cases.cases in
      record {
        setting = r.setting;
        declared = r.declared;
        within = r.within;
        of_cases = record {
          cases = cs ++ c ∷ [];
          allowed = All-append IsCase cs (c ∷ []) r.of_cases.allowed (All-cons IsCase c [] allowed (All-nil IsCase));
          traced = ap (λ es. es ++ entries w c) r.of_cases.traced ∙ (ap (λ v. trace first cs ++ entries v c) r.of_cases.reached ∙ sym (trace-one first cs c));
          reached = ap (λ v. happens v c) r.of_cases.reached ∙ sym (run-one first cs c);
        };
      }

  -- so does a choice that is tried
  pub reached_try : (w : World) (t : List Entry) (choice : Choice) → IsReached disks w t
      → IsReached disks (moves_if w (moves w choice)).part (t ++ (moves_if w (moves w choice)).entries)
  reached_try w t choice r = by_move (moves w choice) refl
    where
      by_move : (o : Option (Happening World)) → moves w choice ≡ o → IsReached disks (moves_if w o).part (t ++ (moves_if w o).entries)
      by_move None e = subst (λ es. IsReached disks w es) (sym (append-nil t)) r
      by_move (Some o) e =
          let P : Option (Happening World) → Type 0 = λ m. IsReached disks (moves_or_idles w choice m).part (t ++ (moves_or_idles w choice m).entries) in
          subst P e (reached_next w t (Chosen choice) tt r)

  -- and whatever stays, or has happened
  pub reached_same : (old new : Whole) → Stays old new → IsReached disks old.world old.entries → IsReached disks new.world new.entries
  reached_same old new s r =
      subst (λ es. IsReached disks new.world es) (sym s.entries) (subst (λ w. IsReached disks w old.entries) (sym s.world) r)

  pub reached_happened : (old : Whole) (o : Happening World) (new : Whole) → Happened old o new → IsReached disks o.part (old.entries ++ o.entries) → IsReached disks new.world new.entries
  reached_happened old o new s r =
      subst (λ es. IsReached disks new.world es) (sym s.entries) (subst (λ w. IsReached disks w (old.entries ++ o.entries)) (sym s.world) r)

  pub reached_halted : (old : Whole) (o : Happening World) (new : Whole) → Halted old o new → IsReached disks old.world old.entries
      → IsReached disks o.part (old.entries ++ o.entries) → IsReached disks new.world new.entries
  reached_halted old o new (inl s) r q = reached_same old new s r
  reached_halted old o new (inr s) r q = reached_happened old o new s q

  pub reached_tried : {E : Type 0} (old new : Whole) (choice : Choice) (result : Result Bool E) → HasTried old (moves old.world choice) result new
      → IsReached disks old.world old.entries → IsReached disks new.world new.entries
  reached_tried old new choice (Ok moved) h r =
      subst (λ x. IsReached disks x.world x.entries) (sym h.1) (reached_try old.world old.entries choice r)
  reached_tried old new choice (Err error) h r =
      reached_halted old (moves_if old.world (moves old.world choice)) new h r (reached_try old.world old.entries choice r)

  pub reached_stepped : {A : Type 0} (old new : Whole) (choice : Choice) (result : Result A StepFault) → HasStepped old choice result new
      → IsReached disks old.world old.entries → IsReached disks new.world new.entries
  reached_stepped old new choice (Ok moved) h r =
      subst (λ x. IsReached disks x.world x.entries) (sym h.1) (reached_next old.world old.entries (Chosen choice) tt r)
  reached_stepped old new choice (Err fault.Idle) h r =
      subst (λ x. IsReached disks x.world x.entries) (sym h.1) (reached_next old.world old.entries (Chosen choice) tt r)
  reached_stepped old new choice (Err fault.OutOfMemory) h r =
      reached_halted old (case_of old.world (Chosen choice)) new h r (reached_next old.world old.entries (Chosen choice) tt r)

  -- nothing is pending any more
  pub reached_written : (old new : Whole) → new ≡ written old → IsReached disks old.world old.entries → IsReached disks new.world new.entries
  reached_written old new e r = subst (λ x. IsReached disks x.world x.entries) (sym e) r

  pub reached_done : {A E : Type 0} (old new : Whole) (c : Case) → IsCase c → (result : Result A E) → HasDone old (case_of old.world c) result new
      → IsReached disks old.world old.entries → IsReached disks new.world new.entries
  reached_done old new c allowed (Ok done) h r = subst (λ x. IsReached disks x.world x.entries) (sym h) (reached_next old.world old.entries c allowed r)
  reached_done old new c allowed (Err error) h r = reached_halted old (case_of old.world c) new h r (reached_next old.world old.entries c allowed r)

  pub reached_either : {A E : Type 0} (old new : Whole) (result : Result A E) → OnOk result (new ≡ written old) → OnErr result (Stays old new)
      → IsReached disks old.world old.entries → IsReached disks new.world new.entries
  reached_either old new (Ok done) ok err r = reached_written old new ok r
  reached_either old new (Err error) ok err r = reached_same old new err r
