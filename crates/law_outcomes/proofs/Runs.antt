-- Over every case: a disk has answered an open command exactly where its path says so.
use Rattle.std.proofs.Common.{◌≡◌, ℕ, ◌==◌, ◌&&◌, Bool, true, false, if◌then◌else◌, List, [], ◌∷◌, Option, Some, None, MatchOption, option_map, is_some, IsTrue, refl, ap, ◌∙◌, sym, subst, arith}
use Rattle.std.specs.FinMap as finmap
use Rattle.std.specs.FinSet as finset
use Rattle.std.specs.Ordering.{nat_cmp}
use Rattle.std.proofs.lemmas.Bool.{eqb-true}
use Rattle.mpt_trace.specs.declared.disk_spec.DiskSpec.{DiskSpec}
use Rattle.mpt_trace.specs.declared.entry.Entry.{Entry}
use Rattle.mpt_trace.specs.declared.entry.Entry.TheVariants as entry
use Rattle.mpt_trace.specs.declared.command_form.CommandForm.{CommandForm}
use Rattle.mpt_trace.specs.Command.{command_named}
use Rattle.mpt_trace.specs.declared.input.Input.{Input}
use Rattle.mpt_trace.specs.declared.input.Input.TheVariants as input
use Rattle.scsi_disk.specs.Performed.{performed}
use Rattle.scsi_disk.specs.declared.scsi_result.ScsiResult.{ScsiResult}
use Rattle.mpt_wire.specs.Machine.Causes as calls
use Rattle.mpt_wire.specs.Machine.State.{MachineDisk, OpenRequest, place_of}
use Rattle.mpt_wire.specs.Machine.Steps.{Fails, Grants, IsRunFrom, MayRun, Runs, accepted, after_all, run_at}
use Rattle.mpt_wire.specs.Machine.View.{Seen, step_if}
use Rattle.mpt_wire.specs.Paths.Commands.{Live, live_mark, mark_if}
use Rattle.mpt_wire.specs.Paths.Table.{IsAcceptedAgain, RunsAt}
use Rattle.mpt_wire.specs.Paths.Stages.{PathStage, Accepted, MarkMayFollow, WalkAsks, stage_if, walk_next}
use Rattle.mpt_wire.specs.Walks.Passes.{EachEntry, Passes, state_after}
use Rattle.mpt_rules.specs.Fabric.Calls as fab
use Rattle.mpt_rules.specs.Host.Parts.{Cmd}
use Rattle.mpt_rules.specs.Host.Takes.{looks, stops}
use Rattle.mpt_rules.specs.Ioc.Takes as adapter
use Rattle.mpt_rules.specs.Law.{NothingIsStrange}
use Rattle.mpt_rules.specs.World.Cases.{Case, entries, happens}
use Rattle.mpt_rules.specs.World.Inputs.{host_told}
use Rattle.mpt_rules.specs.World.State.{World}
use Rattle.law_facts.specs.Facts.{Facts}
use Rattle.law_facts.specs.History.{History, first_history, history_after}
use Rattle.law_moves.proofs.Cases.{IsHosts}
use Rattle.law_moves.proofs.CasesTold.{OwesTold, kept_told}
use Rattle.law_machine.proofs.Inputs.{seen}
use Rattle.law_machine.proofs.IocSilent.{told_back, told_down, told_high, told_normal}
use Rattle.law_machine.proofs.Silent.{Passed}
use Rattle.law_runs.proofs.Runs.{runs as machine_passes}
use Rattle.law_messages.proofs.Known.{command_of}
use Rattle.law_messages.proofs.Walks.{accepted_live}
use Rattle.law_messages.proofs.Leads.{Accepts, Ends, Goes, Leads}
use Rattle.law_messages.proofs.PostsKept.{live_is_open}
use Rattle.law_messages.proofs.Shown.{leads}
use Rattle.law_paths.specs.Paths.{FurtherPaths}
use Rattle.law_paths.proofs.HostCases.{told_quiet_of}
use Rattle.law_paths.proofs.WalksPass.{walks_pass}
use Rattle.law_outcomes.specs.Stages.{RunsByStage, was_run}
use Rattle.law_outcomes.proofs.Stages.{IsDull, dull_live, dull_stage}
use Rattle.law_outcomes.proofs.Dull.{dull_outcome, item_dull, plugs_dull, quiets_dull, silents_dull}

module _ (w : World) (h : History) (f : Facts w h) (more : FurtherPaths w h) (runs : RunsByStage h) where
  Walked : List Entry → Type 0
  Walked t = (s : ℕ) → Passes (walk_next s) (WalkAsks s) (h.walk s) t

  OnCase : World → List Entry → Type 0
  OnCase v t = Leads w h v.host (history_after h t) → Walked t → Passed (seen h) t → RunsByStage (history_after h t)

  -- what is known of an open command
  known_number : (q : ℕ) (l : Live) → (h.walk q).known.live ≡ Some l → (h.so_far.number_of q ≡ Some l.number) × (option_map (λ (c : Cmd). c.smid) (finmap.get w.host.cmds l.number) ≡ Some q) × (finset.contains w.host.accepted l.number ≡ true)
  known_number q l e = by_cmd (finmap.get w.host.cmds l.number) refl (command_of w h f l.number q (live_is_open w h f q l e))
    where
      by_cmd : (o : Option Cmd) → finmap.get w.host.cmds l.number ≡ o → option_map (λ (c : Cmd). c.smid) o ≡ Some q → (h.so_far.number_of q ≡ Some l.number) × (option_map (λ (c : Cmd). c.smid) o ≡ Some q) × (finset.contains w.host.accepted l.number ≡ true)
      by_cmd None i g = absurd (cc)
      by_cmd (Some c) i g =
          let k : c.smid ≡ q = cc in
          (subst (λ j. h.so_far.number_of j ≡ Some l.number) k ((f.messages.named l.number).number c i), g, (f.disks.numbers l.number).accepted (ap is_some i))

  dully : (t : List Entry) → EachEntry IsDull t → Walked t → RunsByStage (history_after h t)
  unfolding Walked
  dully t d p s l e =
      ap (λ o. is_some (o l.number)) (dull_outcome (seen h) t d) ∙ (runs s l (dull_live s (h.walk s) t l d e) ∙ sym (dull_stage s (h.walk s) t l d (p s) e))

  -- ---- a submission is accepted

  module _ (n a s plug : ℕ) (form : CommandForm) (fresh : finset.contains w.host.accepted n ≡ false) (ready : h.machine.ready a ≡ Some plug) where
    abbrev After : History
    After = history_after h (entry.Given (input.Submit n a form) ∷ entry.Accept n a s ∷ [])

    same : (n : ℕ) → (n == n) ≡ true
    same n = grind arith

    outcome_is : (m : ℕ) → (After).machine.outcome m ≡ (if m == n then None else h.machine.outcome m)
    outcome_is m = granted (n == n) (a == a) (same n) (same a) ∙ ap (λ o. (accepted h.machine n a (command_named form) o).outcome m) ready
      where
        granted : (b d : Bool) → b ≡ true → d ≡ true
            → (after_all (after_all h.machine (if b then [] else Fails ∷ [])) (step_if (if b && d then Some (calls.Submit n a (command_named form)) else None) Grants ∷ [])).outcome m ≡ (accepted h.machine n a (command_named form) (h.machine.ready a)).outcome m
        granted true true t u = refl
        granted true false t u = absurd (cc)
        granted false d t u = absurd (cc)

    stage_is : (q : ℕ) → ((After).walk q).stage ≡ (if s == q then Accepted else (h.walk q).stage)
    stage_is q = by_test (s == q) (h.walk q).known.live
      where
        by_test : (b : Bool) (live : Option Live) → (if b then Accepted else stage_if (h.walk q).stage (if b then live_mark live IsAcceptedAgain else None)) ≡ (if b then Accepted else (h.walk q).stage)
        by_test true live = refl
        by_test false live = refl

    other : (m : ℕ) → finset.contains w.host.accepted m ≡ true → (m == n) ≡ false
    other m e = by_test (m == n) refl
      where
        by_test : (b : Bool) → (m == n) ≡ b → b ≡ false
        by_test false t = refl
        by_test true t = let z : true ≡ false = sym e ∙ (ap (λ k. finset.contains w.host.accepted k) (eqb-true m n t) ∙ fresh) in absurd (cc)

    accepts : RunsByStage (After)
    accepts q l e = by_key (s == q) refl (sym (accepted_live q (h.walk q) n a s form) ∙ e)
      where
        at : (m : ℕ) (b : Bool) → (m == n) ≡ b → is_some ((After).machine.outcome m) ≡ is_some (if b then None else h.machine.outcome m)
        at m b t = ap is_some (outcome_is m ∙ ap (λ c. if c then None else h.machine.outcome m) t)

        run_is : (b : Bool) → (s == q) ≡ b → was_run ((After).walk q).stage ≡ was_run (if b then Accepted else (h.walk q).stage)
        run_is b t = ap was_run (stage_is q ∙ ap (λ c. if c then Accepted else (h.walk q).stage) t)

        by_key : (b : Bool) → (s == q) ≡ b → (if b then Some (let u : Live = record { number = n; address = a; command = command_named form } in u) else (h.walk q).known.live) ≡ Some l → is_some ((After).machine.outcome l.number) ≡ was_run ((After).walk q).stage
        by_key true t i =
            let y : (let u : Live = record { number = n; address = a; command = command_named form } in u) ≡ l = cc in
            let k : n ≡ l.number = ap (λ (u : Live). u.number) y in
            at l.number true (subst (λ j. (j == n) ≡ true) k (same n)) ∙ sym (run_is true t)
        by_key false t i = at l.number false (other l.number (known_number q l i).2) ∙ (runs q l i ∙ sym (run_is false t))

  -- ---- a task runs

  module _ (a tag : ℕ) (p : (s : ℕ) → Passes (walk_next s) (WalkAsks s) (h.walk s) (entry.Run a tag ∷ [])) where
    tag_lives : (l : Live) × ((h.walk tag).known.live ≡ Some l)
    tag_lives = by_live (h.walk tag).known.live refl (by_mark (tag == tag) (itself tag) (p tag).0)
      where
        itself : (n : ℕ) → (n == n) ≡ true
        itself n = grind arith

        by_mark : (b : Bool) → b ≡ true → MatchOption (mark_if b (RunsAt a)) (Unit {0}) (λ m. MarkMayFollow (h.walk tag).known.live (h.walk tag).stopped (h.walk tag).stage m) → MarkMayFollow (h.walk tag).known.live (h.walk tag).stopped (h.walk tag).stage (RunsAt a)
        by_mark true e m = m
        by_mark false e m = absurd (cc)

        by_live : (o : Option Live) → (h.walk tag).known.live ≡ o → MarkMayFollow o (h.walk tag).stopped (h.walk tag).stage (RunsAt a) → (l : Live) × ((h.walk tag).known.live ≡ Some l)
        by_live None e m = absurd m
        by_live (Some l) e m = (l, e)

    module _ (q : ℕ) (l : Live) (e : (h.walk q).known.live ≡ Some l) where
      abbrev Goal : Option ScsiResult → Type 0
      Goal o = is_some o ≡ was_run (stage_if (h.walk q).stage (mark_if (tag == q) (RunsAt a)))

      module _ (m : ℕ) (i : h.so_far.number_of tag ≡ Some m) where
        named : (j : ℕ) (x : Live) → (h.walk j).known.live ≡ Some x → h.so_far.number_of j ≡ Some m → x.number ≡ m
        named j x e i = let y : Some x.number ≡ Some m = sym (known_number j x e).0 ∙ i in cc

        -- the number that runs is the tag's
        tags : (tag == q) ≡ (l.number == m)
        tags = by_test (tag == q) refl
          where
            by_number : (b : Bool) → (l.number == m) ≡ b → (tag == q) ≡ false → false ≡ b
            by_number false u t = refl
            by_number true u t =
                let z = tag_lives in
                let k : z.0.number ≡ l.number = named tag z.0 z.1 i ∙ sym (eqb-true l.number m u) in
                let x : Some tag ≡ Some q = sym (subst (λ j. option_map (λ (c : Cmd). c.smid) (finmap.get w.host.cmds j) ≡ Some tag) k (known_number tag z.0 z.1).1) ∙ (known_number q l e).1 in
                let y : tag ≡ q = cc in
                grind (arith, y, t)

            by_test : (b : Bool) → (tag == q) ≡ b → b ≡ (l.number == m)
            by_test true t = let k = named q l e (subst (λ j. h.so_far.number_of j ≡ Some m) (eqb-true tag q t) i) in grind (arith, k)
            by_test false t = by_number (l.number == m) refl t

        result : (r : ScsiResult) → Goal (if l.number == m then Some r else h.machine.outcome l.number)
        result r = by_test (l.number == m) tags
          where
            by_test : (b : Bool) → (tag == q) ≡ b → is_some (if b then Some r else h.machine.outcome l.number) ≡ was_run (stage_if (h.walk q).stage (mark_if (tag == q) (RunsAt a)))
            by_test true t = sym (ap (λ b. was_run (stage_if (h.walk q).stage (mark_if b (RunsAt a)))) t)
            by_test false t = runs q l e ∙ sym (ap (λ b. was_run (stage_if (h.walk q).stage (mark_if b (RunsAt a)))) t)

        by_disk : (r : OpenRequest) (d : Option MachineDisk) → IsTrue (is_some (place_of d)) → Goal ((run_at h.machine m a (Some r) d).outcome l.number)
        by_disk r None y = absurd (cc)
        by_disk r (Some d) y = result (performed d.bytes r.command).result

        by_request : (o : Option OpenRequest) → MayRun h.machine m a o → Goal ((run_at h.machine m a o (h.machine.disks a)).outcome l.number)
        by_request None y = absurd y
        by_request (Some r) y = by_disk r (h.machine.disks a) y.3

      by_number_of : (o : Option ℕ) → h.so_far.number_of tag ≡ o → IsRunFrom h.machine (step_if o (λ n. Runs n a) ∷ []) → Goal ((after_all h.machine (step_if o (λ n. Runs n a) ∷ [])).outcome l.number)
      by_number_of None i y = absurd y.0
      by_number_of (Some m) i y = by_request m i (finmap.get h.machine.requests m) y.0

  ran : (a tag : ℕ) → Walked (entry.Run a tag ∷ []) → Passed (seen h) (entry.Run a tag ∷ []) → RunsByStage (history_after h (entry.Run a tag ∷ []))
  unfolding Walked
  ran a tag p g q l e = by_number_of a tag p q l e (h.so_far.number_of tag) refl g.0

  -- ---- each case

  asked : (i : Input) → IsHosts i → OnCase (record w { host = (host_told w.host i).part }) (host_told w.host i).entries
  unfolding OnCase
  asked i c l p g = by_leads l
    where
      none : (o : Option Cmd) → ((c : Cmd) → o ≡ Some c → ⊥) → o ≡ None
      none None e = refl
      none (Some c) e = absurd (e c refl)

      by_leads : Leads w h (host_told w.host i).part (history_after h (host_told w.host i).entries) → RunsByStage (history_after h (host_told w.host i).entries)
      by_leads (Accepts n a s handle plug form z) = subst RunsByStage (sym z.told) (accepts n a s plug form z.fresh z.ready)
      by_leads (Goes hand away fo) =
          dully (host_told w.host i).entries
          (quiets_dull (host_told w.host i).entries
          (told_quiet_of w h f more.tags i c (λ n u. none (finmap.get (host_told w.host i).part.cmds n) (λ x e. let y : true ≡ false = sym ((f.disks.numbers n).accepted (ap is_some (fo.less_cmds n x e))) ∙ u in absurd (cc))))) p
      by_leads (Ends u q e k o) = dully (host_told w.host i).entries (quiets_dull (host_told w.host i).entries (told_quiet_of w h f more.tags i c (λ n u. ap (λ m. finmap.get m n) e ∙ finmap.get-empty nat_cmp n))) p

  owes : OwesTold OnCase w
  unfolding OnCase
  owes =
      record {
        idles = λ c l p g. dully (entry.Idle c ∷ []) (tt, tt) p;
        host_puts = λ x rest e l p g. dully _ (tt, tt) p;
        host_takes = λ queue x rest e y l p g. dully _ (tt, item_dull w.host queue x) p;
        host_told = λ i c. asked i c;
        host_looks = λ e l p g. dully [] tt p;
        host_stops = λ e l p g. dully [] tt p;
        no_session = λ l p g. dully [] tt p;
        ioc_takes = λ x rest e l p g. dully _ (tt, silents_dull (adapter.takes_down w.ioc x).entries (told_down w.ioc x)) p;
        ioc_high = λ y rest e l p g. dully _ (silents_dull _ (told_high w.ioc (y ∷ rest))) p;
        ioc_normal = λ y rest e l p g. dully _ (silents_dull _ (told_normal w.ioc (y ∷ rest))) p;
        ioc_puts_out = λ x rest e l p g. dully _ (tt, tt) p;
        ioc_takes_back = λ x rest e l p g. dully _ (tt, silents_dull (adapter.takes_back w.ioc x).entries (told_back w.ioc x)) p;
        ioc_puts = λ queue y rest x e u l p g. dully _ (tt, tt) p;
        fabric_takes = λ x rest e l p g. dully _ (tt, tt) p;
        fabric_says = λ x rest e l p g. dully [] tt p;
        fabric_puts = λ x rest e l p g. dully _ (tt, tt) p;
        fabric_runs = λ tag address e l p g. ran address tag p g;
        plugs = λ address expander phy t q l p g. dully t (plugs_dull t q) p;
        unplugs = λ address t q l p g. dully t (plugs_dull t q) p;
        calms = λ l p g. dully [] tt p;
      }

  pub runs_kept : NothingIsStrange w → (c : Case) → RunsByStage (history_after h (entries w c))
  unfolding OnCase Walked
  runs_kept plain c = kept_told OnCase w plain owes c (leads w h c f plain more.flights.aborts) (λ s. walks_pass w h f more.tags more.outcomes plain c s) (machine_passes w h f plain more.outcomes c)

pub runs_at_first : (disks : List DiskSpec) → RunsByStage (first_history disks)
runs_at_first disks s l e = absurd (cc)
