-- Each case keeps that what the fabric counts for a target reset fits the field of the reply.
use Rattle.std.proofs.Common.{◌≡◌, ℕ, ◌+◌, ◌^◌, ◌<◌, ◌≤◌, Bool, true, false, if◌then◌else◌, List, [], ◌∷◌, ◌++◌, append_assoc, length, map, Option, Some, None, refl, ap, sym, ◌∙◌, subst, arith}
use Rattle.std.specs.Prelude.{All}
use Rattle.std.specs.List.{cons_option, filter, filter_map, find}
use Rattle.std.specs.Option.{option_map}
use Rattle.std.proofs.lemmas.List.Elements.{All-append, All-cons, All-filter, All-head, All-nil, All-tail}
use Rattle.smid_pool.specs.Pool.{Slot, Free, Open, Parked}
use Rattle.mpt_trace.specs.declared.item.Back.{Back}
use Rattle.mpt_trace.specs.declared.item.Back.TheVariants as back
use Rattle.mpt_trace.specs.declared.item.Out.{Out}
use Rattle.mpt_trace.specs.declared.item.Out.TheVariants as out
use Rattle.mpt_rules.specs.declared.request.Request.{Request}
use Rattle.mpt_rules.specs.declared.request.Request.TheVariants as request
use Rattle.mpt_rules.specs.declared.task.Task.{Task}
use Rattle.mpt_rules.specs.Fabric.Calls as fab
use Rattle.mpt_rules.specs.Fabric.Disks.{all_plugged, disk_of, places_from, plugged_news, plugged_there, stands_at, unplugged_news, with_disk}
use Rattle.mpt_rules.specs.Fabric.Parts.{Fabric, FabricDisk, Place}
use Rattle.mpt_rules.specs.Fabric.Tasks as tasks
use Rattle.mpt_rules.specs.Law.{NothingIsStrange}
use Rattle.mpt_rules.specs.World.Cases.{Case, happens}
use Rattle.mpt_rules.specs.World.Counts.{one_if}
use Rattle.mpt_rules.specs.World.Settings.{Setting, first_world}
use Rattle.mpt_rules.specs.World.State.{World}
use Rattle.law_facts.specs.Facts.{Facts}
use Rattle.law_facts.specs.History.{History}
use Rattle.law_facts.specs.Messages.{IsLiveTask, IsUnknown, TaskIs}
use Rattle.law_facts.specs.Notices.{is_notice}
use Rattle.law_facts.specs.Words.{others, slot}
use Rattle.law_moves.proofs.Cases.{Owes, kept}
use Rattle.law_moves.proofs.Counted.{others-cons}
use Rattle.law_messages.proofs.Agreeing.{all_first, all_last}
use Rattle.law_messages.proofs.Known.{classed}
use Rattle.law_counts.specs.Counted.{CountFits, CountsFit}
use Rattle.law_counts.proofs.FewTasks.{Within, pigeons, some_of_all}

abbrev Fit : List Back → Type 0
Fit xs = All CountFits xs

mapped : (g : Task → Back) → ((t : Task) → CountFits (g t)) → (ts : List Task) → Fit (map g ts)
mapped g e [] = All-nil CountFits
mapped g e (t ∷ ts) = All-cons CountFits (g t) (map g ts) (e t) (mapped g e ts)

named : (f : Fabric) (ps : List Place) → Fit (filter_map (plugged_there f) ps)
named f [] = All-nil CountFits
named f (p ∷ ps) = by_disk (find (stands_at p.expander p.phy) f.disks) (named f ps)
  where
    by_disk : (o : Option FabricDisk) → Fit (filter_map (plugged_there f) ps) → Fit (cons_option (option_map (λ disk. plugged_news disk p) o) (filter_map (plugged_there f) ps))
    by_disk None h = h
    by_disk (Some d) h = All-cons CountFits (plugged_news d p) (filter_map (plugged_there f) ps) tt h

module _ (w : World) (h : History) (f : Facts w h) (fit : CountsFit w) where
  -- each task is of an open command
  tag_there : (t : Task) → TaskIs h t → (1 ≤ t.tag) × (t.tag ≤ 280)
  tag_there t a = by_slot (slot w.host t.tag) refl (f.messages.unknown t.tag)
    where
      none : (h.walk t.tag).known.live ≡ None → (1 ≤ t.tag) × (t.tag ≤ 280)
      none e = absurd (subst (IsLiveTask t.address t.command) e a)

      by_slot : (x : Slot Request) → slot w.host t.tag ≡ x → IsUnknown w h t.tag x → (1 ≤ t.tag) × (t.tag ≤ 280)
      by_slot (Open (request.Command n)) e u = let c = classed w h f t.tag (request.Command n) e in (omega (arith, c), omega (arith, c))
      by_slot Free e u = none u
      by_slot Parked e u = none u
      by_slot (Open (request.Abort n task)) e u = none u
      by_slot (Open (request.TargetReset address)) e u = none u
      by_slot (Open (request.Leave handle)) e u = none u
      by_slot (Open (request.Page handle)) e u = none u
      by_slot (Open (request.Remove handle)) e u = none u
      by_slot (Open (request.Ack event context)) e u = none u
      by_slot (Open request.Notification) e u = none u
      by_slot (Open request.PortEnable) e u = none u

  within : (ts : List Task) → All (TaskIs h) ts → Within 280 ts
  within [] a = tt
  within (t ∷ ts) a = let x = tag_there t (All-head (TaskIs h) t ts a) in (x.0, x.1, within ts (All-tail (TaskIs h) t ts a))

  few : length w.fabric.tasks ≤ 280
  few = pigeons 280 w.fabric.tasks (within w.fabric.tasks f.messages.tasks) (λ s a b. let m = (f.flights.fabric s a b).at_most in omega (arith, m))

  told : Fit w.fabric.out
  told = all_last CountFits w.back w.fabric.out fit

  lane : Fit w.back
  lane = all_first CountFits w.back w.fabric.out fit

  by_out : (xs : List Back) → Fit xs → Fit (w.back ++ xs)
  by_out xs a = All-append CountFits w.back xs lane a

  more : (news : List Back) → Fit news → Fit (w.fabric.out ++ news)
  more news a = All-append CountFits w.fabric.out news told a

  single : (x : Back) → CountFits x → Fit (x ∷ [])
  single x a = All-cons CountFits x [] a (All-nil CountFits)

  taken : (x : Out) → Fit (fab.takes_out w.fabric x).out
  taken (out.Task tag address command) = by_test (tasks.may_queue w.fabric tag address)
    where
      by_test : (b : Bool) → Fit (tasks.with_task_taken_if b w.fabric tag address command).out
      by_test true = told
      by_test false = more (back.Gone tag ∷ []) (single (back.Gone tag) tt)
  taken (out.Abort smid task) = by_test (tasks.is_queued w.fabric task)
    where
      by_test : (b : Bool) → Fit (tasks.after_abort_if b w.fabric smid task).out
      by_test true = more (back.Terminated task ∷ back.Aborted smid true ∷ []) (All-cons CountFits (back.Terminated task) (back.Aborted smid true ∷ []) tt (single (back.Aborted smid true) tt))
      by_test false = more (back.Aborted smid false ∷ []) (single (back.Aborted smid false) tt)
  taken (out.TargetReset smid address) =
      let mine = tasks.tasks_for address w.fabric.tasks in
      let a = some_of_all address w.fabric.tasks in let b = few in
      more (map tasks.terminated mine ++ back.Cleared smid (length mine) ∷ []) (All-append CountFits (map tasks.terminated mine) (back.Cleared smid (length mine) ∷ []) (mapped tasks.terminated (λ t. tt) mine) (single (back.Cleared smid (length mine)) (omega (arith, a, b))))
  taken out.Discover = more (all_plugged w.fabric ++ back.Discovered ∷ []) (All-append CountFits (all_plugged w.fabric) (back.Discovered ∷ []) (named w.fabric (places_from 0 w.fabric.phys)) (single back.Discovered tt))
  taken (out.Link generation) = All-append CountFits (filter fab.is_calm w.fabric.out) (back.Linked generation ∷ []) (All-filter fab.is_calm CountFits w.fabric.out told) (single (back.Linked generation) tt)
  taken out.Stop = told

  ran : (o : Option Task) → Fit (tasks.runs_task w.fabric o).part.out
  ran None = told
  ran (Some t) = more (back.Result t.tag (tasks.performed_at w.fabric t.address t.command).result ∷ []) (single (back.Result t.tag (tasks.performed_at w.fabric t.address t.command).result) tt)

  noticed : (g : Fabric) (x : Back) (b : Bool) → Fit g.out → Fit (fab.with_notice b x g).out
  noticed g x true l = l
  noticed g x false l = l

  plugs : (address expander phy : ℕ) → Fit (fab.fabric_plugs w.fabric address expander phy).part.out
  plugs address expander phy = by_disk (disk_of w.fabric address)
    where
      by_cause : (o : Option fab.PlugRefusal) (d : FabricDisk) (p : Place) → Fit (fab.plugs_unless o w.fabric d p).part.out
      by_cause (Some cause) d p = told
      by_cause None d p = noticed (record w.fabric { disks = with_disk d.address (fab.plugged_once_more p) w.fabric.disks }) (plugged_news (fab.plugged_once_more p d) p) w.fabric.on told

      by_disk : (o : Option FabricDisk) → Fit (fab.plugs_disk o w.fabric expander phy).part.out
      by_disk None = told
      by_disk (Some d) = by_cause (fab.plug_refusal w.fabric d expander phy) d (record { expander = expander; phy = phy })

  unplugs : (address : ℕ) → Fit (fab.fabric_unplugs w.fabric address).part.out
  unplugs address = by_disk (disk_of w.fabric address)
    where
      by_place : (o : Option Place) (d : FabricDisk) → Fit (fab.fabric_unplugs_from o w.fabric d).part.out
      by_place None d = told
      by_place (Some p) d =
          noticed (tasks.told_also (record w.fabric { disks = with_disk d.address (λ (old : FabricDisk). record old { at = None }) w.fabric.disks; tasks = tasks.tasks_for_others d.address w.fabric.tasks }) (map tasks.gone (tasks.tasks_for d.address w.fabric.tasks))) (unplugged_news d p) w.fabric.on
          (more (map tasks.gone (tasks.tasks_for d.address w.fabric.tasks)) (mapped tasks.gone (λ t. tt) (tasks.tasks_for d.address w.fabric.tasks)))

      by_disk : (o : Option FabricDisk) → Fit (fab.unplugs_disk o w.fabric).part.out
      by_disk None = told
      by_disk (Some d) = by_place d.at d

  notice : (x : Back) → is_notice x ≡ true → CountFits x
  notice (back.Plugged a p c d) e = tt
  notice (back.Unplugged a p c d) e = tt
  notice (back.Result tag r) e = tt
  notice (back.Gone tag) e = tt
  notice (back.Terminated tag) e = tt
  notice (back.Aborted smid found) e = tt
  notice (back.Cleared smid count) e = absurd (cc)
  notice back.Discovered e = tt
  notice (back.Linked generation) e = tt
  notice back.Calm e = tt

  says : (x : Back) (rest : List Back) → w.fabric.notices ≡ x ∷ rest → CountFits x
  says x rest e = notice x (by_one (is_notice x) (let a = f.notices.fit.kinds in let b = ap (others is_notice) e in let c = others-cons is_notice x rest in omega (arith, a, b, c)))
    where
      by_one : (b : Bool) → one_if (Rattle.std.proofs.Common.not b) ≡ 0 → b ≡ true
      by_one true z = refl
      by_one false z = absurd (omega (arith, z))

  owes : Owes CountsFit w
  owes =
      record {
        host_puts = λ x rest e. fit;
        host_takes = λ queue x rest e y. fit;
        host_told = λ i c. fit;
        host_looks = λ e. fit;
        host_stops = λ e. fit;
        ioc_takes = λ x rest e. fit;
        ioc_high = λ p rest e. fit;
        ioc_normal = λ p rest e. fit;
        ioc_puts_out = λ x rest e. fit;
        ioc_takes_back = λ x rest e. All-tail CountFits x (rest ++ w.fabric.out) (subst (λ xs. Fit (xs ++ w.fabric.out)) e fit);
        ioc_puts = λ queue y rest z e u. fit;
        fabric_takes = λ x rest e. by_out (fab.takes_out w.fabric x).out (taken x);
        fabric_says = λ x rest e. by_out (w.fabric.out ++ x ∷ []) (more (x ∷ []) (single x (says x rest e)));
        fabric_puts = λ x rest e. subst Fit (sym (append_assoc w.back (x ∷ []) rest)) (subst (λ xs. Fit (w.back ++ xs)) e fit);
        fabric_runs = λ tag address e. by_out (fab.runs w.fabric tag).part.out (ran (find (tasks.has_tag tag) w.fabric.tasks));
        plugs = λ address expander phy. by_out (fab.fabric_plugs w.fabric address expander phy).part.out (plugs address expander phy);
        unplugs = λ address. by_out (fab.fabric_unplugs w.fabric address).part.out (unplugs address);
        calms = by_out (w.fabric.out ++ back.Calm ∷ []) (more (back.Calm ∷ []) (single back.Calm tt));
      }

  pub fits_kept : NothingIsStrange w → (c : Case) → CountsFit (happens w c)
  fits_kept plain c = kept CountsFit w plain owes fit c

pub fits_at_first : (s : Setting) → CountsFit (first_world s)
fits_at_first s = All-nil CountFits
