-- Each case keeps that the tasks at the fabric are those of open commands, and that a result is the machine's.
use Rattle.std.proofs.Common.{◌≡◌, ℕ, ◌≤◌, not, Bool, true, false, if◌then◌else◌, List, [], ◌∷◌, ◌++◌, append_assoc, map, Option, Some, None, is_some, option_map, refl, ap, sym, ◌∙◌, subst, arith}
use Rattle.std.specs.Prelude.{All, filter_map}
use Rattle.std.specs.FinMap as finmap
use Rattle.std.specs.List.{filter, find}
use Rattle.std.proofs.lemmas.Bool.{eqb-true}
use Rattle.std.proofs.lemmas.List.Elements.{All-append, All-cons, All-filter, All-head, All-nil, All-tail}
use Rattle.scsi_disk.specs.Performed.{performed}
use Rattle.mpt_wire.specs.Machine.State.{MachineDisk, place_of}
use Rattle.mpt_wire.specs.Machine.Steps.{Runs, after_all, run_at}
use Rattle.mpt_wire.specs.Machine.View.{step_if}
use Rattle.mpt_wire.specs.Paths.Commands.{Live}
use Rattle.mpt_trace.specs.declared.entry.Entry.{Entry}
use Rattle.mpt_trace.specs.declared.entry.Entry.TheVariants as entry
use Rattle.mpt_trace.specs.declared.item.Back.{Back}
use Rattle.mpt_trace.specs.declared.item.Back.TheVariants as back
use Rattle.mpt_trace.specs.declared.item.Item.TheVariants as item
use Rattle.mpt_trace.specs.declared.lane.LaneName.TheVariants as lane
use Rattle.mpt_trace.specs.declared.item.Out.{Out}
use Rattle.mpt_trace.specs.declared.item.Out.TheVariants as out
use Rattle.mpt_rules.specs.declared.task.Task.{Task}
use Rattle.mpt_rules.specs.Fabric.Calls as fab
use Rattle.mpt_rules.specs.Fabric.Disks.{all_plugged, disk_of, plugged_there}
use Rattle.mpt_rules.specs.Fabric.Parts.{Fabric, FabricDisk, Place}
use Rattle.mpt_rules.specs.Fabric.Tasks as tasks
use Rattle.mpt_rules.specs.Fabric.Tasks.{has_tag, runs_task}
use Rattle.mpt_rules.specs.Host.Returns.{after_sent}
use Rattle.mpt_rules.specs.Host.Takes.{hears_up, looks, stops}
use Rattle.mpt_rules.specs.Ioc.Steps as step
use Rattle.mpt_rules.specs.Ioc.Takes as adapter
use Rattle.mpt_rules.specs.World.Inputs.{host_told}
use Rattle.law_moves.proofs.Counted.{others-cons}
use Rattle.mpt_rules.specs.Law.{NothingIsStrange}
use Rattle.mpt_rules.specs.World.Cases.{Case, entries, happens}
use Rattle.mpt_rules.specs.World.Counts.{one_if}
use Rattle.mpt_rules.specs.World.FabricCounts.{task_count}
use Rattle.mpt_rules.specs.World.Lines.{back_line}
use Rattle.mpt_rules.specs.World.State.{World, up_lane, up_on, with_up}
use Rattle.law_moves.proofs.CasesTold.{OwesTold, kept_told}
use Rattle.law_facts.specs.Disks.{DiskIs}
use Rattle.law_facts.specs.Facts.{Facts}
use Rattle.law_facts.specs.History.{History, history_after}
use Rattle.law_facts.specs.Messages.{BackIs, HasOutcome, IsLiveTask, OutIs, TaskIs}
use Rattle.law_facts.specs.Notices.{is_notice}
use Rattle.law_facts.specs.Words.{others}
use Rattle.law_messages.proofs.Agreeing.{all_more, not_both, same}
use Rattle.law_messages.proofs.Leads.{Leads}
use Rattle.law_messages.proofs.PostsKept.{found_all, found_passes, live_is_open}
use Rattle.law_asked.specs.Asked.{TasksStand}
use Rattle.law_asked.proofs.AtFabric as place
use Rattle.law_asked.proofs.Lists.{all_mapped}
use Rattle.law_asked.proofs.Opened.{CommandOpened, opened}

-- ---- items that are no result

abbrev is_result : Back → Bool
is_result (back.Result tag result) = true
is_result item = false

plain : (k : History) (x : Back) → is_result x ≡ false → BackIs k x
plain k (back.Result tag result) e = absurd (cc)
plain k (back.Gone tag) e = tt
plain k (back.Terminated tag) e = tt
plain k (back.Aborted smid found) e = tt
plain k (back.Cleared smid count) e = tt
plain k (back.Plugged address plug expander phy) e = tt
plain k (back.Unplugged address plug expander phy) e = tt
plain k back.Discovered e = tt
plain k (back.Linked generation) e = tt
plain k back.Calm e = tt

one : {X : Type 0} (P : X → Type 0) (x : X) → P x → All P (x ∷ [])
one P x p = All-cons P x [] p (All-nil P)

named : (k : History) (fabric : Fabric) (places : List Place) → All (BackIs k) (filter_map (plugged_there fabric) places)
named k fabric [] = All-nil (BackIs k)
named k fabric (p ∷ ps) = by_disk (find (Rattle.mpt_rules.specs.Fabric.Disks.stands_at p.expander p.phy) fabric.disks) (filter_map (plugged_there fabric) ps) (named k fabric ps)
  where
    by_disk : (o : Option FabricDisk) (ys : List Back) → All (BackIs k) ys → All (BackIs k) (Rattle.std.specs.List.cons_option (option_map (λ disk. Rattle.mpt_rules.specs.Fabric.Disks.plugged_news disk p) o) ys)
    by_disk None ys a = a
    by_disk (Some d) ys a = All-cons (BackIs k) (Rattle.mpt_rules.specs.Fabric.Disks.plugged_news d p) ys tt a

-- ---- the fabric by itself

record Has (k : History) (x : Fabric) : Type 0 where
  tasks : All (TaskIs k) x.tasks
  out : All (BackIs k) x.out

has_news : (k : History) (x : Fabric) (news : List Back) → All (BackIs k) news → Has k x → Has k (tasks.told_also x news)
has_news k x news a h = record { tasks = h.tasks; out = All-append (BackIs k) x.out news h.out a }

has_notice : (k : History) (b : Bool) (y : Back) (x : Fabric) → Has k x → Has k (fab.with_notice b y x)
has_notice k true y x h = record { tasks = h.tasks; out = h.out }
has_notice k false y x h = h

takes : (w : World) (k : History) (x : Fabric) (item : Out) → OutIs w k item → Has k x → Has k (fab.takes_out x item)
takes w k x (out.Task tag address command) o h = by_test (tasks.may_queue x tag address)
  where
    by_test : (b : Bool) → Has k (tasks.with_task_taken_if b x tag address command)
    by_test true = record { tasks = all_more (TaskIs k) x.tasks (record { tag = tag; address = address; command = command }) h.tasks o; out = h.out }
    by_test false = has_news k x (back.Gone tag ∷ []) (one (BackIs k) (back.Gone tag) tt) h
takes w k x (out.Abort smid task) o h = by_test (tasks.is_queued x task)
  where
    by_test : (b : Bool) → Has k (tasks.after_abort_if b x smid task)
    by_test true = has_news k (record x { tasks = tasks.tasks_without task x.tasks }) (back.Terminated task ∷ back.Aborted smid true ∷ []) (All-cons (BackIs k) (back.Terminated task) (back.Aborted smid true ∷ []) tt (one (BackIs k) (back.Aborted smid true) tt))
        (record { tasks = All-filter (λ t. not (has_tag task t)) (TaskIs k) x.tasks h.tasks; out = h.out })
    by_test false = has_news k x (back.Aborted smid false ∷ []) (one (BackIs k) (back.Aborted smid false) tt) h
takes w k x (out.TargetReset smid address) o h =
    has_news k (record x { tasks = tasks.tasks_for_others address x.tasks }) _
    (All-append (BackIs k) (map tasks.terminated (tasks.tasks_for address x.tasks)) (back.Cleared smid _ ∷ []) (all_mapped (BackIs k) tasks.terminated (λ t. tt) (tasks.tasks_for address x.tasks)) (one (BackIs k) (back.Cleared smid _) tt))
    (record { tasks = All-filter (λ t. not (tasks.is_for address t)) (TaskIs k) x.tasks h.tasks; out = h.out })
takes w k x out.Discover o h =
    has_news k (record x { on = true }) (all_plugged x ++ back.Discovered ∷ []) (All-append (BackIs k) (all_plugged x) (back.Discovered ∷ []) (named k x _) (one (BackIs k) back.Discovered tt)) (record { tasks = h.tasks; out = h.out })
takes w k x (out.Link generation) o h = record { tasks = All-nil (TaskIs k); out = All-append (BackIs k) (filter fab.is_calm x.out) (back.Linked generation ∷ []) (All-filter fab.is_calm (BackIs k) x.out h.out) (one (BackIs k) (back.Linked generation) tt) }
takes w k x out.Stop o h = h

plugs : (k : History) (x : Fabric) (address expander phy : ℕ) → Has k x → Has k (fab.fabric_plugs x address expander phy).part
plugs k x address expander phy h = by_disk (disk_of x address)
  where
    by_refusal : (o : Option fab.PlugRefusal) (d : FabricDisk) → Has k (fab.plugs_unless o x d (record { expander = expander; phy = phy })).part
    by_refusal None d = has_notice k x.on _ _ (record { tasks = h.tasks; out = h.out })
    by_refusal (Some cause) d = h

    by_disk : (o : Option FabricDisk) → Has k (fab.plugs_disk o x expander phy).part
    by_disk None = h
    by_disk (Some d) = by_refusal (fab.plug_refusal x d expander phy) d

unplugs : (k : History) (x : Fabric) (address : ℕ) → Has k x → Has k (fab.fabric_unplugs x address).part
unplugs k x address h = by_disk (disk_of x address)
  where
    by_place : (o : Option Place) (d : FabricDisk) → Has k (fab.fabric_unplugs_from o x d).part
    by_place None d = h
    by_place (Some p) d = has_notice k x.on _ _ (has_news k _ (map tasks.gone (tasks.tasks_for d.address x.tasks)) (all_mapped (BackIs k) tasks.gone (λ t. tt) (tasks.tasks_for d.address x.tasks)) (record { tasks = All-filter (λ t. not (tasks.is_for d.address t)) (TaskIs k) x.tasks h.tasks; out = h.out }))

    by_disk : (o : Option FabricDisk) → Has k (fab.unplugs_disk o x).part
    by_disk None = h
    by_disk (Some d) = by_place d.at d

-- ---- a task that runs

module _ (w : World) (h : History) (f : Facts w h) where
  outcome_at : (n tag : ℕ) (t : Task) → find (has_tag tag) w.fabric.tasks ≡ Some t → (i : CommandOpened w h n tag) → (i.request.address ≡ t.address) → (i.request.command ≡ t.command)
      → (history_after h (entry.Run t.address tag ∷ [])).machine.outcome n ≡ Some (tasks.performed_at w.fabric t.address t.command).result
  outcome_at n tag t e i a c = subst (λ q. (after_all h.machine (step_if q (λ m. Runs m t.address) ∷ [])).outcome n ≡ Some (tasks.performed_at w.fabric t.address t.command).result) (sym i.number)
      (subst (λ q. (run_at h.machine n t.address q (h.machine.disks t.address)).outcome n ≡ Some (tasks.performed_at w.fabric t.address t.command).result) (sym i.asked) (by_disks (h.machine.disks t.address) (disk_of w.fabric t.address) refl refl (f.disks.disk t.address)))
    where
      there : is_some (place_of (h.machine.disks t.address)) ≡ true
      there = subst (λ x. is_some (place_of (h.machine.disks x)) ≡ true) a (i.stands.plugged (tasks_there tag t e))
        where
          tasks_there : (tag : ℕ) (t : Task) → find (has_tag tag) w.fabric.tasks ≡ Some t → 1 ≤ task_count tag w.fabric.tasks
          tasks_there tag t e = place.task_there tag t w.fabric.tasks e

      by_disks : (m : Option MachineDisk) (d : Option FabricDisk) → h.machine.disks t.address ≡ m → disk_of w.fabric t.address ≡ d → DiskIs (h.machine.disks t.address) (disk_of w.fabric t.address)
          → (run_at h.machine n t.address (Some i.request) (h.machine.disks t.address)).outcome n ≡ Some (tasks.performed_at w.fabric t.address t.command).result
      by_disks None d x y z = let q : is_some (place_of None) ≡ true = ap (λ o. is_some (place_of o)) (sym x) ∙ there in absurd (cc)
      by_disks (Some m) None x y z = absurd (subst (λ o. DiskIs o None) x (subst (DiskIs (h.machine.disks t.address)) y z))
      by_disks (Some m) (Some d) x y z =
          let s = subst (λ o. DiskIs o (Some d)) x (subst (DiskIs (h.machine.disks t.address)) y z) in
          ap (λ o. (run_at h.machine n t.address (Some i.request) o).outcome n) x
          ∙ (ap (λ b. if b then Some (performed m.bytes i.request.command).result else h.machine.outcome n) (same n)
          ∙ ap Some (ap (λ b. (performed b i.request.command).result) s.0 ∙ (ap (λ q. (performed d.bytes q).result) c ∙ ap (λ o. (performed (tasks.fabric_bytes_of o) t.command).result) (sym y))))

  module _ (k : History) (tag : ℕ) (t : Task) (e : find (has_tag tag) w.fabric.tasks ≡ Some t) (told : k ≡ history_after h (entry.Run t.address tag ∷ [])) (v : World) (l : Leads w h v.host k) where
    tagged : t.tag ≡ tag
    tagged = eqb-true t.tag tag (found_passes (has_tag tag) w.fabric.tasks t e)

    is_live : IsLiveTask t.address t.command (h.walk tag).known.live
    is_live = subst (λ j. IsLiveTask t.address t.command (h.walk j).known.live) tagged (found_all (TaskIs h) (has_tag tag) w.fabric.tasks t e f.messages.tasks)

    its_result : HasOutcome k (k.walk t.tag).known.live (tasks.performed_at w.fabric t.address t.command).result
    its_result = subst (λ j. HasOutcome k (k.walk j).known.live (tasks.performed_at w.fabric t.address t.command).result) (sym tagged) (by_live (h.walk tag).known.live refl is_live)
      where
        by_live : (o : Option Live) → (h.walk tag).known.live ≡ o → IsLiveTask t.address t.command o → HasOutcome k (k.walk tag).known.live (tasks.performed_at w.fabric t.address t.command).result
        by_live None g a = absurd a
        by_live (Some x) g a =
            let i = opened w h f x.number tag (live_is_open w h f tag x g) in
            let q : Some (record { number = x.number; address = i.request.address; command = i.request.command }) ≡ Some x = sym i.live ∙ g in
            let y : record { number = x.number; address = i.request.address; command = i.request.command } ≡ x = cc in
            let z = place.task_live_stays w h f v k l tag x g (place.task_there tag t w.fabric.tasks e) in
            subst (λ o. HasOutcome k o (tasks.performed_at w.fabric t.address t.command).result) (sym (z ∙ g))
            (ap (λ (m : History). m.machine.outcome x.number) told ∙ outcome_at x.number tag t e i (ap (λ (v : Live). v.address) y ∙ sym a.0) (ap (λ (v : Live). v.command) y ∙ sym a.1))

    ran : Has k w.fabric → Has k (tasks.after_task w.fabric t (tasks.performed_at w.fabric t.address t.command))
    ran a = has_news k _ (back.Result t.tag (tasks.performed_at w.fabric t.address t.command).result ∷ []) (one (BackIs k) (back.Result t.tag (tasks.performed_at w.fabric t.address t.command).result) its_result)
        (record { tasks = All-filter (λ x. not (has_tag t.tag x)) (TaskIs k) w.fabric.tasks a.tasks; out = a.out })

  -- ---- each case

  unfoldable OnCase : World → List Entry → Type 0
  OnCase v t = Leads w h v.host (history_after h t) → TasksStand v (history_after h t)

  first_of : (k : History) (xs ys : List Back) → All (BackIs k) (xs ++ ys) → All (BackIs k) xs
  first_of k xs ys a = Rattle.law_messages.proofs.Agreeing.all_first (BackIs k) xs ys a

  last_of : (k : History) (xs ys : List Back) → All (BackIs k) (xs ++ ys) → All (BackIs k) ys
  last_of k xs ys a = Rattle.law_messages.proofs.Agreeing.all_last (BackIs k) xs ys a

  module _ (v : World) (t : List Entry) (l : Leads w h v.host (history_after h t)) where
    abbrev k : History
    k = history_after h t

    tasks_now : All (TaskIs (history_after h t)) w.fabric.tasks
    tasks_now = place.tasks_stay w h f v (history_after h t) l

    backs_now : All (BackIs (history_after h t)) (back_line w)
    backs_now = place.backs_stay w h f v (history_after h t) l

    has_now : Has (history_after h t) w.fabric
    has_now = record { tasks = tasks_now; out = last_of (history_after h t) w.back w.fabric.out backs_now }

    with_fabric : (x : Fabric) → Has (history_after h t) x → All (TaskIs (history_after h t)) x.tasks × All (BackIs (history_after h t)) (w.back ++ x.out)
    with_fabric x a = (a.tasks, All-append (BackIs (history_after h t)) w.back x.out (first_of (history_after h t) w.back w.fabric.out backs_now) a.out)

  like : (v : World) (t : List Entry) → v.fabric ≡ w.fabric → v.back ≡ w.back → OnCase v t
  unfolding OnCase
  like v t e b l = record {
    tasks = subst (λ (x : Fabric). All (TaskIs (history_after h t)) x.tasks) (sym e) (tasks_now v t l);
    back = subst (λ (x : Fabric). All (BackIs (history_after h t)) (v.back ++ x.out)) (sym e) (subst (λ xs. All (BackIs (history_after h t)) (xs ++ w.fabric.out)) (sym b) (backs_now v t l));
  }

  by_fabric : (x : Fabric) (v : World) (t : List Entry) → v.fabric ≡ x → v.back ≡ w.back → (Leads w h v.host (history_after h t) → Has (history_after h t) x) → OnCase v t
  unfolding OnCase
  by_fabric x v t e b a l =
      let y = with_fabric v t l x (a l) in
      record {
        tasks = subst (λ (x : Fabric). All (TaskIs (history_after h t)) x.tasks) (sym e) y.0;
        back = subst (λ (x : Fabric). All (BackIs (history_after h t)) (v.back ++ x.out)) (sym e) (subst (λ xs. All (BackIs (history_after h t)) (xs ++ x.out)) (sym b) y.1);
      }

  notice_plain : (x : Back) → is_notice x ≡ true → is_result x ≡ false
  notice_plain (back.Result tag result) e = absurd (cc)
  notice_plain (back.Gone tag) e = refl
  notice_plain (back.Terminated tag) e = refl
  notice_plain (back.Aborted smid found) e = refl
  notice_plain (back.Cleared smid count) e = refl
  notice_plain (back.Plugged address plug expander phy) e = refl
  notice_plain (back.Unplugged address plug expander phy) e = refl
  notice_plain back.Discovered e = refl
  notice_plain (back.Linked generation) e = refl
  notice_plain back.Calm e = refl

  first_notice : (x : Back) (rest : List Back) → w.fabric.notices ≡ x ∷ rest → is_result x ≡ false
  first_notice x rest e = notice_plain x (by_test (is_notice x) refl)
    where
      by_test : (b : Bool) → is_notice x ≡ b → is_notice x ≡ true
      by_test true g = g
      by_test false g = let z = subst (λ xs. others is_notice xs ≡ 0) e f.notices.fit.kinds in let c = others-cons is_notice x rest in let o : one_if (not (is_notice x)) ≡ 1 = ap (λ b. one_if (not b)) g in absurd (omega (arith, z, c, o))

  taken_back : (x : Back) (rest : List Back) → w.back ≡ x ∷ rest → (v : World) (t : List Entry) → v.fabric ≡ w.fabric → v.back ≡ rest → OnCase v t
  unfolding OnCase
  taken_back x rest e v t a b l =
      record {
        tasks = subst (λ (x : Fabric). All (TaskIs (history_after h t)) x.tasks) (sym a) (tasks_now v t l);
        back = subst (λ (x : Fabric). All (BackIs (history_after h t)) (v.back ++ x.out)) (sym a) (subst (λ xs. All (BackIs (history_after h t)) (xs ++ w.fabric.out)) (sym b)
            (All-tail (BackIs (history_after h t)) x (rest ++ w.fabric.out) (subst (λ xs. All (BackIs (history_after h t)) (xs ++ w.fabric.out)) e (backs_now v t l))));
      }

  put_back : (x : Back) (rest : List Back) → w.fabric.out ≡ x ∷ rest → OnCase (record w { fabric = record w.fabric { out = rest }; back = w.back ++ x ∷ [] }) (entry.Put lane.Back (item.Back x) ∷ [])
  unfolding OnCase
  put_back x rest e l =
      let v = record w { fabric = record w.fabric { out = rest }; back = w.back ++ x ∷ [] } in
      let t = entry.Put lane.Back (item.Back x) ∷ [] in
      record {
        tasks = tasks_now v t l;
        back = subst (All (BackIs (history_after h t))) (sym (append_assoc w.back (x ∷ []) rest ∙ ap (λ xs. w.back ++ xs) (sym e))) (backs_now v t l);
      }

  fabric_took : (x : Out) (rest : List Out) → w.out ≡ x ∷ rest → OnCase (record w { fabric = fab.takes_out w.fabric x; out = rest }) (entry.Take lane.Out (item.Out x) ∷ [])
  fabric_took x rest e =
      let v = record w { fabric = fab.takes_out w.fabric x; out = rest } in
      let t = entry.Take lane.Out (item.Out x) ∷ [] in
      by_fabric (fab.takes_out w.fabric x) v t refl refl
      (λ l. takes v (history_after h t) w.fabric x (All-head (OutIs v (history_after h t)) x (rest ++ w.ioc.out) (subst (λ xs. All (OutIs v (history_after h t)) (xs ++ w.ioc.out)) e (place.outs_stay w h f v (history_after h t) l))) (has_now v t l))

  said_on : (x : Back) (rest : List Back) → w.fabric.notices ≡ x ∷ rest → OnCase (record w { fabric = record w.fabric { notices = rest; out = w.fabric.out ++ x ∷ [] } }) []
  said_on x rest e =
      let v = record w { fabric = record w.fabric { notices = rest; out = w.fabric.out ++ x ∷ [] } } in
      by_fabric v.fabric v [] refl refl
      (λ l. record { tasks = tasks_now v [] l; out = all_more (BackIs (history_after h [])) w.fabric.out x (has_now v [] l).out (plain (history_after h []) x (first_notice x rest e)) })

  runs_on : (tag address : ℕ) → (fab.runs w.fabric tag).answer ≡ Some address → OnCase (record w { fabric = (fab.runs w.fabric tag).part }) (entry.Run address tag ∷ [])
  runs_on tag address e = by_task (find (has_tag tag) w.fabric.tasks) refl e
    where
      by_task : (o : Option Task) → find (has_tag tag) w.fabric.tasks ≡ o → (runs_task w.fabric o).answer ≡ Some address → OnCase (record w { fabric = (runs_task w.fabric o).part }) (entry.Run address tag ∷ [])
      by_task None g c = absurd (cc)
      by_task (Some t) g c =
          let v = record w { fabric = tasks.after_task w.fabric t (tasks.performed_at w.fabric t.address t.command) } in
          let y : t.address ≡ address = cc in
          subst (λ a. OnCase v (entry.Run a tag ∷ [])) y
          (by_fabric v.fabric v (entry.Run t.address tag ∷ []) refl refl (λ l. ran (history_after h (entry.Run t.address tag ∷ [])) tag t g refl v l (has_now v (entry.Run t.address tag ∷ []) l)))

  owes : OwesTold OnCase w
  owes =
      record {
        idles = λ c. like w (entry.Idle c ∷ []) refl refl;
        host_puts = λ x rest e. like (record w { host = after_sent w.host x rest; down = w.down ++ x ∷ [] }) (entry.Put lane.Down (item.Down x) ∷ []) refl refl;
        host_takes = λ queue x rest e y. like (record (with_up w queue rest) { host = (hears_up w.host queue x).part }) (entry.Take (up_lane queue) (item.Up x) ∷ (hears_up w.host queue x).entries) refl refl;
        host_told = λ i c. like (record w { host = (host_told w.host i).part }) (host_told w.host i).entries refl refl;
        host_looks = λ e. like (record w { host = looks w.host }) [] refl refl;
        host_stops = λ e. like (record w { host = stops w.host }) [] refl refl;
        no_session = like w [] refl refl;
        ioc_takes = λ x rest e. like (record w { ioc = (adapter.takes_down w.ioc x).part; down = rest }) (entry.Take lane.Down (item.Down x) ∷ (adapter.takes_down w.ioc x).entries) refl refl;
        ioc_high = λ p rest e. like (record w { ioc = (step.works_on (record w.ioc { high = rest }) p).part }) (step.works_on (record w.ioc { high = rest }) p).entries refl refl;
        ioc_normal = λ p rest e. like (record w { ioc = (step.works_on (record w.ioc { normal = rest }) p).part }) (step.works_on (record w.ioc { normal = rest }) p).entries refl refl;
        ioc_puts_out = λ x rest e. like (record w { ioc = record w.ioc { out = rest }; out = w.out ++ x ∷ [] }) (entry.Put lane.Out (item.Out x) ∷ []) refl refl;
        ioc_takes_back = λ x rest e. taken_back x rest e (record w { ioc = (adapter.takes_back w.ioc x).part; back = rest }) (entry.Take lane.Back (item.Back x) ∷ (adapter.takes_back w.ioc x).entries) refl refl;
        ioc_puts = λ queue y rest z e u. like (with_up (record w { ioc = adapter.up_sent_on w.ioc queue }) queue (up_on w queue ++ z ∷ [])) (entry.Put (up_lane queue) (item.Up z) ∷ []) refl refl;
        fabric_takes = λ x rest e. fabric_took x rest e;
        fabric_says = λ x rest e. said_on x rest e;
        fabric_puts = λ x rest e. put_back x rest e;
        fabric_runs = λ tag address e. runs_on tag address e;
        plugs = λ address expander phy t p. by_fabric (fab.fabric_plugs w.fabric address expander phy).part (record w { fabric = (fab.fabric_plugs w.fabric address expander phy).part }) t refl refl (λ l. plugs (history_after h t) w.fabric address expander phy (has_now (record w { fabric = (fab.fabric_plugs w.fabric address expander phy).part }) t l));
        unplugs = λ address t p. by_fabric (fab.fabric_unplugs w.fabric address).part (record w { fabric = (fab.fabric_unplugs w.fabric address).part }) t refl refl (λ l. unplugs (history_after h t) w.fabric address (has_now (record w { fabric = (fab.fabric_unplugs w.fabric address).part }) t l));
        calms = by_fabric (fab.calms w.fabric) (record w { fabric = fab.calms w.fabric }) [] refl refl (λ l. has_news (history_after h []) w.fabric (back.Calm ∷ []) (one (BackIs (history_after h [])) back.Calm tt) (has_now (record w { fabric = fab.calms w.fabric }) [] l));
      }

  pub fabric_kept : NothingIsStrange w → (c : Case) → Leads w h (happens w c).host (history_after h (entries w c)) → TasksStand (happens w c) (history_after h (entries w c))
  unfolding OnCase
  fabric_kept plain c l = kept_told OnCase w plain owes c l
