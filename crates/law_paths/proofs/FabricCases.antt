-- Where the fabric's cases, and the items that are put between it and the controller, leave commands.
use Rattle.std.proofs.Common.{◌≡◌, ℕ, ◌+◌, ◌≤◌, ◌==◌, ◌||◌, not, Bool, true, false, if◌then◌else◌, List, [], ◌∷◌, ◌++◌, map, Option, Some, None, option_map, refl, ap, sym, ◌∙◌, subst, arith}
use Rattle.std.specs.Prelude.{All, filter_map}
use Rattle.std.specs.List.{cons_option, filter, find, list_any}
use Rattle.std.proofs.lemmas.List.Elements.{All-append, All-cons, All-filter, All-head, All-nil, All-tail}
use Rattle.scsi_disk.specs.declared.command.Command.{Command}
use Rattle.scsi_disk.specs.declared.scsi_result.ScsiResult.{ScsiResult}
use Rattle.smid_pool.specs.Pool.{Open, slot_of}
use Rattle.mpt_trace.specs.declared.entry.Entry.{Entry}
use Rattle.mpt_trace.specs.declared.entry.Entry.TheVariants as entry
use Rattle.mpt_trace.specs.declared.input.Input.TheVariants as input
use Rattle.mpt_trace.specs.declared.item.Back.{Back}
use Rattle.mpt_trace.specs.declared.item.Back.TheVariants as back
use Rattle.mpt_trace.specs.declared.item.Item.TheVariants as item
use Rattle.mpt_trace.specs.declared.item.Out.{Out}
use Rattle.mpt_trace.specs.declared.item.Out.TheVariants as out
use Rattle.mpt_trace.specs.declared.lane.LaneName.TheVariants as lane
use Rattle.mpt_wire.specs.Paths.Commands.{mark_if}
use Rattle.mpt_wire.specs.Paths.Stages.{PathStage, AtController, AtDisk, HasRun, Sent, stage_after, stage_if}
use Rattle.mpt_wire.specs.Paths.Table.{PathMark, PutsGone, PutsResult, PutsTask, PutsTerminated, RunsAt, TakesTask}
use Rattle.mpt_wire.specs.Walks.Passes.{EachEntry}
use Rattle.mpt_rules.specs.declared.request.Request.TheVariants as request
use Rattle.mpt_rules.specs.declared.task.Task.{Task}
use Rattle.mpt_rules.specs.Fabric.Calls as fab
use Rattle.mpt_rules.specs.Fabric.Disks.{all_plugged, disk_of, plugged_news, plugged_there, stands_at}
use Rattle.mpt_rules.specs.Fabric.Parts.{Fabric, FabricDisk, Place}
use Rattle.mpt_rules.specs.Fabric.Tasks as tasks
use Rattle.mpt_rules.specs.Fabric.Tasks.{has_tag, runs_task}
use Rattle.mpt_rules.specs.World.Counts.{how_many, one_if}
use Rattle.mpt_rules.specs.World.FabricCounts.{is_gone_of, is_result_of, is_termination_of, sent_task_count, task_count}
use Rattle.mpt_rules.specs.World.State.{World}
use Rattle.mpt_rules.proofs.FabricCounts.{gone_count-cons, result_count-cons, sent_task_count-cons, terminated_count-cons}
use Rattle.law_facts.specs.Facts.{Facts}
use Rattle.law_facts.specs.History.{History, history_after}
use Rattle.law_facts.specs.Messages.{BackIs, HasOutcome, OutIs}
use Rattle.law_facts.specs.Paths.{BackStage, stage_of}
use Rattle.law_moves.proofs.CasesTold.{IsPlugWord}
use Rattle.law_moves.proofs.Counted.{how_many-cons, how_many-nil}
use Rattle.law_messages.proofs.Agreeing.{all_last, all_more, all_one}
use Rattle.law_messages.proofs.Known.{inside}
use Rattle.law_messages.proofs.PostsKept.{found_counts, found_passes, live_is_open, run_outcomes}
use Rattle.law_messages.proofs.Requests.{IsTame, tame_outcome}
use Rattle.law_messages.proofs.TameTold.{plugs_tame}
use Rattle.mpt_wire.specs.Paths.Commands.{Live}
use Rattle.law_paths.specs.Staged.{At, MadeAt, OutAt, Staged, TaskAt}
use Rattle.law_paths.specs.Tags.{HasTag, TagsFit}
use Rattle.law_paths.proofs.Alone.{alone, on_back, spots}
use Rattle.law_paths.proofs.Clearing.{Anyone, Other, clear_all, clear_of}
use Rattle.law_paths.proofs.Entries.{IsQuiet, Silent, equal, first_leads, mark_stays, same, silent, stage_stays}
use Rattle.law_paths.proofs.Moves.{Kept, moved}
use Rattle.law_paths.proofs.Staging.{staged}
use Rattle.law_paths.proofs.TagsKept.{first_notice, lane_tags, live_within, made_tags}

pub leads_to : (c : PathStage) (b : Bool) (m : PathMark) → b ≡ true → stage_if c (mark_if b m) ≡ stage_after c m
leads_to c true m e = refl
leads_to c false m e = absurd (cc)

-- an item of the line back
abbrev pub one_back : ℕ → Back → ℕ
one_back q x = one_if (is_result_of q x) + (one_if (is_gone_of q x) + one_if (is_termination_of q x))

pub on_back-cons : (q : ℕ) (x : Back) (xs : List Back) → on_back q (x ∷ xs) ≡ one_back q x + on_back q xs
on_back-cons q x xs = let a = result_count-cons q x xs in let b = gone_count-cons q x xs in let c = terminated_count-cons q x xs in omega (arith, a, b, c)

any_tagged : (P : ℕ → Type 0) (tag : ℕ) (xs : List Task) → All (λ (t : Task). P t.tag) xs → list_any (has_tag tag) xs ≡ true → P tag
any_tagged P tag [] a e = absurd (cc)
any_tagged P tag (x ∷ xs) a e = by_test (x.tag == tag) refl e (any_tagged P tag xs (All-tail (λ (t : Task). P t.tag) x xs a))
  where
    by_test : (b : Bool) → (x.tag == tag) ≡ b → (b || list_any (has_tag tag) xs) ≡ true → (list_any (has_tag tag) xs ≡ true → P tag) → P tag
    by_test true t e g = subst P (equal x.tag tag t) (All-head (λ (t : Task). P t.tag) x xs a)
    by_test false t e g = g e

none_left : (q : ℕ) (xs : List Task) → task_count q (tasks.tasks_without q xs) ≡ 0
unfolding task_count
none_left q [] = how_many-nil (has_tag q)
none_left q (x ∷ xs) = by_test (has_tag q x) refl (none_left q xs)
  where
    by_test : (b : Bool) → has_tag q x ≡ b → how_many (has_tag q) (filter (λ t. not (has_tag q t)) xs) ≡ 0 → how_many (has_tag q) (if not b then x ∷ filter (λ t. not (has_tag q t)) xs else filter (λ t. not (has_tag q t)) xs) ≡ 0
    by_test true e h = h
    by_test false e h = let c = how_many-cons (has_tag q) x (filter (λ t. not (has_tag q t)) xs) in let o : one_if (has_tag q x) ≡ 0 = ap one_if e in omega (arith, c, o, h)

pub tag_counted : (tag : ℕ) (t : Task) (xs : List Task) → find (has_tag tag) xs ≡ Some t → 1 ≤ task_count tag xs
unfolding task_count
tag_counted tag t xs g = found_counts (has_tag tag) xs t g

plug_quiet : (t : List Entry) → EachEntry IsPlugWord t → EachEntry IsQuiet t
plug_quiet [] p = tt
plug_quiet (e ∷ t) p = (one e p.0, plug_quiet t p.1)
  where
    one : (e : Entry) → IsPlugWord e → IsQuiet e
    one (entry.Given (input.Plug a x y)) p = tt
    one (entry.Given (input.Unplug a)) p = tt
    one (entry.Given input.Start) p = tt
    one (entry.Given (input.Submit n a form)) p = tt
    one (entry.Given (input.Abort n)) p = tt
    one (entry.Given (input.TargetReset a)) p = tt
    one (entry.Given input.Reset) p = tt
    one (entry.Given input.UnitReset) p = tt
    one (entry.Refuse call cause) p = tt
    one (entry.Idle x) p = tt
    one (entry.Put l x) p = absurd p
    one (entry.Take l x) p = absurd p
    one (entry.Bind handle a k) p = tt
    one (entry.Unbind handle) p = tt
    one entry.UnbindAll p = tt
    one (entry.Run a k) p = absurd p
    one entry.HostUp p = tt
    one (entry.Ready a handle) p = tt
    one (entry.Lost a handle) p = tt
    one (entry.Accept n a k) p = absurd p
    one (entry.RefuseSubmit n cause) p = tt
    one (entry.Answer n how) p = tt
    one (entry.AbortEnd n how) p = tt
    one (entry.TargetEnd a how) p = tt
    one entry.ResetDone p = tt

-- ---- the fabric by itself

module _ (v : World) (k : History) where
  record Has (x : Fabric) : Type 0 where
    tasks : All (TaskAt v k) x.tasks
    made : All (MadeAt v k) x.out

  each_mapped : (g : Task → Back) → ((t : Task) → TaskAt v k t → MadeAt v k (g t)) → (xs : List Task) → All (TaskAt v k) xs → All (MadeAt v k) (map g xs)
  each_mapped g f [] a = All-nil (MadeAt v k)
  each_mapped g f (x ∷ xs) a = All-cons (MadeAt v k) (g x) (map g xs) (f x (All-head (TaskAt v k) x xs a)) (each_mapped g f xs (All-tail (TaskAt v k) x xs a))

  has_news : (x : Fabric) (news : List Back) → All (MadeAt v k) news → Has x → Has (tasks.told_also x news)
  has_news x news a h = record { tasks = h.tasks; made = All-append (MadeAt v k) x.out news h.made a }

  has_notice : (b : Bool) (y : Back) (x : Fabric) → Has x → Has (fab.with_notice b y x)
  has_notice true y x h = record { tasks = h.tasks; made = h.made }
  has_notice false y x h = h

  plugs_named : (fabric : Fabric) (places : List Place) → All (MadeAt v k) (filter_map (plugged_there fabric) places)
  plugs_named fabric [] = All-nil (MadeAt v k)
  plugs_named fabric (p ∷ ps) = by_disk (find (stands_at p.expander p.phy) fabric.disks) (filter_map (plugged_there fabric) ps) (plugs_named fabric ps)
    where
      by_disk : (o : Option FabricDisk) (ys : List Back) → All (MadeAt v k) ys → All (MadeAt v k) (cons_option (option_map (λ disk. plugged_news disk p) o) ys)
      by_disk None ys a = a
      by_disk (Some d) ys a = All-cons (MadeAt v k) (plugged_news d p) ys tt a

  task_taken : (x : Fabric) (tag address : ℕ) (command : Command) → At v k AtDisk tag → Has x → (b : Bool) → Has (tasks.with_task_taken_if b x tag address command)
  task_taken x tag address command a h true = record { tasks = all_more (TaskAt v k) x.tasks (record { tag = tag; address = address; command = command }) h.tasks a; made = h.made }
  task_taken x tag address command a h false = has_news x (back.Gone tag ∷ []) (all_one (MadeAt v k) (back.Gone tag) a) h

  aborted : (x : Fabric) (smid task : ℕ) → Has x → (b : Bool) → list_any (has_tag task) x.tasks ≡ b → Has (tasks.after_abort_if b x smid task)
  aborted x smid task h true e =
      has_news (record x { tasks = tasks.tasks_without task x.tasks }) (back.Terminated task ∷ back.Aborted smid true ∷ [])
      (All-cons (MadeAt v k) (back.Terminated task) (back.Aborted smid true ∷ []) (any_tagged (At v k AtDisk) task x.tasks h.tasks e) (all_one (MadeAt v k) (back.Aborted smid true) tt))
      (record { tasks = All-filter (λ t. not (has_tag task t)) (TaskAt v k) x.tasks h.tasks; made = h.made })
  aborted x smid task h false e = has_news x (back.Aborted smid false ∷ []) (all_one (MadeAt v k) (back.Aborted smid false) tt) h

  cleared : (x : Fabric) (smid address : ℕ) → Has x → Has (tasks.clears x smid address)
  cleared x smid address h =
      has_news (record x { tasks = tasks.tasks_for_others address x.tasks }) _
      (All-append (MadeAt v k) (map tasks.terminated (tasks.tasks_for address x.tasks)) (back.Cleared smid _ ∷ []) (each_mapped tasks.terminated (λ t a. a) (tasks.tasks_for address x.tasks) (All-filter (tasks.is_for address) (TaskAt v k) x.tasks h.tasks)) (all_one (MadeAt v k) (back.Cleared smid _) tt))
      (record { tasks = All-filter (λ t. not (tasks.is_for address t)) (TaskAt v k) x.tasks h.tasks; made = h.made })

  discovered : (x : Fabric) → Has x → Has (fab.after_discover x)
  discovered x h = has_news (record x { on = true }) (all_plugged x ++ back.Discovered ∷ []) (All-append (MadeAt v k) (all_plugged x) (back.Discovered ∷ []) (plugs_named x _) (all_one (MadeAt v k) back.Discovered tt)) (record { tasks = h.tasks; made = h.made })

  linked : (x : Fabric) (generation : ℕ) → Has x → Has (fab.after_link x generation)
  linked x generation h = record { tasks = All-nil (TaskAt v k); made = All-append (MadeAt v k) (filter fab.is_calm x.out) (back.Linked generation ∷ []) (All-filter fab.is_calm (MadeAt v k) x.out h.made) (all_one (MadeAt v k) (back.Linked generation) tt) }

  plugs : (x : Fabric) (address expander phy : ℕ) → Has x → Has (fab.fabric_plugs x address expander phy).part
  plugs x address expander phy h = by_disk (disk_of x address)
    where
      by_refusal : (o : Option fab.PlugRefusal) (d : FabricDisk) → Has (fab.plugs_unless o x d (record { expander = expander; phy = phy })).part
      by_refusal None d = has_notice x.on _ _ (record { tasks = h.tasks; made = h.made })
      by_refusal (Some cause) d = h

      by_disk : (o : Option FabricDisk) → Has (fab.plugs_disk o x expander phy).part
      by_disk None = h
      by_disk (Some d) = by_refusal (fab.plug_refusal x d expander phy) d

  unplugs : (x : Fabric) (address : ℕ) → Has x → Has (fab.fabric_unplugs x address).part
  unplugs x address h = by_disk (disk_of x address)
    where
      by_place : (o : Option Place) (d : FabricDisk) → Has (fab.fabric_unplugs_from o x d).part
      by_place None d = h
      by_place (Some p) d = has_notice x.on _ _ (has_news _ (map tasks.gone (tasks.tasks_for d.address x.tasks)) (each_mapped tasks.gone (λ t a. a) (tasks.tasks_for d.address x.tasks) (All-filter (tasks.is_for d.address) (TaskAt v k) x.tasks h.tasks)) (record { tasks = All-filter (λ t. not (tasks.is_for d.address t)) (TaskAt v k) x.tasks h.tasks; made = h.made }))

      by_disk : (o : Option FabricDisk) → Has (fab.unplugs_disk o x).part
      by_disk None = h
      by_disk (Some d) = by_place d.at d

  -- all but what the fabric has stays
  with_fabric : (x : World) (y : Fabric) → Staged v k x → Has y → Staged v k (record x { fabric = y })
  with_fabric x y z h = record { out = z.out; down = z.down; normal = z.normal; sending = z.sending; sent = z.sent; tasks = h.tasks; made = h.made; back = z.back; said = z.said; up = z.up }

-- ---- over the world

module _ (w : World) (h : History) (f : Facts w h) (tags : TagsFit w) where
  pub begin : Staged w h w
  begin = staged w h f

  -- where the host has its records as before
  pub as_before : (Apart : ℕ → Type 0) (v : World) (t : List Entry) → v.host.pool ≡ w.host.pool → ((s : ℕ) → Apart s → Silent s t) → ((n : ℕ) (r : ScsiResult) → h.machine.outcome n ≡ Some r → (history_after h t).machine.outcome n ≡ Some r)
      → Kept w h v (history_after h t) Apart
  as_before Apart v t e q o =
      record {
        stage = λ s a. stage_stays h t s (q s a);
        mark = λ s a. mark_stays h t s (q s a);
        was = λ s n a g. subst (λ p. slot_of p s ≡ Open (request.Command n)) e g;
        outcome = λ s n r a g y. o n r y;
      }

  pub tame_out : (t : List Entry) → EachEntry IsTame t → (n : ℕ) (r : ScsiResult) → h.machine.outcome n ≡ Some r → (history_after h t).machine.outcome n ≡ Some r
  tame_out t a n r y = ap (λ o. o n) (tame_outcome (record { machine = h.machine; so_far = h.so_far }) t a) ∙ y

  -- entries that name no command
  pub quietly : (v : World) (t : List Entry) → v.host.pool ≡ w.host.pool → ((s : ℕ) → Silent s t) → EachEntry IsTame t → Staged v (history_after h t) w
  quietly v t e q a = moved w h v (history_after h t) Anyone (as_before Anyone v t e (λ s u. q s) (tame_out t a)) w (clear_all w) begin

  -- entries that name q, whose item is out of x
  pub by_name : (q : ℕ) (v : World) (t : List Entry) (x : World) → v.host.pool ≡ w.host.pool → ((s : ℕ) → (s == q) ≡ false → Silent s t) → EachEntry IsTame t → spots x q ≡ 0 → Staged w h x → Staged v (history_after h t) x
  by_name q v t x e s a z y = moved w h v (history_after h t) (Other q) (as_before (Other q) v t e s (tame_out t a)) x (clear_of q x z) y

  -- ---- from the controller to the fabric

  pub idles : (c : Rattle.mpt_trace.specs.declared.choice.Choice.Choice) → Staged w (history_after h (entry.Idle c ∷ [])) w
  idles c = quietly w (entry.Idle c ∷ []) refl (λ s. (refl, tt)) (tt, tt)

  pub puts_out : (x : Out) (rest : List Out) → w.ioc.out ≡ x ∷ rest → Staged (record w { ioc = record w.ioc { out = rest }; out = w.out ++ x ∷ [] }) (history_after h (entry.Put lane.Out (item.Out x) ∷ [])) (record w { ioc = record w.ioc { out = rest }; out = w.out ++ x ∷ [] })
  puts_out x rest e = by_item x e
    where
      into : (x : Out) (k : History) (v : World) → OutAt v k Sent x → Staged v k (record w { ioc = record w.ioc { out = rest } }) → Staged v k (record w { ioc = record w.ioc { out = rest }; out = w.out ++ x ∷ [] })
      into x k v a z = record { out = z.out; down = z.down; normal = z.normal; sending = z.sending; sent = all_more (OutAt v k Sent) w.out x z.sent a; tasks = z.tasks; made = z.made; back = z.back; said = z.said; up = z.up }

      less : (x : Out) (k : History) (v : World) → w.ioc.out ≡ x ∷ rest → Staged v k w → Staged v k (record w { ioc = record w.ioc { out = rest } })
      less x k v e z = record { out = z.out; down = z.down; normal = z.normal; sending = All-tail (OutAt v k AtController) x rest (subst (All (OutAt v k AtController)) e z.sending); sent = z.sent; tasks = z.tasks; made = z.made; back = z.back; said = z.said; up = z.up }

      plain : (x : Out) → w.ioc.out ≡ x ∷ rest → ((s : ℕ) → Silent s (entry.Put lane.Out (item.Out x) ∷ [])) → ((v : World) (k : History) → OutAt v k Sent x)
          → Staged (record w { ioc = record w.ioc { out = rest }; out = w.out ++ x ∷ [] }) (history_after h (entry.Put lane.Out (item.Out x) ∷ [])) (record w { ioc = record w.ioc { out = rest }; out = w.out ++ x ∷ [] })
      plain x e q a =
          let v = record w { ioc = record w.ioc { out = rest }; out = w.out ++ x ∷ [] } in
          let k = history_after h (entry.Put lane.Out (item.Out x) ∷ []) in
          into x k v (a v k) (less x k v e (quietly v (entry.Put lane.Out (item.Out x) ∷ []) refl q (tt, tt)))

      by_item : (x : Out) → w.ioc.out ≡ x ∷ rest → Staged (record w { ioc = record w.ioc { out = rest }; out = w.out ++ x ∷ [] }) (history_after h (entry.Put lane.Out (item.Out x) ∷ [])) (record w { ioc = record w.ioc { out = rest }; out = w.out ++ x ∷ [] })
      by_item (out.Task tag address command) e =
          let x = out.Task tag address command in
          let v = record w { ioc = record w.ioc { out = rest }; out = w.out ++ x ∷ [] } in
          let t = entry.Put lane.Out (item.Out x) ∷ [] in
          let i = live_within w h f tags tag address command (All-head (OutIs w h) x rest (subst (All (OutIs w h)) e (all_last (OutIs w h) w.out w.ioc.out f.messages.out))) in
          let a = alone w h f.flights tag i.0 i.1 in
          let c = sent_task_count-cons tag x rest in
          let o : one_if (tag == tag) ≡ 1 = ap one_if (same tag) in
          let g = ap (sent_task_count tag) e in
          let z : spots (record w { ioc = record w.ioc { out = rest } }) tag ≡ 0 = omega (arith, a, c, o, g) in
          into x (history_after h t) v (λ y. first_leads h tag (entry.Put lane.Out (item.Out x)) [] tt ∙ leads_to (stage_of h tag) (tag == tag) (PutsTask address command) (same tag))
          (by_name tag v t (record w { ioc = record w.ioc { out = rest } }) refl (λ s n. (n, tt)) (tt, tt) z (less x h w e begin))
      by_item (out.Abort smid task) e = plain (out.Abort smid task) e (λ s. (refl, tt)) (λ v k. tt)
      by_item (out.TargetReset smid address) e = plain (out.TargetReset smid address) e (λ s. (refl, tt)) (λ v k. tt)
      by_item out.Discover e = plain out.Discover e (λ s. (refl, tt)) (λ v k. tt)
      by_item (out.Link generation) e = plain (out.Link generation) e (λ s. (refl, tt)) (λ v k. tt)
      by_item out.Stop e = plain out.Stop e (λ s. (refl, tt)) (λ v k. tt)

  pub takes_out : (x : Out) (rest : List Out) → w.out ≡ x ∷ rest → Staged (record w { fabric = fab.takes_out w.fabric x; out = rest }) (history_after h (entry.Take lane.Out (item.Out x) ∷ [])) (record w { fabric = fab.takes_out w.fabric x; out = rest })
  takes_out x rest e = by_item x e
    where
      less : (x : Out) (k : History) (v : World) → w.out ≡ x ∷ rest → Staged v k w → Staged v k (record w { out = rest })
      less x k v e z = record { out = z.out; down = z.down; normal = z.normal; sending = z.sending; sent = All-tail (OutAt v k Sent) x rest (subst (All (OutAt v k Sent)) e z.sent); tasks = z.tasks; made = z.made; back = z.back; said = z.said; up = z.up }

      plain : (x : Out) → w.out ≡ x ∷ rest → ((s : ℕ) → Silent s (entry.Take lane.Out (item.Out x) ∷ [])) → ((v : World) (k : History) → Has v k w.fabric → Has v k (fab.takes_out w.fabric x))
          → Staged (record w { fabric = fab.takes_out w.fabric x; out = rest }) (history_after h (entry.Take lane.Out (item.Out x) ∷ [])) (record w { fabric = fab.takes_out w.fabric x; out = rest })
      plain x e q a =
          let v = record w { fabric = fab.takes_out w.fabric x; out = rest } in
          let k = history_after h (entry.Take lane.Out (item.Out x) ∷ []) in
          let z = less x k v e (quietly v (entry.Take lane.Out (item.Out x) ∷ []) refl q (tt, tt)) in
          with_fabric v k (record w { out = rest }) (fab.takes_out w.fabric x) z (a v k (record { tasks = z.tasks; made = z.made }))

      by_item : (x : Out) → w.out ≡ x ∷ rest → Staged (record w { fabric = fab.takes_out w.fabric x; out = rest }) (history_after h (entry.Take lane.Out (item.Out x) ∷ [])) (record w { fabric = fab.takes_out w.fabric x; out = rest })
      by_item (out.Task tag address command) e =
          let x = out.Task tag address command in
          let v = record w { fabric = fab.takes_out w.fabric x; out = rest } in
          let t = entry.Take lane.Out (item.Out x) ∷ [] in
          let k = history_after h t in
          let i = live_within w h f tags tag address command (All-head (OutIs w h) x (rest ++ w.ioc.out) (subst (λ xs. All (OutIs w h) (xs ++ w.ioc.out)) e f.messages.out)) in
          let a = alone w h f.flights tag i.0 i.1 in
          let c = sent_task_count-cons tag x rest in
          let o : one_if (tag == tag) ≡ 1 = ap one_if (same tag) in
          let g = ap (sent_task_count tag) e in
          let n : spots (record w { out = rest }) tag ≡ 0 = omega (arith, a, c, o, g) in
          let z = by_name tag v t (record w { out = rest }) refl (λ s n. (n, tt)) (tt, tt) n (less x h w e begin) in
          with_fabric v k (record w { out = rest }) (fab.takes_out w.fabric x) z
          (task_taken v k w.fabric tag address command (λ y. first_leads h tag (entry.Take lane.Out (item.Out x)) [] tt ∙ leads_to (stage_of h tag) (tag == tag) (TakesTask address command) (same tag)) (record { tasks = z.tasks; made = z.made }) (tasks.may_queue w.fabric tag address))
      by_item (out.Abort smid task) e = plain (out.Abort smid task) e (λ s. (refl, tt)) (λ v k a. aborted v k w.fabric smid task a (tasks.is_queued w.fabric task) refl)
      by_item (out.TargetReset smid address) e = plain (out.TargetReset smid address) e (λ s. (refl, tt)) (λ v k a. cleared v k w.fabric smid address a)
      by_item out.Discover e = plain out.Discover e (λ s. (refl, tt)) (λ v k a. discovered v k w.fabric a)
      by_item (out.Link generation) e = plain (out.Link generation) e (λ s. (refl, tt)) (λ v k a. linked v k w.fabric generation a)
      by_item out.Stop e = plain out.Stop e (λ s. (refl, tt)) (λ v k a. a)

  -- ---- the fabric by itself

  fabric_alone : (y : Fabric) (t : List Entry) → ((s : ℕ) → Silent s t) → EachEntry IsTame t → ((v : World) (k : History) → Has v k w.fabric → Has v k y) → Staged (record w { fabric = y }) (history_after h t) (record w { fabric = y })
  fabric_alone y t q a g =
      let v = record w { fabric = y } in let k = history_after h t in
      let z = quietly v t refl q a in
      with_fabric v k w y z (g v k (record { tasks = z.tasks; made = z.made }))

  pub plugged : (address expander phy : ℕ) (t : List Entry) → EachEntry IsPlugWord t → Staged (record w { fabric = (fab.fabric_plugs w.fabric address expander phy).part }) (history_after h t) (record w { fabric = (fab.fabric_plugs w.fabric address expander phy).part })
  plugged address expander phy t p = fabric_alone (fab.fabric_plugs w.fabric address expander phy).part t (λ s. silent s t (plug_quiet t p)) (plugs_tame t p) (λ v k a. plugs v k w.fabric address expander phy a)

  pub unplugged : (address : ℕ) (t : List Entry) → EachEntry IsPlugWord t → Staged (record w { fabric = (fab.fabric_unplugs w.fabric address).part }) (history_after h t) (record w { fabric = (fab.fabric_unplugs w.fabric address).part })
  unplugged address t p = fabric_alone (fab.fabric_unplugs w.fabric address).part t (λ s. silent s t (plug_quiet t p)) (plugs_tame t p) (λ v k a. unplugs v k w.fabric address a)

  pub calmed : Staged (record w { fabric = fab.calms w.fabric }) (history_after h []) (record w { fabric = fab.calms w.fabric })
  calmed = fabric_alone (fab.calms w.fabric) [] (λ s. tt) tt (λ v k a. has_news v k w.fabric (back.Calm ∷ []) (all_one (MadeAt v k) back.Calm tt) a)

  made_plain : (v : World) (k : History) (x : Back) → Rattle.law_paths.proofs.TagsKept.is_ended x ≡ false → Rattle.law_paths.proofs.TagsKept.is_result x ≡ false → MadeAt v k x
  made_plain v k (back.Result tag result) e g = absurd (cc)
  made_plain v k (back.Gone tag) e g = absurd (cc)
  made_plain v k (back.Terminated tag) e g = absurd (cc)
  made_plain v k (back.Aborted smid found) e g = tt
  made_plain v k (back.Cleared smid count) e g = tt
  made_plain v k (back.Plugged address plug expander phy) e g = tt
  made_plain v k (back.Unplugged address plug expander phy) e g = tt
  made_plain v k back.Discovered e g = tt
  made_plain v k (back.Linked generation) e g = tt
  made_plain v k back.Calm e g = tt

  pub says : (x : Back) (rest : List Back) → w.fabric.notices ≡ x ∷ rest → Staged (record w { fabric = record w.fabric { notices = rest; out = w.fabric.out ++ x ∷ [] } }) (history_after h []) (record w { fabric = record w.fabric { notices = rest; out = w.fabric.out ++ x ∷ [] } })
  says x rest e =
      fabric_alone (record w.fabric { notices = rest; out = w.fabric.out ++ x ∷ [] }) [] (λ s. tt) tt
      (λ v k a. record { tasks = a.tasks; made = all_more (MadeAt v k) w.fabric.out x a.made (let n = first_notice w h f tags x rest e in made_plain v k x n.0 n.1) })

  pub runs : (tag address : ℕ) → (fab.runs w.fabric tag).answer ≡ Some address → Staged (record w { fabric = (fab.runs w.fabric tag).part }) (history_after h (entry.Run address tag ∷ [])) (record w { fabric = (fab.runs w.fabric tag).part })
  runs tag address e = by_task (find (has_tag tag) w.fabric.tasks) refl e
    where
      by_task : (o : Option Task) → find (has_tag tag) w.fabric.tasks ≡ o → (runs_task w.fabric o).answer ≡ Some address → Staged (record w { fabric = (runs_task w.fabric o).part }) (history_after h (entry.Run address tag ∷ [])) (record w { fabric = (runs_task w.fabric o).part })
      by_task None g c = absurd (cc)
      by_task (Some t) g c =
          let y = tasks.after_task w.fabric t (tasks.performed_at w.fabric t.address t.command) in
          let v = record w { fabric = y } in
          let es = entry.Run address tag ∷ [] in
          let k = history_after h es in
          let x : World = record w { fabric = record w.fabric { tasks = tasks.tasks_without t.tag w.fabric.tasks } } in
          let q : t.tag ≡ tag = equal t.tag tag (found_passes (has_tag tag) w.fabric.tasks t g) in
          let i = Rattle.law_paths.proofs.TagsKept.task_within w h f tags tag t g in
          let a = alone w h f.flights tag i.0 i.1 in
          let b = tag_counted tag t w.fabric.tasks g in
          let n : task_count tag (tasks.tasks_without t.tag w.fabric.tasks) ≡ 0 = subst (λ j. task_count tag (tasks.tasks_without j w.fabric.tasks) ≡ 0) (sym q) (none_left tag w.fabric.tasks) in
          let m : spots x tag ≡ 0 = omega (arith, a, b, n) in
          let left : Staged w h x = record { out = (begin).out; down = (begin).down; normal = (begin).normal; sending = (begin).sending; sent = (begin).sent; tasks = All-filter (λ u. not (has_tag t.tag u)) (TaskAt w h) w.fabric.tasks (begin).tasks; made = (begin).made; back = (begin).back; said = (begin).said; up = (begin).up } in
          let z = moved w h v k (Other tag) (as_before (Other tag) v es refl (λ s u. (u, tt)) (λ u r s. run_outcomes w h f tag address e u r s)) x (clear_of tag x m) left in
          let new : At v k HasRun t.tag = subst (At v k HasRun) (sym q) (λ u. first_leads h tag (entry.Run address tag) [] tt ∙ leads_to (stage_of h tag) (tag == tag) (RunsAt address) (same tag)) in
          with_fabric v k x y z (has_news v k (record w.fabric { disks = _; tasks = tasks.tasks_without t.tag w.fabric.tasks }) (back.Result t.tag _ ∷ []) (all_one (MadeAt v k) (back.Result t.tag _) new) (record { tasks = z.tasks; made = z.made }))

  -- ---- from the fabric to the controller

  pub puts_back : (x : Back) (rest : List Back) → w.fabric.out ≡ x ∷ rest → Staged (record w { fabric = record w.fabric { out = rest }; back = w.back ++ x ∷ [] }) (history_after h (entry.Put lane.Back (item.Back x) ∷ [])) (record w { fabric = record w.fabric { out = rest }; back = w.back ++ x ∷ [] })
  puts_back x rest e = by_item x e
    where
      into : (x : Back) (k : History) (v : World) → BackStage k x → Staged v k (record w { fabric = record w.fabric { out = rest } }) → Staged v k (record w { fabric = record w.fabric { out = rest }; back = w.back ++ x ∷ [] })
      into x k v a z = record { out = z.out; down = z.down; normal = z.normal; sending = z.sending; sent = z.sent; tasks = z.tasks; made = z.made; back = all_more (BackStage k) w.back x z.back a; said = z.said; up = z.up }

      less : (x : Back) (k : History) (v : World) → w.fabric.out ≡ x ∷ rest → Staged v k w → Staged v k (record w { fabric = record w.fabric { out = rest } })
      less x k v e z = record { out = z.out; down = z.down; normal = z.normal; sending = z.sending; sent = z.sent; tasks = z.tasks; made = All-tail (MadeAt v k) x rest (subst (All (MadeAt v k)) e z.made); back = z.back; said = z.said; up = z.up }

      plain : (x : Back) → w.fabric.out ≡ x ∷ rest → ((s : ℕ) → Silent s (entry.Put lane.Back (item.Back x) ∷ [])) → ((k : History) → BackStage k x)
          → Staged (record w { fabric = record w.fabric { out = rest }; back = w.back ++ x ∷ [] }) (history_after h (entry.Put lane.Back (item.Back x) ∷ [])) (record w { fabric = record w.fabric { out = rest }; back = w.back ++ x ∷ [] })
      plain x e q a =
          let v : World = record w { fabric = record w.fabric { out = rest }; back = w.back ++ x ∷ [] } in
          let k = history_after h (entry.Put lane.Back (item.Back x) ∷ []) in
          into x k v (a k) (less x k v e (quietly v (entry.Put lane.Back (item.Back x) ∷ []) refl q (tt, tt)))

      named : (q : ℕ) (x : Back) → w.fabric.out ≡ x ∷ rest → (1 ≤ q) × (q ≤ 280) → one_back q x ≡ 1 → ((s : ℕ) → (s == q) ≡ false → Silent s (entry.Put lane.Back (item.Back x) ∷ [])) → BackStage (history_after h (entry.Put lane.Back (item.Back x) ∷ [])) x
          → Staged (record w { fabric = record w.fabric { out = rest }; back = w.back ++ x ∷ [] }) (history_after h (entry.Put lane.Back (item.Back x) ∷ [])) (record w { fabric = record w.fabric { out = rest }; back = w.back ++ x ∷ [] })
      named q x e i o s b =
          let v : World = record w { fabric = record w.fabric { out = rest }; back = w.back ++ x ∷ [] } in
          let t = entry.Put lane.Back (item.Back x) ∷ [] in
          let a = alone w h f.flights q i.0 i.1 in
          let c = on_back-cons q x rest in
          let g = ap (on_back q) e in
          let z : spots (record w { fabric = record w.fabric { out = rest } }) q ≡ 0 = omega (arith, a, c, g, o) in
          into x (history_after h t) v b (by_name q v t (record w { fabric = record w.fabric { out = rest } }) refl s (tt, tt) z (less x h w e begin))

      first_tag : (x : Back) → w.fabric.out ≡ x ∷ rest → HasTag x
      first_tag x e = All-head HasTag x rest (subst (All HasTag) e (made_tags w h f tags))

      result_within : (tag : ℕ) (r : ScsiResult) → HasOutcome h (h.walk tag).known.live r → (1 ≤ tag) × (tag ≤ 280)
      result_within tag r a = by_live (h.walk tag).known.live refl a
        where
          by_live : (o : Option Live) → (h.walk tag).known.live ≡ o → HasOutcome h o r → (1 ≤ tag) × (tag ≤ 280)
          by_live None e a = absurd a
          by_live (Some l) e a = inside w h f tag (request.Command l.number) (live_is_open w h f tag l e)

      by_item : (x : Back) → w.fabric.out ≡ x ∷ rest → Staged (record w { fabric = record w.fabric { out = rest }; back = w.back ++ x ∷ [] }) (history_after h (entry.Put lane.Back (item.Back x) ∷ [])) (record w { fabric = record w.fabric { out = rest }; back = w.back ++ x ∷ [] })
      by_item (back.Result tag r) e =
          named tag (back.Result tag r) e (result_within tag r (All-head (BackIs h) (back.Result tag r) rest (subst (All (BackIs h)) e (all_last (BackIs h) w.back w.fabric.out f.messages.back)))) (let i : one_if (tag == tag) ≡ 1 = ap one_if (same tag) in omega (arith, i)) (λ s n. (n, tt))
          (first_leads h tag (entry.Put lane.Back (item.Back (back.Result tag r))) [] tt ∙ leads_to (stage_of h tag) (tag == tag) (PutsResult r) (same tag))
      by_item (back.Gone tag) e =
          named tag (back.Gone tag) e (first_tag (back.Gone tag) e) (let i : one_if (tag == tag) ≡ 1 = ap one_if (same tag) in omega (arith, i)) (λ s n. (n, tt)) (first_leads h tag (entry.Put lane.Back (item.Back (back.Gone tag))) [] tt ∙ leads_to (stage_of h tag) (tag == tag) PutsGone (same tag))
      by_item (back.Terminated tag) e =
          named tag (back.Terminated tag) e (first_tag (back.Terminated tag) e) (let i : one_if (tag == tag) ≡ 1 = ap one_if (same tag) in omega (arith, i)) (λ s n. (n, tt)) (first_leads h tag (entry.Put lane.Back (item.Back (back.Terminated tag))) [] tt ∙ leads_to (stage_of h tag) (tag == tag) PutsTerminated (same tag))
      by_item (back.Aborted smid found) e = plain (back.Aborted smid found) e (λ s. (refl, tt)) (λ k. tt)
      by_item (back.Cleared smid count) e = plain (back.Cleared smid count) e (λ s. (refl, tt)) (λ k. tt)
      by_item (back.Plugged address plug expander phy) e = plain (back.Plugged address plug expander phy) e (λ s. (refl, tt)) (λ k. tt)
      by_item (back.Unplugged address plug expander phy) e = plain (back.Unplugged address plug expander phy) e (λ s. (refl, tt)) (λ k. tt)
      by_item back.Discovered e = plain back.Discovered e (λ s. (refl, tt)) (λ k. tt)
      by_item (back.Linked generation) e = plain (back.Linked generation) e (λ s. (refl, tt)) (λ k. tt)
      by_item back.Calm e = plain back.Calm e (λ s. (refl, tt)) (λ k. tt)
