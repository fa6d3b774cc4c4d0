-- Each case keeps that what the fabric tells of tasks that ended is of identifiers that there are.
use Rattle.std.proofs.Common.{◌≡◌, ℕ, ◌≤◌, not, Bool, true, false, List, [], ◌∷◌, ◌++◌, append_assoc, map, Option, Some, None, option_map, refl, ap, sym, ◌∙◌, subst, arith}
use Rattle.std.specs.Prelude.{All, filter_map}
use Rattle.std.specs.List.{cons_option, filter, find}
use Rattle.std.proofs.lemmas.List.Elements.{All-append, All-cons, All-filter, All-head, All-nil, All-tail}
use Rattle.smid_pool.specs.Pool.{Free, Open, Parked, Slot}
use Rattle.mpt_wire.specs.Paths.Commands.{Live}
use Rattle.mpt_trace.specs.declared.item.Back.{Back}
use Rattle.mpt_trace.specs.declared.item.Back.TheVariants as back
use Rattle.mpt_trace.specs.declared.item.Out.{Out}
use Rattle.mpt_trace.specs.declared.item.Out.TheVariants as out
use Rattle.mpt_rules.specs.declared.request.Request.TheVariants as request
use Rattle.mpt_rules.specs.declared.task.Task.{Task}
use Rattle.mpt_rules.specs.Fabric.Calls as fab
use Rattle.mpt_rules.specs.Fabric.Disks.{all_plugged, disk_of, plugged_news, plugged_there, stands_at}
use Rattle.mpt_rules.specs.Fabric.Parts.{Fabric, FabricDisk, Place}
use Rattle.mpt_rules.specs.Fabric.Tasks as tasks
use Rattle.mpt_rules.specs.Fabric.Tasks.{has_tag, runs_task}
use Rattle.mpt_rules.specs.Law.{NothingIsStrange}
use Rattle.mpt_rules.specs.World.Cases.{Case, happens}
use Rattle.mpt_rules.specs.World.Counts.{one_if}
use Rattle.mpt_rules.specs.World.Settings.{Setting, first_world}
use Rattle.mpt_rules.specs.World.State.{World}
use Rattle.law_facts.specs.Facts.{Facts}
use Rattle.law_facts.specs.History.{History}
use Rattle.law_facts.specs.Messages.{AbortSent, IsLiveTask, OutIs, TaskIs}
use Rattle.law_facts.specs.Notices.{is_notice}
use Rattle.law_facts.specs.Words.{others, slot}
use Rattle.law_moves.proofs.Cases.{Owes, kept}
use Rattle.law_moves.proofs.Counted.{others-cons}
use Rattle.law_messages.proofs.Agreeing.{all_first, all_last, all_one, all_same}
use Rattle.law_messages.proofs.Known.{inside}
use Rattle.law_messages.proofs.PostsKept.{found_all, found_passes, live_is_open}
use Rattle.law_standing.proofs.PostsPass.{named}
use Rattle.law_paths.specs.Tags.{HasTag, TagsFit}

abbrev pub is_ended : Back → Bool
is_ended (back.Gone tag) = true
is_ended (back.Terminated tag) = true
is_ended item = false

abbrev pub is_result : Back → Bool
is_result (back.Result tag result) = true
is_result item = false

pub plain : (x : Back) → is_ended x ≡ false → HasTag x
plain (back.Result tag result) e = tt
plain (back.Gone tag) e = absurd (cc)
plain (back.Terminated tag) e = absurd (cc)
plain (back.Aborted smid found) e = tt
plain (back.Cleared smid count) e = tt
plain (back.Plugged address plug expander phy) e = tt
plain (back.Unplugged address plug expander phy) e = tt
plain back.Discovered e = tt
plain (back.Linked generation) e = tt
plain back.Calm e = tt

notice_plain : (x : Back) → is_notice x ≡ true → (is_ended x ≡ false) × (is_result x ≡ false)
notice_plain (back.Result tag result) e = absurd (cc)
notice_plain (back.Gone tag) e = absurd (cc)
notice_plain (back.Terminated tag) e = absurd (cc)
notice_plain (back.Aborted smid found) e = (refl, refl)
notice_plain (back.Cleared smid count) e = (refl, refl)
notice_plain (back.Plugged address plug expander phy) e = (refl, refl)
notice_plain (back.Unplugged address plug expander phy) e = (refl, refl)
notice_plain back.Discovered e = (refl, refl)
notice_plain (back.Linked generation) e = (refl, refl)
notice_plain back.Calm e = (refl, refl)

plugs_named : (fabric : Fabric) (places : List Place) → All HasTag (filter_map (plugged_there fabric) places)
plugs_named fabric [] = All-nil HasTag
plugs_named fabric (p ∷ ps) = by_disk (find (stands_at p.expander p.phy) fabric.disks) (filter_map (plugged_there fabric) ps) (plugs_named fabric ps)
  where
    by_disk : (o : Option FabricDisk) (ys : List Back) → All HasTag ys → All HasTag (cons_option (option_map (λ disk. plugged_news disk p) o) ys)
    by_disk None ys a = a
    by_disk (Some d) ys a = All-cons HasTag (plugged_news d p) ys tt a

abbrev Fits : Task → Type 0
Fits t = (1 ≤ t.tag) × (t.tag ≤ 280)

each_mapped : (g : Task → Back) → ((t : Task) → Fits t → HasTag (g t)) → (xs : List Task) → All Fits xs → All HasTag (map g xs)
each_mapped g f [] a = All-nil HasTag
each_mapped g f (x ∷ xs) a = All-cons HasTag (g x) (map g xs) (f x (All-head Fits x xs a)) (each_mapped g f xs (All-tail Fits x xs a))

-- ---- the fabric by itself

module _ (x : Fabric) (ts : All Fits x.tasks) (g : All HasTag x.out) where
  more : (news : List Back) → All HasTag news → All HasTag (x.out ++ news)
  more news a = All-append HasTag x.out news g a

  with_notice : (b : Bool) (y : Back) (x2 : Fabric) → All HasTag x2.out → All HasTag (fab.with_notice b y x2).out
  with_notice true y x2 a = a
  with_notice false y x2 a = a

  plugs : (address expander phy : ℕ) → All HasTag (fab.fabric_plugs x address expander phy).part.out
  plugs address expander phy = by_disk (disk_of x address)
    where
      by_refusal : (o : Option fab.PlugRefusal) (d : FabricDisk) → All HasTag (fab.plugs_unless o x d (record { expander = expander; phy = phy })).part.out
      by_refusal None d = with_notice x.on _ _ g
      by_refusal (Some cause) d = g

      by_disk : (o : Option FabricDisk) → All HasTag (fab.plugs_disk o x expander phy).part.out
      by_disk None = g
      by_disk (Some d) = by_refusal (fab.plug_refusal x d expander phy) d

  unplugs : (address : ℕ) → All HasTag (fab.fabric_unplugs x address).part.out
  unplugs address = by_disk (disk_of x address)
    where
      by_place : (o : Option Place) (d : FabricDisk) → All HasTag (fab.fabric_unplugs_from o x d).part.out
      by_place None d = g
      by_place (Some p) d = with_notice x.on _ _ (more (map tasks.gone (tasks.tasks_for d.address x.tasks)) (each_mapped tasks.gone (λ t a. a) (tasks.tasks_for d.address x.tasks) (All-filter (tasks.is_for d.address) Fits x.tasks ts)))

      by_disk : (o : Option FabricDisk) → All HasTag (fab.unplugs_disk o x).part.out
      by_disk None = g
      by_disk (Some d) = by_place d.at d

  task_taken : (tag address : ℕ) (command : Rattle.scsi_disk.specs.declared.command.Command.Command) → (1 ≤ tag) × (tag ≤ 280) → (b : Bool) → All HasTag (tasks.with_task_taken_if b x tag address command).out
  task_taken tag address command i true = g
  task_taken tag address command i false = more (back.Gone tag ∷ []) (all_one HasTag (back.Gone tag) i)

  aborted : (smid task : ℕ) → (1 ≤ task) × (task ≤ 280) → (b : Bool) → All HasTag (tasks.after_abort_if b x smid task).out
  aborted smid task i true = more (back.Terminated task ∷ back.Aborted smid true ∷ []) (All-cons HasTag (back.Terminated task) (back.Aborted smid true ∷ []) i (all_one HasTag (back.Aborted smid true) tt))
  aborted smid task i false = more (back.Aborted smid false ∷ []) (all_one HasTag (back.Aborted smid false) tt)

  takes : (item : Out) → ((tag address : ℕ) (command : Rattle.scsi_disk.specs.declared.command.Command.Command) → item ≡ out.Task tag address command → (1 ≤ tag) × (tag ≤ 280)) → ((smid task : ℕ) → item ≡ out.Abort smid task → (1 ≤ task) × (task ≤ 280)) → All HasTag (fab.takes_out x item).out
  takes (out.Task tag address command) i j = task_taken tag address command (i tag address command refl) (tasks.may_queue x tag address)
  takes (out.Abort smid task) i j = aborted smid task (j smid task refl) (tasks.is_queued x task)
  takes (out.TargetReset smid address) i j =
      more _ (All-append HasTag (map tasks.terminated (tasks.tasks_for address x.tasks)) (back.Cleared smid _ ∷ []) (each_mapped tasks.terminated (λ t a. a) (tasks.tasks_for address x.tasks) (All-filter (tasks.is_for address) Fits x.tasks ts)) (all_one HasTag (back.Cleared smid _) tt))
  takes out.Discover i j = more (all_plugged x ++ back.Discovered ∷ []) (All-append HasTag (all_plugged x) (back.Discovered ∷ []) (plugs_named x _) (all_one HasTag back.Discovered tt))
  takes (out.Link generation) i j = All-append HasTag (filter fab.is_calm x.out) (back.Linked generation ∷ []) (All-filter fab.is_calm HasTag x.out g) (all_one HasTag (back.Linked generation) tt)
  takes out.Stop i j = g

  runs : (tag : ℕ) → All HasTag (fab.runs x tag).part.out
  runs tag = by_task (find (has_tag tag) x.tasks)
    where
      by_task : (o : Option Task) → All HasTag (runs_task x o).part.out
      by_task None = g
      by_task (Some t) = more (back.Result t.tag _ ∷ []) (all_one HasTag (back.Result t.tag _) tt)

-- ---- over the world

module _ (w : World) (h : History) (f : Facts w h) (tags : TagsFit w) where
  pub live_within : (tag address : ℕ) (command : Rattle.scsi_disk.specs.declared.command.Command.Command) → IsLiveTask address command (h.walk tag).known.live → (1 ≤ tag) × (tag ≤ 280)
  live_within tag address command a = by_live (h.walk tag).known.live refl a
    where
      by_live : (o : Option Live) → (h.walk tag).known.live ≡ o → IsLiveTask address command o → (1 ≤ tag) × (tag ≤ 280)
      by_live None e a = absurd a
      by_live (Some l) e a = inside w h f tag (request.Command l.number) (live_is_open w h f tag l e)

  pub tasks_within : All Fits w.fabric.tasks
  tasks_within = all_same (TaskIs h) Fits (λ t a. live_within t.tag t.address t.command a) w.fabric.tasks f.messages.tasks

  pub task_within : (tag : ℕ) (t : Task) → find (has_tag tag) w.fabric.tasks ≡ Some t → (1 ≤ tag) × (tag ≤ 280)
  task_within tag t e = subst (λ j. (1 ≤ j) × (j ≤ 280)) (Rattle.law_paths.proofs.Entries.equal t.tag tag (found_passes (has_tag tag) w.fabric.tasks t e)) (found_all Fits (has_tag tag) w.fabric.tasks t e tasks_within)

  aborts_within : (smid task : ℕ) → AbortSent task (slot w.host smid) → (1 ≤ task) × (task ≤ 280)
  aborts_within smid task a = by_slot (slot w.host smid) refl a
    where
      by_slot : (x : Slot Rattle.mpt_rules.specs.declared.request.Request.Request) → slot w.host smid ≡ x → AbortSent task x → (1 ≤ task) × (task ≤ 280)
      by_slot Free e a = absurd a
      by_slot Parked e a = absurd a
      by_slot (Open (request.Abort n t)) e a = let y = named w h f smid n t e in (omega (arith, y, a), omega (arith, y, a))
      by_slot (Open (request.Command n)) e a = absurd a
      by_slot (Open (request.TargetReset address)) e a = absurd a
      by_slot (Open (request.Leave handle)) e a = absurd a
      by_slot (Open (request.Page handle)) e a = absurd a
      by_slot (Open (request.Remove handle)) e a = absurd a
      by_slot (Open (request.Ack ev context)) e a = absurd a
      by_slot (Open request.Notification) e a = absurd a
      by_slot (Open request.PortEnable) e a = absurd a

  pub lane_tags : All HasTag w.back
  lane_tags = all_first HasTag w.back w.fabric.out tags

  pub made_tags : All HasTag w.fabric.out
  made_tags = all_last HasTag w.back w.fabric.out tags

  with_out : (xs : List Back) → All HasTag xs → All HasTag (w.back ++ xs)
  with_out xs a = All-append HasTag w.back xs lane_tags a

  pub first_notice : (x : Back) (rest : List Back) → w.fabric.notices ≡ x ∷ rest → (is_ended x ≡ false) × (is_result x ≡ false)
  first_notice x rest e = notice_plain x (by_test (is_notice x) refl)
    where
      by_test : (b : Bool) → is_notice x ≡ b → is_notice x ≡ true
      by_test true g = g
      by_test false g = let z = subst (λ xs. others is_notice xs ≡ 0) e f.notices.fit.kinds in let c = others-cons is_notice x rest in let o : one_if (not (is_notice x)) ≡ 1 = ap (λ b. one_if (not b)) g in absurd (omega (arith, z, c, o))

  sent_is : (x : Out) (rest : List Out) → w.out ≡ x ∷ rest → OutIs w h x
  sent_is x rest e = All-head (OutIs w h) x (rest ++ w.ioc.out) (subst (λ xs. All (OutIs w h) (xs ++ w.ioc.out)) e f.messages.out)

  owes : Owes TagsFit w
  owes =
      record {
        host_puts = λ x rest e. tags;
        host_takes = λ queue x rest e y. tags;
        host_told = λ i c. tags;
        host_looks = λ e. tags;
        host_stops = λ e. tags;
        ioc_takes = λ x rest e. tags;
        ioc_high = λ p rest e. tags;
        ioc_normal = λ p rest e. tags;
        ioc_puts_out = λ x rest e. tags;
        ioc_takes_back = λ x rest e. All-tail HasTag x (rest ++ w.fabric.out) (subst (λ xs. All HasTag (xs ++ w.fabric.out)) e tags);
        ioc_puts = λ queue y rest z e u. tags;
        fabric_takes = λ x rest e.
            with_out _ (takes w.fabric tasks_within made_tags x
            (λ tag address command i. live_within tag address command (subst (OutIs w h) i (sent_is x rest e)))
            (λ smid task i. aborts_within smid task (subst (OutIs w h) i (sent_is x rest e))));
        fabric_says = λ x rest e. with_out _ (All-append HasTag w.fabric.out (x ∷ []) made_tags (all_one HasTag x (plain x (let n = first_notice x rest e in n.0))));
        fabric_puts = λ x rest e. subst (All HasTag) (sym (append_assoc w.back (x ∷ []) rest ∙ ap (λ xs. w.back ++ xs) (sym e))) tags;
        fabric_runs = λ tag address e. with_out _ (runs w.fabric tasks_within made_tags tag);
        plugs = λ address expander phy. with_out _ (plugs w.fabric tasks_within made_tags address expander phy);
        unplugs = λ address. with_out _ (unplugs w.fabric tasks_within made_tags address);
        calms = with_out _ (All-append HasTag w.fabric.out (back.Calm ∷ []) made_tags (all_one HasTag back.Calm tt));
      }

  pub tags_kept : NothingIsStrange w → (c : Case) → TagsFit (happens w c)
  tags_kept plain c = kept TagsFit w plain owes tags c

pub tags_at_first : (s : Setting) → TagsFit (first_world s)
tags_at_first s = All-nil HasTag
