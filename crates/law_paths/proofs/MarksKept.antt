-- Each case keeps that an abort which waits in its queue has set the mark of the command that it names.
use Rattle.std.proofs.Common.{◌≡◌, ℕ, ◌^◌, ◌<◌, ◌≤◌, ◌==◌, ◌&&◌, ◌⊎◌, inl, inr, not, Bool, true, false, if◌then◌else◌, List, [], ◌∷◌, ◌++◌, get_or, Option, Some, None, refl, ap, sym, ◌∙◌, subst, arith}
use Rattle.std.specs.Prelude.{All}
use Rattle.std.specs.FinMap as finmap
use Rattle.std.specs.FinSet as finset
use Rattle.std.proofs.lemmas.List.Elements.{All-cons, All-head, All-nil, All-tail}
use Rattle.mpi_doorbell.specs.DoorRegisters.{is_fault}
use Rattle.mpi_rings.specs.declared.request_descriptor.PostKind.TheVariants as post
use Rattle.mpt_messages.specs.Function.{byte_of}
use Rattle.mpt_messages.specs.declared.function.Function.TheVariants as function
use Rattle.mpt_messages.specs.declared.host_ask.HostAsk.TheVariants as ask
use Rattle.mpt_messages.proofs.FrameStands.{host_frame_stands}
use Rattle.mpt_messages.proofs.HostFits.{task_fits}
use Rattle.scsi_msgs.specs.TaskAsk.{task_ask_layout, task_ask_values}
use Rattle.smid_pool.specs.Pool.{Free, Open, Parked, Slot, slot_of}
use Rattle.mpt_trace.specs.declared.entry.Entry.{Entry}
use Rattle.mpt_trace.specs.declared.entry.Entry.TheVariants as entry
use Rattle.mpt_trace.specs.declared.item.Back.{Back}
use Rattle.mpt_trace.specs.declared.item.Down.{Down}
use Rattle.mpt_trace.specs.declared.item.Down.TheVariants as down
use Rattle.mpt_trace.specs.declared.item.Item.TheVariants as item
use Rattle.mpt_trace.specs.declared.lane.LaneName.TheVariants as lane
use Rattle.mpt_wire.specs.Messages.Fields.{abort_task, dev_handle_in, function_in, kind_in, smid_in, task_mid_in, task_type_in}
use Rattle.mpt_wire.specs.Messages.Naming.{is_abort_of, is_high_priority}
use Rattle.mpt_wire.specs.Paths.Commands.{Live, answer_mark, live_mark, path_mark_of, put_mark, take_mark}
use Rattle.mpt_wire.specs.Paths.Stages.{Walk, stopped_if, walk_next}
use Rattle.mpt_wire.specs.Paths.Table.{TakesAbort}
use Rattle.mpt_wire.specs.Walks.Passes.{EachEntry, state_after}
use Rattle.mpt_rules.specs.declared.post.Post.{Post}
use Rattle.mpt_rules.specs.declared.request.Request.{Request}
use Rattle.mpt_rules.specs.declared.request.Request.TheVariants as request
use Rattle.mpt_rules.specs.Host.Parts.{Cmd}
use Rattle.mpt_rules.specs.Host.Posts.{frame_asked}
use Rattle.mpt_rules.specs.Fabric.Calls as fab
use Rattle.mpt_rules.specs.Host.Returns.{after_sent}
use Rattle.mpt_rules.specs.Host.Takes.{hears_up, looks, stops}
use Rattle.mpt_rules.specs.Ioc.Steps as step
use Rattle.mpt_rules.specs.Ioc.Tables.{is_post_of}
use Rattle.mpt_rules.specs.Ioc.Takes as adapter
use Rattle.mpt_rules.specs.Law.{NothingIsStrange}
use Rattle.mpt_rules.specs.World.Cases.{Case, entries, happens}
use Rattle.mpt_rules.specs.World.Counts.{one_if, queued_count}
use Rattle.mpt_rules.specs.World.Inputs.{host_told}
use Rattle.mpt_rules.specs.World.Lines.{is_high}
use Rattle.mpt_rules.specs.World.State.{World, up_lane, up_on, with_up}
use Rattle.mpt_rules.proofs.Counts.{queued_count-nil}
use Rattle.law_facts.specs.Clock.{is_linked_up}
use Rattle.law_facts.specs.Facts.{Facts}
use Rattle.law_facts.specs.Flights.{AbortNames, Flights, NamesOpen}
use Rattle.law_facts.specs.History.{History, history_after}
use Rattle.law_facts.specs.Messages.{DownIsRecord, PostIs, PostIsRecord}
use Rattle.law_facts.specs.Paths.{AbortWasTaken}
use Rattle.law_facts.specs.Words.{is_command_asked, is_post, others, slot}
use Rattle.law_asked.proofs.Firm.{firm_by_places, not_live_there, stays}
use Rattle.law_asked.proofs.Lists.{counts_first, counts_more, each_counted}
use Rattle.law_doors.proofs.Whole.{whole_kept}
use Rattle.law_flights.proofs.Decode.{mid_asked}
use Rattle.law_messages.proofs.Agreeing.{all_same, not_both}
use Rattle.law_messages.proofs.IocQueues.{queued_back, queued_down, queued_works}
use Rattle.law_messages.proofs.Known.{inside}
use Rattle.law_messages.proofs.Leads.{Accepts, Ends, Goes, Leads}
use Rattle.law_messages.proofs.PostsKept.{known_live}
use Rattle.law_messages.proofs.Requests.{IsNoAccept}
use Rattle.law_messages.proofs.Shown.{leads}
use Rattle.law_messages.proofs.TameTold as tame
use Rattle.law_moves.proofs.CasesTold.{OwesTold, kept_told}
use Rattle.law_moves.proofs.Counted.{others-cons}
use Rattle.law_returns.proofs.Whole.{flights_kept}
use Rattle.law_standing.proofs.PostsPass.{named}
use Rattle.law_paths.specs.Paths.{FurtherPaths, MarksStand}
use Rattle.law_paths.specs.Tags.{TagsFit}
use Rattle.law_paths.proofs.Alone.{followed}
use Rattle.law_paths.proofs.Clearing.{none_pass}
use Rattle.law_paths.proofs.Entries.{equal, same, stopped_stays}
use Rattle.law_paths.proofs.HostCases.{accepted_kept, all_are_free, hears_quietly, told_quiet_of}
use Rattle.law_paths.proofs.Moves.{asked_is, is_asked}
use Rattle.law_paths.proofs.PlainKept.{quiet_all, tame_all}
use Rattle.law_paths.proofs.PostKinds.{small_of_task, task_kind}
use Rattle.law_paths.proofs.Staging.{counted_has}

-- ---- without an accept a mark stays

entry_mark : (s : ℕ) (g : Walk) (e : Entry) → IsNoAccept e → g.stopped ≡ true → (walk_next s g e).stopped ≡ true
entry_mark s g (entry.Given i) n y = y
entry_mark s g (entry.Idle x) n y = y
entry_mark s g (entry.Bind handle a p) n y = y
entry_mark s g (entry.Unbind handle) n y = y
entry_mark s g entry.UnbindAll n y = y
entry_mark s g entry.HostUp n y = y
entry_mark s g (entry.Ready a handle) n y = y
entry_mark s g (entry.Lost a handle) n y = y
entry_mark s g (entry.RefuseSubmit m cause) n y = y
entry_mark s g (entry.Refuse call cause) n y = y
entry_mark s g (entry.AbortEnd m how) n y = y
entry_mark s g (entry.TargetEnd a how) n y = y
entry_mark s g entry.ResetDone n y = y
entry_mark s g (entry.Answer m how) n y = stopped_stays g.stopped (answer_mark g.known.live m how) y
entry_mark s g (entry.Put l x) n y = stopped_stays g.stopped (put_mark s x) y
entry_mark s g (entry.Take l x) n y = stopped_stays g.stopped (path_mark_of s g.known.live (entry.Take l x)) y
entry_mark s g (entry.Run a tag) n y = stopped_stays g.stopped (path_mark_of s g.known.live (entry.Run a tag)) y
entry_mark s g (entry.Accept m a k) n y = absurd n

marks_stay : (s : ℕ) (g : Walk) (t : List Entry) → EachEntry IsNoAccept t → g.stopped ≡ true → (state_after (walk_next s) g t).stopped ≡ true
marks_stay s g [] a y = y
marks_stay s g (e ∷ t) a y = marks_stay s (walk_next s g e) t a.1 (entry_mark s g e a.0 y)

-- ---- what an abort's post says

function_of_abort : (handle task : ℕ) → handle < 2 ^ 16 → 1 ≤ task → task ≤ 256 → function_in (frame_asked (ask.Task handle abort_task task)) ≡ byte_of function.TaskManagement
unfolding task_ask_layout task_ask_values
function_of_abort handle task l a b = ap (λ vs. get_or vs 2 0) (host_frame_stands (ask.Task handle abort_task task) (task_fits handle abort_task task l (inl (refl, a, b)))).numbers

type_of_abort : (handle task : ℕ) → handle < 2 ^ 16 → 1 ≤ task → task ≤ 256 → task_type_in (frame_asked (ask.Task handle abort_task task)) ≡ abort_task
unfolding task_ask_layout task_ask_values
type_of_abort handle task l a b = ap (λ vs. get_or vs 4 0) (host_frame_stands (ask.Task handle abort_task task) (task_fits handle abort_task task l (inl (refl, a, b)))).numbers

module _ (w : World) (h : History) (f : Facts w h) where
  pub open_of : (p : Post) → PostIsRecord w h p → (r : Request) × (slot w.host (smid_in p.descriptor) ≡ Open r)
  open_of p a = by_slot (slot w.host (smid_in p.descriptor)) refl a
    where
      by_slot : (x : Slot Request) → slot w.host (smid_in p.descriptor) ≡ x → PostIs w h p x → (r : Request) × (slot w.host (smid_in p.descriptor) ≡ Open r)
      by_slot Free e a = absurd a
      by_slot Parked e a = absurd a
      by_slot (Open r) e a = (r, e)

  asked_high : (q : ℕ) → 1 ≤ queued_count q w.ioc.high → (r : Request) × (slot w.host q ≡ Open r)
  unfolding queued_count
  asked_high q c =
      counted_has (is_post_of q) (PostIsRecord w h) ((r : Request) × (slot w.host q ≡ Open r))
      (λ p t a. subst (λ j. (r : Request) × (slot w.host j ≡ Open r)) (equal (smid_in p.descriptor) q t) (open_of p a)) w.ioc.high f.messages.high c

  -- posts of the high queue, or one that comes
  abbrev Here : (ℕ → Type 0) → Post → Type 0
  Here New p = is_high p.descriptor ≡ true → (1 ≤ queued_count (smid_in p.descriptor) w.ioc.high) ⊎ New (smid_in p.descriptor)

  highs_here : (New : ℕ → Type 0) → All (Here New) w.ioc.high
  unfolding queued_count
  highs_here New =
      all_same (λ (p : Post). 1 ≤ queued_count (smid_in p.descriptor) w.ioc.high) (Here New) (λ p t e. inl t) w.ioc.high
      (each_counted (λ (p : Post) ys. 1 ≤ queued_count (smid_in p.descriptor) ys) (λ p ys. counts_first (is_post_of (smid_in p.descriptor)) p ys (same (smid_in p.descriptor))) (λ p y ys t. counts_more (is_post_of (smid_in p.descriptor)) y ys t) w.ioc.high)

  normals_here : (New : ℕ → Type 0) → All (Here New) w.ioc.normal
  normals_here New = all_same (λ (p : Post). is_high p.descriptor ≡ false) (Here New) (λ p n e. not_both (is_high p.descriptor) n e) w.ioc.normal (none_pass (λ (p : Post). is_high p.descriptor) w.ioc.normal f.flights.sorted.normal)

  all_high : (xs : List Post) → others (λ (p : Post). is_high p.descriptor) xs ≡ 0 → All (λ (p : Post). is_high p.descriptor ≡ true) xs
  all_high [] z = All-nil (λ (p : Post). is_high p.descriptor ≡ true)
  all_high (p ∷ xs) z =
      let c = others-cons (λ (p : Post). is_high p.descriptor) p xs in
      All-cons (λ (p : Post). is_high p.descriptor ≡ true) p xs (by_test (is_high p.descriptor) (omega (arith, c, z))) (all_high xs (omega (arith, c, z)))
    where
      by_test : (b : Bool) → one_if (not b) ≡ 0 → b ≡ true
      by_test true z = refl
      by_test false z = absurd (omega (arith, z))

  abbrev Where : (ℕ → Type 0) → ℕ → Type 0
  Where New q = (1 ≤ queued_count q w.ioc.high) ⊎ New q

  where_is : (New : ℕ → Type 0) (xs : List Post) → others (λ (p : Post). is_high p.descriptor) xs ≡ 0 → All (Here New) xs → (q : ℕ) → 1 ≤ queued_count q xs → Where New q
  unfolding queued_count
  where_is New xs z a q c =
      counted_has (is_post_of q) (λ (p : Post). Here New p × (is_high p.descriptor ≡ true)) ((1 ≤ queued_count q w.ioc.high) ⊎ New q)
      (λ p t b. subst (λ j. (1 ≤ queued_count j w.ioc.high) ⊎ New j) (equal (smid_in p.descriptor) q t) (b.0 b.1)) xs
      (Rattle.law_asked.proofs.Lists.all_both (Here New) (λ (p : Post). is_high p.descriptor ≡ true) xs a (all_high xs z)) c

  module _ (tags : TagsFit w) (v : World) (t : List Entry) (l : Leads w h v.host (history_after h t)) (z : Flights v (history_after h t)) (New : ℕ → Type 0)
      (silent : ((n : ℕ) → finset.contains w.host.accepted n ≡ false → finmap.get v.host.cmds n ≡ None) → EachEntry IsNoAccept t)
      (highs : All (Here New) v.ioc.high)
      (fresh : (q n task : ℕ) → New q → slot v.host q ≡ Open (request.Abort n task) → is_command_asked (slot v.host task) ≡ true → ((history_after h t).walk task).stopped ≡ true) where
    unlinked : (q : ℕ) → 1 ≤ queued_count q w.ioc.high → is_linked_up w ≡ true → ⊥
    unlinked q c e =
        let b = not_live_there w h f e in
        let n = ap (queued_count q) (f.clock.tables_empty b.2).high in let m = queued_count-nil q in omega (arith, c, n, m)

    there : (q n task : ℕ) → 1 ≤ queued_count q w.ioc.high → slot v.host q ≡ Open (request.Abort n task) → slot w.host q ≡ Open (request.Abort n task)
    there q n task c e =
        let o = asked_high q c in
        let s = stays w h f v q o.0 (firm_by_places w h f q o.0 o.1 (omega (arith, c)) (unlinked q c)) (history_after h t) l in
        o.1 ∙ (sym s.opens ∙ e)

    not_free : (q n task : ℕ) → slot w.host q ≡ Open (request.Abort n task) → slot w.host task ≡ Free → ⊥
    not_free q n task o e = let i = inside w h f q (request.Abort n task) o in by_cmd (finmap.get w.host.cmds n) refl (subst (AbortNames w) o (f.flights.identifiers q i.0 i.1).names)
      where
        by_cmd : (c : Option Cmd) → finmap.get w.host.cmds n ≡ c → NamesOpen w task c → ⊥
        by_cmd None g y = let x : Free ≡ Parked = sym e ∙ y in cc
        by_cmd (Some c) g y = let x : Free ≡ Open (request.Command n) = sym e ∙ subst (λ j. slot w.host j ≡ Open (request.Command n)) y ((f.flights.numbers n).command c g) in cc

    old : (q n task : ℕ) → 1 ≤ queued_count q w.ioc.high → slot v.host q ≡ Open (request.Abort n task) → is_command_asked (slot v.host task) ≡ true → ((history_after h t).walk task).stopped ≡ true
    old q n task c e d = by_leads l
      where
        o : slot w.host q ≡ Open (request.Abort n task)
        o = there q n task c e

        before : is_command_asked (slot w.host task) ≡ true → (h.walk task).stopped ≡ true
        before g = subst (AbortWasTaken w h q) (there q n task c e) (f.paths.taken q) c g

        by_leads : Leads w h v.host (history_after h t) → ((history_after h t).walk task).stopped ≡ true
        by_leads (Goes hand a fo) =
            let m = asked_is (slot v.host task) d in
            marks_stay task (h.walk task) t (silent (λ j i. closed j i (finmap.get v.host.cmds j) refl)) (before (is_asked (slot w.host task) m.0 (followed w h f v (history_after h t) z hand fo task m.0 m.1).0))
          where
            closed : (j : ℕ) → finset.contains w.host.accepted j ≡ false → (x : Option Cmd) → finmap.get v.host.cmds j ≡ x → x ≡ None
            closed j i None u = refl
            closed j i (Some x) u = let y = fo.less_cmds j x u in let b = Rattle.law_messages.proofs.HostAsks.not_open w h f (history_after h []) j i in let k : None ≡ Some x = sym b ∙ y in absurd (cc)
        by_leads (Ends u p b g i) = let m = asked_is (slot v.host task) d in let x : Free ≡ Open (request.Command m.0) = sym (all_are_free task) ∙ (sym (ap (λ pool. slot_of pool task) p) ∙ m.1) in absurd (cc)
        by_leads (Accepts n2 a s handle plug form y) = by_key (task == s) refl
          where
            by_key : (b : Bool) → (task == s) ≡ b → ((history_after h t).walk task).stopped ≡ true
            by_key true i = absurd (not_free q n task (there q n task c e) (subst (λ j. slot w.host j ≡ Free) (sym (equal task s i)) y.least.free))
            by_key false i =
                let k = accepted_kept w h f tags v (history_after h t) n2 a s handle plug form y in
                let m = asked_is (slot v.host task) d in
                k.mark task i (before (is_asked (slot w.host task) m.0 (k.was task m.0 i m.1)))

    pub marked : (q : ℕ) → AbortWasTaken v (history_after h t) q (slot v.host q)
    marked q = by_slot (slot v.host q) refl
      where
        by_place : (n task : ℕ) → slot v.host q ≡ Open (request.Abort n task) → is_command_asked (slot v.host task) ≡ true → (1 ≤ queued_count q w.ioc.high) ⊎ New q → ((history_after h t).walk task).stopped ≡ true
        by_place n task e d (inl c) = old q n task c e d
        by_place n task e d (inr y) = fresh q n task y e d

        by_slot : (x : Slot Request) → slot v.host q ≡ x → AbortWasTaken v (history_after h t) q x
        by_slot Free e = tt
        by_slot Parked e = tt
        by_slot (Open (request.Abort n task)) e = λ c d. by_place n task e d (where_is New v.ioc.high z.sorted.high highs q c)
        by_slot (Open (request.Command n)) e = tt
        by_slot (Open (request.TargetReset address)) e = tt
        by_slot (Open (request.Leave handle)) e = tt
        by_slot (Open (request.Page handle)) e = tt
        by_slot (Open (request.Remove handle)) e = tt
        by_slot (Open (request.Ack ev context)) e = tt
        by_slot (Open request.Notification) e = tt
        by_slot (Open request.PortEnable) e = tt

  -- ---- over all cases

  abbrev Never : ℕ → Type 0
  Never q = ⊥

  module _ (plain : NothingIsStrange w) (tags : TagsFit w) where
    OnCase : World → List Entry → Type 0
    OnCase v t = is_fault v.ioc.door.state ≡ false → Leads w h v.host (history_after h t) → Flights v (history_after h t) → (q : ℕ) → AbortWasTaken v (history_after h t) q (slot v.host q)

    -- no abort comes
    by : (v : World) (t : List Entry) → (((n : ℕ) → finset.contains w.host.accepted n ≡ false → finmap.get v.host.cmds n ≡ None) → EachEntry IsNoAccept t) → All (Here Never) v.ioc.high → OnCase v t
    unfolding OnCase
    by v t s a n l z = marked tags v t l z Never s a (λ q m task x e d. absurd x)

    same_high : (v : World) (t : List Entry) → v.ioc.high ≡ w.ioc.high → EachEntry IsNoAccept t → OnCase v t
    same_high v t e a = by v t (λ u. a) (subst (All (Here Never)) (sym e) (highs_here Never))

    posted : (d : ℕ) (g p : List ℕ) (rest : List Down) → w.down ≡ down.Post d g p ∷ rest → OnCase (record w { ioc = (adapter.takes_down w.ioc (down.Post d g p)).part; down = rest }) (entry.Take lane.Down (item.Down (down.Post d g p)) ∷ [])
    unfolding OnCase
    posted d g p rest e n l z =
        marked tags (record w { ioc = (adapter.takes_down w.ioc (down.Post d g p)).part; down = rest }) (entry.Take lane.Down (item.Down (down.Post d g p)) ∷ []) l z (λ q. q ≡ smid_in d) (λ u. (tt, tt))
        (queued_down (Here (λ q. q ≡ smid_in d)) w.ioc (down.Post d g p) f.doorbell.sound.waits f.clock.phase_table.whole n (λ d2 g2 p2 i k. inr (same_smid d2 g2 p2 i)) (highs_here (λ q. q ≡ smid_in d), normals_here (λ q. q ≡ smid_in d))).0
        (λ q m task i o c. comes q m task i o c)
      where
        same_smid : (d2 : ℕ) (g2 p2 : List ℕ) → down.Post d g p ≡ down.Post d2 g2 p2 → smid_in d2 ≡ smid_in d
        same_smid d2 g2 p2 i = let j : d ≡ d2 = cc in ap smid_in (sym j)

        written : PostIsRecord w h (record { descriptor = d; frame = g; payload = p })
        written = All-head (DownIsRecord w h) (down.Post d g p) (rest ++ w.host.out) (subst (λ xs. All (DownIsRecord w h) (xs ++ w.host.out)) e f.messages.down)

        comes : (q m task : ℕ) → q ≡ smid_in d → slot w.host q ≡ Open (request.Abort m task) → is_command_asked (slot w.host task) ≡ true → ((history_after h (entry.Take lane.Down (item.Down (down.Post d g p)) ∷ [])).walk task).stopped ≡ true
        comes q m task i o c =
            let o2 = subst (λ j. slot w.host j ≡ Open (request.Abort m task)) i o in
            let a = subst (PostIs w h (record { descriptor = d; frame = g; payload = p })) o2 written in
            let t = a.0 in
            let b = named w h f (smid_in d) m task o2 in
            let s = subst (λ x. dev_handle_in x < 2 ^ 16) (sym t.1) (small_of_task (dev_handle_in g) abort_task task) in
            let kd = task_kind w h f (record { descriptor = d; frame = g; payload = p }) abort_task task t in
            let fn = ap function_in t.1 ∙ function_of_abort (dev_handle_in g) task s b.0 b.1 in
            let ty = ap task_type_in t.1 ∙ type_of_abort (dev_handle_in g) task s b.0 b.1 in
            let md = ap task_mid_in t.1 ∙ mid_asked (dev_handle_in g) task s (omega (arith, b)) in
            let r = known_live w h f (asked_is (slot w.host task) c).0 task (asked_is (slot w.host task) c).1 in
            mark_set task (abort_test task kd fn ty md) r.0 r.1
          where
            abort_test : (task : ℕ) → kind_in d ≡ Some post.HighPriority → function_in g ≡ byte_of function.TaskManagement → task_type_in g ≡ abort_task → task_mid_in g ≡ task → is_abort_of task (item.Down (down.Post d g p)) ≡ true
            abort_test task kd fn ty md =
                ap (λ o. is_high_priority o && function_in g == byte_of function.TaskManagement && task_type_in g == abort_task && task_mid_in g == task) kd
                ∙ (ap (λ x. true && x == byte_of function.TaskManagement && task_type_in g == abort_task && task_mid_in g == task) fn
                ∙ (ap (λ x. true && x == abort_task && task_mid_in g == task) ty ∙ ap (λ x. true && x == task) md ∙ same task))

            mark_set : (task : ℕ) → is_abort_of task (item.Down (down.Post d g p)) ≡ true → (x : Live) → (h.walk task).known.live ≡ Some x → (walk_next task (h.walk task) (entry.Take lane.Down (item.Down (down.Post d g p)))).stopped ≡ true
            mark_set task b x y =
                ap (λ i. stopped_if (h.walk task).stopped (if i then live_mark (h.walk task).known.live TakesAbort else take_mark task (item.Down (down.Post d g p)))) b
                ∙ ap (λ i. stopped_if (h.walk task).stopped (live_mark i TakesAbort)) y

    others_took : (x : Down) (rest : List Down) → is_post x ≡ false → OnCase (record w { ioc = (adapter.takes_down w.ioc x).part; down = rest }) (entry.Take lane.Down (item.Down x) ∷ (adapter.takes_down w.ioc x).entries)
    unfolding OnCase
    others_took x rest i n l z =
        marked tags (record w { ioc = (adapter.takes_down w.ioc x).part; down = rest }) (entry.Take lane.Down (item.Down x) ∷ (adapter.takes_down w.ioc x).entries) l z Never (λ u. (tt, tame_all (adapter.takes_down w.ioc x).entries (tame.down_tame w.ioc x)))
        (queued_down (Here Never) w.ioc x f.doorbell.sound.waits f.clock.phase_table.whole n (λ d g p j. not_both (is_post x) i (ap is_post j)) (highs_here Never, normals_here Never)).0 (λ q m task y e d. absurd y)

    took : (x : Down) (rest : List Down) → w.down ≡ x ∷ rest → OnCase (record w { ioc = (adapter.takes_down w.ioc x).part; down = rest }) (entry.Take lane.Down (item.Down x) ∷ (adapter.takes_down w.ioc x).entries)
    took (down.Post d g p) rest e = posted d g p rest e
    took (down.Write reg value) rest e = others_took (down.Write reg value) rest refl
    took (down.Read reg) rest e = others_took (down.Read reg) rest refl
    took (down.Return address index) rest e = others_took (down.Return address index) rest refl
    took down.Stop rest e = others_took down.Stop rest refl

    works_high : (p : Post) (rest : List Post) → w.ioc.high ≡ p ∷ rest → OnCase (record w { ioc = (step.works_on (record w.ioc { high = rest }) p).part }) (step.works_on (record w.ioc { high = rest }) p).entries
    works_high p rest e =
        by (record w { ioc = (step.works_on (record w.ioc { high = rest }) p).part }) (step.works_on (record w.ioc { high = rest }) p).entries (λ u. tame_all (step.works_on (record w.ioc { high = rest }) p).entries (tame.works_tame (record w.ioc { high = rest }) p))
        (queued_works (Here Never) (record w.ioc { high = rest }) p (All-tail (Here Never) p rest (subst (All (Here Never)) e (highs_here Never)), normals_here Never)).0

    works_normal : (p : Post) (rest : List Post) → w.ioc.normal ≡ p ∷ rest → OnCase (record w { ioc = (step.works_on (record w.ioc { normal = rest }) p).part }) (step.works_on (record w.ioc { normal = rest }) p).entries
    works_normal p rest e =
        by (record w { ioc = (step.works_on (record w.ioc { normal = rest }) p).part }) (step.works_on (record w.ioc { normal = rest }) p).entries (λ u. tame_all (step.works_on (record w.ioc { normal = rest }) p).entries (tame.works_tame (record w.ioc { normal = rest }) p))
        (queued_works (Here Never) (record w.ioc { normal = rest }) p (highs_here Never, All-tail (Here Never) p rest (subst (All (Here Never)) e (normals_here Never)))).0

    told_back : (x : Back) (rest : List Back) → OnCase (record w { ioc = (adapter.takes_back w.ioc x).part; back = rest }) (entry.Take lane.Back (item.Back x) ∷ (adapter.takes_back w.ioc x).entries)
    told_back x rest =
        by (record w { ioc = (adapter.takes_back w.ioc x).part; back = rest }) (entry.Take lane.Back (item.Back x) ∷ (adapter.takes_back w.ioc x).entries) (λ u. (tt, tame_all (adapter.takes_back w.ioc x).entries (tame.back_tame w.ioc x)))
        (queued_back (Here Never) w.ioc x (highs_here Never, normals_here Never)).0

    owes : OwesTold OnCase w
    owes =
        record {
          idles = λ c. same_high w (entry.Idle c ∷ []) refl (tt, tt);
          host_puts = λ x rest e. same_high (record w { host = after_sent w.host x rest; down = w.down ++ x ∷ [] }) (entry.Put lane.Down (item.Down x) ∷ []) refl (tt, tt);
          host_takes = λ queue x rest e y. same_high (record (with_up w queue rest) { host = (hears_up w.host queue x).part }) (entry.Take (up_lane queue) (item.Up x) ∷ (hears_up w.host queue x).entries) refl (tt, quiet_all (hears_up w.host queue x).entries (hears_quietly w.host queue x));
          host_told = λ i c. by (record w { host = (host_told w.host i).part }) (host_told w.host i).entries (λ u. quiet_all (host_told w.host i).entries (told_quiet_of w h f tags i c u)) (highs_here Never);
          host_looks = λ e. same_high (record w { host = looks w.host }) [] refl tt;
          host_stops = λ e. same_high (record w { host = stops w.host }) [] refl tt;
          no_session = same_high w [] refl tt;
          ioc_takes = λ x rest e. took x rest e;
          ioc_high = λ p rest e. works_high p rest e;
          ioc_normal = λ p rest e. works_normal p rest e;
          ioc_puts_out = λ x rest e. same_high (record w { ioc = record w.ioc { out = rest }; out = w.out ++ x ∷ [] }) (entry.Put lane.Out (item.Out x) ∷ []) refl (tt, tt);
          ioc_takes_back = λ x rest e. told_back x rest;
          ioc_puts = λ queue y rest x e u. same_high (with_up (record w { ioc = adapter.up_sent_on w.ioc queue }) queue (up_on w queue ++ x ∷ [])) (entry.Put (up_lane queue) (item.Up x) ∷ []) refl (tt, tt);
          fabric_takes = λ x rest e. same_high (record w { fabric = fab.takes_out w.fabric x; out = rest }) (entry.Take lane.Out (item.Out x) ∷ []) refl (tt, tt);
          fabric_says = λ x rest e. same_high (record w { fabric = record w.fabric { notices = rest; out = w.fabric.out ++ x ∷ [] } }) [] refl tt;
          fabric_puts = λ x rest e. same_high (record w { fabric = record w.fabric { out = rest }; back = w.back ++ x ∷ [] }) (entry.Put lane.Back (item.Back x) ∷ []) refl (tt, tt);
          fabric_runs = λ tag address e. same_high (record w { fabric = (fab.runs w.fabric tag).part }) (entry.Run address tag ∷ []) refl (tt, tt);
          plugs = λ address expander phy t p. same_high (record w { fabric = (fab.fabric_plugs w.fabric address expander phy).part }) t refl (tame_all t (tame.plugs_tame t p));
          unplugs = λ address t p. same_high (record w { fabric = (fab.fabric_unplugs w.fabric address).part }) t refl (tame_all t (tame.plugs_tame t p));
          calms = same_high (record w { fabric = fab.calms w.fabric }) [] refl tt;
        }

    pub marks_kept : FurtherPaths w h → (c : Case) → MarksStand (happens w c) (history_after h (entries w c))
    unfolding OnCase
    marks_kept more c = kept_told OnCase w plain owes c (whole_kept w h f plain c) (leads w h c f plain more.flights.aborts) (flights_kept w h c f plain more.flights)
