-- Each case keeps that a target reset that waits is one that was asked, or a removal's.
use Rattle.std.proofs.Common.{◌≡◌, ◌≢◌, ℕ, zero, suc, ◌+◌, ◌-◌, ◌%◌, ◌^◌, ◌<◌, ◌≤◌, ◌==◌, ◌&&◌, inl, inr, Bool, true, false, List, [], ◌∷◌, ◌++◌, get_or, Option, Some, None, refl, ap, sym, ◌∙◌, subst, arith}
use Rattle.std.specs.Prelude.{All}
use Rattle.std.specs.FinMap as finmap
use Rattle.std.proofs.lemmas.Bool.{eqb-true}
use Rattle.std.proofs.lemmas.List.Elements.{All-head}
use Rattle.hex.specs.Hex.{IsBytes}
use Rattle.mpi_doorbell.specs.DoorRegisters.{is_fault}
use Rattle.mpi_rings.specs.declared.request_descriptor.PostKind.{PostKind}
use Rattle.mpi_rings.specs.declared.request_descriptor.PostKind.TheVariants as post
use Rattle.smid_pool.specs.Pool.{Slot, Free, Open, Parked}
use Rattle.scsi_msgs.specs.TaskAsk.{task_ask_layout, task_ask_values}
use Rattle.mpt_messages.specs.HostFrames.{IsTask, task_asked}
use Rattle.mpt_messages.specs.declared.host_ask.HostAsk.TheVariants as asks
use Rattle.mpt_messages.proofs.FrameStands.{host_frame_stands}
use Rattle.mpt_messages.proofs.HostFits.{task_fits}
use Rattle.mpt_wire.specs.Messages.Fields.{abort_task, dev_handle_in, kind_in, post_descriptor, smid_in, target_reset, task_type_in}
use Rattle.mpt_trace.specs.declared.entry.Entry.{Entry}
use Rattle.mpt_trace.specs.declared.entry.Entry.TheVariants as entry
use Rattle.mpt_trace.specs.declared.item.Down.{Down}
use Rattle.mpt_trace.specs.declared.item.Item.TheVariants as item
use Rattle.mpt_trace.specs.declared.lane.LaneName.TheVariants as lane
use Rattle.mpt_rules.specs.declared.at_fabric.HeldReset.{HeldReset}
use Rattle.mpt_rules.specs.declared.post.Post.{Post}
use Rattle.mpt_rules.specs.declared.request.Request.{Request}
use Rattle.mpt_rules.specs.declared.request.Request.TheVariants as request
use Rattle.mpt_rules.specs.Fabric.Calls as fab
use Rattle.mpt_rules.specs.Host.Parts.{host_queue_count}
use Rattle.mpt_rules.specs.Host.Posts.{frame_asked}
use Rattle.mpt_rules.specs.Host.Returns.{after_sent}
use Rattle.mpt_rules.specs.Host.Takes.{hears_up, looks, stops}
use Rattle.mpt_rules.specs.Ioc.Parts.{Ioc}
use Rattle.mpt_rules.specs.Ioc.Steps as step
use Rattle.mpt_rules.specs.Ioc.Tables.{is_held_as}
use Rattle.mpt_rules.specs.Ioc.Takes as adapter
use Rattle.mpt_rules.specs.Law.{NothingIsStrange}
use Rattle.mpt_rules.specs.World.Cases.{Case, entries, happens}
use Rattle.mpt_rules.specs.World.Counts.{how_many}
use Rattle.mpt_rules.specs.World.Inputs.{host_told}
use Rattle.mpt_rules.specs.World.State.{World, up_lane, up_on, with_up}
use Rattle.law_moves.proofs.CasesTold.{OwesTold, kept_told}
use Rattle.law_moves.proofs.Counted.{how_many-nil}
use Rattle.law_moves.proofs.IocTakes.{takes}
use Rattle.law_facts.specs.Clock.{is_linked_up}
use Rattle.law_facts.specs.Facts.{Facts}
use Rattle.law_facts.specs.History.{History, history_after}
use Rattle.law_facts.specs.Messages.{CommandPost, HeldIs, HeldIsOf, PostIs, PostIsRecord}
use Rattle.law_facts.specs.Words.{slot}
use Rattle.law_flights.proofs.Descriptors.{kind_posted}
use Rattle.law_messages.proofs.Agreeing.{all_same, same}
use Rattle.law_messages.proofs.Known.{inside}
use Rattle.law_messages.proofs.Leads.{Leads}
use Rattle.law_standing.proofs.FrameBytes.{field_lt, layout}
use Rattle.law_standing.proofs.PostsPass as passed
use Rattle.law_asked.proofs.Firm.{firm_by_places, not_live_there, stays}
use Rattle.law_asked.proofs.IocHeld.{held_back, held_of, held_taken, held_works}
use Rattle.law_asked.proofs.Lists.{all_both, counts_first, counts_more, each_counted}
use Rattle.law_asked.proofs.Opened.{opened}

-- ---- the type of task management

type_of_task : (handle task_type task : ℕ) → handle < 2 ^ 16 → IsTask task_type task → task_type_in (frame_asked (asks.Task handle task_type task)) ≡ task_type
unfolding task_ask_layout task_ask_values
type_of_task handle task_type task l t = ap (λ vs. get_or vs 4 0) (host_frame_stands (asks.Task handle task_type task) (task_fits handle task_type task l t)).numbers

task_bytes : (handle task_type task : ℕ) → IsBytes (frame_asked (asks.Task handle task_type task))
task_bytes handle task_type task = layout task_ask_layout (task_ask_values (task_asked handle task_type task)) (128 - 52)

-- the type of a frame that is task management of its own handle
type_there : (frame : List ℕ) (task_type task : ℕ) → frame ≡ frame_asked (asks.Task (dev_handle_in frame) task_type task) → IsTask task_type task → task_type_in frame ≡ task_type
type_there frame task_type task e t =
    let b = subst IsBytes (sym e) (task_bytes (dev_handle_in frame) task_type task) in
    let l = field_lt frame 0 2 b in
    ap task_type_in e ∙ type_of_task (dev_handle_in frame) task_type task l t

module _ (w : World) (h : History) (f : Facts w h) where
  -- ---- what may wait

  high_apart : {T : Type 0} (c : PostKind) (p : Post) (s msix handle : ℕ) → c ≢ post.HighPriority → msix < 256 → s < 65536 → p.descriptor ≡ post_descriptor c msix s handle → kind_in p.descriptor ≡ Some post.HighPriority → T
  high_apart c p s msix handle n l m e k = let y = kind_posted c msix s handle l m in let z : Some c ≡ Some post.HighPriority = sym y ∙ (ap kind_in (sym e) ∙ k) in let q : c ≡ post.HighPriority = cc in absurd (n q)

  default_not : post.Default ≢ post.HighPriority
  default_not e = cc

  scsi_not : post.ScsiIo ≢ post.HighPriority
  scsi_not e = cc

  waits : (p : Post) → PostIsRecord w h p → kind_in p.descriptor ≡ Some post.HighPriority → (task_type_in p.frame == target_reset) ≡ true → HeldIs w (held_of p)
  waits p a k t = by_slot (slot w.host (smid_in p.descriptor)) refl a
    where
      few : (r : Request) → slot w.host (smid_in p.descriptor) ≡ Open r → smid_in p.descriptor < 65536
      few r e = let i = inside w h f (smid_in p.descriptor) r e in omega (arith, i)

      default : {T : Type 0} (r : Request) → slot w.host (smid_in p.descriptor) ≡ Open r → p.descriptor ≡ post_descriptor post.Default 0 (smid_in p.descriptor) 0 → T
      default r e d = high_apart post.Default p (smid_in p.descriptor) 0 0 default_not (omega arith) (few r e) d k

      by_command : {T : Type 0} (n : ℕ) → slot w.host (smid_in p.descriptor) ≡ Open (request.Command n) → CommandPost w p (finmap.get w.host.cmds n) (finmap.get h.machine.requests n) → T
      by_command n e c =
          let i = opened w h f n (smid_in p.descriptor) e in
          let z = subst (CommandPost w p (Some i.cmd)) i.asked (subst (λ o. CommandPost w p o (finmap.get h.machine.requests n)) i.named c) in
          let q = f.flights.sizes.some_queue in let m = f.flights.sizes.few_queues in
          let y = i.smid in let u = few (request.Command n) e in
          let d : (i.cmd.smid - 1) % host_queue_count w.host < 256 = let r = Rattle.std.proofs.Common.mod-lt (i.cmd.smid - 1) (let g : 0 < host_queue_count w.host = omega (arith, q) in g) in omega (arith, m, r) in
          high_apart post.ScsiIo p i.cmd.smid ((i.cmd.smid - 1) % host_queue_count w.host) i.cmd.handle scsi_not d (omega (arith, y, u)) z.0 k

      by_slot : (x : Slot Request) → slot w.host (smid_in p.descriptor) ≡ x → PostIs w h p x → HeldIsOf (dev_handle_in p.frame) (slot w.host (smid_in p.descriptor))
      by_slot Free e a = absurd a
      by_slot Parked e a = absurd a
      by_slot (Open (request.Command n)) e a = by_command n e a
      by_slot (Open (request.Abort n task)) e a =
          let z = a.0 in let u = passed.named w h f (smid_in p.descriptor) n task e in
          let y = type_there p.frame abort_task task z.1 (inl (refl, u.0, u.1)) in
          let q : task_type_in p.frame ≡ target_reset = eqb-true (task_type_in p.frame) target_reset t in
          absurd (omega (arith, y, q))
      by_slot (Open (request.TargetReset address)) e a = subst (HeldIsOf (dev_handle_in p.frame)) (sym e) tt
      by_slot (Open (request.Leave handle)) e a = subst (HeldIsOf (dev_handle_in p.frame)) (sym e) (sym a.1)
      by_slot (Open (request.Page handle)) e a = default (request.Page handle) e a.0
      by_slot (Open (request.Remove handle)) e a = default (request.Remove handle) e a.0
      by_slot (Open (request.Ack event context)) e a = default (request.Ack event context) e a.0
      by_slot (Open request.Notification) e a = default request.Notification e a.0
      by_slot (Open request.PortEnable) e a = default request.PortEnable e a.0

  -- ---- what waits stays its record's

  HeldToken : HeldReset → List HeldReset → Type 0
  HeldToken r xs = 1 ≤ how_many (is_held_as r.smid) xs

  held_tokens : (xs : List HeldReset) → All (λ r. 1 ≤ how_many (is_held_as r.smid) xs) xs
  held_tokens xs = each_counted (λ r ys. 1 ≤ how_many (is_held_as r.smid) ys) (λ r rs. counts_first (is_held_as r.smid) r rs (same r.smid)) (λ r y rs c. counts_more (is_held_as r.smid) y rs c) xs

  no_held : (s : ℕ) → 1 ≤ how_many (is_held_as s) w.ioc.held → is_linked_up w ≡ true → ⊥
  no_held s c g =
      let b = (f.clock.tables_empty (not_live_there w h f g).2).held in
      let z : how_many (is_held_as s) w.ioc.held ≡ 0 = ap (how_many (is_held_as s)) b ∙ how_many-nil {X = HeldReset} (is_held_as s) in
      omega (arith, z, c)

  held_stay : (v : World) (k : History) → Leads w h v.host k → All (HeldIs v) w.ioc.held
  held_stay v k l = all_same (λ r. HeldIs w r × (1 ≤ how_many (is_held_as r.smid) w.ioc.held)) (HeldIs v) each w.ioc.held (all_both (HeldIs w) (λ r. 1 ≤ how_many (is_held_as r.smid) w.ioc.held) w.ioc.held f.messages.held (held_tokens w.ioc.held))
    where
      each : (r : HeldReset) → HeldIs w r × (1 ≤ how_many (is_held_as r.smid) w.ioc.held) → HeldIs v r
      each r a = by_slot (slot w.host r.smid) refl a.0
        where
          by_slot : (x : Slot Request) → slot w.host r.smid ≡ x → HeldIsOf r.handle x → HeldIs v r
          by_slot Free e b = absurd b
          by_slot Parked e b = absurd b
          by_slot (Open q) e b = let z = stays w h f v r.smid q (firm_by_places w h f r.smid q e (let c = a.1 in omega (arith, c)) (no_held r.smid a.1)) k l in subst (HeldIsOf r.handle) (sym z.opens) b

  -- ---- each case

  unfoldable OnCase : World → List Entry → Type 0
  OnCase v t = is_fault v.ioc.door.state ≡ false → Leads w h v.host (history_after h t) → All (HeldIs v) v.ioc.held

  like : (v : World) (t : List Entry) → v.ioc.held ≡ w.ioc.held → OnCase v t
  unfolding OnCase
  like v t e n l = subst (All (HeldIs v)) (sym e) (held_stay v (history_after h t) l)

  taken : (x : Down) (rest : List Down) → w.down ≡ x ∷ rest → OnCase (record w { ioc = (adapter.takes_down w.ioc x).part; down = rest }) (entry.Take lane.Down (item.Down x) ∷ (adapter.takes_down w.ioc x).entries)
  unfolding OnCase
  taken x rest e n l =
      let v = record w { ioc = (adapter.takes_down w.ioc x).part; down = rest } in
      held_taken (HeldIs v) w.ioc x (adapter.takes_down w.ioc x).part (takes w.ioc f.doorbell.sound.waits f.clock.phase_table.whole x) n (held_stay v (history_after h (entry.Take lane.Down (item.Down x) ∷ (adapter.takes_down w.ioc x).entries)) l)

  worked : (i : Ioc) (p : Post) → i.held ≡ w.ioc.held → PostIsRecord w h p → OnCase (record w { ioc = (step.works_on i p).part }) (step.works_on i p).entries
  unfolding OnCase
  worked i p e a n l =
      let v = record w { ioc = (step.works_on i p).part } in
      held_works (HeldIs v) i p (λ k t. waits p a k t) (subst (All (HeldIs v)) (sym e) (held_stay v (history_after h (step.works_on i p).entries) l))

  told : (x : Rattle.mpt_trace.specs.declared.item.Back.Back) (rest : List Rattle.mpt_trace.specs.declared.item.Back.Back) → OnCase (record w { ioc = (adapter.takes_back w.ioc x).part; back = rest }) (entry.Take lane.Back (item.Back x) ∷ (adapter.takes_back w.ioc x).entries)
  unfolding OnCase
  told x rest n l =
      let v = record w { ioc = (adapter.takes_back w.ioc x).part; back = rest } in
      held_back (HeldIs v) w.ioc x (held_stay v (history_after h (entry.Take lane.Back (item.Back x) ∷ (adapter.takes_back w.ioc x).entries)) l)

  owes : OwesTold OnCase w
  owes =
      record {
        idles = λ c. like w (entry.Idle c ∷ []) refl;
        host_puts = λ x rest e. like (record w { host = after_sent w.host x rest; down = w.down ++ x ∷ [] }) (entry.Put lane.Down (item.Down x) ∷ []) refl;
        host_takes = λ queue x rest e y. like (record (with_up w queue rest) { host = (hears_up w.host queue x).part }) (entry.Take (up_lane queue) (item.Up x) ∷ (hears_up w.host queue x).entries) refl;
        host_told = λ i c. like (record w { host = (host_told w.host i).part }) (host_told w.host i).entries refl;
        host_looks = λ e. like (record w { host = looks w.host }) [] refl;
        host_stops = λ e. like (record w { host = stops w.host }) [] refl;
        no_session = like w [] refl;
        ioc_takes = λ x rest e. taken x rest e;
        ioc_high = λ p rest e. worked (record w.ioc { high = rest }) p refl (All-head (PostIsRecord w h) p rest (subst (All (PostIsRecord w h)) e f.messages.high));
        ioc_normal = λ p rest e. worked (record w.ioc { normal = rest }) p refl (All-head (PostIsRecord w h) p rest (subst (All (PostIsRecord w h)) e f.messages.normal));
        ioc_puts_out = λ x rest e. like (record w { ioc = record w.ioc { out = rest }; out = w.out ++ x ∷ [] }) (entry.Put lane.Out (item.Out x) ∷ []) refl;
        ioc_takes_back = λ x rest e. told x rest;
        ioc_puts = λ queue y rest z e u. like (with_up (record w { ioc = adapter.up_sent_on w.ioc queue }) queue (up_on w queue ++ z ∷ [])) (entry.Put (up_lane queue) (item.Up z) ∷ []) refl;
        fabric_takes = λ x rest e. like (record w { fabric = fab.takes_out w.fabric x; out = rest }) (entry.Take lane.Out (item.Out x) ∷ []) refl;
        fabric_says = λ x rest e. like (record w { fabric = record w.fabric { notices = rest; out = w.fabric.out ++ x ∷ [] } }) [] refl;
        fabric_puts = λ x rest e. like (record w { fabric = record w.fabric { out = rest }; back = w.back ++ x ∷ [] }) (entry.Put lane.Back (item.Back x) ∷ []) refl;
        fabric_runs = λ tag address e. like (record w { fabric = (fab.runs w.fabric tag).part }) (entry.Run address tag ∷ []) refl;
        plugs = λ address expander phy t p. like (record w { fabric = (fab.fabric_plugs w.fabric address expander phy).part }) t refl;
        unplugs = λ address t p. like (record w { fabric = (fab.fabric_unplugs w.fabric address).part }) t refl;
        calms = like (record w { fabric = fab.calms w.fabric }) [] refl;
      }

  pub held_kept : NothingIsStrange w → (c : Case) → is_fault (happens w c).ioc.door.state ≡ false → Leads w h (happens w c).host (history_after h (entries w c)) → All (HeldIs (happens w c)) (happens w c).ioc.held
  unfolding OnCase
  held_kept plain c n l = kept_told OnCase w plain owes c n l
