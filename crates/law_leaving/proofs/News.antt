-- What entries say of a handle's leaving, and what the rule asks of them.
use Rattle.std.proofs.Common.{◌≡◌, ℕ, ◌^◌, ◌<◌, ◌==◌, Bool, true, false, if◌then◌else◌, List, [], ◌∷◌, ◌++◌, Option, Some, None, refl, ap, sym, ◌∙◌, subst, arith}
use Rattle.std.specs.Bool.{then_some}
use Rattle.std.specs.FinMap as finmap
use Rattle.std.specs.List.{flat_map}
use Rattle.std.proofs.lemmas.Bool.{eqb-true}
use Rattle.std.proofs.lemmas.List.Concat.{flat_map-cons}
use Rattle.smid_pool.specs.Pool.{Slot, Free, Open, Parked}
use Rattle.removal.specs.Handles.{IsHandle}
use Rattle.config_pages.specs.ConfigAsk.{config_ask_layout, config_ask_values}
use Rattle.event_msgs.specs.EventAck.{event_ack_layout, event_ack_values}
use Rattle.event_msgs.specs.EventAsk.{event_ask_layout, event_ask_values}
use Rattle.ioc_msgs.specs.PortEnable.{port_enable_layout, port_enable_values}
use Rattle.scsi_msgs.specs.ScsiIo.{scsi_io_layout, scsi_io_values}
use Rattle.scsi_msgs.specs.TaskAsk.{task_ask_layout, task_ask_values}
use Rattle.scsi_disk.specs.declared.command.Command.{Command}
use Rattle.mpi_layout.specs.Rows.{field}
use Rattle.mpt_messages.specs.declared.host_ask.HostAsk.TheVariants as ask
use Rattle.mpt_wire.specs.Handles.Leaving.{Answered, LeaveAsks, Leaving, LeavingAsks, LeavingAsksAll, LeavingNews, PutsOther, PutsRemoval, PutsReset, TakesReply, after_put, leaving_after, leaving_after_all, leaving_next, names_handle, told_by, told_by_reply, told_by_status}
use Rattle.mpt_wire.specs.Handles.Names.{changes_told, is_removal, removal_posted, reply_smid_in, reset_posted}
use Rattle.mpt_wire.specs.Machine.SoFar.{asks_target_reset}
use Rattle.mpt_wire.specs.Machine.State.{OpenRequest}
use Rattle.mpt_wire.specs.Messages.Fields.{Change, abort_task, controlled_handle_in, dev_handle_in, smid_in, target_added, target_not_responding, target_reset}
use Rattle.mpt_wire.specs.Walks.Passes.{EachEntry, Passes, state_after}
use Rattle.mpt_trace.specs.declared.entry.Entry.{Entry}
use Rattle.mpt_trace.specs.declared.entry.Entry.TheVariants as entry
use Rattle.mpt_trace.specs.declared.item.Down.TheVariants as down
use Rattle.mpt_trace.specs.declared.item.Item.TheVariants as item
use Rattle.mpt_trace.specs.declared.item.Up.{Up}
use Rattle.mpt_trace.specs.declared.lane.LaneName.{LaneName}
use Rattle.mpt_trace.specs.declared.lane.LaneName.TheVariants as lane
use Rattle.mpt_rules.specs.declared.post.Post.{Post}
use Rattle.mpt_rules.specs.declared.request.Request.{Request}
use Rattle.mpt_rules.specs.declared.request.Request.TheVariants as request
use Rattle.mpt_rules.specs.Host.Parts.{Cmd}
use Rattle.mpt_rules.specs.Host.Posts.{command_asked, frame_asked}
use Rattle.mpt_rules.specs.World.State.{World}
use Rattle.law_facts.specs.Facts.{Facts}
use Rattle.law_facts.specs.History.{History}
use Rattle.law_facts.specs.Messages.{CommandPost, PostIs, PostIsRecord}
use Rattle.law_facts.specs.Words.{slot}
use Rattle.law_flights.proofs.Told.{IsTold, told_passes, told_state}
use Rattle.law_handles.proofs.LifeWork.{handle_removed}
use Rattle.law_moves.proofs.CasesTold.{IsPlugWord}
use Rattle.law_removals.proofs.Removed.{record_fits}

-- ---- entries that say nothing of it

module _ (h : ℕ) (g : Leaving) where
  told_next : (e : Entry) → IsTold e → leaving_next h g e ≡ g
  told_next (entry.Put l x) t = absurd t
  told_next (entry.Take l x) t = absurd t
  told_next entry.ResetDone t = absurd t
  told_next (entry.Bind k a n) t = refl
  told_next (entry.Unbind k) t = refl
  told_next entry.UnbindAll t = refl
  told_next (entry.Given i) t = refl
  told_next (entry.Idle x) t = refl
  told_next (entry.Run a tag) t = refl
  told_next entry.HostUp t = refl
  told_next (entry.Ready a k) t = refl
  told_next (entry.Lost a k) t = refl
  told_next (entry.Accept n a s) t = refl
  told_next (entry.RefuseSubmit n cause) t = refl
  told_next (entry.Refuse call cause) t = refl
  told_next (entry.Answer n how) t = refl
  told_next (entry.AbortEnd n how) t = refl
  told_next (entry.TargetEnd a how) t = refl

  told_asks : (e : Entry) → IsTold e → LeaveAsks h g e
  told_asks (entry.Put l x) t = absurd t
  told_asks (entry.Take l x) t = absurd t
  told_asks entry.ResetDone t = absurd t
  told_asks (entry.Bind k a n) t = tt
  told_asks (entry.Unbind k) t = tt
  told_asks entry.UnbindAll t = tt
  told_asks (entry.Given i) t = tt
  told_asks (entry.Idle x) t = tt
  told_asks (entry.Run a tag) t = tt
  told_asks entry.HostUp t = tt
  told_asks (entry.Ready a k) t = tt
  told_asks (entry.Lost a k) t = tt
  told_asks (entry.Accept n a s) t = tt
  told_asks (entry.RefuseSubmit n cause) t = tt
  told_asks (entry.Refuse call cause) t = tt
  told_asks (entry.Answer n how) t = tt
  told_asks (entry.AbortEnd n how) t = tt
  told_asks (entry.TargetEnd a how) t = tt

  pub told_leaving : (t : List Entry) → EachEntry IsTold t → state_after (leaving_next h) g t ≡ g
  told_leaving t a = told_state (leaving_next h) (LeaveAsks h) g told_next told_asks t a

  pub told_lets_pass : (t : List Entry) → EachEntry IsTold t → Passes (leaving_next h) (LeaveAsks h) g t
  told_lets_pass t a = told_passes (leaving_next h) (LeaveAsks h) g told_next told_asks t a

  -- told entries, and the end of a reset behind them
  pub ended_passes : (t : List Entry) → EachEntry IsTold t → Passes (leaving_next h) (LeaveAsks h) g (t ++ entry.ResetDone ∷ [])
  ended_passes [] a = ((tt, tt), tt)
  ended_passes (e ∷ t) a = (told_asks e a.0, subst (λ x. Passes (leaving_next h) (LeaveAsks h) x (t ++ entry.ResetDone ∷ [])) (sym (told_next e a.0)) (ended_passes t a.1))

pub plug_told : (t : List Entry) → EachEntry IsPlugWord t → EachEntry IsTold t
plug_told [] a = tt
plug_told (e ∷ t) a = (one e a.0, plug_told t a.1)
  where
    one : (e : Entry) → IsPlugWord e → IsTold e
    one (entry.Put l x) h = absurd h
    one (entry.Take l x) h = absurd h
    one entry.ResetDone h = absurd h
    one (entry.Bind k a n) h = tt
    one (entry.Unbind k) h = tt
    one entry.UnbindAll h = tt
    one (entry.Given i) h = tt
    one (entry.Idle x) h = tt
    one (entry.Run a tag) h = tt
    one entry.HostUp h = tt
    one (entry.Ready a k) h = tt
    one (entry.Lost a k) h = tt
    one (entry.Accept n a s) h = tt
    one (entry.RefuseSubmit n cause) h = tt
    one (entry.Refuse call cause) h = tt
    one (entry.Answer n how) h = tt
    one (entry.AbortEnd n how) h = tt
    one (entry.TargetEnd a how) h = tt

-- ---- an item is taken: nothing is asked of it

abbrev IsNoRemoval : LeavingNews → Type 0
IsNoRemoval (PutsRemoval s) = ⊥
IsNoRemoval n = Unit {0}

abbrev NoRemovals : List LeavingNews → Type 0
NoRemovals [] = Unit {0}
NoRemovals (n ∷ news) = IsNoRemoval n × NoRemovals news

none_asked : (g : Leaving) (news : List LeavingNews) → NoRemovals news → LeavingAsksAll g news
none_asked g [] a = tt
none_asked g (n ∷ news) a = (one n a.0, none_asked (leaving_after g n) news a.1)
  where
    one : (n : LeavingNews) → IsNoRemoval n → LeavingAsks g n
    one (PutsRemoval s) a = absurd a
    one (PutsReset s) a = tt
    one (PutsOther s) a = tt
    one (TakesReply s) a = tt
    one Rattle.mpt_wire.specs.Handles.Leaving.BeginsAnew a = tt
    one Rattle.mpt_wire.specs.Handles.Leaving.TakesAdded a = tt
    one Rattle.mpt_wire.specs.Handles.Leaving.TakesGone a = tt

append_none : (xs ys : List LeavingNews) → NoRemovals xs → NoRemovals ys → NoRemovals (xs ++ ys)
append_none [] ys a b = b
append_none (x ∷ xs) ys a b = (a.0, append_none xs ys a.1 b)

status_none : (status : ℕ) → NoRemovals (told_by_status status)
status_none status = by_tests (status == target_added) (status == target_not_responding)
  where
    by_tests : (a b : Bool) → NoRemovals (if a then Rattle.mpt_wire.specs.Handles.Leaving.TakesAdded ∷ [] else (if b then Rattle.mpt_wire.specs.Handles.Leaving.TakesGone ∷ [] else []))
    by_tests true b = (tt, tt)
    by_tests false true = (tt, tt)
    by_tests false false = tt

changes_none : (h : ℕ) (cs : List Change) → NoRemovals (flat_map (told_by h) cs)
changes_none h [] = tt
changes_none h (c ∷ cs) = subst NoRemovals (sym (flat_map-cons (told_by h) c cs)) (append_none (told_by h c) (flat_map (told_by h) cs) (by_handle (c.handle == h)) (changes_none h cs))
  where
    by_handle : (b : Bool) → NoRemovals (if b then told_by_status c.status else [])
    by_handle true = status_none c.status
    by_handle false = tt

pub take_asks : (h : ℕ) (g : Leaving) (l : LaneName) (x : Up) → LeaveAsks h g (entry.Take l (item.Up x))
take_asks h g l x = none_asked g (told_by_reply (reply_smid_in x) ++ flat_map (told_by h) (changes_told x)) (append_none (told_by_reply (reply_smid_in x)) (flat_map (told_by h) (changes_told x)) (by_reply (reply_smid_in x)) (changes_none h (changes_told x)))
  where
    by_reply : (o : Option ℕ) → NoRemovals (told_by_reply o)
    by_reply None = tt
    by_reply (Some s) = (tt, tt)

-- ---- a post is put

put_news : ℕ → Bool → Bool → List LeavingNews
put_news s a b = if a then PutsReset s ∷ [] else (if b then PutsRemoval s ∷ [] else PutsOther s ∷ [])

pub put_next : (h : ℕ) (g : Leaving) (d : ℕ) (f p : List ℕ) → leaving_next h g (entry.Put lane.Down (item.Down (down.Post d f p))) ≡ after_put (smid_in d) (names_handle h (reset_posted (down.Post d f p))) g
put_next h g d f p = by_tests (names_handle h (reset_posted (down.Post d f p))) (names_handle h (removal_posted (down.Post d f p)))
  where
    by_tests : (a b : Bool) → leaving_after_all g (if a then PutsReset (smid_in d) ∷ [] else (if b then PutsRemoval (smid_in d) ∷ [] else PutsOther (smid_in d) ∷ [])) ≡ after_put (smid_in d) a g
    by_tests true b = refl
    by_tests false true = refl
    by_tests false false = refl

pub put_asks : (h : ℕ) (g : Leaving) (d : ℕ) (f p : List ℕ) → (names_handle h (removal_posted (down.Post d f p)) ≡ true → g ≡ Answered) → LeaveAsks h g (entry.Put lane.Down (item.Down (down.Post d f p)))
put_asks h g d f p a = by_tests (names_handle h (reset_posted (down.Post d f p))) (names_handle h (removal_posted (down.Post d f p))) a
  where
    by_tests : (x b : Bool) → (b ≡ true → g ≡ Answered) → LeavingAsksAll g (if x then PutsReset (smid_in d) ∷ [] else (if b then PutsRemoval (smid_in d) ∷ [] else PutsOther (smid_in d) ∷ []))
    by_tests true b a = (tt, tt)
    by_tests false true a = (a refl, tt)
    by_tests false false a = (tt, tt)

-- what the frames of requests are read as

reset_asked : (g : ℕ) → asks_target_reset (frame_asked (ask.Task g target_reset 0)) ≡ true
unfolding task_ask_layout task_ask_values field
reset_asked g = refl

task_no_removal : (g task_type task : ℕ) → is_removal (frame_asked (ask.Task g task_type task)) ≡ false
unfolding task_ask_layout task_ask_values field
task_no_removal g task_type task = refl

page_no_removal : (s g : ℕ) → is_removal (frame_asked (ask.PageRead s g)) ≡ false
unfolding config_ask_layout config_ask_values field
page_no_removal s g = refl

ack_no_removal : (event context : ℕ) → is_removal (frame_asked (ask.Ack event context)) ≡ false
unfolding event_ack_layout event_ack_values field
ack_no_removal event context = refl

notification_no_removal : is_removal (frame_asked ask.Notification) ≡ false
unfolding event_ask_layout event_ask_values field
notification_no_removal = refl

enable_no_removal : is_removal (frame_asked ask.PortEnable) ≡ false
unfolding port_enable_layout port_enable_values field
enable_no_removal = refl

command_no_removal : (s handle : ℕ) (c : Command) → is_removal (frame_asked (command_asked s handle c)) ≡ false
unfolding scsi_io_layout scsi_io_values field
command_no_removal s handle c = refl

module _ (w : World) (h : History) (f : Facts w h) (p : Post) (is : PostIsRecord w h p) where
  -- a removal's target reset names its handle
  pub reset_named : (g : ℕ) → slot w.host (smid_in p.descriptor) ≡ Open (request.Leave g) → names_handle g (reset_posted (down.Post p.descriptor p.frame p.payload)) ≡ true
  reset_named g e =
      let k : PostIs w h p (Open (request.Leave g)) = subst (PostIs w h p) e is in
      let a : asks_target_reset p.frame ≡ true = ap asks_target_reset k.0.1 ∙ reset_asked (dev_handle_in p.frame) in
      ap (λ b. names_handle g (then_some b (record { smid = smid_in p.descriptor; handle = dev_handle_in p.frame }))) a ∙ (ap (λ n. n == g) k.1 ∙ own g)
    where
      own : (n : ℕ) → (n == n) ≡ true
      own n = grind arith

  -- a remove device for a handle is one by its record
  pub removal_named : (g : ℕ) → names_handle g (removal_posted (down.Post p.descriptor p.frame p.payload)) ≡ true → slot w.host (smid_in p.descriptor) ≡ Open (request.Remove g)
  removal_named g t = by_slot (slot w.host (smid_in p.descriptor)) refl is
    where
      aimed : (b : Bool) → names_handle g (then_some b (record { smid = smid_in p.descriptor; handle = controlled_handle_in p.frame })) ≡ true → (b ≡ true) × (controlled_handle_in p.frame ≡ g)
      aimed true e = (refl, eqb-true (controlled_handle_in p.frame) g e)
      aimed false e = absurd (cc)

      none : {X : Type 0} (frame : List ℕ) → p.frame ≡ frame → is_removal frame ≡ false → X
      none frame e z = let a = (aimed (is_removal p.frame) t).0 in let b = ap is_removal e in absurd (cc)

      of_command : (n : ℕ) (c : Option Cmd) (r : Option OpenRequest) → CommandPost w p c r → slot w.host (smid_in p.descriptor) ≡ Open (request.Remove g)
      of_command n None r k = absurd k
      of_command n (Some c) None k = absurd k
      of_command n (Some c) (Some r) k = none (frame_asked (command_asked c.smid c.handle r.command)) k.1 (command_no_removal c.smid c.handle r.command)

      by_slot : (y : Slot Request) → slot w.host (smid_in p.descriptor) ≡ y → PostIs w h p y → slot w.host (smid_in p.descriptor) ≡ Open (request.Remove g)
      by_slot (Open (request.Command n)) e k = of_command n (finmap.get w.host.cmds n) (finmap.get h.machine.requests n) k
      by_slot (Open (request.Abort n task)) e k = none (frame_asked (ask.Task (dev_handle_in p.frame) abort_task task)) k.0.1 (task_no_removal (dev_handle_in p.frame) abort_task task)
      by_slot (Open (request.TargetReset a)) e k = none (frame_asked (ask.Task (dev_handle_in p.frame) target_reset 0)) k.1 (task_no_removal (dev_handle_in p.frame) target_reset 0)
      by_slot (Open (request.Leave j)) e k = none (frame_asked (ask.Task (dev_handle_in p.frame) target_reset 0)) k.0.1 (task_no_removal (dev_handle_in p.frame) target_reset 0)
      by_slot (Open (request.Page j)) e k = none (frame_asked (ask.PageRead (smid_in p.descriptor) j)) k.1 (page_no_removal (smid_in p.descriptor) j)
      by_slot (Open (request.Remove j)) e k =
          let i : IsHandle j = record_fits w h f (smid_in p.descriptor) (request.Remove j) e in
          let low : j < 2 ^ 16 = (let b = i.1 in omega (arith, b)) in
          let z : controlled_handle_in p.frame ≡ j = ap controlled_handle_in k.1 ∙ handle_removed j low in
          e ∙ ap (λ n. Open (request.Remove n)) (sym z ∙ (aimed (is_removal p.frame) t).1)
      by_slot (Open (request.Ack event context)) e k = none (frame_asked (ask.Ack event context)) k.1 (ack_no_removal event context)
      by_slot (Open request.Notification) e k = none (frame_asked ask.Notification) k.1 notification_no_removal
      by_slot (Open request.PortEnable) e k = none (frame_asked ask.PortEnable) k.1 enable_no_removal
      by_slot Free e k = absurd k
      by_slot Parked e k = absurd k
