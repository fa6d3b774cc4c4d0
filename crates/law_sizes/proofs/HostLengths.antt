-- The host's tables keep their lengths, whatever it takes and is told.
use Rattle.std.proofs.Common.{◌≡◌, ℕ, ◌-◌, ◌==◌, ◌&&◌, Bool, true, false, if◌then◌else◌, List, [], ◌∷◌, length, set, slice_set, take, Option, Some, None, ◌∙◌, length-set}
use Rattle.std.specs.FinMap as finmap
use Rattle.std.specs.FinSet as finset
use Rattle.std.specs.List.{fold, range_with_len}
use Rattle.scsi_disk.specs.declared.command.Command.{Command}
use Rattle.scsi_disk.specs.Command.{fits}
use Rattle.smid_pool.specs.Pool.{Slot, Free, Open, Parked, least_free, slot_of}
use Rattle.smid_pool.specs.declared.class.Class.TheVariants as class
use Rattle.removal.specs.declared.phase.Phase.{Phase}
use Rattle.removal.specs.declared.phase.Phase.TheVariants as phase
use Rattle.removal.specs.Handles.{phase_at, ready_handle, with_phase}
use Rattle.removal.specs.Phases.{after_added, after_gone, after_page, after_removed, after_task_done}
use Rattle.mpi_doorbell.specs.declared.registers.TheConstants.{IOC_STATE_READY, IOC_STATE_OPERATIONAL, IOC_STATE_FAULT}
use Rattle.mpi_doorbell.specs.declared.step.DoorStep.{DoorStep}
use Rattle.mpi_doorbell.specs.declared.step.DoorStep.TheVariants as step
use Rattle.mpi_doorbell.specs.HostDoor.{HostDoor}
use Rattle.mpi_doorbell.specs.HostSteps.{diagnostic_reset, handshake_of_message, look_at_doorbell, unit_reset}
use Rattle.mpt_messages.specs.declared.host_ask.HostAsk.{HostAsk}
use Rattle.mpt_messages.specs.declared.host_ask.HostAsk.TheVariants as ask
use Rattle.mpt_messages.specs.HostFrames.{host_message}
use Rattle.mpt_messages.specs.FrameBytes.{message_bytes}
use Rattle.mpt_trace.specs.Command.{command_named}
use Rattle.mpt_trace.specs.declared.host_state.HostState.{HostState}
use Rattle.mpt_trace.specs.declared.host_state.HostState.TheVariants as state
use Rattle.mpt_trace.specs.declared.input.Input.{Input}
use Rattle.mpt_trace.specs.declared.input.Input.TheVariants as input
use Rattle.mpt_trace.specs.declared.item.Down.{Down}
use Rattle.mpt_trace.specs.declared.item.Down.TheVariants as down
use Rattle.mpt_trace.specs.declared.item.Up.{Up}
use Rattle.mpt_trace.specs.declared.item.Up.TheVariants as up
use Rattle.mpt_wire.specs.Machine.Causes.{is_up, is_resetting}
use Rattle.mpt_wire.specs.Messages.Fields.{Change, changes_in, event_context_in, event_in, frame_address_in, smid_in, target_added, target_not_responding}
use Rattle.mpt_rules.specs.declared.host_frame.HostFrame.{HostFrame}
use Rattle.mpt_rules.specs.declared.host_frame.HostFrame.TheVariants as frame
use Rattle.mpt_rules.specs.declared.request.Request.{Request}
use Rattle.mpt_rules.specs.declared.request.Request.TheVariants as request
use Rattle.mpt_rules.specs.declared.stage.Stage.{Stage}
use Rattle.mpt_rules.specs.declared.stage.Stage.TheVariants as stage
use Rattle.mpt_rules.specs.declared.why.Why.{Why}
use Rattle.mpt_rules.specs.Outcome.{Happening}
use Rattle.mpt_rules.specs.Host.Takes.{hears_up, takes_unless}
use Rattle.mpt_rules.specs.Host.Doorbell as door
use Rattle.mpt_rules.specs.Host.Inputs as inputs
use Rattle.mpt_rules.specs.Host.Parts.{Cmd, Host, host_queue_count}
use Rattle.mpt_rules.specs.Host.Posts as asks
use Rattle.mpt_rules.specs.Host.Removal as removal
use Rattle.mpt_rules.specs.Host.Replies as replies
use Rattle.mpt_rules.specs.Host.Replies.{Heard}
use Rattle.mpt_rules.specs.Host.Resets as resets
use Rattle.mpt_rules.specs.Host.Returns as returns
use Rattle.mpt_rules.specs.Host.Values as values
use Rattle.mpt_rules.specs.World.Inputs.{host_told}
use Rattle.mpt_rules.proofs.HostCalls.{submits_by, aborts_by, resets_target_by}
use Rattle.law_flights.proofs.HostTurns.{free_slot, length_free}

module _ (q : ℕ) where
  pub record HostLengths (pool : List (Slot Request)) (phases : List Phase) (frames : List HostFrame) (indices : List ℕ) (marks : List Bool) : Type 0 where
    pub slots : length pool ≡ 280
    pub handles : length phases ≡ 64
    pub held : length frames ≡ 64
    pub queues : length indices ≡ q
    pub marked : length marks ≡ q

  abbrev pub HostIsSized : Host → Type 0
  HostIsSized h = HostLengths h.pool h.phases h.frames h.indices h.marks

  -- ---- a table that is written

  with_pool : (h : Host) (i : ℕ) (x : Slot Request) → HostIsSized h → HostIsSized (record h { pool = set h.pool i x })
  with_pool h i x z = record { slots = length-set h.pool i x ∙ z.slots; handles = z.handles; held = z.held; queues = z.queues; marked = z.marked }

  with_phases : (h : Host) (handle : ℕ) (p : Phase) → HostIsSized h → HostIsSized (removal.with_phase_of h handle p)
  with_phases h handle p z = record { slots = z.slots; handles = length-set h.phases _ p ∙ z.handles; held = z.held; queues = z.queues; marked = z.marked }

  with_frames : (h : Host) (i : ℕ) (x : HostFrame) → HostIsSized h → HostIsSized (record h { frames = set h.frames i x })
  with_frames h i x z = record { slots = z.slots; handles = z.handles; held = length-set h.frames i x ∙ z.held; queues = z.queues; marked = z.marked }

  with_indices : (h : Host) (i x : ℕ) → HostIsSized h → HostIsSized (record h { indices = set h.indices i x })
  with_indices h i x z = record { slots = z.slots; handles = z.handles; held = z.held; queues = length-set h.indices i x ∙ z.queues; marked = z.marked }

  with_marks : (h : Host) (i : ℕ) → HostIsSized h → HostIsSized (record h { marks = set h.marks i true })
  with_marks h i z = record { slots = z.slots; handles = z.handles; held = z.held; queues = z.queues; marked = length-set h.marks i true ∙ z.marked }

  if_so : (c : Bool) (x y : Host) → HostIsSized x → HostIsSized y → HostIsSized (if c then x else y)
  if_so true x y s t = s
  if_so false x y s t = t

  outcome_if : (c : Bool) (x y : Happening Host) → HostIsSized x.part → HostIsSized y.part → HostIsSized (if c then x else y).part
  outcome_if true x y s t = s
  outcome_if false x y s t = t

  -- ---- posts

  leave : (h : Host) (s handle : ℕ) → HostIsSized h → HostIsSized (asks.posts_leave h s handle)
  leave h s handle z = with_pool (asks.grants h handle s) (s - 1) (Open (request.Leave handle)) (with_phases h handle _ z)

  internal : (h : Host) (s : ℕ) (x : Request) → HostIsSized h → HostIsSized (asks.posts_internal h s x)
  internal h s (request.Page handle) z = with_pool (asks.grants h handle s) (s - 1) (Open (request.Page handle)) (with_phases h handle _ z)
  internal h s (request.Remove handle) z = with_pool (asks.grants h handle s) (s - 1) (Open (request.Remove handle)) (with_phases h handle _ z)
  internal h s (request.Ack event context) z = with_pool h (s - 1) (Open (request.Ack event context)) z
  internal h s request.Notification z = with_pool h (s - 1) (Open request.Notification) z
  internal h s request.PortEnable z = with_pool h (s - 1) (Open request.PortEnable) z
  internal h s (request.Command n) z = z
  internal h s (request.Abort n task) z = z
  internal h s (request.TargetReset address) z = z
  internal h s (request.Leave handle) z = z

  asked : (h : Host) (x : Request) (o : Option ℕ) → HostIsSized h → HostIsSized (asks.posts_internal_or_waits h x o)
  asked h x None z = z
  asked h x (Some s) z = internal h s x z

  asked_leave : (h : Host) (handle : ℕ) (o : Option ℕ) → HostIsSized h → HostIsSized (asks.posts_leave_or_waits h handle o)
  asked_leave h handle None z = z
  asked_leave h handle (Some s) z = leave h s handle z

  given_high : (h : Host) (s : ℕ) (xs : List ℕ) → HostIsSized h → HostIsSized (asks.gives_high h s xs)
  given_high h s [] z = z
  given_high h s (x ∷ xs) z = leave (record h { wait_high = xs }) s x z

  given_internal : (h : Host) (s : ℕ) (xs : List Request) → HostIsSized h → HostIsSized (asks.gives_internal h s xs)
  given_internal h s [] z = z
  given_internal h s (x ∷ xs) z = internal (record h { wait_internal = xs }) s x z

  freed_high : (h : Host) (s : ℕ) → HostIsSized h → HostIsSized (asks.frees_high h s)
  freed_high h s z = given_high (asks.frees h s) s h.wait_high (with_pool h (s - 1) Free z)

  freed_internal : (h : Host) (s : ℕ) → HostIsSized h → HostIsSized (asks.frees_internal h s)
  freed_internal h s z = given_internal (asks.frees h s) s h.wait_internal (with_pool h (s - 1) Free z)

  -- ---- events

  added : (h : Host) (handle : ℕ) (p : Phase) → HostIsSized h → HostIsSized (removal.after_handle_added h handle p)
  added h handle phase.Absent z = let k = removal.with_phase_of h handle (after_added phase.Absent) in asked k (request.Page handle) (least_free class.Internal k.pool) (with_phases h handle _ z)
  added h handle phase.WaitRead z = z
  added h handle (phase.Reading s) z = z
  added h handle (phase.Ready address) z = z
  added h handle phase.WaitHigh z = z
  added h handle (phase.Resetting s) z = z
  added h handle phase.WaitInternal z = z
  added h handle (phase.Removing s) z = z

  gone : (h : Host) (handle : ℕ) (p : Phase) → HostIsSized h → HostIsSized (removal.begins_removal h handle p).part
  gone h handle p z =
      asked_leave (record h { phases = with_phase h.phases handle (after_gone p); wait_internal = removal.without_page handle h.wait_internal }) handle (least_free class.High h.pool) (with_phases h handle (after_gone p) z)

  lost : (h : Host) (handle : ℕ) (p : Phase) → HostIsSized h → HostIsSized (removal.after_handle_lost h handle p).part
  lost h handle phase.WaitRead z = gone h handle phase.WaitRead z
  lost h handle (phase.Reading s) z = gone h handle (phase.Reading s) z
  lost h handle (phase.Ready address) z = gone h handle (phase.Ready address) z
  lost h handle phase.Absent z = z
  lost h handle phase.WaitHigh z = z
  lost h handle (phase.Resetting s) z = z
  lost h handle phase.WaitInternal z = z
  lost h handle (phase.Removing s) z = z

  change : (h : Host) (c : Change) → HostIsSized h → HostIsSized (removal.hears_change h c).part
  change h c z =
      let a = removal.quietly (removal.after_handle_added h c.handle (phase_at h.phases c.handle)) in
      let l = if c.status == target_not_responding then removal.after_handle_lost h c.handle (phase_at h.phases c.handle) else removal.quietly h in
      outcome_if (removal.is_disk_handle c.handle) (removal.hears_status h c.handle c.status) (removal.quietly h)
      (outcome_if (c.status == target_added) a l (added h c.handle (phase_at h.phases c.handle) z)
      (outcome_if (c.status == target_not_responding) (removal.after_handle_lost h c.handle (phase_at h.phases c.handle)) (removal.quietly h) (lost h c.handle (phase_at h.phases c.handle) z) z))
      z

  changes : (h : Host) (cs : List Change) → HostIsSized h → HostIsSized (removal.hears_changes h cs).part
  unfolding removal.hears_changes
  changes h [] z = z
  changes h (c ∷ cs) z = changes (removal.hears_change h c).part cs (change h c z)

  event : (h : Host) (f : List ℕ) → HostIsSized h → HostIsSized (removal.hears_event h f).part
  event h f z = let ack = request.Ack (event_in f) (event_context_in f) in changes (asks.asks_internal h ack) (changes_in f) (asked h ack (least_free class.Internal h.pool) z)

  -- ---- replies

  unparked : (h : Host) (task : ℕ) (x : Slot Request) → HostIsSized h → HostIsSized (replies.unparks h task x)
  unparked h task Free z = z
  unparked h task (Open r) z = z
  unparked h task Parked z = with_pool h (task - 1) Free z

  left : (h : Host) (s handle : ℕ) → HostIsSized h → HostIsSized (removal.left h s handle)
  left h s handle z =
      let freed : Host = asks.frees_high (removal.with_phase_of h handle (after_task_done (phase_at h.phases handle) s)) s in
      let zf = freed_high (removal.with_phase_of h handle (after_task_done (phase_at h.phases handle) s)) s (with_phases h handle _ z) in
      if_so (removal.is_reset_under s (phase_at h.phases handle)) (asks.asks_internal freed (request.Remove handle)) freed (asked freed (request.Remove handle) (least_free class.Internal freed.pool) zf) zf

  unless : (h : Host) (s : ℕ) (o : Happening Host) → HostIsSized h → HostIsSized o.part → HostIsSized (replies.unless_resetting h s o).part
  unless h s o z y = outcome_if (is_resetting h.mode) (removal.quietly (asks.frees h s)) o (with_pool h (s - 1) Free z) y

  answered : (h : Host) (s : ℕ) (r : Request) (v : Heard) → HostIsSized h → HostIsSized (replies.hears_answer h s r v).part
  answered h s (request.Command n) v z = with_pool h (s - 1) (replies.slot_after (finmap.get h.aborts n)) z
  answered h s (request.Abort n task) v z = freed_high (replies.closes_abort h n task) s (unparked (record h { aborts = finmap.remove h.aborts n }) task (slot_of h.pool task) z)
  answered h s (request.TargetReset address) v z = freed_high h s z
  answered h s (request.Leave handle) v z = unless h s _ z (left h s handle z)
  answered h s (request.Page handle) v z = unless h s (removal.reads_page h s handle (replies.address_read (replies.reply_bytes v) v.page)) z (freed_internal (removal.with_phase_of h handle (after_page (phase_at h.phases handle) s (replies.address_read (replies.reply_bytes v) v.page))) s (with_phases h handle _ z))
  answered h s (request.Remove handle) v z = unless h s _ z (freed_internal (removal.with_phase_of h handle (after_removed (phase_at h.phases handle) s)) s (with_phases h handle _ z))
  answered h s (request.Ack ev context) v z = unless h s _ z (freed_internal h s z)
  answered h s request.Notification v z = let k = asks.frees_internal h s in unless h s _ z (asked k request.PortEnable (least_free class.Internal k.pool) (freed_internal h s z))
  answered h s request.PortEnable v z = unless h s (replies.after_port_enable h s) z (freed_internal h s z)

  replied : (h : Host) (s : ℕ) (o : Option Request) (v : Heard) → HostIsSized h → HostIsSized (replies.hears_reply_to h s o v).part
  replied h s None v z = outcome_if (is_resetting h.mode) (removal.quietly h) (removal.hears_event h (replies.reply_bytes v)) z (event h (replies.reply_bytes v) z)
  replied h s (Some r) v z = answered h s r v z

  framed : (h : Host) (d : ℕ) (f : Option (List ℕ)) → HostIsSized h → HostIsSized (replies.with_frame_heard h d f)
  framed h d None z = z
  framed h d (Some f) z =
      let n = returns.frame_of (frame_address_in d) in
      if_so h.returning (returns.with_return h n) (returns.keeps h n) (with_frames h n frame.Out z) (with_frames h n frame.Held z)

  reply : (h : Host) (queue : ℕ) (v : Heard) → HostIsSized h → HostIsSized (replies.hears_reply h queue v).part
  reply h queue v z =
      let k : Host = replies.with_frame_heard h v.descriptor v.frame in
      let t : Host = replies.takes_entry k queue in
      replied t (smid_in v.descriptor) (replies.request_of h (smid_in v.descriptor)) v (with_indices k queue _ (framed h v.descriptor v.frame z))

  -- ---- the doorbell

  stepped : (h : Host) (d : HostDoor) (x : DoorStep) → HostIsSized h → HostIsSized (door.puts_step h d x)
  stepped h d (step.Read reg) z = z
  stepped h d (step.Write reg value) z = z
  stepped h d (step.Done count bytes) z = z
  stepped h d (step.Refused at value) z = z

  begun : (h : Host) (s : Stage) (d : HostDoor) → HostIsSized h → HostIsSized (door.begins h s d)
  begun h s d z = let t = door.next_turn d None in stepped (door.puts_writes (record h { stage = s }) t.writes) t.door t.step z

  handshake : (h : Host) (s : Stage) (x : HostAsk) → HostIsSized h → HostIsSized (door.begins_handshake h s x)
  handshake h s x z = begun h s (handshake_of_message (message_bytes (host_message x))) z

  started : (h : Host) (n : ℕ) → HostIsSized h → HostIsSized (values.starts_by h n)
  started h n z = by_tests (n == IOC_STATE_READY) (n == IOC_STATE_OPERATIONAL) (n == IOC_STATE_FAULT)
    where
      by_tests : (x y w : Bool) → HostIsSized (if x then door.begins_facts h else if y then door.begins h stage.StartReset unit_reset else if w then door.begins h stage.StartReset diagnostic_reset else values.looks_to_start h)
      by_tests true y w = handshake h stage.Facts ask.Facts z
      by_tests false true w = begun h stage.StartReset unit_reset z
      by_tests false false true = begun h stage.StartReset diagnostic_reset z
      by_tests false false false = begun h stage.Start look_at_doorbell z

  renewed : (h : Host) → HostIsSized h → HostIsSized (resets.renewed h)
  renewed h z = record { slots = length_free 280 free_slot; handles = length_free 64 phase.Absent; held = length_free 64 frame.Held; queues = z.queues; marked = z.marked }

  over : (h : Host) → HostIsSized h → HostIsSized (resets.ends_reset_if_over h).part
  over h z = outcome_if (h.door_ready && resets.has_all_marks h) (resets.ends_reset h) (record { part = h; entries = [] }) (handshake (resets.renewed h) stage.Facts ask.Facts (renewed h z)) z

  late : (h : Host) (s : Stage) → HostIsSized h → HostIsSized (resets.begins_late h s)
  late h stage.DiagnosticReset z = begun h stage.DiagnosticReset diagnostic_reset z
  late h stage.UnitReset z = begun h stage.UnitReset unit_reset z
  late h stage.Idle z = z
  late h stage.Start z = z
  late h stage.StartReset z = z
  late h stage.Facts z = z
  late h stage.PortFacts z = z
  late h stage.Init z = z
  late h stage.Look z = z

  all_returned : (h : Host) (fs : List ℕ) → HostIsSized h → HostIsSized (fold returns.with_return h fs)
  all_returned h [] z = z
  all_returned h (f ∷ fs) z = all_returned (returns.with_return h f) fs (with_frames h f frame.Out z)

  ended : (h : Host) (s : Stage) (bytes : List ℕ) → HostIsSized h → HostIsSized (values.ends_stage h s bytes).part
  ended h stage.Idle bytes z = z
  ended h stage.Start bytes z = started h (values.state_read bytes) z
  ended h stage.StartReset bytes z = handshake h stage.Facts ask.Facts z
  ended h stage.Facts bytes z = handshake h stage.PortFacts ask.PortFacts z
  ended h stage.PortFacts bytes z = handshake h stage.Init (ask.Init (host_queue_count h)) z
  ended h stage.Init bytes z = asked (returns.returns_all h) request.Notification (least_free class.Internal (returns.returns_all h).pool) (all_returned h (range_with_len 0 returns.reply_frame_count) z)
  ended h stage.Look bytes z = z
  ended h stage.DiagnosticReset bytes z = over (record h { door_ready = true }) z
  ended h stage.UnitReset bytes z = over (record h { door_ready = true }) z

  after_turn : (h : Host) (s : Stage) (x : DoorStep) → HostIsSized h → HostIsSized (values.after_turn h s x).part
  after_turn h s (step.Done count bytes) z = ended h s (take count bytes) z
  after_turn h s (step.Read reg) z = z
  after_turn h s (step.Write reg value) z = z
  after_turn h s (step.Refused at value) z = z

  value_at : (h : Host) (o : Option HostDoor) (v : ℕ) → HostIsSized h → HostIsSized (values.hears_value_at h o v).part
  value_at h None v z = late h h.stage z
  value_at h (Some d) v z = let t = door.next_turn d (Some v) in after_turn (door.puts_turn h t) h.stage t.step (stepped (door.puts_writes h t.writes) t.door t.step z)

  -- ---- an item that is taken

  pub heard : (h : Host) (queue : ℕ) (x : Up) → HostIsSized h → HostIsSized (hears_up h queue x).part
  heard h queue (up.Value v) z = value_at (record h { reading = false }) h.machine v z
  heard h queue (up.Reply d f page sense) z = reply h queue (replies.heard_of d f page sense) z
  heard h queue (up.Mark generation) z = over (record h { marks = slice_set h.marks queue true }) (with_marks h queue z)
  heard h queue up.Calm z = z

  pub taken : (h : Host) (queue : ℕ) (x : Up) (o : Option Why) → HostIsSized h → HostIsSized (takes_unless h queue x o).part
  taken h queue x None z = heard h queue x z
  taken h queue x (Some why) z = z

  -- ---- an item that leaves the outbox

  pub sent : (h : Host) (xs : List Down) → HostIsSized h → HostIsSized (returns.sends_first h xs)
  sent h [] z = z
  sent h (down.Return address index ∷ rest) z = with_frames (record h { out = rest }) (returns.frame_of address) frame.Away z
  sent h (down.Write reg value ∷ rest) z = z
  sent h (down.Read reg ∷ rest) z = z
  sent h (down.Post d f p ∷ rest) z = z
  sent h (down.Stop ∷ rest) z = z

  -- ---- inputs

  given_up : (h : Host) (s : Stage) → HostIsSized h → HostIsSized (resets.gives_up h s)
  given_up h s z = record { slots = z.slots; handles = z.handles; held = z.held; queues = z.queues; marked = length_free (host_queue_count h) false ∙ z.queues }

  reset_asked : (h : Host) (s : Stage) (d : HostDoor) → HostIsSized h → HostIsSized (resets.with_reset_asked h s d)
  reset_asked h s d z = if_so h.reading (resets.gives_up h s) (door.begins (resets.gives_up h s) s d) (given_up h s z) (begun (resets.gives_up h s) s d (given_up h s z))

  submitted : (h : Host) (n address : ℕ) (command : Command) (used up : Bool) (handle : Option ℕ) (fit : Bool) (o : Option ℕ) → HostIsSized h → HostIsSized (submits_by h n address command used up handle fit o).part
  submitted h n address command true up handle fit o z = z
  submitted h n address command false false handle fit o z = z
  submitted h n address command false true None fit o z = z
  submitted h n address command false true (Some x) false o z = z
  submitted h n address command false true (Some x) true None z = z
  submitted h n address command false true (Some x) true (Some s) z = with_pool h (s - 1) (Open (request.Command n)) z

  aborted : (h : Host) (n : ℕ) (up : Bool) (cmd : Option Cmd) (there o : Option ℕ) → HostIsSized h → HostIsSized (aborts_by h n up cmd there o).part
  aborted h n false cmd there o z = z
  aborted h n true None there o z = z
  aborted h n true (Some cmd) (Some x) o z = z
  aborted h n true (Some cmd) None None z = z
  aborted h n true (Some cmd) None (Some s) z = with_pool h (s - 1) (Open (request.Abort n cmd.smid)) z

  target_reset : (h : Host) (address : ℕ) (up : Bool) (handle o : Option ℕ) → HostIsSized h → HostIsSized (resets_target_by h address up handle o).part
  target_reset h address false handle o z = z
  target_reset h address true None o z = z
  target_reset h address true (Some x) None z = z
  target_reset h address true (Some x) (Some s) z = with_pool h (s - 1) (Open (request.TargetReset address)) z

  starts : (h : Host) (m : HostState) → HostIsSized h → HostIsSized (inputs.starts_in h m).part
  starts h state.Off z = begun (record h { mode = state.Starting }) stage.Start look_at_doorbell z
  starts h state.Starting z = z
  starts h state.Up z = z
  starts h state.Resetting z = z

  diagnostic : (h : Host) (m : HostState) → HostIsSized h → HostIsSized (inputs.diag_resets_in h m).part
  diagnostic h state.Off z = z
  diagnostic h state.Starting z = reset_asked h stage.DiagnosticReset diagnostic_reset z
  diagnostic h state.Up z = reset_asked h stage.DiagnosticReset diagnostic_reset z
  diagnostic h state.Resetting z = z

  unit : (h : Host) (m : HostState) → HostIsSized h → HostIsSized (inputs.unit_resets_in h m).part
  unit h state.Off z = z
  unit h state.Starting z = z
  unit h state.Up z = reset_asked h stage.UnitReset unit_reset z
  unit h state.Resetting z = z

  pub told : (h : Host) (i : Input) → HostIsSized h → HostIsSized (host_told h i).part
  told h input.Start z = starts h h.mode z
  told h (input.Submit n address form) z = submitted h n address (command_named form) (finset.contains h.accepted n) (is_up h.mode) (ready_handle h.phases address) (fits (command_named form)) (least_free class.ScsiIo h.pool) z
  told h (input.Abort n) z = aborted h n (is_up h.mode) (finmap.get h.cmds n) (finmap.get h.aborts n) (least_free class.High h.pool) z
  told h (input.TargetReset address) z = target_reset h address (is_up h.mode) (ready_handle h.phases address) (least_free class.High h.pool) z
  told h input.Reset z = diagnostic h h.mode z
  told h input.UnitReset z = unit h h.mode z
  told h (input.Plug address expander phy) z = z
  told h (input.Unplug address) z = z

  -- ---- the end of a session

  pub looked : (b : Bool) (h : Host) → HostIsSized h → HostIsSized (Rattle.mpt_rules.specs.World.Cases.looks_if b h)
  looked true h z = begun h stage.Look look_at_doorbell z
  looked false h z = z

  pub stopped : (b : Bool) (h : Host) → HostIsSized h → HostIsSized (Rattle.mpt_rules.specs.World.Cases.stops_if b h)
  stopped true h z = z
  stopped false h z = z
