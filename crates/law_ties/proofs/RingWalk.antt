-- A fact of the host's outbox, of the indices of its rings and of its count of returns is kept by each call of the host, where it is kept as a post goes into
-- the outbox, as a frame is returned, and as posts leave the outbox; but for the index that each reply takes.
use Rattle.std.proofs.Common.{◌≡◌, ℕ, zero, suc, ◌+◌, ◌%◌, ◌==◌, ◌&&◌, ◌||◌, not, Bool, true, false, if◌then◌else◌, List, [], ◌∷◌, ◌++◌, append_assoc, bit_and, length, slice_get, slice_set, take, Option, Some, None, refl, ap, sym, ◌∙◌, subst, arith}
use Rattle.std.specs.List.{filter, fold, range_with_len}
use Rattle.std.specs.FinMap as finmap
use Rattle.std.specs.FinSet as finset
use Rattle.mpi_names.specs.declared.memory.TheConstants.{FREE_RING_ENTRIES}
use Rattle.mpi_doorbell.specs.Bytes.{has}
use Rattle.mpi_doorbell.specs.HostDoor.{HostDoor, Stepped}
use Rattle.mpi_doorbell.specs.HostHandshake.{is_bad_length, is_whole, sends}
use Rattle.mpi_doorbell.specs.HostReset.{reset_keys, writes_key_or_reads}
use Rattle.mpi_doorbell.specs.HostSteps.{acts, diagnostic_reset, handshake_of_message, hears, hears_reading, look_at_doorbell, next_step, unit_reset}
use Rattle.mpi_doorbell.specs.declared.registers.TheConstants.{DIAG_RESET_ADAPTER, DIAG_WRITE_ENABLE, DOORBELL_USED, IOC2SYS_DB_STATUS, IOC_STATE_FAULT, IOC_STATE_MASK, IOC_STATE_OPERATIONAL, IOC_STATE_READY, REPLY_POST_HOST_INDEX, SYS2IOC_DB_STATUS}
use Rattle.mpi_doorbell.specs.declared.stage.Reading.{Reading}
use Rattle.mpi_doorbell.specs.declared.stage.Reading.TheVariants as reading
use Rattle.mpi_doorbell.specs.declared.stage.Stage.{Stage as DoorStage}
use Rattle.mpi_doorbell.specs.declared.stage.Stage.TheVariants.{Reads, Awaits, Opens, WritesKey, Locks, ResetsUnit, Finishes, Ended}
use Rattle.mpi_doorbell.specs.declared.step.DoorStep.{DoorStep}
use Rattle.mpi_doorbell.specs.declared.step.DoorStep.TheVariants as step
use Rattle.mpt_messages.specs.FrameBytes.{message_bytes}
use Rattle.mpt_messages.specs.HostFrames.{host_message}
use Rattle.mpt_messages.specs.declared.host_ask.HostAsk.{HostAsk}
use Rattle.mpt_messages.specs.declared.host_ask.HostAsk.TheVariants as ask
use Rattle.scsi_disk.specs.Command.{fits}
use Rattle.scsi_disk.specs.declared.command.Command.{Command}
use Rattle.smid_pool.specs.Pool.{Slot, Free, Open, Parked, least_free, slot_of}
use Rattle.smid_pool.specs.declared.class.Class.TheVariants as class
use Rattle.removal.specs.Handles.{phase_at, ready_handle, with_phase}
use Rattle.removal.specs.Phases.{after_added, after_gone, after_page, after_removed, after_task_done}
use Rattle.removal.specs.declared.phase.Phase.{Phase}
use Rattle.removal.specs.declared.phase.Phase.TheVariants as phase
use Rattle.mpt_wire.specs.Machine.Causes.{is_resetting, is_up}
use Rattle.mpt_wire.specs.Messages.Fields.{Change, changes_in, event_context_in, event_in, target_added, target_not_responding}
use Rattle.mpt_trace.specs.Command.{command_named}
use Rattle.mpt_trace.specs.declared.host_state.HostState.{HostState}
use Rattle.mpt_trace.specs.declared.host_state.HostState.TheVariants as state
use Rattle.mpt_trace.specs.declared.input.Input.{Input}
use Rattle.mpt_trace.specs.declared.input.Input.TheVariants as input
use Rattle.mpt_trace.specs.declared.item.Down.{Down}
use Rattle.mpt_trace.specs.declared.item.Down.TheVariants as down
use Rattle.mpt_rules.specs.declared.request.Request.{Request}
use Rattle.mpt_rules.specs.declared.request.Request.TheVariants as request
use Rattle.mpt_rules.specs.declared.stage.Stage.{Stage}
use Rattle.mpt_rules.specs.declared.stage.Stage.TheVariants as stage
use Rattle.mpt_rules.specs.Outcome.{Happening}
use Rattle.mpt_rules.specs.Host.Doorbell as door
use Rattle.mpt_rules.specs.Host.Doorbell.{DoorTurn, next_turn, turn_from}
use Rattle.mpt_rules.specs.Host.Inputs as inputs
use Rattle.mpt_rules.specs.Host.Parts.{Cmd, Host, host_queue_count}
use Rattle.mpt_rules.specs.Host.Posts as asks
use Rattle.mpt_rules.specs.Host.Removal as removal
use Rattle.mpt_rules.specs.Host.Replies.{Heard}
use Rattle.mpt_rules.specs.Host.Replies as replies
use Rattle.mpt_rules.specs.Host.Resets as resets
use Rattle.mpt_rules.specs.Host.Resets.{is_no_post}
use Rattle.mpt_rules.specs.Host.Returns as returns
use Rattle.mpt_rules.specs.Host.Takes.{looks, stops}
use Rattle.mpt_rules.specs.Host.Values as values
use Rattle.mpt_rules.specs.World.Inputs.{host_told}
use Rattle.mpt_rules.proofs.HostCalls.{submits_by, aborts_by, resets_target_by}

-- no index of a ring: neither the write of one, nor a return
abbrev pub IsRingless : Down → Type 0
IsRingless (down.Write reg value) = (reg == REPLY_POST_HOST_INDEX) ≡ false
IsRingless (down.Return address index) = ⊥
IsRingless _ = Unit {0}

abbrev pub AreRingless : List Down → Type 0
AreRingless [] = Unit {0}
AreRingless (x ∷ xs) = IsRingless x × AreRingless xs

-- ---- turns at the doorbell write no index

abbrev StepIs : DoorStep → Type 0
StepIs (step.Write reg value) = (reg == REPLY_POST_HOST_INDEX) ≡ false
StepIs _ = Unit {0}

either : (b : Bool) (x y : Stepped) → StepIs x.step → StepIs y.step → StepIs (if b then x else y).step
either true x y a b = a
either false x y a b = b

sends_is : (d : HostDoor) → StepIs (sends d).step
sends_is d = either (length d.unsent == 0) _ _ tt refl

acts_is : (d : HostDoor) (s : DoorStage) → StepIs (acts d s).step
acts_is d (Reads x) = tt
acts_is d (Awaits x) = tt
acts_is d Opens = refl
acts_is d (WritesKey place) = by_key (slice_get reset_keys place)
  where
    by_key : (o : Option ℕ) → StepIs (writes_key_or_reads d place o).step
    by_key (Some key) = refl
    by_key None = tt
acts_is d Locks = refl
acts_is d ResetsUnit = refl
acts_is d Finishes = tt
acts_is d Ended = tt

reading_is : (d : HostDoor) (x : Reading) (value : ℕ) → StepIs (hears_reading d x value).step
reading_is d reading.Used value = either (has value DOORBELL_USED) _ _ tt tt
reading_is d reading.LeftOver value = either (has value IOC2SYS_DB_STATUS) _ _ refl refl
reading_is d reading.Opened value = either (has value IOC2SYS_DB_STATUS) _ _ refl tt
reading_is d reading.Taken value = either (has value SYS2IOC_DB_STATUS) _ _ tt (sends_is d)
reading_is d reading.News value = either (has value IOC2SYS_DB_STATUS) _ _ tt tt
reading_is d reading.Word value = either (is_whole d.reply) _ _ (either (has value DOORBELL_USED) _ _ tt refl) (either (is_bad_length d.reply value) _ _ tt refl)
reading_is d reading.Unlocked value = either (has value DIAG_WRITE_ENABLE) _ _ refl tt
reading_is d reading.ResetOver value = either (has value DIAG_RESET_ADAPTER) _ _ tt refl
reading_is d (reading.State kind) value =
    either (bit_and value IOC_STATE_MASK == IOC_STATE_READY) _ _ tt (either ((bit_and value IOC_STATE_MASK == IOC_STATE_FAULT) || (bit_and value IOC_STATE_MASK == IOC_STATE_OPERATIONAL)) _ _ tt tt)
reading_is d reading.UnitReset value = either (has value SYS2IOC_DB_STATUS) _ _ tt tt
reading_is d reading.Doorbell value = tt

hears_is : (d : HostDoor) (s : DoorStage) (value : ℕ) → StepIs (hears d s value).step
hears_is d (Awaits x) value = reading_is d x value
hears_is d (Reads x) value = tt
hears_is d Opens value = tt
hears_is d (WritesKey place) value = tt
hears_is d Locks value = tt
hears_is d ResetsUnit value = tt
hears_is d Finishes value = tt
hears_is d Ended value = tt

next_is : (d : HostDoor) (v : Option ℕ) → StepIs (next_step d v).step
next_is d None = acts_is d d.stage
next_is d (Some v) = hears_is d d.stage v

turn_writes : (n : ℕ) (d : HostDoor) (s : DoorStep) → StepIs s → AreRingless (turn_from n d s).writes
unfolding turn_from
turn_writes zero d s i = tt
turn_writes (suc n) d (step.Write reg value) i = (i, turn_writes n (next_step d None).door (next_step d None).step (next_is d None))
turn_writes (suc n) d (step.Read reg) i = tt
turn_writes (suc n) d (step.Done count bytes) i = tt
turn_writes (suc n) d (step.Refused at value) i = tt

pub ringless_turn : (d : HostDoor) (v : Option ℕ) → AreRingless (next_turn d v).writes
ringless_turn d v = turn_writes door.most_writes (next_step d v).door (next_step d v).step (next_is d v)

-- ---- what a call keeps

module _ (P : List Down → List ℕ → ℕ → Type 0)
    (plain : (o : List Down) (i : List ℕ) (r : ℕ) (x : Down) → IsRingless x → P o i r → P (o ++ x ∷ []) i r)
    (without : (o : List Down) (i : List ℕ) (r : ℕ) → P o i r → P (filter is_no_post o) i r)
    (returned : (o : List Down) (i : List ℕ) (r address : ℕ) → P o i r → P (o ++ down.Return address ((r + 1) % FREE_RING_ENTRIES) ∷ []) i ((r + 1) % FREE_RING_ENTRIES)) where
  abbrev pub Keeps : Host → Type 0
  Keeps h = P h.out h.indices h.returned

  row : (o xs : List Down) (i : List ℕ) (r : ℕ) → AreRingless xs → P o i r → P (o ++ xs) i r
  row o [] i r w a = subst (λ z. P z i r) (sym (Rattle.std.proofs.Common.append-nil o)) a
  row o (x ∷ xs) i r w a = subst (λ z. P z i r) (append_assoc o (x ∷ []) xs) (row (o ++ x ∷ []) xs i r w.1 (plain o i r x w.0 a))

  -- ---- posts

  post : (h : Host) (d : ℕ) (f p : List ℕ) → Keeps h → Keeps (record h { out = h.out ++ down.Post d f p ∷ [] })
  post h d f p a = plain h.out h.indices h.returned (down.Post d f p) tt a

  leave : (h : Host) (s handle : ℕ) → Keeps h → Keeps (asks.posts_leave h s handle)
  leave h s handle a = post h _ _ _ a

  internal : (h : Host) (s : ℕ) (r : Request) → Keeps h → Keeps (asks.posts_internal h s r)
  internal h s (request.Page handle) a = post h _ _ _ a
  internal h s (request.Remove handle) a = post h _ _ _ a
  internal h s (request.Ack ev context) a = post h _ _ _ a
  internal h s request.Notification a = post h _ _ _ a
  internal h s request.PortEnable a = post h _ _ _ a
  internal h s (request.Command n) a = a
  internal h s (request.Abort n task) a = a
  internal h s (request.TargetReset address) a = a
  internal h s (request.Leave handle) a = a

  asks_internal : (h : Host) (r : Request) → Keeps h → Keeps (asks.asks_internal h r)
  asks_internal h r a = by_free (least_free class.Internal h.pool)
    where
      by_free : (o : Option ℕ) → Keeps (asks.posts_internal_or_waits h r o)
      by_free None = a
      by_free (Some s) = internal h s r a

  asks_leave : (h : Host) (handle : ℕ) → Keeps h → Keeps (asks.asks_leave h handle)
  asks_leave h handle a = by_free (least_free class.High h.pool)
    where
      by_free : (o : Option ℕ) → Keeps (asks.posts_leave_or_waits h handle o)
      by_free None = a
      by_free (Some s) = leave h s handle a

  frees_high : (h : Host) (s : ℕ) → Keeps h → Keeps (asks.frees_high h s)
  frees_high h s a = by_list h.wait_high
    where
      by_list : (xs : List ℕ) → Keeps (asks.gives_high (asks.frees h s) s xs)
      by_list [] = a
      by_list (handle ∷ rest) = leave (record (asks.frees h s) { wait_high = rest }) s handle a

  frees_internal : (h : Host) (s : ℕ) → Keeps h → Keeps (asks.frees_internal h s)
  frees_internal h s a = by_list h.wait_internal
    where
      by_list : (xs : List Request) → Keeps (asks.gives_internal (asks.frees h s) s xs)
      by_list [] = a
      by_list (x ∷ rest) = internal (record (asks.frees h s) { wait_internal = rest }) s x a

  closes : (h : Host) (n task : ℕ) → Keeps h → Keeps (replies.closes_abort h n task)
  closes h n task a = by_slot (slot_of h.pool task)
    where
      by_slot : (x : Slot Request) → Keeps (replies.unparks (record h { aborts = finmap.remove h.aborts n }) task x)
      by_slot Free = a
      by_slot (Open r) = a
      by_slot Parked = a

  -- ---- events

  adds : (h : Host) (handle : ℕ) (p : Phase) → Keeps h → Keeps (removal.after_handle_added h handle p)
  adds h handle phase.Absent a = asks_internal (removal.with_phase_of h handle (after_added phase.Absent)) (request.Page handle) a
  adds h handle phase.WaitRead a = a
  adds h handle (phase.Reading s) a = a
  adds h handle (phase.Ready address) a = a
  adds h handle phase.WaitHigh a = a
  adds h handle (phase.Resetting s) a = a
  adds h handle phase.WaitInternal a = a
  adds h handle (phase.Removing s) a = a

  begins_removal : (h : Host) (handle : ℕ) (p : Phase) → Keeps h → Keeps (removal.begins_removal h handle p).part
  begins_removal h handle p a = asks_leave (record h { phases = with_phase h.phases handle (after_gone p); wait_internal = removal.without_page handle h.wait_internal }) handle a

  loses : (h : Host) (handle : ℕ) (p : Phase) → Keeps h → Keeps (removal.after_handle_lost h handle p).part
  loses h handle phase.WaitRead a = begins_removal h handle phase.WaitRead a
  loses h handle (phase.Reading s) a = begins_removal h handle (phase.Reading s) a
  loses h handle (phase.Ready address) a = begins_removal h handle (phase.Ready address) a
  loses h handle phase.Absent a = a
  loses h handle phase.WaitHigh a = a
  loses h handle (phase.Resetting s) a = a
  loses h handle phase.WaitInternal a = a
  loses h handle (phase.Removing s) a = a

  change : (h : Host) (c : Change) → Keeps h → Keeps (removal.hears_change h c).part
  change h c a = by_tests (removal.is_disk_handle c.handle) (c.status == target_added) (c.status == target_not_responding)
    where
      by_tests : (x y z : Bool) → Keeps (if x then (if y then removal.quietly (removal.after_handle_added h c.handle (phase_at h.phases c.handle)) else (if z then removal.after_handle_lost h c.handle (phase_at h.phases c.handle) else removal.quietly h)) else removal.quietly h).part
      by_tests true true z = adds h c.handle (phase_at h.phases c.handle) a
      by_tests true false true = loses h c.handle (phase_at h.phases c.handle) a
      by_tests true false false = a
      by_tests false y z = a

  changes : (h : Host) (cs : List Change) → Keeps h → Keeps (removal.hears_changes h cs).part
  unfolding removal.hears_changes
  changes h [] a = a
  changes h (c ∷ cs) a = changes (removal.hears_change h c).part cs (change h c a)

  event : (h : Host) (f : List ℕ) → Keeps h → Keeps (removal.hears_event h f).part
  event h f a = changes (asks.asks_internal h (request.Ack (event_in f) (event_context_in f))) (changes_in f) (asks_internal h (request.Ack (event_in f) (event_context_in f)) a)

  -- ---- a reply, behind its index

  left : (h : Host) (s handle : ℕ) → Keeps h → Keeps (removal.left h s handle)
  left h s handle a = by_phase (removal.is_reset_under s (phase_at h.phases handle))
    where
      freed : Host
      freed = asks.frees_high (removal.with_phase_of h handle (after_task_done (phase_at h.phases handle) s)) s

      by_phase : (b : Bool) → Keeps (if b then asks.asks_internal freed (request.Remove handle) else freed)
      by_phase true = asks_internal freed (request.Remove handle) (frees_high (removal.with_phase_of h handle (after_task_done (phase_at h.phases handle) s)) s a)
      by_phase false = frees_high (removal.with_phase_of h handle (after_task_done (phase_at h.phases handle) s)) s a

  unless : (h : Host) (s : ℕ) (o : Happening Host) (b : Bool) → Keeps h → Keeps o.part → Keeps (if b then removal.quietly (asks.frees h s) else o).part
  unless h s o true a c = a
  unless h s o false a c = c

  replied : (h : Host) (s : ℕ) (r : Request) (v : Heard) → Keeps h → Keeps (replies.hears_answer h s r v).part
  replied h s (request.Command n) v a = a
  replied h s (request.Abort n task) v a = frees_high (replies.closes_abort h n task) s (closes h n task a)
  replied h s (request.TargetReset address) v a = frees_high h s a
  replied h s (request.Leave handle) v a = unless h s _ (is_resetting h.mode) a (left h s handle a)
  replied h s (request.Page handle) v a = unless h s _ (is_resetting h.mode) a (frees_internal (removal.with_phase_of h handle (after_page (phase_at h.phases handle) s (replies.address_read (replies.reply_bytes v) v.page))) s a)
  replied h s (request.Remove handle) v a = unless h s _ (is_resetting h.mode) a (frees_internal (removal.with_phase_of h handle (after_removed (phase_at h.phases handle) s)) s a)
  replied h s (request.Ack ev context) v a = unless h s _ (is_resetting h.mode) a (frees_internal h s a)
  replied h s request.Notification v a = unless h s _ (is_resetting h.mode) a (asks_internal (asks.frees_internal h s) request.PortEnable (frees_internal h s a))
  replied h s request.PortEnable v a = unless h s (replies.after_port_enable h s) (is_resetting h.mode) a (frees_internal h s a)

  pub reply_keeps : (h : Host) (s : ℕ) (r : Option Request) (v : Heard) → Keeps h → Keeps (replies.hears_reply_to h s r v).part
  reply_keeps h s (Some r) v a = replied h s r v a
  reply_keeps h s None v a = by_mode (is_resetting h.mode)
    where
      by_mode : (b : Bool) → Keeps (if b then removal.quietly h else removal.hears_event h (replies.reply_bytes v)).part
      by_mode true = a
      by_mode false = event h (replies.reply_bytes v) a

  -- the frame of a reply
  pub frame_keeps : (h : Host) (d : ℕ) (f : Option (List ℕ)) → Keeps h → Keeps (replies.with_frame_heard h d f)
  frame_keeps h d None a = a
  frame_keeps h d (Some f) a = by_bool h.returning
    where
      by_bool : (b : Bool) → Keeps (if b then returns.with_return h (returns.frame_of (Rattle.mpt_wire.specs.Messages.Fields.frame_address_in d)) else returns.keeps h (returns.frame_of (Rattle.mpt_wire.specs.Messages.Fields.frame_address_in d)))
      by_bool true = returned h.out h.indices h.returned _ a
      by_bool false = a

  -- ---- the doorbell

  puts_step : (h : Host) (d : HostDoor) (x : DoorStep) → Keeps h → Keeps (door.puts_step h d x)
  puts_step h d (step.Read reg) a = plain h.out h.indices h.returned (down.Read reg) tt a
  puts_step h d (step.Write reg value) a = a
  puts_step h d (step.Done count bytes) a = a
  puts_step h d (step.Refused at value) a = a

  turns : (h : Host) (d : HostDoor) (v : Option ℕ) → Keeps h → Keeps (door.puts_turn h (next_turn d v))
  turns h d v a = let t = next_turn d v in puts_step (door.puts_writes h t.writes) t.door t.step (row h.out t.writes h.indices h.returned (ringless_turn d v) a)

  begins : (h : Host) (s : Stage) (d : HostDoor) → Keeps h → Keeps (door.begins h s d)
  begins h s d a = turns (record h { stage = s }) d None a

  handshake : (h : Host) (s : Stage) (x : HostAsk) → Keeps h → Keeps (door.begins_handshake h s x)
  handshake h s x a = begins h s (handshake_of_message (message_bytes (host_message x))) a

  starts_by : (h : Host) (n : ℕ) → Keeps h → Keeps (values.starts_by h n)
  starts_by h n a = by_tests (n == IOC_STATE_READY) (n == IOC_STATE_OPERATIONAL) (n == IOC_STATE_FAULT)
    where
      by_tests : (x y z : Bool) → Keeps (if x then door.begins_facts h else if y then door.begins h stage.StartReset unit_reset else if z then door.begins h stage.StartReset diagnostic_reset else values.looks_to_start h)
      by_tests true y z = handshake h stage.Facts ask.Facts a
      by_tests false true z = begins h stage.StartReset unit_reset a
      by_tests false false true = begins h stage.StartReset diagnostic_reset a
      by_tests false false false = begins h stage.Start look_at_doorbell a

  over : (h : Host) → Keeps h → Keeps (resets.ends_reset_if_over h).part
  over h a = by_test (h.door_ready && resets.has_all_marks h)
    where
      by_test : (b : Bool) → Keeps (if b then resets.ends_reset h else record { part = h; entries = [] }).part
      by_test true = handshake (resets.renewed h) stage.Facts ask.Facts a
      by_test false = a

  late : (h : Host) (s : Stage) → Keeps h → Keeps (resets.begins_late h s)
  late h stage.DiagnosticReset a = begins h stage.DiagnosticReset diagnostic_reset a
  late h stage.UnitReset a = begins h stage.UnitReset unit_reset a
  late h stage.Idle a = a
  late h stage.Start a = a
  late h stage.StartReset a = a
  late h stage.Facts a = a
  late h stage.PortFacts a = a
  late h stage.Init a = a
  late h stage.Look a = a

  all_returned : (h : Host) (fs : List ℕ) → Keeps h → Keeps (fold returns.with_return h fs)
  all_returned h [] a = a
  all_returned h (f ∷ fs) a = all_returned (returns.with_return h f) fs (returned h.out h.indices h.returned _ a)

  ends_stage : (h : Host) (s : Stage) (bytes : List ℕ) → Keeps h → Keeps (values.ends_stage h s bytes).part
  ends_stage h stage.Idle bytes a = a
  ends_stage h stage.Start bytes a = starts_by h (values.state_read bytes) a
  ends_stage h stage.StartReset bytes a = handshake h stage.Facts ask.Facts a
  ends_stage h stage.Facts bytes a = handshake h stage.PortFacts ask.PortFacts a
  ends_stage h stage.PortFacts bytes a = handshake h stage.Init (ask.Init (host_queue_count h)) a
  ends_stage h stage.Init bytes a = asks_internal (returns.returns_all h) request.Notification (all_returned h (range_with_len 0 returns.reply_frame_count) a)
  ends_stage h stage.Look bytes a = a
  ends_stage h stage.DiagnosticReset bytes a = over (record h { door_ready = true }) a
  ends_stage h stage.UnitReset bytes a = over (record h { door_ready = true }) a

  after_turn : (h : Host) (s : Stage) (x : DoorStep) → Keeps h → Keeps (values.after_turn h s x).part
  after_turn h s (step.Done count bytes) a = ends_stage h s (take count bytes) a
  after_turn h s (step.Read reg) a = a
  after_turn h s (step.Write reg value) a = a
  after_turn h s (step.Refused at value) a = a

  pub value_keeps : (h : Host) (value : ℕ) → Keeps h → Keeps (values.hears_value h value).part
  value_keeps h value a = by_machine h.machine
    where
      by_machine : (o : Option HostDoor) → Keeps (values.hears_value_at (record h { reading = false }) o value).part
      by_machine None = late (record h { reading = false }) h.stage a
      by_machine (Some d) = after_turn (door.puts_turn (record h { reading = false }) (next_turn d (Some value))) h.stage (next_turn d (Some value)).step (turns (record h { reading = false }) d (Some value) a)

  pub mark_keeps : (h : Host) (queue : ℕ) → Keeps h → Keeps (resets.hears_mark h queue).part
  mark_keeps h queue a = over (record h { marks = slice_set h.marks queue true }) a

  -- ---- inputs

  asks_reset : (h : Host) (s : Stage) (d : HostDoor) → Keeps h → Keeps (resets.with_reset_asked h s d)
  asks_reset h s d a = by_read h.reading
    where
      by_read : (b : Bool) → Keeps (if b then resets.gives_up h s else door.begins (resets.gives_up h s) s d)
      by_read true = without h.out h.indices h.returned a
      by_read false = begins (resets.gives_up h s) s d (without h.out h.indices h.returned a)

  submits : (h : Host) (n address : ℕ) (command : Command) (used is_up_now : Bool) (handle : Option ℕ) (fit : Bool) (o : Option ℕ) → Keeps h → Keeps (submits_by h n address command used is_up_now handle fit o).part
  submits h n address command true b handle fit o a = a
  submits h n address command false false handle fit o a = a
  submits h n address command false true None fit o a = a
  submits h n address command false true (Some x) false o a = a
  submits h n address command false true (Some x) true None a = a
  submits h n address command false true (Some x) true (Some s) a = post h _ _ _ a

  aborts : (h : Host) (n : ℕ) (b : Bool) (cmd : Option Cmd) (there o : Option ℕ) → Keeps h → Keeps (aborts_by h n b cmd there o).part
  aborts h n false cmd there o a = a
  aborts h n true None there o a = a
  aborts h n true (Some cmd) (Some x) o a = a
  aborts h n true (Some cmd) None None a = a
  aborts h n true (Some cmd) None (Some s) a = post h _ _ _ a

  targets : (h : Host) (address : ℕ) (b : Bool) (handle o : Option ℕ) → Keeps h → Keeps (resets_target_by h address b handle o).part
  targets h address false handle o a = a
  targets h address true None o a = a
  targets h address true (Some x) None a = a
  targets h address true (Some x) (Some s) a = post h _ _ _ a

  starts : (h : Host) (m : HostState) → Keeps h → Keeps (inputs.starts_in h m).part
  starts h state.Off a = begins (record h { mode = state.Starting }) stage.Start look_at_doorbell a
  starts h state.Starting a = a
  starts h state.Up a = a
  starts h state.Resetting a = a

  diag : (h : Host) (m : HostState) → Keeps h → Keeps (inputs.diag_resets_in h m).part
  diag h state.Off a = a
  diag h state.Starting a = asks_reset h stage.DiagnosticReset diagnostic_reset a
  diag h state.Up a = asks_reset h stage.DiagnosticReset diagnostic_reset a
  diag h state.Resetting a = a

  unit : (h : Host) (m : HostState) → Keeps h → Keeps (inputs.unit_resets_in h m).part
  unit h state.Off a = a
  unit h state.Starting a = a
  unit h state.Up a = asks_reset h stage.UnitReset unit_reset a
  unit h state.Resetting a = a

  pub input_keeps : (h : Host) (i : Input) → Keeps h → Keeps (host_told h i).part
  input_keeps h input.Start a = starts h h.mode a
  input_keeps h (input.Submit n address form) a = submits h n address (command_named form) (finset.contains h.accepted n) (is_up h.mode) (ready_handle h.phases address) (fits (command_named form)) (least_free class.ScsiIo h.pool) a
  input_keeps h (input.Abort n) a = aborts h n (is_up h.mode) (finmap.get h.cmds n) (finmap.get h.aborts n) (least_free class.High h.pool) a
  input_keeps h (input.TargetReset address) a = targets h address (is_up h.mode) (ready_handle h.phases address) (least_free class.High h.pool) a
  input_keeps h input.Reset a = diag h h.mode a
  input_keeps h input.UnitReset a = unit h h.mode a
  input_keeps h (input.Plug address expander phy) a = a
  input_keeps h (input.Unplug address) a = a

  pub look_keeps : (h : Host) → Keeps h → Keeps (looks h)
  look_keeps h a = begins h stage.Look look_at_doorbell a

  pub stop_keeps : (h : Host) → Keeps h → Keeps (stops h)
  stop_keeps h a = plain h.out h.indices h.returned down.Stop tt a
