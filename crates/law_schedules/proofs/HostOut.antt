-- The host's outbox only grows as the host takes items: what holds of it, and of it with more behind, holds after each.
use Rattle.std.proofs.Common.{ℕ, ◌==◌, ◌&&◌, Bool, true, false, if◌then◌else◌, List, [], ◌∷◌, ◌++◌, slice_set, take, Option, Some, None}
use Rattle.std.specs.FinMap as finmap
use Rattle.std.specs.List.{fold, range_with_len}
use Rattle.mpi_doorbell.specs.HostDoor.{HostDoor}
use Rattle.mpi_doorbell.specs.HostSteps.{diagnostic_reset, handshake_of_message, look_at_doorbell, unit_reset}
use Rattle.mpi_doorbell.specs.declared.registers.TheConstants.{IOC_STATE_FAULT, IOC_STATE_OPERATIONAL, IOC_STATE_READY}
use Rattle.mpi_doorbell.specs.declared.step.DoorStep.{DoorStep}
use Rattle.mpi_doorbell.specs.declared.step.DoorStep.TheVariants as step
use Rattle.mpt_messages.specs.FrameBytes.{message_bytes}
use Rattle.mpt_messages.specs.HostFrames.{host_message}
use Rattle.mpt_messages.specs.declared.host_ask.HostAsk.{HostAsk}
use Rattle.mpt_messages.specs.declared.host_ask.HostAsk.TheVariants as ask
use Rattle.mpt_trace.specs.declared.item.Down.{Down}
use Rattle.mpt_trace.specs.declared.item.Up.{Up}
use Rattle.mpt_trace.specs.declared.item.Up.TheVariants as up
use Rattle.mpt_wire.specs.Machine.Causes.{is_resetting}
use Rattle.mpt_wire.specs.Messages.Fields.{Change, changes_in, event_context_in, event_in, frame_address_in, smid_in, target_added, target_not_responding}
use Rattle.removal.specs.Handles.{phase_at, with_phase}
use Rattle.removal.specs.Phases.{after_added, after_gone, after_page, after_removed, after_task_done}
use Rattle.removal.specs.declared.phase.Phase.{Phase}
use Rattle.removal.specs.declared.phase.Phase.TheVariants as phase
use Rattle.smid_pool.specs.Pool.{Free, Open, Parked, Slot, least_free, slot_of}
use Rattle.smid_pool.specs.declared.class.Class.TheVariants as class
use Rattle.mpt_rules.specs.declared.request.Request.{Request}
use Rattle.mpt_rules.specs.declared.request.Request.TheVariants as request
use Rattle.mpt_rules.specs.declared.stage.Stage.{Stage}
use Rattle.mpt_rules.specs.declared.stage.Stage.TheVariants as stage
use Rattle.mpt_rules.specs.declared.why.Why.{Why}
use Rattle.mpt_rules.specs.Host.Doorbell as door
use Rattle.mpt_rules.specs.Host.Parts.{Host, host_queue_count}
use Rattle.mpt_rules.specs.Host.Posts as asks
use Rattle.mpt_rules.specs.Host.Removal as removal
use Rattle.mpt_rules.specs.Host.Replies as replies
use Rattle.mpt_rules.specs.Host.Replies.{Heard}
use Rattle.mpt_rules.specs.Host.Resets as resets
use Rattle.mpt_rules.specs.Host.Returns as returns
use Rattle.mpt_rules.specs.Host.Takes.{hears_up, takes_unless}
use Rattle.mpt_rules.specs.Host.Values as values

module _ (Has : List Down → Type 0) (more : (xs ys : List Down) → Has xs → Has (xs ++ ys)) where
  abbrev pub Keeps : Host → Type 0
  Keeps host = Has host.out

  posted_internal : (host : Host) (x : ℕ) (r : Request) → Keeps host → Keeps (asks.posts_internal host x r)
  posted_internal host x (request.Page handle) h = more host.out _ h
  posted_internal host x (request.Remove handle) h = more host.out _ h
  posted_internal host x (request.Ack event context) h = more host.out _ h
  posted_internal host x request.Notification h = more host.out _ h
  posted_internal host x request.PortEnable h = more host.out _ h
  posted_internal host x (request.Command k) h = h
  posted_internal host x (request.Abort k task) h = h
  posted_internal host x (request.TargetReset address) h = h
  posted_internal host x (request.Leave handle) h = h

  asked_internal : (host : Host) (r : Request) → Keeps host → Keeps (asks.asks_internal host r)
  asked_internal host r h = by_free (least_free class.Internal host.pool)
    where
      by_free : (w : Option ℕ) → Keeps (asks.posts_internal_or_waits host r w)
      by_free None = h
      by_free (Some x) = posted_internal host x r h

  asked_leave : (host : Host) (handle : ℕ) → Keeps host → Keeps (asks.asks_leave host handle)
  asked_leave host handle h = by_free (least_free class.High host.pool)
    where
      by_free : (w : Option ℕ) → Keeps (asks.posts_leave_or_waits host handle w)
      by_free None = h
      by_free (Some x) = more host.out _ h

  gave_internal : (host : Host) (x : ℕ) (waits : List Request) → Keeps host → Keeps (asks.gives_internal host x waits)
  gave_internal host x [] h = h
  gave_internal host x (r ∷ rest) h = posted_internal (record host { wait_internal = rest }) x r h

  gave_high : (host : Host) (x : ℕ) (waits : List ℕ) → Keeps host → Keeps (asks.gives_high host x waits)
  gave_high host x [] h = h
  gave_high host x (handle ∷ rest) h = more host.out _ h

  freed_internal : (host : Host) (x : ℕ) → Keeps host → Keeps (asks.frees_internal host x)
  freed_internal host x h = gave_internal (asks.frees host x) x host.wait_internal h

  freed_high : (host : Host) (x : ℕ) → Keeps host → Keeps (asks.frees_high host x)
  freed_high host x h = gave_high (asks.frees host x) x host.wait_high h

  -- ---- the doorbell

  stepped : (host : Host) (d : HostDoor) (x : DoorStep) → Keeps host → Keeps (door.puts_step host d x)
  stepped host d (step.Read reg) h = more host.out _ h
  stepped host d (step.Write reg value) h = h
  stepped host d (step.Done count bytes) h = h
  stepped host d (step.Refused at value) h = h

  turned : (host : Host) (t : door.DoorTurn) → Keeps host → Keeps (door.puts_turn host t)
  turned host t h = stepped (door.puts_writes host t.writes) t.door t.step (more host.out t.writes h)

  pub begun : (host : Host) (x : Stage) (d : HostDoor) → Keeps host → Keeps (door.begins host x d)
  begun host x d h = turned (record host { stage = x }) (door.next_turn d None) h

  begun_handshake : (host : Host) (x : Stage) (a : HostAsk) → Keeps host → Keeps (door.begins_handshake host x a)
  begun_handshake host x a h = begun host x (handshake_of_message (message_bytes (host_message a))) h

  started_by : (host : Host) (found : ℕ) → Keeps host → Keeps (values.starts_by host found)
  started_by host found h = by_tests (found == IOC_STATE_READY) (found == IOC_STATE_OPERATIONAL) (found == IOC_STATE_FAULT)
    where
      by_tests : (x y z : Bool) → Keeps (if x then door.begins_facts host else if y then door.begins host stage.StartReset unit_reset else if z then door.begins host stage.StartReset diagnostic_reset else values.looks_to_start host)
      by_tests true y z = begun_handshake host stage.Facts ask.Facts h
      by_tests false true z = begun host stage.StartReset unit_reset h
      by_tests false false true = begun host stage.StartReset diagnostic_reset h
      by_tests false false false = begun host stage.Start look_at_doorbell h

  begun_late : (host : Host) (x : Stage) → Keeps host → Keeps (resets.begins_late host x)
  begun_late host stage.DiagnosticReset h = begun host stage.DiagnosticReset diagnostic_reset h
  begun_late host stage.UnitReset h = begun host stage.UnitReset unit_reset h
  begun_late host stage.Idle h = h
  begun_late host stage.Start h = h
  begun_late host stage.StartReset h = h
  begun_late host stage.Facts h = h
  begun_late host stage.PortFacts h = h
  begun_late host stage.Init h = h
  begun_late host stage.Look h = h

  returned : (host : Host) (frames : List ℕ) → Keeps host → Keeps (fold returns.with_return host frames)
  returned host [] h = h
  returned host (f ∷ fs) h = returned (returns.with_return host f) fs (more host.out _ h)

  begun_messages : (host : Host) → Keeps host → Keeps (values.begins_messages host)
  begun_messages host h = asked_internal (returns.returns_all host) request.Notification (returned host (range_with_len 0 returns.reply_frame_count) h)

  -- ---- events

  added : (host : Host) (handle : ℕ) (p : Phase) → Keeps host → Keeps (removal.after_handle_added host handle p)
  added host handle phase.Absent h = asked_internal (removal.with_phase_of host handle (after_added phase.Absent)) (request.Page handle) h
  added host handle phase.WaitRead h = h
  added host handle (phase.Reading smid) h = h
  added host handle (phase.Ready address) h = h
  added host handle phase.WaitHigh h = h
  added host handle (phase.Resetting smid) h = h
  added host handle phase.WaitInternal h = h
  added host handle (phase.Removing smid) h = h

  begun_removal : (host : Host) (handle : ℕ) (p : Phase) → Keeps host → Keeps (removal.begins_removal host handle p).part
  begun_removal host handle p h = asked_leave (record host { phases = with_phase host.phases handle (after_gone p); wait_internal = removal.without_page handle host.wait_internal }) handle h

  lost : (host : Host) (handle : ℕ) (p : Phase) → Keeps host → Keeps (removal.after_handle_lost host handle p).part
  lost host handle phase.WaitRead h = begun_removal host handle phase.WaitRead h
  lost host handle (phase.Reading smid) h = begun_removal host handle (phase.Reading smid) h
  lost host handle (phase.Ready address) h = begun_removal host handle (phase.Ready address) h
  lost host handle phase.Absent h = h
  lost host handle phase.WaitHigh h = h
  lost host handle (phase.Resetting smid) h = h
  lost host handle phase.WaitInternal h = h
  lost host handle (phase.Removing smid) h = h

  changed : (host : Host) (c : Change) → Keeps host → Keeps (removal.hears_change host c).part
  changed host c h = by_tests (removal.is_disk_handle c.handle) (c.status == target_added) (c.status == target_not_responding)
    where
      by_tests : (x y z : Bool) → Keeps (if x then (if y then removal.quietly (removal.after_handle_added host c.handle (phase_at host.phases c.handle)) else (if z then removal.after_handle_lost host c.handle (phase_at host.phases c.handle) else removal.quietly host)) else removal.quietly host).part
      by_tests false y z = h
      by_tests true true z = added host c.handle (phase_at host.phases c.handle) h
      by_tests true false true = lost host c.handle (phase_at host.phases c.handle) h
      by_tests true false false = h

  all_changed : (host : Host) (cs : List Change) → Keeps host → Keeps (removal.hears_changes host cs).part
  unfolding removal.hears_changes
  all_changed host [] h = h
  all_changed host (c ∷ cs) h = all_changed (removal.hears_change host c).part cs (changed host c h)

  -- ---- replies

  unparked : (host : Host) (task : ℕ) (slot : Slot Request) → Keeps host → Keeps (replies.unparks host task slot)
  unparked host task Free h = h
  unparked host task (Open r) h = h
  unparked host task Parked h = h

  left : (host : Host) (x handle : ℕ) → Keeps host → Keeps (removal.left host x handle)
  left host x handle h = by_phase (removal.is_reset_under x (phase_at host.phases handle))
    where
      phased : Host
      phased = removal.with_phase_of host handle (after_task_done (phase_at host.phases handle) x)

      by_phase : (b : Bool) → Keeps (if b then asks.asks_internal (asks.frees_high (removal.with_phase_of host handle (after_task_done (phase_at host.phases handle) x)) x) (request.Remove handle) else asks.frees_high (removal.with_phase_of host handle (after_task_done (phase_at host.phases handle) x)) x)
      by_phase true = asked_internal (asks.frees_high (removal.with_phase_of host handle (after_task_done (phase_at host.phases handle) x)) x) (request.Remove handle) (freed_high (removal.with_phase_of host handle (after_task_done (phase_at host.phases handle) x)) x h)
      by_phase false = freed_high (removal.with_phase_of host handle (after_task_done (phase_at host.phases handle) x)) x h

  unless : (host : Host) (x : ℕ) (k : Host) → Keeps host → Keeps k → (entries : List _) → Keeps (replies.unless_resetting host x (record { part = k; entries = entries })).part
  unless host x k h s entries = by_mode (is_resetting host.mode)
    where
      by_mode : (b : Bool) → Keeps (if b then removal.quietly (asks.frees host x) else record { part = k; entries = entries }).part
      by_mode true = h
      by_mode false = s

  answered : (host : Host) (x : ℕ) (r : Request) (v : Heard) → Keeps host → Keeps (replies.hears_answer host x r v).part
  answered host x (request.Command k) v h = h
  answered host x (request.Abort k task) v h = freed_high (replies.closes_abort host k task) x (unparked (record host { aborts = finmap.remove host.aborts k }) task (slot_of host.pool task) h)
  answered host x (request.TargetReset address) v h = freed_high host x h
  answered host x (request.Leave handle) v h = unless host x (removal.left host x handle) h (left host x handle h) []
  answered host x (request.Page handle) v h =
      let read : Option ℕ = replies.address_read (replies.reply_bytes v) v.page in
      unless host x (removal.reads_page host x handle read).part h (freed_internal (removal.with_phase_of host handle (after_page (phase_at host.phases handle) x read)) x h) (removal.reads_page host x handle read).entries
  answered host x (request.Remove handle) v h = unless host x (removal.removed host x handle) h (freed_internal (removal.with_phase_of host handle (after_removed (phase_at host.phases handle) x)) x h) []
  answered host x (request.Ack event context) v h = unless host x (asks.frees_internal host x) h (freed_internal host x h) []
  answered host x request.Notification v h = unless host x (replies.hears_notified host x) h (asked_internal (asks.frees_internal host x) request.PortEnable (freed_internal host x h)) []
  answered host x request.PortEnable v h = unless host x (replies.after_port_enable host x).part h (freed_internal host x h) (replies.after_port_enable host x).entries

  heard_none : (host : Host) (x : ℕ) (v : Heard) → Keeps host → Keeps (replies.hears_reply_to host x None v).part
  heard_none host x v h = by_mode (is_resetting host.mode)
    where
      by_mode : (b : Bool) → Keeps (if b then removal.quietly host else removal.hears_event host (replies.reply_bytes v)).part
      by_mode true = h
      by_mode false =
          let frame : List ℕ = replies.reply_bytes v in
          all_changed (asks.asks_internal host (request.Ack (event_in frame) (event_context_in frame))) (changes_in frame) (asked_internal host (request.Ack (event_in frame) (event_context_in frame)) h)

  heard_reply : (host : Host) (x : ℕ) (r : Option Request) (v : Heard) → Keeps host → Keeps (replies.hears_reply_to host x r v).part
  heard_reply host x None v h = heard_none host x v h
  heard_reply host x (Some r) v h = answered host x r v h

  framed : (host : Host) (d : ℕ) (f : Option (List ℕ)) → Keeps host → Keeps (replies.with_frame_heard host d f)
  framed host d None h = h
  framed host d (Some frame) h = by_returning host.returning
    where
      by_returning : (c : Bool) → Keeps (if c then returns.with_return host (returns.frame_of (frame_address_in d)) else returns.keeps host (returns.frame_of (frame_address_in d)))
      by_returning true = more host.out _ h
      by_returning false = h

  -- ---- all that the host takes

  over : (host : Host) → Keeps host → Keeps (resets.ends_reset_if_over host).part
  over host h = by_end (host.door_ready && resets.has_all_marks host)
    where
      by_end : (b : Bool) → Keeps (if b then resets.ends_reset host else record { part = host; entries = [] }).part
      by_end true = begun_handshake (resets.renewed host) stage.Facts ask.Facts h
      by_end false = h

  staged : (host : Host) (x : Stage) (bytes : List ℕ) → Keeps host → Keeps (values.ends_stage host x bytes).part
  staged host stage.Idle bytes h = h
  staged host stage.Start bytes h = started_by host (values.state_read bytes) h
  staged host stage.StartReset bytes h = begun_handshake host stage.Facts ask.Facts h
  staged host stage.Facts bytes h = begun_handshake host stage.PortFacts ask.PortFacts h
  staged host stage.PortFacts bytes h = begun_handshake host stage.Init (ask.Init (host_queue_count host)) h
  staged host stage.Init bytes h = begun_messages host h
  staged host stage.Look bytes h = h
  staged host stage.DiagnosticReset bytes h = over (record host { door_ready = true }) h
  staged host stage.UnitReset bytes h = over (record host { door_ready = true }) h

  after_turn : (host : Host) (x : Stage) (d : DoorStep) → Keeps host → Keeps (values.after_turn host x d).part
  after_turn host x (step.Done count bytes) h = staged host x (take count bytes) h
  after_turn host x (step.Read reg) h = h
  after_turn host x (step.Write reg value) h = h
  after_turn host x (step.Refused at value) h = h

  heard_value : (host : Host) (d : Option HostDoor) (value : ℕ) → Keeps host → Keeps (values.hears_value_at host d value).part
  heard_value host None value h = begun_late host host.stage h
  heard_value host (Some d) value h = let t : door.DoorTurn = door.next_turn d (Some value) in after_turn (door.puts_turn host t) host.stage t.step (turned host t h)

  heard_up : (host : Host) (queue : ℕ) (next : Up) → Keeps host → Keeps (hears_up host queue next).part
  heard_up host queue (up.Value value) h = heard_value (record host { reading = false }) host.machine value h
  heard_up host queue (up.Reply d f page sense) h =
      heard_reply (replies.takes_entry (replies.with_frame_heard host d f) queue) (smid_in d) (replies.request_of host (smid_in d)) (replies.heard_of d f page sense) (more (replies.with_frame_heard host d f).out _ (framed host d f h))
  heard_up host queue (up.Mark generation) h = over (record host { marks = slice_set host.marks queue true }) h
  heard_up host queue up.Calm h = h

  pub took : (host : Host) (queue : ℕ) (next : Up) (why : Option Why) → Keeps host → Keeps (takes_unless host queue next why).part
  took host queue next None h = heard_up host queue next h
  took host queue next (Some why) h = h
