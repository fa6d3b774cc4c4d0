-- Whatever the host does, it has as many reply queues as before, and a phase of each handle.
use Rattle.std.proofs.Common.{◌≡◌, ◌==◌, ◌&&◌, ℕ, Bool, true, false, if◌then◌else◌, List, [], ◌∷◌, length, length-set, slice_set, Option, Some, None, Result, ◌∙◌}
use Rattle.std.specs.List.{fold, range_with_len}
use Rattle.std.proofs.lemmas.List.{length-replicate}
use Rattle.mpi_doorbell.specs.HostDoor.{HostDoor}
use Rattle.mpi_doorbell.specs.HostSteps.{diagnostic_reset, look_at_doorbell, unit_reset}
use Rattle.mpi_doorbell.specs.declared.step.DoorStep.{DoorStep}
use Rattle.mpi_doorbell.specs.declared.step.DoorStep.TheVariants as step
use Rattle.smid_pool.specs.Pool.{Slot, Free, Open, Parked, least_free, slot_of}
use Rattle.smid_pool.specs.declared.class.Class.TheVariants.{High, Internal}
use Rattle.removal.specs.declared.phase.Phase.{Phase}
use Rattle.removal.specs.declared.phase.Phase.TheVariants as phase
use Rattle.mpt_trace.specs.Command.{command_named}
use Rattle.mpt_trace.specs.declared.host_state.HostState.{HostState}
use Rattle.mpt_trace.specs.declared.host_state.HostState.TheVariants as state
use Rattle.mpt_trace.specs.declared.input.Input.{Input}
use Rattle.mpt_trace.specs.declared.input.Input.TheVariants as input
use Rattle.mpt_trace.specs.declared.item.Down.{Down}
use Rattle.mpt_trace.specs.declared.item.Down.TheVariants as down
use Rattle.mpt_trace.specs.declared.item.Up.{Up}
use Rattle.mpt_trace.specs.declared.item.Up.TheVariants as up
use Rattle.mpt_trace.specs.declared.refusal.Refusal.{Refusal}
use Rattle.mpt_wire.specs.Messages.Fields.{Change, smid_in, target_added, target_not_responding}
use Rattle.mpt_wire.specs.Machine.Causes.{is_resetting}
use Rattle.removal.specs.Handles.{phase_at}
use Rattle.removal.specs.Phases.{after_added as marked_added, after_task_done}
use Rattle.mpi_doorbell.specs.HostSteps.{handshake_of_message}
use Rattle.mpt_messages.specs.FrameBytes.{message_bytes}
use Rattle.mpt_messages.specs.HostFrames.{host_message}
use Rattle.mpt_messages.specs.declared.host_ask.HostAsk.TheVariants as ask
use Rattle.mpi_doorbell.specs.declared.registers.TheConstants.{IOC_STATE_READY, IOC_STATE_OPERATIONAL, IOC_STATE_FAULT}
use Rattle.mpt_rules.specs.declared.request.Request.{Request}
use Rattle.mpt_rules.specs.declared.request.Request.TheVariants as request
use Rattle.mpt_rules.specs.declared.stage.Stage.{Stage}
use Rattle.mpt_rules.specs.declared.stage.Stage.TheVariants as stage
use Rattle.mpt_rules.specs.declared.why.Why.{Why}
use Rattle.mpt_rules.specs.Outcome.{Called, Happening}
use Rattle.mpt_rules.specs.Host.Doorbell as door
use Rattle.mpt_rules.specs.Host.Inputs as inputs
use Rattle.mpt_rules.specs.Host.Parts.{Host}
use Rattle.mpt_rules.specs.Host.Posts as posts
use Rattle.mpt_rules.specs.Host.Removal as removal
use Rattle.mpt_rules.specs.Host.Replies as replies
use Rattle.mpt_rules.specs.Host.Resets as resets
use Rattle.mpt_rules.specs.Host.Returns as returns
use Rattle.mpt_rules.specs.Host.Takes as takes
use Rattle.mpt_rules.specs.Host.Values as values
use Rattle.mpt_rules.specs.Host.Strange.{why_strange}
use Rattle.mpt_rules.specs.World.Inputs as told

-- the host has so many reply queues, and a phase of each of the 64 handles
abbrev pub HasQueues : ℕ → Host → Type 0
HasQueues n host = (length host.indices ≡ n) × (length host.phases ≡ 64)

-- it holds either way
either : {A : Type 0} (P : A → Type 0) (b : Bool) (x y : A) → P x → P y → P (if b then x else y)
either P true x y p q = p
either P false x y p q = q

module _ (n : ℕ) where
  abbrev Has : Host → Type 0
  Has host = HasQueues n host

  -- a phase of a handle is another
  with_phase_of : (host : Host) (handle : ℕ) (p : Phase) → Has host → Has (removal.with_phase_of host handle p)
  with_phase_of host handle p h = (h.0, length-set host.phases _ p ∙ h.1)

  abbrev Leaves : Happening Host → Type 0
  Leaves o = HasQueues n o.part

  -- ---- posts

  posts_internal : (host : Host) (smid : ℕ) (r : Request) → Has host → Has (posts.posts_internal host smid r)
  posts_internal host smid (request.Page handle) h = (h.0, length-set host.phases _ _ ∙ h.1)
  posts_internal host smid (request.Remove handle) h = (h.0, length-set host.phases _ _ ∙ h.1)
  posts_internal host smid (request.Ack event context) h = h
  posts_internal host smid request.Notification h = h
  posts_internal host smid request.PortEnable h = h
  posts_internal host smid (request.Command m) h = h
  posts_internal host smid (request.Abort m task) h = h
  posts_internal host smid (request.TargetReset address) h = h
  posts_internal host smid (request.Leave handle) h = h

  leave_or_waits : (host : Host) (handle : ℕ) (o : Option ℕ) → Has host → Has (posts.posts_leave_or_waits host handle o)
  leave_or_waits host handle None h = h
  leave_or_waits host handle (Some smid) h = (h.0, length-set host.phases _ _ ∙ h.1)

  asks_leave : (host : Host) (handle : ℕ) → Has host → Has (posts.asks_leave host handle)
  asks_leave host handle h = leave_or_waits host handle (least_free High host.pool) h

  internal_or_waits : (host : Host) (r : Request) (o : Option ℕ) → Has host → Has (posts.posts_internal_or_waits host r o)
  internal_or_waits host r None h = h
  internal_or_waits host r (Some smid) h = posts_internal host smid r h

  asks_internal : (host : Host) (r : Request) → Has host → Has (posts.asks_internal host r)
  asks_internal host r h = internal_or_waits host r (least_free Internal host.pool) h

  gives_high : (host : Host) (smid : ℕ) (handles : List ℕ) → Has host → Has (posts.gives_high host smid handles)
  gives_high host smid [] h = h
  gives_high host smid (handle ∷ rest) h = (h.0, length-set host.phases _ _ ∙ h.1)

  gives_internal : (host : Host) (smid : ℕ) (rs : List Request) → Has host → Has (posts.gives_internal host smid rs)
  gives_internal host smid [] h = h
  gives_internal host smid (r ∷ rest) h = posts_internal (record host { wait_internal = rest }) smid r h

  frees_high : (host : Host) (smid : ℕ) → Has host → Has (posts.frees_high host smid)
  frees_high host smid h = gives_high (posts.frees host smid) smid host.wait_high h

  frees_internal : (host : Host) (smid : ℕ) → Has host → Has (posts.frees_internal host smid)
  frees_internal host smid h = gives_internal (posts.frees host smid) smid host.wait_internal h

  -- ---- the doorbell

  puts_step : (host : Host) (d : HostDoor) (s : DoorStep) → Has host → Has (door.puts_step host d s)
  puts_step host d (step.Read reg) h = h
  puts_step host d (step.Write reg value) h = h
  puts_step host d (step.Done count bytes) h = h
  puts_step host d (step.Refused at value) h = h

  puts_turn : (host : Host) (t : door.DoorTurn) → Has host → Has (door.puts_turn host t)
  puts_turn host t h = puts_step (door.puts_writes host t.writes) t.door t.step h

  begins : (host : Host) (s : Stage) (d : HostDoor) → Has host → Has (door.begins host s d)
  begins host s d h = puts_turn (record host { stage = s }) (door.next_turn d None) h

  begins_facts : (host : Host) → Has host → Has (door.begins_facts host)
  begins_facts host h = begins host stage.Facts (handshake_of_message (message_bytes (host_message ask.Facts))) h

  begins_port_facts : (host : Host) → Has host → Has (door.begins_port_facts host)
  begins_port_facts host h = begins host stage.PortFacts (handshake_of_message (message_bytes (host_message ask.PortFacts))) h

  begins_init : (host : Host) → Has host → Has (door.begins_init host)
  begins_init host h = begins host stage.Init (handshake_of_message (message_bytes (host_message (ask.Init (length host.indices))))) h

  -- ---- frames, and what leaves the outbox

  with_frame_back : (host : Host) (frame : ℕ) → Has host → Has (returns.with_frame_back host frame)
  with_frame_back host frame h = either Has host.returning (returns.with_return host frame) (returns.keeps host frame) h h

  returns_each : (frames : List ℕ) (host : Host) → Has host → Has (fold returns.with_return host frames)
  returns_each [] host h = h
  returns_each (frame ∷ frames) host h = returns_each frames (returns.with_return host frame) h

  after_sent : (host : Host) (item : Down) (rest : List Down) → Has host → Has (returns.after_sent host item rest)
  after_sent host (down.Return address index) rest h = h
  after_sent host (down.Write reg value) rest h = h
  after_sent host (down.Read reg) rest h = h
  after_sent host (down.Post descriptor frame payload) rest h = h
  after_sent host down.Stop rest h = h

  sends_first : (host : Host) (items : List Down) → Has host → Has (returns.sends_first host items)
  sends_first host [] h = h
  sends_first host (item ∷ rest) h = after_sent host item rest h

  pub sends : (host : Host) → Has host → Has (returns.down_sent host)
  sends host h = sends_first host host.out h

  -- ---- events

  after_added : (host : Host) (handle : ℕ) (p : Phase) → Has host → Has (removal.after_handle_added host handle p)
  after_added host handle phase.Absent h = asks_internal (removal.with_phase_of host handle (marked_added phase.Absent)) (request.Page handle) (with_phase_of host handle (marked_added phase.Absent) h)
  after_added host handle phase.WaitRead h = h
  after_added host handle (phase.Reading smid) h = h
  after_added host handle (phase.Ready address) h = h
  after_added host handle phase.WaitHigh h = h
  after_added host handle (phase.Resetting smid) h = h
  after_added host handle phase.WaitInternal h = h
  after_added host handle (phase.Removing smid) h = h

  begins_removal : (host : Host) (handle : ℕ) (p : Phase) → Has host → Leaves (removal.begins_removal host handle p)
  begins_removal host handle p h = leave_or_waits _ handle (least_free High host.pool) (h.0, length-set host.phases _ _ ∙ h.1)

  after_lost : (host : Host) (handle : ℕ) (p : Phase) → Has host → Leaves (removal.after_handle_lost host handle p)
  after_lost host handle phase.WaitRead h = begins_removal host handle phase.WaitRead h
  after_lost host handle (phase.Reading smid) h = begins_removal host handle (phase.Reading smid) h
  after_lost host handle (phase.Ready address) h = begins_removal host handle (phase.Ready address) h
  after_lost host handle phase.Absent h = h
  after_lost host handle phase.WaitHigh h = h
  after_lost host handle (phase.Resetting smid) h = h
  after_lost host handle phase.WaitInternal h = h
  after_lost host handle (phase.Removing smid) h = h

  hears_status : (host : Host) (handle status : ℕ) → Has host → Leaves (removal.hears_status host handle status)
  hears_status host handle status h =
      let p : Phase = phase_at host.phases handle in
      let lost : Happening Host = if status == target_not_responding then removal.after_handle_lost host handle p else removal.quietly host in
      either Leaves (status == target_added) (removal.quietly (removal.after_handle_added host handle p)) lost (after_added host handle p h)
      (either Leaves (status == target_not_responding) (removal.after_handle_lost host handle p) (removal.quietly host) (after_lost host handle p h) h)

  hears_change : (host : Host) (c : Change) → Has host → Leaves (removal.hears_change host c)
  hears_change host c h = either Leaves (removal.is_disk_handle c.handle) (removal.hears_status host c.handle c.status) (removal.quietly host) (hears_status host c.handle c.status h) h

  hears_changes : (cs : List Change) (host : Host) → Has host → Leaves (removal.hears_changes host cs)
  unfolding removal.hears_changes
  hears_changes [] host h = h
  hears_changes (c ∷ cs) host h = hears_changes cs (removal.hears_change host c).part (hears_change host c h)

  hears_event : (host : Host) (frame : List ℕ) → Has host → Leaves (removal.hears_event host frame)
  hears_event host frame h = hears_changes _ _ (asks_internal host _ h)

  -- ---- replies

  with_frame_heard : (host : Host) (descriptor : ℕ) (frame : Option (List ℕ)) → Has host → Has (replies.with_frame_heard host descriptor frame)
  with_frame_heard host descriptor None h = h
  with_frame_heard host descriptor (Some frame) h = with_frame_back host _ h

  takes_entry : (host : Host) (queue : ℕ) → Has host → Has (replies.takes_entry host queue)
  takes_entry host queue h = (length-set host.indices queue (replies.next_index host queue) ∙ h.0, h.1)

  unparks : (host : Host) (task : ℕ) (s : Slot Request) → Has host → Has (replies.unparks host task s)
  unparks host task Parked h = h
  unparks host task Free h = h
  unparks host task (Open r) h = h

  ends_abort : (host : Host) (smid m task : ℕ) (frame : List ℕ) → Has host → Leaves (replies.host_ends_abort host smid m task frame)
  ends_abort host smid m task frame h = frees_high (replies.closes_abort host m task) smid (unparks _ task (slot_of host.pool task) h)

  unless_resetting : (host : Host) (smid : ℕ) (caused : Happening Host) → Has host → Leaves caused → Leaves (replies.unless_resetting host smid caused)
  unless_resetting host smid caused h g = either Leaves (is_resetting host.mode) (removal.quietly (posts.frees host smid)) caused h g

  left : (host : Host) (smid handle : ℕ) → Has host → Has (removal.left host smid handle)
  left host smid handle h =
      let freed : Host = posts.frees_high (removal.with_phase_of host handle (after_task_done (phase_at host.phases handle) smid)) smid in
      let g : Has freed = frees_high (removal.with_phase_of host handle (after_task_done (phase_at host.phases handle) smid)) smid (with_phase_of host handle (after_task_done (phase_at host.phases handle) smid) h) in
      either Has (removal.is_reset_under smid (phase_at host.phases handle)) (posts.asks_internal freed (request.Remove handle)) freed (asks_internal freed (request.Remove handle) g) g

  hears_answer : (host : Host) (smid : ℕ) (r : Request) (reply : replies.Heard) → Has host → Leaves (replies.hears_answer host smid r reply)
  hears_answer host smid (request.Command m) reply h = h
  hears_answer host smid (request.Abort m task) reply h = ends_abort host smid m task (replies.reply_bytes reply) h
  hears_answer host smid (request.TargetReset address) reply h = frees_high host smid h
  hears_answer host smid (request.Leave handle) reply h = unless_resetting host smid _ h (left host smid handle h)
  hears_answer host smid (request.Page handle) reply h = unless_resetting host smid _ h (frees_internal _ smid (with_phase_of host handle _ h))
  hears_answer host smid (request.Remove handle) reply h = unless_resetting host smid _ h (frees_internal _ smid (with_phase_of host handle _ h))
  hears_answer host smid (request.Ack event context) reply h = unless_resetting host smid _ h (frees_internal host smid h)
  hears_answer host smid request.Notification reply h = unless_resetting host smid _ h (asks_internal (posts.frees_internal host smid) request.PortEnable (frees_internal host smid h))
  hears_answer host smid request.PortEnable reply h = unless_resetting host smid _ h (frees_internal host smid h)

  hears_reply_to : (host : Host) (smid : ℕ) (o : Option Request) (reply : replies.Heard) → Has host → Leaves (replies.hears_reply_to host smid o reply)
  hears_reply_to host smid None reply h = either Leaves (is_resetting host.mode) (removal.quietly host) (removal.hears_event host (replies.reply_bytes reply)) h (hears_event host (replies.reply_bytes reply) h)
  hears_reply_to host smid (Some r) reply h = hears_answer host smid r reply h

  hears_reply : (host : Host) (queue : ℕ) (reply : replies.Heard) → Has host → Leaves (replies.hears_reply host queue reply)
  hears_reply host queue reply h =
      let back : Host = replies.with_frame_heard host reply.descriptor reply.frame in
      hears_reply_to (replies.takes_entry back queue) (smid_in reply.descriptor) (replies.request_of host (smid_in reply.descriptor)) reply
      (takes_entry back queue (with_frame_heard host reply.descriptor reply.frame h))

  -- ---- resets

  with_reset_asked : (host : Host) (s : Stage) (d : HostDoor) → Has host → Has (resets.with_reset_asked host s d)
  with_reset_asked host s d h = either Has host.reading (resets.gives_up host s) (door.begins (resets.gives_up host s) s d) h (begins (resets.gives_up host s) s d h)

  begins_late : (host : Host) (s : Stage) → Has host → Has (resets.begins_late host s)
  begins_late host stage.DiagnosticReset h = begins host stage.DiagnosticReset diagnostic_reset h
  begins_late host stage.UnitReset h = begins host stage.UnitReset unit_reset h
  begins_late host stage.Idle h = h
  begins_late host stage.Start h = h
  begins_late host stage.StartReset h = h
  begins_late host stage.Facts h = h
  begins_late host stage.PortFacts h = h
  begins_late host stage.Init h = h
  begins_late host stage.Look h = h

  ends_if_over : (host : Host) → Has host → Leaves (resets.ends_reset_if_over host)
  ends_if_over host h = either Leaves (host.door_ready && resets.has_all_marks host) (resets.ends_reset host) (removal.quietly host) (begins_facts (resets.renewed host) (h.0, length-replicate 64 phase.Absent)) h

  -- ---- values

  starts_by : (host : Host) (s : ℕ) → Has host → Has (values.starts_by host s)
  starts_by host s h =
      let look : Host = values.looks_to_start host in
      let fault : Host = if s == IOC_STATE_FAULT then door.begins host stage.StartReset diagnostic_reset else look in
      let other : Host = if s == IOC_STATE_OPERATIONAL then door.begins host stage.StartReset unit_reset else fault in
      let f : Has fault = either Has (s == IOC_STATE_FAULT) (door.begins host stage.StartReset diagnostic_reset) look (begins host stage.StartReset diagnostic_reset h) (begins host stage.Start look_at_doorbell h) in
      let g : Has other = either Has (s == IOC_STATE_OPERATIONAL) (door.begins host stage.StartReset unit_reset) fault (begins host stage.StartReset unit_reset h) f in
      either Has (s == IOC_STATE_READY) (door.begins_facts host) other (begins_facts host h) g

  begins_messages : (host : Host) → Has host → Has (values.begins_messages host)
  begins_messages host h = asks_internal (returns.returns_all host) request.Notification (returns_each (range_with_len 0 returns.reply_frame_count) host h)

  ends_stage : (host : Host) (s : Stage) (bytes : List ℕ) → Has host → Leaves (values.ends_stage host s bytes)
  ends_stage host stage.Idle bytes h = h
  ends_stage host stage.Start bytes h = starts_by host (values.state_read bytes) h
  ends_stage host stage.StartReset bytes h = begins_facts host h
  ends_stage host stage.Facts bytes h = begins_port_facts host h
  ends_stage host stage.PortFacts bytes h = begins_init host h
  ends_stage host stage.Init bytes h = begins_messages host h
  ends_stage host stage.Look bytes h = h
  ends_stage host stage.DiagnosticReset bytes h = ends_if_over (record host { door_ready = true }) h
  ends_stage host stage.UnitReset bytes h = ends_if_over (record host { door_ready = true }) h

  after_turn : (host : Host) (s : Stage) (d : DoorStep) → Has host → Leaves (values.after_turn host s d)
  after_turn host s (step.Done count bytes) h = ends_stage host s _ h
  after_turn host s (step.Read reg) h = h
  after_turn host s (step.Write reg value) h = h
  after_turn host s (step.Refused at value) h = h

  hears_value_at : (host : Host) (o : Option HostDoor) (value : ℕ) → Has host → Leaves (values.hears_value_at host o value)
  hears_value_at host None value h = begins_late host host.stage h
  hears_value_at host (Some d) value h = let turn = door.next_turn d (Some value) in after_turn (door.puts_turn host turn) host.stage turn.step (puts_turn host turn h)

  hears_value : (host : Host) (value : ℕ) → Has host → Leaves (values.hears_value host value)
  hears_value host value h = hears_value_at (record host { reading = false }) host.machine value h

  -- ---- what comes up

  hears_up : (host : Host) (queue : ℕ) (item : Up) → Has host → Leaves (takes.hears_up host queue item)
  hears_up host queue (up.Value value) h = hears_value host value h
  hears_up host queue (up.Reply descriptor frame page sense) h = hears_reply host queue (replies.heard_of descriptor frame page sense) h
  hears_up host queue (up.Mark generation) h = ends_if_over (record host { marks = slice_set host.marks queue true }) h
  hears_up host queue up.Calm h = h

  takes_unless : (host : Host) (queue : ℕ) (item : Up) (o : Option Why) → Has host → Has (takes.takes_unless host queue item o).part
  takes_unless host queue item None h = hears_up host queue item h
  takes_unless host queue item (Some why) h = h

  pub takes_up : (host : Host) (queue : ℕ) (item : Up) → Has host → Has (takes.takes_up host queue item).part
  takes_up host queue item h = takes_unless host queue item (why_strange host queue item) h

  -- ---- inputs

  granted : (o : Option Refusal) (host : Host) (called : Called Host (Result ℕ Refusal)) → Has host → Has called.part → Has (inputs.granted_unless o host called).part
  granted None host called h g = g
  granted (Some cause) host called h g = h

  starts_in : (host : Host) (s : HostState) → Has host → Has (inputs.starts_in host s).part
  starts_in host state.Off h = begins (record host { mode = state.Starting }) stage.Start look_at_doorbell h
  starts_in host state.Starting h = h
  starts_in host state.Up h = h
  starts_in host state.Resetting h = h

  diag_resets_in : (host : Host) (s : HostState) → Has host → Has (inputs.diag_resets_in host s).part
  diag_resets_in host state.Off h = h
  diag_resets_in host state.Starting h = with_reset_asked host stage.DiagnosticReset diagnostic_reset h
  diag_resets_in host state.Up h = with_reset_asked host stage.DiagnosticReset diagnostic_reset h
  diag_resets_in host state.Resetting h = h

  unit_resets_in : (host : Host) (s : HostState) → Has host → Has (inputs.unit_resets_in host s).part
  unit_resets_in host state.Off h = h
  unit_resets_in host state.Starting h = h
  unit_resets_in host state.Up h = with_reset_asked host stage.UnitReset unit_reset h
  unit_resets_in host state.Resetting h = h

  pub is_told : (host : Host) (i : Input) → Has host → Leaves (told.host_told host i)
  is_told host input.Start h = starts_in host host.mode h
  is_told host (input.Submit m address form) h = granted (inputs.host_cause_of_submit host m address (command_named form)) host _ h h
  is_told host (input.Abort m) h = granted (inputs.host_cause_of_abort host m) host _ h h
  is_told host (input.TargetReset address) h = granted (inputs.host_cause_of_target_reset host address) host _ h h
  is_told host input.Reset h = diag_resets_in host host.mode h
  is_told host input.UnitReset h = unit_resets_in host host.mode h
  is_told host (input.Plug address expander phy) h = h
  is_told host (input.Unplug address) h = h

  pub looks : (host : Host) → Has host → Has (inputs.looks host)
  looks host h = begins host stage.Look look_at_doorbell h
