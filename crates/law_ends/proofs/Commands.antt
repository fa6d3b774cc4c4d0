-- Which identifiers are open for which commands: no call of the host opens one for a command, but a submission that is accepted.
use Rattle.std.proofs.Common.{◌≡◌, ℕ, zero, suc, ◌-◌, ◌≤◌, ◌==◌, Bool, true, false, cond, if◌then◌else◌, ◌&&◌, List, [], ◌∷◌, get_or, set, replicate, length, take, slice_set, Option, Some, None, refl, sym, subst, ◌∙◌, arith}
use Rattle.std.specs.Prelude.{nat_lt, slice_get}
use Rattle.std.specs.FinSet as finset
use Rattle.scsi_disk.specs.Command.{fits}
use Rattle.scsi_disk.specs.declared.command.Command.{Command}
use Rattle.mpt_trace.specs.Command.{command_named}
use Rattle.mpt_trace.specs.declared.entry.Entry.TheVariants as entry
use Rattle.mpt_trace.specs.declared.host_state.HostState.{HostState}
use Rattle.mpt_trace.specs.declared.input.Input.{Input}
use Rattle.mpt_trace.specs.declared.input.Input.TheVariants as input
use Rattle.removal.specs.Handles.{ready_handle}
use Rattle.mpt_rules.proofs.HostCalls.{aborts_by, resets_target_by, submits_by}
use Rattle.mpt_rules.specs.declared.why.Why.{Why}
use Rattle.mpt_rules.specs.Host.Inputs as inputs
use Rattle.mpt_rules.specs.Host.Strange.{why_strange}
use Rattle.host_core.specs.Plays.{moved, passed_over, puts_down, taken_move}
use Rattle.host_core.specs.declared.moves.HostMove.{HostMove}
use Rattle.host_core.specs.declared.moves.HostMove.TheVariants as move
use Rattle.law_parties.proofs.Numbers.{least_beside}
use Rattle.std.specs.FinMap as finmap
use Rattle.std.specs.List.{fold, range_with_len}
use Rattle.std.proofs.lemmas.Bool.Decides.{nat_tests}
use Rattle.mpi_doorbell.specs.HostDoor.{HostDoor}
use Rattle.mpi_doorbell.specs.HostSteps.{diagnostic_reset, handshake_of_message, look_at_doorbell, unit_reset}
use Rattle.mpi_doorbell.specs.declared.registers.TheConstants.{IOC_STATE_FAULT, IOC_STATE_OPERATIONAL, IOC_STATE_READY}
use Rattle.mpi_doorbell.specs.declared.step.DoorStep.{DoorStep}
use Rattle.mpi_doorbell.specs.declared.step.DoorStep.TheVariants as step
use Rattle.mpt_messages.specs.FrameBytes.{message_bytes}
use Rattle.mpt_messages.specs.HostFrames.{host_message}
use Rattle.mpt_messages.specs.declared.host_ask.HostAsk.{HostAsk}
use Rattle.mpt_messages.specs.declared.host_ask.HostAsk.TheVariants as ask
use Rattle.mpt_trace.specs.declared.host_state.HostState.TheVariants as state
use Rattle.mpt_trace.specs.declared.item.Down.{Down}
use Rattle.mpt_trace.specs.declared.item.Down.TheVariants as down
use Rattle.mpt_trace.specs.declared.item.Up.{Up}
use Rattle.mpt_trace.specs.declared.item.Up.TheVariants as up
use Rattle.mpt_trace.specs.declared.outcome.Outcome.{Outcome as Ending}
use Rattle.mpt_wire.specs.Machine.Causes.{is_resetting, is_up}
use Rattle.mpt_wire.specs.Messages.Fields.{Change, changes_in, event_context_in, event_in, frame_address_in, smid_in, target_added, target_not_responding}
use Rattle.removal.specs.Handles.{phase_at, with_phase}
use Rattle.removal.specs.Phases.{after_added, after_gone, after_page, after_removed, after_task_done}
use Rattle.removal.specs.declared.phase.Phase.{Phase}
use Rattle.removal.specs.declared.phase.Phase.TheVariants as phase
use Rattle.smid_pool.specs.Pool.{Free, Open, Parked, Slot, all_free, least_free, slot_of}
use Rattle.smid_pool.specs.declared.class.Class.TheVariants as class
use Rattle.mpt_rules.specs.declared.request.Request.{Request}
use Rattle.mpt_rules.specs.declared.request.Request.TheVariants as request
use Rattle.mpt_rules.specs.declared.stage.Stage.{Stage}
use Rattle.mpt_rules.specs.declared.stage.Stage.TheVariants as stage
use Rattle.mpt_rules.specs.Host.Doorbell as door
use Rattle.mpt_rules.specs.Host.Parts.{Cmd, Host, host_queue_count}
use Rattle.mpt_rules.specs.Host.Posts as asks
use Rattle.mpt_rules.specs.Host.Removal as removal
use Rattle.mpt_rules.specs.Host.Replies as replies
use Rattle.mpt_rules.specs.Host.Replies.{Heard}
use Rattle.mpt_rules.specs.Host.Resets as resets
use Rattle.mpt_rules.specs.Host.Returns as returns
use Rattle.mpt_rules.specs.Host.Takes.{hears_up, takes_unless, takes_up}
use Rattle.mpt_rules.specs.Host.Values as values
use Rattle.mpt_rules.specs.Outcome.{Happening}
use Rattle.law_flights.proofs.Tables.{get_or-set_any}

-- not open for a command
abbrev pub IsNoCommand : Slot Request → Type 0
IsNoCommand (Open (request.Command n)) = ⊥
IsNoCommand _ = Unit {0}

-- a relation of identifiers and numbers
module _ (A : ℕ → ℕ → Type 0) where
  -- each identifier that is open for a command is related to its number
  abbrev pub HasPool : List (Slot Request) → Type 0
  HasPool pool = (s n : ℕ) → slot_of pool s ≡ Open (request.Command n) → A s n

  abbrev pub Has : Host → Type 0
  Has host = HasPool host.pool

  -- ---- writes of the table

  no_command : (y : Slot Request) (n : ℕ) → IsNoCommand y → y ≡ Open (request.Command n) → ⊥
  no_command y n h e = subst IsNoCommand e h

  pub kept : (pool : List (Slot Request)) (i : ℕ) (y : Slot Request) → IsNoCommand y → HasPool pool → HasPool (set pool i y)
  kept pool i y none h zero n e = absurd (cc)
  kept pool i y none h (suc j) n e = by_tests (j == i) (nat_lt i (length pool)) (sym (get_or-set_any pool i j y Free) ∙ e)
    where
      by_tests : (a b : Bool) → cond a (cond b y (get_or pool j Free)) (get_or pool j Free) ≡ Open (request.Command n) → A (suc j) n
      by_tests true true e = absurd (no_command y n none e)
      by_tests true false e = h (suc j) n e
      by_tests false b e = h (suc j) n e

  -- the identifier is opened for a command
  pub opened : (pool : List (Slot Request)) (s k : ℕ) → 1 ≤ s → A s k → HasPool pool → HasPool (set pool (s - 1) (Open (request.Command k)))
  opened pool s k l there h zero n e = absurd (cc)
  opened pool s k l there h (suc j) n e = by_tests (j == s - 1) (nat_lt (s - 1) (length pool)) refl (sym (get_or-set_any pool (s - 1) j (Open (request.Command k)) Free) ∙ e)
    where
      by_tests : (a b : Bool) → (j == s - 1) ≡ a → cond a (cond b (Open (request.Command k)) (get_or pool j Free)) (get_or pool j Free) ≡ Open (request.Command n) → A (suc j) n
      by_tests true true t e =
          let same : k ≡ n = cc in
          let there_is : s ≡ suc j = grind (arith, nat_tests, t, l) in
          subst (λ (m : ℕ). A (suc j) m) same (subst (λ (x : ℕ). A x k) there_is there)
      by_tests true false t e = h (suc j) n e
      by_tests false b t e = h (suc j) n e

  -- ---- requests

  posted_internal : (host : Host) (s : ℕ) (r : Request) → Has host → Has (asks.posts_internal host s r)
  posted_internal host s (request.Page handle) h = kept host.pool (s - 1) (Open (request.Page handle)) tt h
  posted_internal host s (request.Remove handle) h = kept host.pool (s - 1) (Open (request.Remove handle)) tt h
  posted_internal host s (request.Ack event context) h = kept host.pool (s - 1) (Open (request.Ack event context)) tt h
  posted_internal host s request.Notification h = kept host.pool (s - 1) (Open request.Notification) tt h
  posted_internal host s request.PortEnable h = kept host.pool (s - 1) (Open request.PortEnable) tt h
  posted_internal host s (request.Command k) h = h
  posted_internal host s (request.Abort k task) h = h
  posted_internal host s (request.TargetReset address) h = h
  posted_internal host s (request.Leave handle) h = h

  posted_leave : (host : Host) (s handle : ℕ) → Has host → Has (asks.posts_leave host s handle)
  posted_leave host s handle h = kept host.pool (s - 1) (Open (request.Leave handle)) tt h

  asked_internal : (host : Host) (r : Request) → Has host → Has (asks.asks_internal host r)
  asked_internal host r h = by_free (least_free class.Internal host.pool)
    where
      by_free : (o : Option ℕ) → Has (asks.posts_internal_or_waits host r o)
      by_free None = h
      by_free (Some s) = posted_internal host s r h

  asked_leave : (host : Host) (handle : ℕ) → Has host → Has (asks.asks_leave host handle)
  asked_leave host handle h = by_free (least_free class.High host.pool)
    where
      by_free : (o : Option ℕ) → Has (asks.posts_leave_or_waits host handle o)
      by_free None = h
      by_free (Some s) = posted_leave host s handle h

  freed : (host : Host) (s : ℕ) → Has host → Has (asks.frees host s)
  freed host s h = kept host.pool (s - 1) Free tt h

  gave_internal : (host : Host) (s : ℕ) (waits : List Request) → Has host → Has (asks.gives_internal host s waits)
  gave_internal host s [] h = h
  gave_internal host s (r ∷ rest) h = posted_internal (record host { wait_internal = rest }) s r h

  gave_high : (host : Host) (s : ℕ) (waits : List ℕ) → Has host → Has (asks.gives_high host s waits)
  gave_high host s [] h = h
  gave_high host s (handle ∷ rest) h = posted_leave (record host { wait_high = rest }) s handle h

  freed_internal : (host : Host) (s : ℕ) → Has host → Has (asks.frees_internal host s)
  freed_internal host s h = gave_internal (asks.frees host s) s host.wait_internal (freed host s h)

  freed_high : (host : Host) (s : ℕ) → Has host → Has (asks.frees_high host s)
  freed_high host s h = gave_high (asks.frees host s) s host.wait_high (freed host s h)

  -- ---- the doorbell

  stepped : (host : Host) (d : HostDoor) (x : DoorStep) → Has host → Has (door.puts_step host d x)
  stepped host d (step.Read reg) h = h
  stepped host d (step.Write reg value) h = h
  stepped host d (step.Done count bytes) h = h
  stepped host d (step.Refused at value) h = h

  turned : (host : Host) (t : door.DoorTurn) → Has host → Has (door.puts_turn host t)
  turned host t h = stepped (door.puts_writes host t.writes) t.door t.step h

  pub begun : (host : Host) (s : Stage) (d : HostDoor) → Has host → Has (door.begins host s d)
  begun host s d h = turned (record host { stage = s }) (door.next_turn d None) h

  begun_handshake : (host : Host) (s : Stage) (x : HostAsk) → Has host → Has (door.begins_handshake host s x)
  begun_handshake host s x h = begun host s (handshake_of_message (message_bytes (host_message x))) h

  started_by : (host : Host) (found : ℕ) → Has host → Has (values.starts_by host found)
  started_by host found h = by_tests (found == IOC_STATE_READY) (found == IOC_STATE_OPERATIONAL) (found == IOC_STATE_FAULT)
    where
      by_tests : (x y z : Bool) → Has (if x then door.begins_facts host else if y then door.begins host stage.StartReset unit_reset else if z then door.begins host stage.StartReset diagnostic_reset else values.looks_to_start host)
      by_tests true y z = begun_handshake host stage.Facts ask.Facts h
      by_tests false true z = begun host stage.StartReset unit_reset h
      by_tests false false true = begun host stage.StartReset diagnostic_reset h
      by_tests false false false = begun host stage.Start look_at_doorbell h

  begun_late : (host : Host) (s : Stage) → Has host → Has (resets.begins_late host s)
  begun_late host stage.DiagnosticReset h = begun host stage.DiagnosticReset diagnostic_reset h
  begun_late host stage.UnitReset h = begun host stage.UnitReset unit_reset h
  begun_late host stage.Idle h = h
  begun_late host stage.Start h = h
  begun_late host stage.StartReset h = h
  begun_late host stage.Facts h = h
  begun_late host stage.PortFacts h = h
  begun_late host stage.Init h = h
  begun_late host stage.Look h = h

  pub asked_reset : (host : Host) (s : Stage) (d : HostDoor) → Has host → Has (resets.with_reset_asked host s d)
  asked_reset host s d h = by_read host.reading
    where
      by_read : (c : Bool) → Has (if c then resets.gives_up host s else door.begins (resets.gives_up host s) s d)
      by_read true = h
      by_read false = begun (resets.gives_up host s) s d h

  returned : (host : Host) (frames : List ℕ) → Has host → Has (fold returns.with_return host frames)
  returned host [] h = h
  returned host (f ∷ fs) h = returned (returns.with_return host f) fs h

  begun_messages : (host : Host) → Has host → Has (values.begins_messages host)
  begun_messages host h = asked_internal (returns.returns_all host) request.Notification (returned host (range_with_len 0 returns.reply_frame_count) h)

  -- ---- the end of a reset

  none_open : (count s n : ℕ) → slot_of (replicate count Free) s ≡ Open (request.Command n) → ⊥
  none_open count zero n e = absurd (cc)
  none_open zero (suc j) n e = absurd (grind (arith, e))
  none_open (suc count) (suc zero) n e = absurd (grind (arith, e))
  none_open (suc count) (suc (suc j)) n e = none_open count (suc j) n (grind (arith, e))

  pub all_are_free : HasPool all_free
  all_are_free s n e = absurd (none_open 280 s n e)

  over : (host : Host) → Has host → Has (resets.ends_reset_if_over host).part
  over host h = by_end (host.door_ready && resets.has_all_marks host)
    where
      by_end : (b : Bool) → Has (if b then resets.ends_reset host else record { part = host; entries = [] }).part
      by_end true = begun_handshake (resets.renewed host) stage.Facts ask.Facts all_are_free
      by_end false = h

  -- ---- values

  ended_stage : (host : Host) (s : Stage) (bytes : List ℕ) → Has host → Has (values.ends_stage host s bytes).part
  ended_stage host stage.Idle bytes h = h
  ended_stage host stage.Start bytes h = started_by host (values.state_read bytes) h
  ended_stage host stage.StartReset bytes h = begun_handshake host stage.Facts ask.Facts h
  ended_stage host stage.Facts bytes h = begun_handshake host stage.PortFacts ask.PortFacts h
  ended_stage host stage.PortFacts bytes h = begun_handshake host stage.Init (ask.Init (host_queue_count host)) h
  ended_stage host stage.Init bytes h = begun_messages host h
  ended_stage host stage.Look bytes h = h
  ended_stage host stage.DiagnosticReset bytes h = over (record host { door_ready = true }) h
  ended_stage host stage.UnitReset bytes h = over (record host { door_ready = true }) h

  ended_turn : (host : Host) (s : Stage) (x : DoorStep) → Has host → Has (values.after_turn host s x).part
  ended_turn host s (step.Done count bytes) h = ended_stage host s (take count bytes) h
  ended_turn host s (step.Read reg) h = h
  ended_turn host s (step.Write reg value) h = h
  ended_turn host s (step.Refused at value) h = h

  valued : (host : Host) (d : Option HostDoor) (value : ℕ) → Has host → Has (values.hears_value_at host d value).part
  valued host None value h = begun_late host host.stage h
  valued host (Some d) value h =
      let t : door.DoorTurn = door.next_turn d (Some value) in
      ended_turn (door.puts_turn host t) host.stage t.step (turned host t h)

  -- ---- events

  added : (host : Host) (handle : ℕ) (p : Phase) → Has host → Has (removal.after_handle_added host handle p)
  added host handle phase.Absent h = asked_internal (removal.with_phase_of host handle (after_added phase.Absent)) (request.Page handle) h
  added host handle phase.WaitRead h = h
  added host handle (phase.Reading smid) h = h
  added host handle (phase.Ready address) h = h
  added host handle phase.WaitHigh h = h
  added host handle (phase.Resetting smid) h = h
  added host handle phase.WaitInternal h = h
  added host handle (phase.Removing smid) h = h

  begun_removal : (host : Host) (handle : ℕ) (p : Phase) → Has host → Has (removal.begins_removal host handle p).part
  begun_removal host handle p h =
      asked_leave (record host { phases = with_phase host.phases handle (after_gone p); wait_internal = removal.without_page handle host.wait_internal }) handle h

  lost : (host : Host) (handle : ℕ) (p : Phase) → Has host → Has (removal.after_handle_lost host handle p).part
  lost host handle phase.WaitRead h = begun_removal host handle phase.WaitRead h
  lost host handle (phase.Reading smid) h = begun_removal host handle (phase.Reading smid) h
  lost host handle (phase.Ready address) h = begun_removal host handle (phase.Ready address) h
  lost host handle phase.Absent h = h
  lost host handle phase.WaitHigh h = h
  lost host handle (phase.Resetting smid) h = h
  lost host handle phase.WaitInternal h = h
  lost host handle (phase.Removing smid) h = h

  changed : (host : Host) (c : Change) → Has host → Has (removal.hears_change host c).part
  changed host c h = by_tests (removal.is_disk_handle c.handle) (c.status == target_added) (c.status == target_not_responding)
    where
      by_tests : (x y z : Bool) → Has (if x then (if y then removal.quietly (removal.after_handle_added host c.handle (phase_at host.phases c.handle)) else (if z then removal.after_handle_lost host c.handle (phase_at host.phases c.handle) else removal.quietly host)) else removal.quietly host).part
      by_tests false y z = h
      by_tests true true z = added host c.handle (phase_at host.phases c.handle) h
      by_tests true false true = lost host c.handle (phase_at host.phases c.handle) h
      by_tests true false false = h

  all_changed : (host : Host) (cs : List Change) → Has host → Has (removal.hears_changes host cs).part
  unfolding removal.hears_changes
  all_changed host [] h = h
  all_changed host (c ∷ cs) h = all_changed (removal.hears_change host c).part cs (changed host c h)

  -- ---- replies

  unless : (host : Host) (s : ℕ) (o : Happening Host) → Has host → Has o.part → Has (replies.unless_resetting host s o).part
  unless host s o h c = by_mode (is_resetting host.mode)
    where
      by_mode : (b : Bool) → Has (if b then removal.quietly (asks.frees host s) else o).part
      by_mode true = freed host s h
      by_mode false = c

  answered : (host : Host) (s k : ℕ) (how : Ending) → Has host → Has (replies.host_answers host s k how).part
  answered host s k how h = by_abort (finmap.get host.aborts k)
    where
      by_abort : (o : Option ℕ) → HasPool (set host.pool (s - 1) (replies.slot_after o))
      by_abort None = kept host.pool (s - 1) Free tt h
      by_abort (Some x) = kept host.pool (s - 1) Parked tt h

  unparked : (host : Host) (task : ℕ) (slot : Slot Request) → Has host → Has (replies.unparks host task slot)
  unparked host task Free h = h
  unparked host task (Open r) h = h
  unparked host task Parked h = freed host task h

  left : (host : Host) (s handle : ℕ) → Has host → Has (removal.left host s handle)
  left host s handle h = by_phase (removal.is_reset_under s (phase_at host.phases handle))
    where
      phased : Host
      phased = removal.with_phase_of host handle (after_task_done (phase_at host.phases handle) s)

      by_phase : (b : Bool) → Has (if b then asks.asks_internal (asks.frees_high phased s) (request.Remove handle) else asks.frees_high phased s)
      by_phase true = asked_internal (asks.frees_high phased s) (request.Remove handle) (freed_high phased s h)
      by_phase false = freed_high phased s h

  heard : (host : Host) (s : ℕ) (r : Request) (v : Heard) → Has host → Has (replies.hears_answer host s r v).part
  heard host s (request.Command k) v h = answered host s k (replies.ended v.frame v.page v.sense) h
  heard host s (request.Abort k task) v h = freed_high (replies.closes_abort host k task) s (unparked (record host { aborts = finmap.remove host.aborts k }) task (slot_of host.pool task) h)
  heard host s (request.TargetReset address) v h = freed_high host s h
  heard host s (request.Leave handle) v h = unless host s (removal.quietly (removal.left host s handle)) h (left host s handle h)
  heard host s (request.Page handle) v h =
      unless host s (removal.reads_page host s handle (replies.address_read (replies.reply_bytes v) v.page)) h
      (freed_internal (removal.with_phase_of host handle (after_page (phase_at host.phases handle) s (replies.address_read (replies.reply_bytes v) v.page))) s h)
  heard host s (request.Remove handle) v h = unless host s (removal.quietly (removal.removed host s handle)) h (freed_internal (removal.with_phase_of host handle (after_removed (phase_at host.phases handle) s)) s h)
  heard host s (request.Ack event context) v h = unless host s (removal.quietly (asks.frees_internal host s)) h (freed_internal host s h)
  heard host s request.Notification v h = unless host s (removal.quietly (replies.hears_notified host s)) h (asked_internal (asks.frees_internal host s) request.PortEnable (freed_internal host s h))
  heard host s request.PortEnable v h = unless host s (replies.after_port_enable host s) h (freed_internal host s h)

  heard_event : (host : Host) (v : Heard) → Has host → Has (if is_resetting host.mode then removal.quietly host else removal.hears_event host (replies.reply_bytes v)).part
  heard_event host v h = by_mode (is_resetting host.mode)
    where
      frame : List ℕ
      frame = replies.reply_bytes v

      by_mode : (b : Bool) → Has (if b then removal.quietly host else removal.hears_event host frame).part
      by_mode true = h
      by_mode false = all_changed (asks.asks_internal host (request.Ack (event_in frame) (event_context_in frame))) (changes_in frame) (asked_internal host (request.Ack (event_in frame) (event_context_in frame)) h)

  heard_by : (host : Host) (s : ℕ) (o : Option Request) (v : Heard) → Has host → Has (replies.hears_reply_to host s o v).part
  heard_by host s None v h = heard_event host v h
  heard_by host s (Some r) v h = heard host s r v h

  framed : (host : Host) (d : ℕ) (f : Option (List ℕ)) → Has host → Has (replies.with_frame_heard host d f)
  framed host d None h = h
  framed host d (Some frame) h = by_returning host.returning
    where
      by_returning : (c : Bool) → Has (if c then returns.with_return host (returns.frame_of (frame_address_in d)) else returns.keeps host (returns.frame_of (frame_address_in d)))
      by_returning true = h
      by_returning false = h

  -- ---- all that comes up, and what is put

  pub taken : (host : Host) (queue : ℕ) (item : Up) → Has host → Has (hears_up host queue item).part
  taken host queue (up.Value value) h = valued (record host { reading = false }) host.machine value h
  taken host queue (up.Reply d f page sense) h =
      heard_by (replies.takes_entry (replies.with_frame_heard host d f) queue) (smid_in d) (replies.request_of host (smid_in d)) (replies.heard_of d f page sense) (framed host d f h)
  taken host queue (up.Mark generation) h = over (record host { marks = slice_set host.marks queue true }) h
  taken host queue up.Calm h = h

  sent : (host : Host) (x : Down) (rest : List Down) → Has host → Has (returns.after_sent host x rest)
  sent host (down.Write reg value) rest h = h
  sent host (down.Read reg) rest h = h
  sent host (down.Post descriptor frame payload) rest h = h
  sent host (down.Return address index) rest h = h
  sent host down.Stop rest h = h

  pub put : (host : Host) (items : List Down) → Has host → Has (returns.sends_first host items)
  put host [] h = h
  put host (x ∷ rest) h = sent host x rest h

  -- ---- inputs

  submitted : (host : Host) (k address : ℕ) (command : Command) (used mode : Bool) (handle : Option ℕ) (fit : Bool) (o : Option ℕ) → least_free class.ScsiIo host.pool ≡ o
      → ((s : ℕ) → (submits_by host k address command used mode handle fit o).told ≡ entry.Accept k address s ∷ [] → A s k) → Has host → Has (submits_by host k address command used mode handle fit o).part
  submitted host k address command true mode handle fit o e a h = h
  submitted host k address command false false handle fit o e a h = h
  submitted host k address command false true None fit o e a h = h
  submitted host k address command false true (Some x) false o e a h = h
  submitted host k address command false true (Some x) true None e a h = h
  submitted host k address command false true (Some x) true (Some s) e a h = opened host.pool s k (least_beside 0 0 0 class.ScsiIo host.pool s e).least (a s refl) h

  aborted : (host : Host) (k : ℕ) (mode : Bool) (cmd : Option Cmd) (there o : Option ℕ) → Has host → Has (aborts_by host k mode cmd there o).part
  aborted host k false cmd there o h = h
  aborted host k true None there o h = h
  aborted host k true (Some cmd) (Some x) o h = h
  aborted host k true (Some cmd) None None h = h
  aborted host k true (Some cmd) None (Some s) h = kept host.pool (s - 1) (Open (request.Abort k cmd.smid)) tt h

  target_reset : (host : Host) (address : ℕ) (mode : Bool) (handle o : Option ℕ) → Has host → Has (resets_target_by host address mode handle o).part
  target_reset host address false handle o h = h
  target_reset host address true None o h = h
  target_reset host address true (Some x) None h = h
  target_reset host address true (Some x) (Some s) h = kept host.pool (s - 1) (Open (request.TargetReset address)) tt h

  started : (host : Host) (m : HostState) → Has host → Has (inputs.starts_in host m).part
  started host state.Off h = begun (record host { mode = state.Starting }) stage.Start look_at_doorbell h
  started host state.Starting h = h
  started host state.Up h = h
  started host state.Resetting h = h

  reset : (host : Host) (m : HostState) → Has host → Has (inputs.diag_resets_in host m).part
  reset host state.Off h = h
  reset host state.Starting h = asked_reset host stage.DiagnosticReset diagnostic_reset h
  reset host state.Up h = asked_reset host stage.DiagnosticReset diagnostic_reset h
  reset host state.Resetting h = h

  reset_unit : (host : Host) (m : HostState) → Has host → Has (inputs.unit_resets_in host m).part
  reset_unit host state.Off h = h
  reset_unit host state.Starting h = h
  reset_unit host state.Up h = asked_reset host stage.UnitReset unit_reset h
  reset_unit host state.Resetting h = h

  -- a submission that is accepted relates its identifier to its number
  pub given : (host : Host) (i : Input) → ((n address s : ℕ) → (moved host (move.Input i)).told ≡ entry.Accept n address s ∷ [] → A s n) → Has host → Has (moved host (move.Input i)).part
  given host input.Start a h = started host host.mode h
  given host (input.Submit k address form) a h =
      submitted host k address (command_named form) (finset.contains host.accepted k) (is_up host.mode) (ready_handle host.phases address) (fits (command_named form)) (least_free class.ScsiIo host.pool) refl (a k address) h
  given host (input.Abort k) a h = aborted host k (is_up host.mode) (finmap.get host.cmds k) (finmap.get host.aborts k) (least_free class.High host.pool) h
  given host (input.TargetReset address) a h = target_reset host address (is_up host.mode) (ready_handle host.phases address) (least_free class.High host.pool) h
  given host input.Reset a h = reset host host.mode h
  given host input.UnitReset a h = reset_unit host host.mode h
  given host (input.Plug address expander phy) a h = h
  given host (input.Unplug address) a h = h

  -- ---- a move

  pub after_move : (host : Host) (m : HostMove) → ((n address s : ℕ) → (moved host m).told ≡ entry.Accept n address s ∷ [] → A s n) → Has host → Has (moved host m).part
  after_move host (move.Input i) a h = given host i a h
  after_move host (move.Up item) a h = after_take host 0 item h
    where
      after_take : (k : Host) (queue : ℕ) (x : Up) → Has k → Has (takes_up k queue x).part
      after_take k queue x h = by_why (why_strange k queue x)
        where
          by_why : (o : Option Why) → Has (takes_unless k queue x o).part
          by_why None = taken k queue x h
          by_why (Some why) = h
  after_move host (move.UpOn queue item) a h = by_queue (nat_lt queue (length host.indices))
    where
      by_why : (o : Option Why) → Has (takes_unless host queue item o).part
      by_why None = taken host queue item h
      by_why (Some why) = h

      by_queue : (b : Bool) → Has (if b then taken_move (takes_up host queue item) else passed_over host).part
      by_queue true = by_why (why_strange host queue item)
      by_queue false = h
  after_move host move.PutDown a h = by_list host.out (put host host.out h)
    where
      by_list : (items : List Down) → Has (returns.sends_first host items) → Has (puts_down host (slice_get items 0)).part
      by_list [] p = h
      by_list (x ∷ rest) p = put host host.out h
