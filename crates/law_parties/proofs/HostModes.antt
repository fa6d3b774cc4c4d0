-- What the host makes of its mode: each case leaves it as its entries say, whatever the host takes.
use Rattle.std.proofs.Common.{◌≡◌, ℕ, ◌==◌, ◌&&◌, Bool, true, false, if◌then◌else◌, List, [], ◌∷◌, ◌++◌, map, filter_map, slice_set, take, Option, Some, None, refl, ap, sym, ◌∙◌, arith}
use Rattle.std.specs.FinMap as finmap
use Rattle.std.specs.List.{find, fold, range_with_len}
use Rattle.scsi_disk.specs.declared.command.Command.{Command}
use Rattle.mpi_doorbell.specs.HostDoor.{HostDoor}
use Rattle.mpi_doorbell.specs.HostSteps.{diagnostic_reset, handshake_of_message, look_at_doorbell, unit_reset}
use Rattle.mpi_doorbell.specs.declared.registers.TheConstants.{IOC_STATE_FAULT, IOC_STATE_OPERATIONAL, IOC_STATE_READY}
use Rattle.mpi_doorbell.specs.declared.step.DoorStep.{DoorStep}
use Rattle.mpi_doorbell.specs.declared.step.DoorStep.TheVariants as step
use Rattle.mpt_messages.specs.FrameBytes.{message_bytes}
use Rattle.mpt_messages.specs.HostFrames.{host_message}
use Rattle.mpt_messages.specs.declared.host_ask.HostAsk.{HostAsk}
use Rattle.mpt_messages.specs.declared.host_ask.HostAsk.TheVariants as ask
use Rattle.mpt_trace.specs.Command.{command_named}
use Rattle.mpt_trace.specs.declared.entry.Entry.{Entry}
use Rattle.mpt_trace.specs.declared.entry.Entry.TheVariants as entry
use Rattle.mpt_trace.specs.declared.host_state.HostState.{HostState}
use Rattle.mpt_trace.specs.declared.host_state.HostState.TheVariants as state
use Rattle.mpt_trace.specs.declared.input.Input.{Input}
use Rattle.mpt_trace.specs.declared.input.Input.TheVariants as input
use Rattle.mpt_trace.specs.declared.item.Down.{Down}
use Rattle.mpt_trace.specs.declared.item.Down.TheVariants as down
use Rattle.mpt_trace.specs.declared.item.Item.TheVariants as item
use Rattle.mpt_trace.specs.declared.item.Up.{Up}
use Rattle.mpt_trace.specs.declared.item.Up.TheVariants as up
use Rattle.mpt_trace.specs.declared.parties.Party.TheVariants as party
use Rattle.mpt_trace.specs.declared.refusal.Refusal.{Refusal}
use Rattle.mpt_trace.specs.declared.refusal.RefusedCall.TheVariants as call
use Rattle.mpt_wire.specs.Machine.Calls.{is_call_refused}
use Rattle.mpt_wire.specs.Machine.Causes as calls
use Rattle.mpt_wire.specs.Machine.Causes.{Call, is_resetting, is_up}
use Rattle.mpt_wire.specs.Messages.Fields.{Change, changes_in, event_context_in, event_in, frame_address_in, smid_in, target_reset}
use Rattle.mpt_wire.specs.Walks.Ahead.{is_of, next_own}
use Rattle.mpt_wire.specs.Walks.Passes.{EachEntry}
use Rattle.removal.specs.Handles.{phase_at}
use Rattle.removal.specs.Phases.{after_page, after_removed, after_task_done}
use Rattle.removal.specs.declared.phase.Phase.{Phase}
use Rattle.removal.specs.declared.phase.Phase.TheVariants as phase
use Rattle.smid_pool.specs.Pool.{Free, Open, Parked, Slot, slot_of}
use Rattle.smid_pool.specs.declared.class.Class.TheVariants as class
use Rattle.mpt_rules.specs.declared.request.Request.{Request}
use Rattle.mpt_rules.specs.declared.request.Request.TheVariants as request
use Rattle.mpt_rules.specs.declared.stage.Stage.{Stage}
use Rattle.mpt_rules.specs.declared.stage.Stage.TheVariants as stage
use Rattle.mpt_rules.specs.declared.why.Why.{Why}
use Rattle.mpt_rules.specs.Host.Doorbell as door
use Rattle.mpt_rules.specs.Host.Inputs as inputs
use Rattle.mpt_rules.specs.Host.Parts.{Host, host_queue_count}
use Rattle.mpt_rules.specs.Host.Posts as asks
use Rattle.mpt_rules.specs.Host.Removal as removal
use Rattle.mpt_rules.specs.Host.Replies as replies
use Rattle.mpt_rules.specs.Host.Replies.{Heard}
use Rattle.mpt_rules.specs.Host.Resets as resets
use Rattle.mpt_rules.specs.Host.Returns as returns
use Rattle.mpt_rules.specs.Host.Strange.{why_strange}
use Rattle.mpt_rules.specs.Host.Takes.{hears_up, takes_unless}
use Rattle.mpt_rules.specs.Host.Values as values
use Rattle.mpt_rules.specs.Outcome.{Happening}
use Rattle.mpt_rules.specs.Session.OpenCases.{HostCase, host_does, puts_down}
use Rattle.mpt_rules.specs.World.Cases.{is_free, looks_if, stops_if}
use Rattle.mpt_rules.specs.World.Inputs.{by_option, by_result, host_told}
use Rattle.mpt_rules.specs.World.Moves.{told_of}
use Rattle.mpt_rules.specs.World.State.{up_lane}
use Rattle.law_flights.proofs.HostMoves.{mode_asks, mode_change, mode_internal, mode_step}
use Rattle.law_parties.proofs.TraceModes.{mode_entry, mode_trace}

-- ---- what leaves the mode as it is

turned : (host : Host) (t : door.DoorTurn) → (door.puts_turn host t).mode ≡ host.mode
turned host t = mode_step (door.puts_writes host t.writes) t.door t.step

begun : (host : Host) (s : Stage) (d : HostDoor) → (door.begins host s d).mode ≡ host.mode
begun host s d = turned (record host { stage = s }) (door.next_turn d None)

begun_handshake : (host : Host) (s : Stage) (x : HostAsk) → (door.begins_handshake host s x).mode ≡ host.mode
begun_handshake host s x = begun host s (handshake_of_message (message_bytes (host_message x)))

asked_reset : (host : Host) (s : Stage) (d : HostDoor) → (resets.with_reset_asked host s d).mode ≡ state.Resetting
asked_reset host s d = by_read host.reading
  where
    by_read : (c : Bool) → (if c then resets.gives_up host s else door.begins (resets.gives_up host s) s d).mode ≡ state.Resetting
    by_read true = refl
    by_read false = begun (resets.gives_up host s) s d

gave_high : (host : Host) (s : ℕ) (waits : List ℕ) → (asks.gives_high host s waits).mode ≡ host.mode
gave_high host s [] = refl
gave_high host s (handle ∷ rest) = refl

gave_internal : (host : Host) (s : ℕ) (waits : List Request) → (asks.gives_internal host s waits).mode ≡ host.mode
gave_internal host s [] = refl
gave_internal host s (r ∷ rest) = mode_internal (record host { wait_internal = rest }) s r

freed_high : (host : Host) (s : ℕ) → (asks.frees_high host s).mode ≡ host.mode
freed_high host s = gave_high (asks.frees host s) s host.wait_high

freed_internal : (host : Host) (s : ℕ) → (asks.frees_internal host s).mode ≡ host.mode
freed_internal host s = gave_internal (asks.frees host s) s host.wait_internal

unparked : (host : Host) (task : ℕ) (slot : Slot Request) → (replies.unparks host task slot).mode ≡ host.mode
unparked host task Free = refl
unparked host task (Open r) = refl
unparked host task Parked = refl

returned : (host : Host) (frames : List ℕ) → (fold returns.with_return host frames).mode ≡ host.mode
returned host [] = refl
returned host (f ∷ fs) = returned (returns.with_return host f) fs

begun_messages : (host : Host) → (values.begins_messages host).mode ≡ host.mode
begun_messages host = mode_asks (returns.returns_all host) request.Notification ∙ returned host (range_with_len 0 returns.reply_frame_count)

started_by : (host : Host) (found : ℕ) → (values.starts_by host found).mode ≡ host.mode
started_by host found = by_tests (found == IOC_STATE_READY) (found == IOC_STATE_OPERATIONAL) (found == IOC_STATE_FAULT)
  where
    by_tests : (x y z : Bool) → (if x then door.begins_facts host else if y then door.begins host stage.StartReset unit_reset else if z then door.begins host stage.StartReset diagnostic_reset else values.looks_to_start host).mode ≡ host.mode
    by_tests true y z = begun_handshake host stage.Facts ask.Facts
    by_tests false true z = begun host stage.StartReset unit_reset
    by_tests false false true = begun host stage.StartReset diagnostic_reset
    by_tests false false false = begun host stage.Start look_at_doorbell

begun_late : (host : Host) (s : Stage) → (resets.begins_late host s).mode ≡ host.mode
begun_late host stage.DiagnosticReset = begun host stage.DiagnosticReset diagnostic_reset
begun_late host stage.UnitReset = begun host stage.UnitReset unit_reset
begun_late host stage.Idle = refl
begun_late host stage.Start = refl
begun_late host stage.StartReset = refl
begun_late host stage.Facts = refl
begun_late host stage.PortFacts = refl
begun_late host stage.Init = refl
begun_late host stage.Look = refl

framed : (host : Host) (d : ℕ) (f : Option (List ℕ)) → (replies.with_frame_heard host d f).mode ≡ host.mode
framed host d None = refl
framed host d (Some frame) = by_returning host.returning
  where
    by_returning : (c : Bool) → (if c then returns.with_return host (returns.frame_of (frame_address_in d)) else returns.keeps host (returns.frame_of (frame_address_in d))).mode ≡ host.mode
    by_returning true = refl
    by_returning false = refl

all_changed : (host : Host) (cs : List Change) → (removal.hears_changes host cs).part.mode ≡ host.mode
unfolding removal.hears_changes
all_changed host [] = refl
all_changed host (c ∷ cs) = all_changed (removal.hears_change host c).part cs ∙ mode_change host c

-- ---- entries that leave it

abbrev pub KeepsMode : Entry → Type 0
KeepsMode (entry.Given input.Start) = ⊥
KeepsMode (entry.Given input.Reset) = ⊥
KeepsMode (entry.Given input.UnitReset) = ⊥
KeepsMode entry.HostUp = ⊥
KeepsMode entry.ResetDone = ⊥
KeepsMode _ = Unit {0}

plain_entry : (m : HostState) (e : Entry) (ahead : Option Entry) → KeepsMode e → mode_entry m e ahead ≡ m
plain_entry m (entry.Given input.Start) ahead h = absurd h
plain_entry m (entry.Given input.Reset) ahead h = absurd h
plain_entry m (entry.Given input.UnitReset) ahead h = absurd h
plain_entry m entry.HostUp ahead h = absurd h
plain_entry m entry.ResetDone ahead h = absurd h
plain_entry m (entry.Given i) ahead h = refl
plain_entry m _ ahead h = refl

plain_append : (t u : List Entry) → EachEntry KeepsMode t → EachEntry KeepsMode u → EachEntry KeepsMode (t ++ u)
plain_append [] u a b = b
plain_append (e ∷ t) u a b = (a.0, plain_append t u a.1 b)

-- plain entries in front
pub plain_front : (m : HostState) (t es rest : List Entry) → EachEntry KeepsMode t → mode_trace m ((t ++ es) ++ rest) ≡ mode_trace m (es ++ rest)
plain_front m [] es rest h = refl
plain_front m (e ∷ t) es rest h = ap (λ (x : HostState). mode_trace x ((t ++ es) ++ rest)) (plain_entry m e (next_own e ((t ++ es) ++ rest)) h.0) ∙ plain_front m t es rest h.1

pub all_plain : (m : HostState) (t rest : List Entry) → EachEntry KeepsMode t → mode_trace m (t ++ rest) ≡ mode_trace m rest
all_plain m [] rest h = refl
all_plain m (e ∷ t) rest h = ap (λ (x : HostState). mode_trace x (t ++ rest)) (plain_entry m e (next_own e (t ++ rest)) h.0) ∙ all_plain m t rest h.1

-- no refusal is the host's next entry
abbrev pub NoRefusal : List Entry → Type 0
NoRefusal rest = (c : Call) → is_call_refused c (find (is_of party.Host) rest) ≡ false

-- the mode after the entries is that after the case, whatever follows but a refusal
abbrev pub Agrees : HostState → Happening Host → Type 0
Agrees m o = (rest : List Entry) → NoRefusal rest → mode_trace m (o.entries ++ rest) ≡ mode_trace o.part.mode rest

module _ (m : HostState) where
  by_plain : (part : Host) (es : List Entry) → part.mode ≡ m → EachEntry KeepsMode es → Agrees m (record { part = part; entries = es })
  by_plain part es e h rest n = all_plain m es rest h ∙ ap (λ (x : HostState). mode_trace x rest) (sym e)

  quietly_agrees : (host : Host) → host.mode ≡ m → Agrees m (removal.quietly host)
  quietly_agrees host e = by_plain host [] e tt

  -- ---- replies

  unless_agrees : (host : Host) (s : ℕ) (o : Happening Host) → host.mode ≡ m → Agrees m o → Agrees m (replies.unless_resetting host s o)
  unless_agrees host s o e a = by_mode (is_resetting host.mode)
    where
      by_mode : (b : Bool) → Agrees m (if b then removal.quietly (asks.frees host s) else o)
      by_mode true = quietly_agrees (asks.frees host s) e
      by_mode false = a

  ready_plain : (handle s : ℕ) (p : Phase) (page : Option ℕ) → EachEntry KeepsMode (removal.ready_told handle s p page)
  ready_plain handle s p page = grind arith

  left_mode : (host : Host) (s handle : ℕ) → (removal.left host s handle).mode ≡ host.mode
  left_mode host s handle = by_phase (removal.is_reset_under s (phase_at host.phases handle))
    where
      freed : Host
      freed = asks.frees_high (removal.with_phase_of host handle (after_task_done (phase_at host.phases handle) s)) s

      by_phase : (b : Bool) → (if b then asks.asks_internal (asks.frees_high (removal.with_phase_of host handle (after_task_done (phase_at host.phases handle) s)) s) (request.Remove handle) else asks.frees_high (removal.with_phase_of host handle (after_task_done (phase_at host.phases handle) s)) s).mode ≡ host.mode
      by_phase true =
          mode_asks (asks.frees_high (removal.with_phase_of host handle (after_task_done (phase_at host.phases handle) s)) s) (request.Remove handle) ∙ freed_high (removal.with_phase_of host handle (after_task_done (phase_at host.phases handle) s)) s
      by_phase false = freed_high (removal.with_phase_of host handle (after_task_done (phase_at host.phases handle) s)) s

  answer_agrees : (host : Host) (s : ℕ) (r : Request) (v : Heard) → host.mode ≡ m → Agrees m (replies.hears_answer host s r v)
  answer_agrees host s (request.Command k) v e = by_plain (replies.host_answers host s k (replies.ended v.frame v.page v.sense)).part (replies.host_answers host s k (replies.ended v.frame v.page v.sense)).entries e (tt, tt)
  answer_agrees host s (request.Abort k task) v e =
      let closed : Host = replies.closes_abort host k task in
      by_plain (asks.frees_high closed s) (replies.host_ends_abort host s k task (replies.reply_bytes v)).entries (freed_high closed s ∙ (unparked (record host { aborts = finmap.remove host.aborts k }) task (slot_of host.pool task) ∙ e)) (tt, tt)
  answer_agrees host s (request.TargetReset address) v e = by_plain (asks.frees_high host s) (replies.ends_target host s address (replies.reply_bytes v)).entries (freed_high host s ∙ e) (tt, tt)
  answer_agrees host s (request.Leave handle) v e = unless_agrees host s (removal.quietly (removal.left host s handle)) e (quietly_agrees (removal.left host s handle) (left_mode host s handle ∙ e))
  answer_agrees host s (request.Page handle) v e =
      let read : Option ℕ = replies.address_read (replies.reply_bytes v) v.page in
      let phased : Host = removal.with_phase_of host handle (after_page (phase_at host.phases handle) s read) in
      unless_agrees host s (removal.reads_page host s handle read) e
      (by_plain (asks.frees_internal phased s) (removal.ready_told handle s (phase_at host.phases handle) read) (freed_internal phased s ∙ e) (ready_plain handle s (phase_at host.phases handle) read))
  answer_agrees host s (request.Remove handle) v e =
      let phased : Host = removal.with_phase_of host handle (after_removed (phase_at host.phases handle) s) in
      unless_agrees host s (removal.quietly (removal.removed host s handle)) e (quietly_agrees (removal.removed host s handle) (freed_internal phased s ∙ e))
  answer_agrees host s (request.Ack event context) v e = unless_agrees host s (removal.quietly (asks.frees_internal host s)) e (quietly_agrees (asks.frees_internal host s) (freed_internal host s ∙ e))
  answer_agrees host s request.Notification v e =
      unless_agrees host s (removal.quietly (replies.hears_notified host s)) e (quietly_agrees (replies.hears_notified host s) (mode_asks (asks.frees_internal host s) request.PortEnable ∙ (freed_internal host s ∙ e)))
  answer_agrees host s request.PortEnable v e = unless_agrees host s (replies.after_port_enable host s) e (λ rest n. refl)

  loses_plain : (host : Host) (handle : ℕ) (p : Phase) → EachEntry KeepsMode (removal.after_handle_lost host handle p).entries
  loses_plain host handle phase.WaitRead = tt
  loses_plain host handle (phase.Reading smid) = tt
  loses_plain host handle (phase.Ready address) = (tt, tt)
  loses_plain host handle phase.Absent = tt
  loses_plain host handle phase.WaitHigh = tt
  loses_plain host handle (phase.Resetting smid) = tt
  loses_plain host handle phase.WaitInternal = tt
  loses_plain host handle (phase.Removing smid) = tt

  change_plain : (host : Host) (c : Change) → EachEntry KeepsMode (removal.hears_change host c).entries
  change_plain host c = let l = loses_plain host c.handle (phase_at host.phases c.handle) in grind (arith, l)

  changes_plain : (host : Host) (cs : List Change) → EachEntry KeepsMode (removal.hears_changes host cs).entries
  unfolding removal.hears_changes
  changes_plain host [] = tt
  changes_plain host (c ∷ cs) = plain_append _ _ (change_plain host c) (changes_plain (removal.hears_change host c).part cs)

  none_agrees : (host : Host) (s : ℕ) (v : Heard) → host.mode ≡ m → Agrees m (replies.hears_reply_to host s None v)
  none_agrees host s v e = by_mode (is_resetting host.mode)
    where
      by_mode : (b : Bool) → Agrees m (if b then removal.quietly host else removal.hears_event host (replies.reply_bytes v))
      by_mode true = quietly_agrees host e
      by_mode false =
          let frame : List ℕ = replies.reply_bytes v in
          let asked : Host = asks.asks_internal host (request.Ack (event_in frame) (event_context_in frame)) in
          by_plain (removal.hears_changes asked (changes_in frame)).part (removal.hears_changes asked (changes_in frame)).entries
          (all_changed asked (changes_in frame) ∙ (mode_asks host (request.Ack (event_in frame) (event_context_in frame)) ∙ e)) (changes_plain asked (changes_in frame))

  reply_agrees : (host : Host) (s : ℕ) (r : Option Request) (v : Heard) → host.mode ≡ m → Agrees m (replies.hears_reply_to host s r v)
  reply_agrees host s None v e = none_agrees host s v e
  reply_agrees host s (Some r) v e = answer_agrees host s r v e

  -- ---- the end of a reset

  each_plain : (f : ℕ → Entry) → ((k : ℕ) → KeepsMode (f k)) → (ks : List ℕ) → EachEntry KeepsMode (map f ks)
  each_plain f h [] = tt
  each_plain f h (k ∷ ks) = (h k, each_plain f h ks)

  targets_plain : (xs : List (Slot Request)) → EachEntry KeepsMode (filter_map resets.reset_target xs)
  targets_plain [] = tt
  targets_plain (Free ∷ xs) = targets_plain xs
  targets_plain (Parked ∷ xs) = targets_plain xs
  targets_plain (Open (request.TargetReset address) ∷ xs) = (tt, targets_plain xs)
  targets_plain (Open (request.Command k) ∷ xs) = targets_plain xs
  targets_plain (Open (request.Abort k task) ∷ xs) = targets_plain xs
  targets_plain (Open (request.Leave handle) ∷ xs) = targets_plain xs
  targets_plain (Open (request.Page handle) ∷ xs) = targets_plain xs
  targets_plain (Open (request.Remove handle) ∷ xs) = targets_plain xs
  targets_plain (Open (request.Ack event context) ∷ xs) = targets_plain xs
  targets_plain (Open request.Notification ∷ xs) = targets_plain xs
  targets_plain (Open request.PortEnable ∷ xs) = targets_plain xs

  reset_agrees : (host : Host) → Agrees m (resets.ends_reset host)
  reset_agrees host rest n =
      let aborts : List Entry = map resets.reset_abort (finmap.keys host.aborts) in
      let targets : List Entry = filter_map resets.reset_target host.pool in
      plain_front m (map resets.reset_answer (finmap.keys host.cmds)) (aborts ++ (targets ++ entry.ResetDone ∷ [])) rest (each_plain resets.reset_answer (λ k. tt) (finmap.keys host.cmds))
      ∙ (plain_front m aborts (targets ++ entry.ResetDone ∷ []) rest (each_plain resets.reset_abort (λ k. tt) (finmap.keys host.aborts))
      ∙ (plain_front m targets (entry.ResetDone ∷ []) rest (targets_plain host.pool)
      ∙ ap (λ (x : HostState). mode_trace x rest) (sym (begun_handshake (resets.renewed host) stage.Facts ask.Facts))))

  over_agrees : (host : Host) → host.mode ≡ m → Agrees m (resets.ends_reset_if_over host)
  over_agrees host e = by_end (host.door_ready && resets.has_all_marks host)
    where
      by_end : (b : Bool) → Agrees m (if b then resets.ends_reset host else record { part = host; entries = [] })
      by_end true = reset_agrees host
      by_end false = by_plain host [] e tt

  -- ---- values

  stage_agrees : (host : Host) (s : Stage) (bytes : List ℕ) → host.mode ≡ m → Agrees m (values.ends_stage host s bytes)
  stage_agrees host stage.Idle bytes e = quietly_agrees host e
  stage_agrees host stage.Start bytes e = quietly_agrees (values.starts_by host (values.state_read bytes)) (started_by host (values.state_read bytes) ∙ e)
  stage_agrees host stage.StartReset bytes e = quietly_agrees (door.begins_facts host) (begun_handshake host stage.Facts ask.Facts ∙ e)
  stage_agrees host stage.Facts bytes e = quietly_agrees (door.begins_port_facts host) (begun_handshake host stage.PortFacts ask.PortFacts ∙ e)
  stage_agrees host stage.PortFacts bytes e = quietly_agrees (door.begins_init host) (begun_handshake host stage.Init (ask.Init (host_queue_count host)) ∙ e)
  stage_agrees host stage.Init bytes e = quietly_agrees (values.begins_messages host) (begun_messages host ∙ e)
  stage_agrees host stage.Look bytes e = quietly_agrees host e
  stage_agrees host stage.DiagnosticReset bytes e = over_agrees (record host { door_ready = true }) e
  stage_agrees host stage.UnitReset bytes e = over_agrees (record host { door_ready = true }) e

  turn_agrees : (host : Host) (s : Stage) (x : DoorStep) → host.mode ≡ m → Agrees m (values.after_turn host s x)
  turn_agrees host s (step.Done count bytes) e = stage_agrees host s (take count bytes) e
  turn_agrees host s (step.Read reg) e = quietly_agrees host e
  turn_agrees host s (step.Write reg value) e = quietly_agrees host e
  turn_agrees host s (step.Refused at value) e = quietly_agrees host e

  value_agrees : (host : Host) (d : Option HostDoor) (value : ℕ) → host.mode ≡ m → Agrees m (values.hears_value_at host d value)
  value_agrees host None value e = quietly_agrees (resets.begins_late host host.stage) (begun_late host host.stage ∙ e)
  value_agrees host (Some d) value e =
      let t : door.DoorTurn = door.next_turn d (Some value) in
      turn_agrees (door.puts_turn host t) host.stage t.step (turned host t ∙ e)

  up_agrees : (host : Host) (queue : ℕ) (next : Up) → host.mode ≡ m → Agrees m (hears_up host queue next)
  up_agrees host queue (up.Value value) e = value_agrees (record host { reading = false }) host.machine value e
  up_agrees host queue (up.Reply d f page sense) e =
      reply_agrees (replies.takes_entry (replies.with_frame_heard host d f) queue) (smid_in d) (replies.request_of host (smid_in d)) (replies.heard_of d f page sense) (framed host d f ∙ e)
  up_agrees host queue (up.Mark generation) e = over_agrees (record host { marks = slice_set host.marks queue true }) e
  up_agrees host queue up.Calm e = quietly_agrees host e

  -- ---- inputs

  refused_agrees : (host : Host) (i : Input) (refused : Entry) → host.mode ≡ m → KeepsMode (entry.Given i) → KeepsMode refused → Agrees m (record { part = host; entries = entry.Given i ∷ refused ∷ [] })
  refused_agrees host i refused e p q = by_plain host (entry.Given i ∷ refused ∷ []) e (p, (q, tt))

  granted_agrees : (host : Host) (i : Input) (refused : Refusal → Entry) (cause : Option Refusal) (smid : ℕ) (part : Host) (told : List Entry) → host.mode ≡ m → part.mode ≡ m → KeepsMode (entry.Given i) → ((c : Refusal) → KeepsMode (refused c)) → EachEntry KeepsMode told
      → Agrees m (by_result i refused (inputs.granted_unless cause host (inputs.given part told smid)))
  granted_agrees host i refused (Some cause) smid part told e f p q t = refused_agrees host i (refused cause) e p (q cause)
  granted_agrees host i refused None smid part told e f p q t = by_plain part (entry.Given i ∷ told) f (p, t)

-- a start that is granted, or refused
start_agrees : (host : Host) (m : HostState) → host.mode ≡ m → Agrees m (by_option input.Start call.Start (inputs.starts_in host m))
start_agrees host state.Off e rest n =
    ap (λ (b : Bool). mode_trace (if b then state.Off else state.Starting) rest) (n calls.Start) ∙ ap (λ (x : HostState). mode_trace x rest) (sym (begun (record host { mode = state.Starting }) stage.Start look_at_doorbell))
start_agrees host state.Starting e rest n = ap (λ (x : HostState). mode_trace x rest) (sym e)
start_agrees host state.Up e rest n = ap (λ (x : HostState). mode_trace x rest) (sym e)
start_agrees host state.Resetting e rest n = ap (λ (x : HostState). mode_trace x rest) (sym e)

-- and the resets
reset_granted : (host : Host) (m : HostState) → Agrees m (by_option input.Reset call.Reset (inputs.begun (resets.with_reset_asked host stage.DiagnosticReset diagnostic_reset)))
reset_granted host m rest n =
    ap (λ (b : Bool). mode_trace (if b then m else state.Resetting) rest) (n calls.Reset) ∙ ap (λ (x : HostState). mode_trace x rest) (sym (asked_reset host stage.DiagnosticReset diagnostic_reset))

reset_asked_agrees : (host : Host) (m : HostState) → host.mode ≡ m → Agrees m (by_option input.Reset call.Reset (inputs.diag_resets_in host m))
reset_asked_agrees host state.Off e = λ rest n. ap (λ (x : HostState). mode_trace x rest) (sym e)
reset_asked_agrees host state.Starting e = reset_granted host state.Starting
reset_asked_agrees host state.Up e = reset_granted host state.Up
reset_asked_agrees host state.Resetting e = λ rest n. ap (λ (x : HostState). mode_trace x rest) (sym e)

unit_asked_agrees : (host : Host) (m : HostState) → host.mode ≡ m → Agrees m (by_option input.UnitReset call.UnitReset (inputs.unit_resets_in host m))
unit_asked_agrees host state.Off e rest n = ap (λ (x : HostState). mode_trace x rest) (sym e)
unit_asked_agrees host state.Starting e rest n = ap (λ (x : HostState). mode_trace x rest) (sym e)
unit_asked_agrees host state.Up e rest n =
    ap (λ (b : Bool). mode_trace (if b then state.Up else state.Resetting) rest) (n calls.UnitReset) ∙ ap (λ (x : HostState). mode_trace x rest) (sym (asked_reset host stage.UnitReset unit_reset))
unit_asked_agrees host state.Resetting e rest n = ap (λ (x : HostState). mode_trace x rest) (sym e)

told_agrees : (host : Host) (i : Input) → Agrees host.mode (host_told host i)
told_agrees host input.Start = start_agrees host host.mode refl
told_agrees host (input.Submit k address form) =
    let command : Command = command_named form in
    let handle : ℕ = inputs.ready_handle_at host address in
    let smid : ℕ = inputs.next_smid host class.ScsiIo in
    granted_agrees host.mode host (input.Submit k address form) (entry.RefuseSubmit k) (inputs.host_cause_of_submit host k address command) smid (inputs.with_accepted host k address command handle smid) (entry.Accept k address smid ∷ []) refl refl tt (λ c. tt) (tt, tt)
told_agrees host (input.Abort k) =
    let smid : ℕ = inputs.next_smid host class.High in
    granted_agrees host.mode host (input.Abort k) (entry.Refuse (call.Abort k)) (inputs.host_cause_of_abort host k) smid (inputs.with_abort_asked host k (inputs.cmd_of host k) smid) [] refl refl tt (λ c. tt) tt
told_agrees host (input.TargetReset address) =
    let smid : ℕ = inputs.next_smid host class.High in
    granted_agrees host.mode host (input.TargetReset address) (entry.Refuse (call.TargetReset address)) (inputs.host_cause_of_target_reset host address) smid
    (asks.posts_task host smid (request.TargetReset address) (inputs.ready_handle_at host address) target_reset 0) [] refl refl tt (λ c. tt) tt
told_agrees host input.Reset = reset_asked_agrees host host.mode refl
told_agrees host input.UnitReset = unit_asked_agrees host host.mode refl
told_agrees host (input.Plug address expander phy) = λ rest n. refl
told_agrees host (input.Unplug address) = λ rest n. refl

-- ---- all cases

sent_mode : (host : Host) (items : List Down) → (returns.sends_first host items).mode ≡ host.mode
sent_mode host [] = refl
sent_mode host (down.Write reg value ∷ rest) = refl
sent_mode host (down.Read reg ∷ rest) = refl
sent_mode host (down.Post descriptor frame payload ∷ rest) = refl
sent_mode host (down.Return address index ∷ rest) = refl
sent_mode host (down.Stop ∷ rest) = refl

put_agrees : (host : Host) (items : List Down) → Agrees host.mode (puts_down host items)
put_agrees host [] = λ rest n. refl
put_agrees host (x ∷ items) = λ rest n. ap (λ (y : HostState). mode_trace y rest) (sym (sent_mode host host.out))

took_agrees : (host : Host) (queue : ℕ) (next : Up) (why : Option Why)
    → Agrees host.mode (record { part = (takes_unless host queue next why).part; entries = entry.Take (up_lane queue) (item.Up next) ∷ told_of (takes_unless host queue next why).answer (takes_unless host queue next why).told })
took_agrees host queue next None = λ rest n. up_agrees host.mode host queue next refl rest n
took_agrees host queue next (Some why) = λ rest n. refl

look_mode : (host : Host) (b : Bool) → (looks_if b host).mode ≡ host.mode
look_mode host true = begun host stage.Look look_at_doorbell
look_mode host false = refl

stop_mode : (host : Host) (b : Bool) → (stops_if b host).mode ≡ host.mode
stop_mode host true = refl
stop_mode host false = refl

pub host_agrees : (host : Host) (c : HostCase) → Agrees host.mode (host_does host c)
host_agrees host (HostCase.Told i) = told_agrees host i
host_agrees host HostCase.Puts = put_agrees host host.out
host_agrees host (HostCase.Takes queue next) = took_agrees host queue next (why_strange host queue next)
host_agrees host HostCase.Looks = λ rest n. ap (λ (y : HostState). mode_trace y rest) (sym (look_mode host (is_free host)))
host_agrees host HostCase.Stops = λ rest n. ap (λ (y : HostState). mode_trace y rest) (sym (stop_mode host (is_free host)))
host_agrees host (HostCase.TakesAsk submitter x) = λ rest n. refl
host_agrees host (HostCase.PutsTell submitter x) = λ rest n. refl
