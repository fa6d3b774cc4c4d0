-- Each call of the host keeps that its records name an address or an event's context that fits a message.
use Rattle.std.proofs.Common.{◌≡◌, ℕ, ◌-◌, ◌<◌, ◌^◌, ◌==◌, ◌&&◌, if◌then◌else◌, Bool, true, false, List, [], ◌∷◌, take, Option, Some, None, set, refl}
use Rattle.std.specs.FinMap as finmap
use Rattle.std.specs.Prelude.{All}
use Rattle.std.specs.List.{fold, range_with_len}
use Rattle.std.proofs.lemmas.List.Elements.{All-append, All-cons, All-filter, All-head, All-nil, All-replicate, All-set, All-tail}
use Rattle.smid_pool.specs.Pool.{Free, Open, Parked, Slot, least_free, slot_of}
use Rattle.smid_pool.specs.declared.class.Class.TheVariants as class
use Rattle.scsi_disk.specs.declared.command.Command.{Command}
use Rattle.scsi_disk.specs.Command.{fits}
use Rattle.std.specs.FinSet as finset
use Rattle.removal.specs.Handles.{phase_at, ready_handle, with_phase}
use Rattle.removal.specs.Phases.{after_added, after_gone, after_page, after_removed, after_task_done}
use Rattle.removal.specs.declared.phase.Phase.{Phase}
use Rattle.removal.specs.declared.phase.Phase.TheVariants as phase
use Rattle.mpi_doorbell.specs.HostDoor.{HostDoor}
use Rattle.mpi_doorbell.specs.HostSteps.{diagnostic_reset, handshake_of_message, look_at_doorbell, unit_reset}
use Rattle.mpi_doorbell.specs.declared.registers.TheConstants.{IOC_STATE_FAULT, IOC_STATE_OPERATIONAL, IOC_STATE_READY}
use Rattle.mpi_doorbell.specs.declared.step.DoorStep.{DoorStep}
use Rattle.mpi_doorbell.specs.declared.step.DoorStep.TheVariants as step
use Rattle.mpt_messages.specs.declared.host_ask.HostAsk.{HostAsk}
use Rattle.mpt_messages.specs.declared.host_ask.HostAsk.TheVariants as ask
use Rattle.mpt_messages.specs.FrameBytes.{message_bytes}
use Rattle.mpt_messages.specs.HostFrames.{host_message}
use Rattle.mpt_trace.specs.Command.{command_named}
use Rattle.mpt_trace.specs.declared.host_state.HostState.{HostState}
use Rattle.mpt_trace.specs.declared.host_state.HostState.TheVariants as state
use Rattle.mpt_trace.specs.declared.input.Input.{Input}
use Rattle.mpt_trace.specs.declared.input.Input.TheVariants as input
use Rattle.mpt_trace.specs.declared.item.Down.{Down}
use Rattle.mpt_trace.specs.declared.item.Down.TheVariants as down
use Rattle.mpt_wire.specs.Machine.Causes.{is_resetting, is_up}
use Rattle.mpt_wire.specs.Messages.Fields.{Change, changes_in, event_context_in, event_in, frame_address_in, smid_in, target_added, target_not_responding}
use Rattle.mpt_rules.specs.declared.request.Request.{Request}
use Rattle.mpt_rules.specs.declared.request.Request.TheVariants as request
use Rattle.mpt_rules.specs.declared.stage.Stage.{Stage}
use Rattle.mpt_rules.specs.declared.stage.Stage.TheVariants as stage
use Rattle.mpt_rules.specs.Host.Doorbell as door
use Rattle.mpt_rules.specs.Host.Doorbell.{DoorTurn, next_turn}
use Rattle.mpt_rules.specs.Host.Inputs as inputs
use Rattle.mpt_rules.specs.Host.Parts.{Cmd, Host, host_queue_count}
use Rattle.mpt_rules.specs.Host.Posts as asks
use Rattle.mpt_rules.specs.Host.Removal as removal
use Rattle.mpt_rules.specs.Host.Replies.{Heard}
use Rattle.mpt_rules.specs.Host.Replies as replies
use Rattle.mpt_rules.specs.Host.Resets as resets
use Rattle.mpt_rules.specs.Host.Returns as returns
use Rattle.mpt_rules.specs.Host.Returns.{after_sent}
use Rattle.mpt_rules.specs.Host.Values as values
use Rattle.mpt_rules.specs.Outcome.{Happening}
use Rattle.mpt_rules.specs.World.Inputs.{host_told}
use Rattle.mpt_rules.proofs.HostCalls.{aborts_by, resets_target_by, submits_by}
use Rattle.law_facts.specs.Limits.{IsAddress}

-- an event that is acknowledged is one of a topology, with a context that fits
abbrev pub EventFits : ℕ → ℕ → Type 0
EventFits event context = (event ≡ 0x001c) × (context < 2 ^ 32)

abbrev pub NamesWithin : Slot Request → Type 0
NamesWithin (Open (request.TargetReset address)) = IsAddress address
NamesWithin (Open (request.Ack event context)) = EventFits event context
NamesWithin r = Unit {0}

abbrev pub WaitWithin : Request → Type 0
WaitWithin r = NamesWithin (Open r)

pub record Within (pool : List (Slot Request)) (internal : List Request) : Type 0 where
  pub records : All NamesWithin pool
  pub waits : All WaitWithin internal

abbrev pub Tells : Host → Type 0
Tells h = Within h.pool h.wait_internal

-- ---- requests that go out

put : (h : Host) (s : ℕ) (x : Slot Request) → NamesWithin x → Tells h → Within (set h.pool (s - 1) x) h.wait_internal
put h s x f z = record { records = All-set NamesWithin h.pool (s - 1) x f z.records; waits = z.waits }

leave : (h : Host) (s handle : ℕ) → Tells h → Tells (asks.posts_leave h s handle)
leave h s handle z = put h s (Open (request.Leave handle)) tt z

internal : (h : Host) (s : ℕ) (x : Request) → WaitWithin x → Tells h → Tells (asks.posts_internal h s x)
internal h s (request.Page handle) i z = put h s (Open (request.Page handle)) tt z
internal h s (request.Remove handle) i z = put h s (Open (request.Remove handle)) tt z
internal h s (request.Ack event context) i z = put h s (Open (request.Ack event context)) i z
internal h s request.Notification i z = put h s (Open request.Notification) tt z
internal h s request.PortEnable i z = put h s (Open request.PortEnable) tt z
internal h s (request.Command n) i z = z
internal h s (request.Abort n task) i z = z
internal h s (request.TargetReset address) i z = z
internal h s (request.Leave handle) i z = z

asks_internal : (h : Host) (x : Request) → WaitWithin x → Tells h → Tells (asks.asks_internal h x)
asks_internal h x i z = by_free (least_free class.Internal h.pool)
  where
    by_free : (o : Option ℕ) → Tells (asks.posts_internal_or_waits h x o)
    by_free None = record { records = z.records; waits = All-append WaitWithin h.wait_internal (x ∷ []) z.waits (All-cons WaitWithin x [] i (All-nil WaitWithin)) }
    by_free (Some s) = internal h s x i z

asks_leave : (h : Host) (handle : ℕ) → Tells h → Tells (asks.asks_leave h handle)
asks_leave h handle z = by_free (least_free class.High h.pool)
  where
    by_free : (o : Option ℕ) → Tells (asks.posts_leave_or_waits h handle o)
    by_free None = z
    by_free (Some s) = leave h s handle z

freed : (h : Host) (s : ℕ) → Tells h → Tells (asks.frees h s)
freed h s z = put h s Free tt z

frees_high : (h : Host) (s : ℕ) → Tells h → Tells (asks.frees_high h s)
frees_high h s z = by_list h.wait_high
  where
    by_list : (xs : List ℕ) → Tells (asks.gives_high (asks.frees h s) s xs)
    by_list [] = freed h s z
    by_list (handle ∷ rest) = leave (record (asks.frees h s) { wait_high = rest }) s handle (freed h s z)

frees_internal : (h : Host) (s : ℕ) → Tells h → Tells (asks.frees_internal h s)
frees_internal h s z = by_list h.wait_internal z.waits
  where
    by_list : (xs : List Request) → All WaitWithin xs → Tells (asks.gives_internal (asks.frees h s) s xs)
    by_list [] a = freed h s z
    by_list (x ∷ rest) a =
        let k : Host = record (asks.frees h s) { wait_internal = rest } in
        internal k s x (All-head WaitWithin x rest a) (record { records = (freed h s z).records; waits = All-tail WaitWithin x rest a })

closes : (h : Host) (n task : ℕ) → Tells h → Tells (replies.closes_abort h n task)
closes h n task z = by_slot (slot_of h.pool task)
  where
    by_slot : (x : Slot Request) → Tells (replies.unparks (record h { aborts = finmap.remove h.aborts n }) task x)
    by_slot Free = z
    by_slot (Open r) = z
    by_slot Parked = freed h task z

-- ---- events

adds : (h : Host) (handle : ℕ) (p : Phase) → Tells h → Tells (removal.after_handle_added h handle p)
adds h handle phase.Absent z = asks_internal (removal.with_phase_of h handle (after_added phase.Absent)) (request.Page handle) tt z
adds h handle phase.WaitRead z = z
adds h handle (phase.Reading s) z = z
adds h handle (phase.Ready address) z = z
adds h handle phase.WaitHigh z = z
adds h handle (phase.Resetting s) z = z
adds h handle phase.WaitInternal z = z
adds h handle (phase.Removing s) z = z

begins_removal : (h : Host) (handle : ℕ) (p : Phase) → Tells h → Tells (removal.begins_removal h handle p).part
begins_removal h handle p z =
    asks_leave (record h { phases = with_phase h.phases handle (after_gone p); wait_internal = removal.without_page handle h.wait_internal }) handle
    (record { records = z.records; waits = All-filter _ WaitWithin h.wait_internal z.waits })

loses : (h : Host) (handle : ℕ) (p : Phase) → Tells h → Tells (removal.after_handle_lost h handle p).part
loses h handle phase.WaitRead z = begins_removal h handle phase.WaitRead z
loses h handle (phase.Reading s) z = begins_removal h handle (phase.Reading s) z
loses h handle (phase.Ready address) z = begins_removal h handle (phase.Ready address) z
loses h handle phase.Absent z = z
loses h handle phase.WaitHigh z = z
loses h handle (phase.Resetting s) z = z
loses h handle phase.WaitInternal z = z
loses h handle (phase.Removing s) z = z

change : (h : Host) (c : Change) → Tells h → Tells (removal.hears_change h c).part
change h c z = by_tests (removal.is_disk_handle c.handle) (c.status == target_added) (c.status == target_not_responding)
  where
    by_tests : (x y v : Bool) → Tells (if x then (if y then removal.quietly (removal.after_handle_added h c.handle (phase_at h.phases c.handle)) else (if v then removal.after_handle_lost h c.handle (phase_at h.phases c.handle) else removal.quietly h)) else removal.quietly h).part
    by_tests true true v = adds h c.handle (phase_at h.phases c.handle) z
    by_tests true false true = loses h c.handle (phase_at h.phases c.handle) z
    by_tests true false false = z
    by_tests false y v = z

changes : (h : Host) (cs : List Change) → Tells h → Tells (removal.hears_changes h cs).part
unfolding removal.hears_changes
changes h [] z = z
changes h (c ∷ cs) z = changes (removal.hears_change h c).part cs (change h c z)

event : (h : Host) (f : List ℕ) → EventFits (event_in f) (event_context_in f) → Tells h → Tells (removal.hears_event h f).part
event h f i z = changes (asks.asks_internal h (request.Ack (event_in f) (event_context_in f))) (changes_in f) (asks_internal h (request.Ack (event_in f) (event_context_in f)) i z)

-- ---- replies

left : (h : Host) (s handle : ℕ) → Tells h → Tells (removal.left h s handle)
left h s handle z = by_phase (removal.is_reset_under s (phase_at h.phases handle))
  where
    phased : Host
    phased = removal.with_phase_of h handle (after_task_done (phase_at h.phases handle) s)

    by_phase : (b : Bool) → Tells (if b then asks.asks_internal (asks.frees_high phased s) (request.Remove handle) else asks.frees_high phased s)
    by_phase true = asks_internal (asks.frees_high phased s) (request.Remove handle) tt (frees_high phased s z)
    by_phase false = frees_high phased s z

unless : (h : Host) (s : ℕ) (o : Happening Host) (b : Bool) → Tells h → Tells o.part → Tells (if b then removal.quietly (asks.frees h s) else o).part
unless h s o true z k = freed h s z
unless h s o false z k = k

answered : (h : Host) (s n : ℕ) (o : Option ℕ) → Tells h → Within (set h.pool (s - 1) (replies.slot_after o)) h.wait_internal
answered h s n None z = put h s Free tt z
answered h s n (Some x) z = put h s Parked tt z

replied : (h : Host) (s : ℕ) (r : Request) (v : Heard) → Tells h → Tells (replies.hears_answer h s r v).part
replied h s (request.Command n) v z = answered h s n (finmap.get h.aborts n) z
replied h s (request.Abort n task) v z = frees_high (replies.closes_abort h n task) s (closes h n task z)
replied h s (request.TargetReset address) v z = frees_high h s z
replied h s (request.Leave handle) v z = unless h s (removal.quietly (removal.left h s handle)) (is_resetting h.mode) z (left h s handle z)
replied h s (request.Page handle) v z =
    let read = replies.address_read (replies.reply_bytes v) v.page in
    unless h s (removal.reads_page h s handle read) (is_resetting h.mode) z (frees_internal (removal.with_phase_of h handle (after_page (phase_at h.phases handle) s read)) s z)
replied h s (request.Remove handle) v z = unless h s (removal.quietly (removal.removed h s handle)) (is_resetting h.mode) z (frees_internal (removal.with_phase_of h handle (after_removed (phase_at h.phases handle) s)) s z)
replied h s (request.Ack ev context) v z = unless h s (removal.quietly (asks.frees_internal h s)) (is_resetting h.mode) z (frees_internal h s z)
replied h s request.Notification v z = unless h s (removal.quietly (replies.hears_notified h s)) (is_resetting h.mode) z (asks_internal (asks.frees_internal h s) request.PortEnable tt (frees_internal h s z))
replied h s request.PortEnable v z = unless h s (replies.after_port_enable h s) (is_resetting h.mode) z (frees_internal h s z)

-- a reply to none is an event
abbrev pub HearsEvent : Option Request → Heard → Type 0
HearsEvent (Some r) v = Unit {0}
HearsEvent None v = EventFits (event_in (replies.reply_bytes v)) (event_context_in (replies.reply_bytes v))

heard : (h : Host) (s : ℕ) (r : Option Request) (v : Heard) → HearsEvent r v → Tells h → Tells (replies.hears_reply_to h s r v).part
heard h s (Some r) v i z = replied h s r v z
heard h s None v i z = by_mode (is_resetting h.mode)
  where
    by_mode : (b : Bool) → Tells (if b then removal.quietly h else removal.hears_event h (replies.reply_bytes v)).part
    by_mode true = z
    by_mode false = event h (replies.reply_bytes v) i z

back : (h : Host) (d : ℕ) (f : Option (List ℕ)) → Tells h → Tells (replies.with_frame_heard h d f)
back h d None z = z
back h d (Some f) z = by_bool h.returning
  where
    by_bool : (c : Bool) → Tells (if c then returns.with_return h (returns.frame_of (frame_address_in d)) else returns.keeps h (returns.frame_of (frame_address_in d)))
    by_bool true = z
    by_bool false = z

pub reply : (h : Host) (queue d : ℕ) (f : Option (List ℕ)) (page sense : List ℕ) → HearsEvent (replies.request_of h (smid_in d)) (replies.heard_of d f page sense) → Tells h
    → Tells (replies.hears_reply h queue (replies.heard_of d f page sense)).part
reply h queue d f page sense i z = heard (replies.takes_entry (replies.with_frame_heard h d f) queue) (smid_in d) (replies.request_of h (smid_in d)) (replies.heard_of d f page sense) i (back h d f z)

-- ---- at the doorbell

returned : (h : Host) (fs : List ℕ) → Tells h → Tells (fold returns.with_return h fs)
returned h [] z = z
returned h (f ∷ fs) z = returned (returns.with_return h f) fs z

turned : (h : Host) (t : DoorTurn) → Tells h → Tells (door.puts_turn h t)
turned h t z = by_step t.step
  where
    by_step : (s : DoorStep) → Tells (door.puts_step (door.puts_writes h t.writes) t.door s)
    by_step (step.Read reg) = z
    by_step (step.Write reg value) = z
    by_step (step.Done count bytes) = z
    by_step (step.Refused p value) = z

pub begun : (h : Host) (s : Stage) (d : HostDoor) → Tells h → Tells (door.begins h s d)
begun h s d z = turned (record h { stage = s }) (next_turn d None) z

shaken : (h : Host) (s : Stage) (x : HostAsk) → Tells h → Tells (door.begins_handshake h s x)
shaken h s x z = begun h s (handshake_of_message (message_bytes (host_message x))) z

given_up : (h : Host) (s : Stage) → Tells h → Tells (resets.gives_up h s)
given_up h s z = record { records = z.records; waits = All-nil WaitWithin }

reset_asked : (h : Host) (s : Stage) (d : HostDoor) → Tells h → Tells (resets.with_reset_asked h s d)
reset_asked h s d z = by_read h.reading
  where
    by_read : (c : Bool) → Tells (if c then resets.gives_up h s else door.begins (resets.gives_up h s) s d)
    by_read true = given_up h s z
    by_read false = begun (resets.gives_up h s) s d (given_up h s z)

pub over : (h : Host) → Tells h → Tells (resets.ends_reset_if_over h).part
over h z = by_test (h.door_ready && resets.has_all_marks h)
  where
    by_test : (c : Bool) → Tells (if c then resets.ends_reset h else record { part = h; entries = [] }).part
    by_test true = shaken (resets.renewed h) stage.Facts ask.Facts (record { records = All-replicate NamesWithin 280 Free tt; waits = z.waits })
    by_test false = z

late : (h : Host) (s : Stage) → Tells h → Tells (resets.begins_late h s)
late h stage.DiagnosticReset z = begun h stage.DiagnosticReset diagnostic_reset z
late h stage.UnitReset z = begun h stage.UnitReset unit_reset z
late h stage.Idle z = z
late h stage.Start z = z
late h stage.StartReset z = z
late h stage.Facts z = z
late h stage.PortFacts z = z
late h stage.Init z = z
late h stage.Look z = z

starts_by : (h : Host) (n : ℕ) → Tells h → Tells (values.starts_by h n)
starts_by h n z = by_tests (n == IOC_STATE_READY) (n == IOC_STATE_OPERATIONAL) (n == IOC_STATE_FAULT)
  where
    by_tests : (x y v : Bool) → Tells (if x then door.begins_facts h else if y then door.begins h stage.StartReset unit_reset else if v then door.begins h stage.StartReset diagnostic_reset else values.looks_to_start h)
    by_tests true y v = shaken h stage.Facts ask.Facts z
    by_tests false true v = begun h stage.StartReset unit_reset z
    by_tests false false true = begun h stage.StartReset diagnostic_reset z
    by_tests false false false = begun h stage.Start look_at_doorbell z

ended : (h : Host) (s : Stage) (bytes : List ℕ) → Tells h → Tells (values.ends_stage h s bytes).part
ended h stage.Idle bytes z = z
ended h stage.Start bytes z = starts_by h (values.state_read bytes) z
ended h stage.StartReset bytes z = shaken h stage.Facts ask.Facts z
ended h stage.Facts bytes z = shaken h stage.PortFacts ask.PortFacts z
ended h stage.PortFacts bytes z = shaken h stage.Init (ask.Init (host_queue_count h)) z
ended h stage.Init bytes z = asks_internal (returns.returns_all h) request.Notification tt (returned h (range_with_len 0 returns.reply_frame_count) z)
ended h stage.Look bytes z = z
ended h stage.DiagnosticReset bytes z = over (record h { door_ready = true }) z
ended h stage.UnitReset bytes z = over (record h { door_ready = true }) z

after_turn : (h : Host) (s : Stage) (x : DoorStep) → Tells h → Tells (values.after_turn h s x).part
after_turn h s (step.Done count bytes) z = ended h s (take count bytes) z
after_turn h s (step.Read reg) z = z
after_turn h s (step.Write reg value) z = z
after_turn h s (step.Refused p value) z = z

pub valued : (h : Host) (o : Option HostDoor) (v : ℕ) → Tells h → Tells (values.hears_value_at h o v).part
valued h None v z = late h h.stage z
valued h (Some d) v z = after_turn (door.puts_turn h (next_turn d (Some v))) h.stage (next_turn d (Some v)).step (turned h (next_turn d (Some v)) z)

-- ---- what leaves the outbox, and what is told

pub sent : (h : Host) (x : Down) (rest : List Down) → Tells h → Tells (after_sent h x rest)
sent h (down.Return address index) rest z = z
sent h (down.Write reg value) rest z = z
sent h (down.Read reg) rest z = z
sent h (down.Post d f p) rest z = z
sent h down.Stop rest z = z

starts : (h : Host) (m : HostState) → Tells h → Tells (inputs.starts_in h m).part
starts h state.Off z = begun (record h { mode = state.Starting }) stage.Start look_at_doorbell z
starts h state.Starting z = z
starts h state.Up z = z
starts h state.Resetting z = z

diagnostic : (h : Host) (m : HostState) → Tells h → Tells (inputs.diag_resets_in h m).part
diagnostic h state.Off z = z
diagnostic h state.Starting z = reset_asked h stage.DiagnosticReset diagnostic_reset z
diagnostic h state.Up z = reset_asked h stage.DiagnosticReset diagnostic_reset z
diagnostic h state.Resetting z = z

unit : (h : Host) (m : HostState) → Tells h → Tells (inputs.unit_resets_in h m).part
unit h state.Off z = z
unit h state.Starting z = z
unit h state.Up z = reset_asked h stage.UnitReset unit_reset z
unit h state.Resetting z = z

submits : (h : Host) (n address : ℕ) (command : Command) (used up : Bool) (handle : Option ℕ) (fit : Bool) (o : Option ℕ) → Tells h → Tells (submits_by h n address command used up handle fit o).part
submits h n address command true up handle fit o z = z
submits h n address command false false handle fit o z = z
submits h n address command false true None fit o z = z
submits h n address command false true (Some x) false o z = z
submits h n address command false true (Some x) true None z = z
submits h n address command false true (Some x) true (Some s) z = put h s (Open (request.Command n)) tt z

aborts : (h : Host) (n : ℕ) (up : Bool) (cmd : Option Cmd) (there o : Option ℕ) → Tells h → Tells (aborts_by h n up cmd there o).part
aborts h n false cmd there o z = z
aborts h n true None there o z = z
aborts h n true (Some cmd) (Some x) o z = z
aborts h n true (Some cmd) None None z = z
aborts h n true (Some cmd) None (Some s) z = put h s (Open (request.Abort n cmd.smid)) tt z

targets : (h : Host) (address : ℕ) (up : Bool) (handle o : Option ℕ) → is_up h.mode ≡ up → ready_handle h.phases address ≡ handle → ((x : ℕ) → is_up h.mode ≡ true → ready_handle h.phases address ≡ Some x → IsAddress address) → Tells h → Tells (resets_target_by h address up handle o).part
targets h address false handle o e f a z = z
targets h address true None o e f a z = z
targets h address true (Some x) None e f a z = z
targets h address true (Some x) (Some s) e f a z = put h s (Open (request.TargetReset address)) (a x e f) z

-- a ready disk has an address
abbrev pub ReadyHasAddress : Host → Type 0
ReadyHasAddress h = (address x : ℕ) → is_up h.mode ≡ true → ready_handle h.phases address ≡ Some x → IsAddress address

pub told : (h : Host) (i : Input) → ReadyHasAddress h → Tells h → Tells (host_told h i).part
told h input.Start a z = starts h h.mode z
told h input.Reset a z = diagnostic h h.mode z
told h input.UnitReset a z = unit h h.mode z
told h (input.Submit n address form) a z = submits h n address (command_named form) (finset.contains h.accepted n) (is_up h.mode) (ready_handle h.phases address) (fits (command_named form)) (least_free class.ScsiIo h.pool) z
told h (input.Abort n) a z = aborts h n (is_up h.mode) (finmap.get h.cmds n) (finmap.get h.aborts n) (least_free class.High h.pool) z
told h (input.TargetReset address) a z = targets h address (is_up h.mode) (ready_handle h.phases address) (least_free class.High h.pool) refl refl (a address) z
told h (input.Plug address expander phy) a z = z
told h (input.Unplug address) a z = z
