-- What the host does, as a row of moves in which a reply that comes while a reset goes on, and frees its identifier and nothing more, is none to a
-- submission, an abort or a target reset that was asked from outside.
use Rattle.std.proofs.Common.{◌≡◌, ℕ, zero, suc, ◌==◌, Bool, true, false, ◌&&◌, if◌then◌else◌, List, [], ◌∷◌, take, Option, Some, None, is_some, refl, ap, sym, subst, ◌∙◌, slice_set}
use Rattle.std.specs.FinMap as finmap
use Rattle.std.specs.FinSet as finset
use Rattle.scsi_disk.specs.declared.command.Command.{Command}
use Rattle.scsi_disk.specs.Command.{fits}
use Rattle.smid_pool.specs.Pool.{Slot, Free, Open, Parked, least_free, record_of, slot_of}
use Rattle.smid_pool.specs.declared.class.Class.TheVariants as class
use Rattle.removal.specs.declared.phase.Phase.{Phase}
use Rattle.removal.specs.declared.phase.Phase.TheVariants as phase
use Rattle.removal.specs.Handles.{phase_at, ready_handle}
use Rattle.removal.specs.Phases.{after_task_done}
use Rattle.mpi_doorbell.specs.declared.registers.TheConstants.{IOC_STATE_READY, IOC_STATE_OPERATIONAL, IOC_STATE_FAULT}
use Rattle.mpi_doorbell.specs.declared.step.DoorStep.{DoorStep}
use Rattle.mpi_doorbell.specs.declared.step.DoorStep.TheVariants as step
use Rattle.mpi_doorbell.specs.HostDoor.{HostDoor}
use Rattle.mpi_doorbell.specs.HostSteps.{diagnostic_reset, handshake_of_message, look_at_doorbell, next_step, unit_reset}
use Rattle.mpt_messages.specs.declared.host_ask.HostAsk.{HostAsk}
use Rattle.mpt_messages.specs.declared.host_ask.HostAsk.TheVariants as ask
use Rattle.mpt_messages.specs.HostFrames.{host_message}
use Rattle.mpt_messages.specs.FrameBytes.{message_bytes}
use Rattle.mpt_trace.specs.Command.{command_named}
use Rattle.mpt_wire.specs.Messages.Fields.{Change, changes_in, event_context_in, event_in, frame_address_in, smid_in, target_added, target_not_responding}
use Rattle.mpt_trace.specs.declared.host_state.HostState.{HostState}
use Rattle.mpt_trace.specs.declared.input.Input.{Input}
use Rattle.mpt_trace.specs.declared.input.Input.TheVariants as input
use Rattle.mpt_trace.specs.declared.host_state.HostState.TheVariants as state
use Rattle.mpt_trace.specs.declared.item.Down.TheVariants as down
use Rattle.mpt_trace.specs.declared.item.Up.{Up}
use Rattle.mpt_trace.specs.declared.item.Up.TheVariants as upward
use Rattle.mpt_rules.specs.declared.request.Request.{Request}
use Rattle.mpt_rules.specs.declared.request.Request.TheVariants as request
use Rattle.mpt_rules.specs.declared.stage.Stage.{Stage}
use Rattle.mpt_rules.specs.declared.stage.Stage.TheVariants as stage
use Rattle.mpt_rules.specs.Outcome.{Happening}
use Rattle.mpt_rules.specs.Host.Takes.{hears_up}
use Rattle.mpt_rules.specs.Host.Doorbell as door
use Rattle.mpt_rules.proofs.HostCalls.{submits_by, aborts_by, resets_target_by}
use Rattle.mpt_rules.specs.Host.Inputs as inputs
use Rattle.mpt_rules.specs.Host.Parts.{Cmd, Host}
use Rattle.mpt_rules.specs.World.Inputs.{host_told}
use Rattle.mpt_rules.specs.Host.Posts as asks
use Rattle.mpt_rules.specs.Host.Removal as removal
use Rattle.mpt_rules.specs.Host.Replies.{Heard}
use Rattle.mpt_rules.specs.Host.Replies as replies
use Rattle.mpt_rules.specs.Host.Resets as resets
use Rattle.mpt_rules.specs.Host.Returns as returns
use Rattle.mpt_rules.specs.Host.Values as values
use Rattle.mpt_wire.specs.Machine.Causes.{is_up, is_resetting}
use Rattle.law_flights.proofs.HostMoves.{Acked, Acks, Accepts, Adds, Answers, Anew, AreWrites, AsksAbort, AsksTarget, Begins, BeginsMessages, ComesUp, EndsAbort, EndsTarget, Fits, Frees, GivesUp, Keeps, LeftAsks, LeftOnly, Loses, Move, Notified, Puts, PutsRead, PutsWrites, Reads, Removes, Returns, Sets, Starts, TakesEntry, asked_internal, asked_leave, freed_high, freed_internal, mode_asks, mode_change, mode_step}

-- what is only freed then
abbrev pub IsFreed : Request → Type 0
IsFreed (request.Command n) = ⊥
IsFreed (request.Abort n task) = ⊥
IsFreed (request.TargetReset address) = ⊥
IsFreed _ = Unit {0}

-- a move, at the doorbell or else away from it
abbrev pub IsStrict : Bool → (h h2 : Host) → Move h h2 → Type 0
IsStrict t h h2 (Frees s r e m x) = IsFreed r
IsStrict t h h2 (PutsWrites ws a e) = t ≡ true
IsStrict t h h2 (PutsRead d reg e) = t ≡ true
IsStrict t h h2 (Sets machine s reading ready marks e) = t ≡ true
IsStrict t h h2 (BeginsMessages m r e a) = t ≡ true
IsStrict t h h2 (Starts m e) = t ≡ true
IsStrict t h h2 (GivesUp s m e) = t ≡ true
IsStrict t h h2 (Anew m d a e) = t ≡ true
IsStrict t h h2 _ = Unit {0}

pub data Strictly (t : Bool) (h : Host) : Host → Type 0 where
  Rests : Strictly t h h
  Goes : (m h2 : Host) → Strictly t h m → (x : Move m h2) → IsStrict t m h2 x → Strictly t h h2

-- a fact that each move keeps
module _ (P : Host → Type 0) (t : Bool) (kept : (h h2 : Host) → (x : Move h h2) → IsStrict t h h2 x → P h → P h2) where
  pub along : (h h2 : Host) → Strictly t h h2 → P h → P h2
  along h h2 Rests p = p
  along h h2 (Goes m x a b s) p = kept m x b s (along h m a p)

module _ (t : Bool) (h0 : Host) where
  -- ---- events

  loses : (h : Host) (handle : ℕ) (p : Phase) → is_resetting h.mode ≡ false → removal.is_disk_handle handle ≡ true → phase_at h.phases handle ≡ p → Strictly t h0 h → Strictly t h0 (removal.after_handle_lost h handle p).part
  loses h handle phase.WaitRead m d e a = Goes h _ a (Loses handle phase.WaitRead m d e refl (asked_leave _ handle)) tt
  loses h handle (phase.Reading s) m d e a = Goes h _ a (Loses handle (phase.Reading s) m d e refl (asked_leave _ handle)) tt
  loses h handle (phase.Ready address) m d e a = Goes h _ a (Loses handle (phase.Ready address) m d e refl (asked_leave _ handle)) tt
  loses h handle phase.Absent m d e a = a
  loses h handle phase.WaitHigh m d e a = a
  loses h handle (phase.Resetting s) m d e a = a
  loses h handle phase.WaitInternal m d e a = a
  loses h handle (phase.Removing s) m d e a = a

  adds : (h : Host) (handle : ℕ) (p : Phase) → is_resetting h.mode ≡ false → removal.is_disk_handle handle ≡ true → phase_at h.phases handle ≡ p → Strictly t h0 h → Strictly t h0 (removal.after_handle_added h handle p)
  adds h handle phase.Absent m d e a = Goes h _ a (Adds handle m d e (asked_internal _ (request.Page handle))) tt
  adds h handle phase.WaitRead m d e a = a
  adds h handle (phase.Reading s) m d e a = a
  adds h handle (phase.Ready address) m d e a = a
  adds h handle phase.WaitHigh m d e a = a
  adds h handle (phase.Resetting s) m d e a = a
  adds h handle phase.WaitInternal m d e a = a
  adds h handle (phase.Removing s) m d e a = a

  change : (h : Host) (c : Change) → is_resetting h.mode ≡ false → Strictly t h0 h → Strictly t h0 (removal.hears_change h c).part
  change h c m a = by_tests (removal.is_disk_handle c.handle) (c.status == target_added) (c.status == target_not_responding) refl
    where
      by_tests : (x y z : Bool) → removal.is_disk_handle c.handle ≡ x → Strictly t h0 (if x then (if y then removal.quietly (removal.after_handle_added h c.handle (phase_at h.phases c.handle)) else (if z then removal.after_handle_lost h c.handle (phase_at h.phases c.handle) else removal.quietly h)) else removal.quietly h).part
      by_tests false y z d = a
      by_tests true true z d = adds h c.handle (phase_at h.phases c.handle) m d refl a
      by_tests true false true d = loses h c.handle (phase_at h.phases c.handle) m d refl a
      by_tests true false false d = a

  changes : (h : Host) (cs : List Change) → is_resetting h.mode ≡ false → Strictly t h0 h → Strictly t h0 (removal.hears_changes h cs).part
  unfolding removal.hears_changes
  changes h [] m a = a
  changes h (c ∷ cs) m a = changes (removal.hears_change h c).part cs (ap is_resetting (mode_change h c) ∙ m) (change h c m a)

  event : (h : Host) (f : List ℕ) → is_resetting h.mode ≡ false → Strictly t h0 h → Strictly t h0 (removal.hears_event h f).part
  event h f m a =
      let ack = request.Ack (event_in f) (event_context_in f) in
      changes (asks.asks_internal h ack) (changes_in f) (ap is_resetting (mode_asks h ack) ∙ m) (Goes h _ a (Acks (event_in f) (event_context_in f) m (asked_internal h ack)) tt)

  -- ---- answers

  -- while a reset is going on the identifier is free, and else more is done
  unless : (h : Host) (s : ℕ) (r : Request) (o : Happening Host) → IsFreed r → slot_of h.pool s ≡ Open r → Strictly t h0 h → ((e : is_resetting h.mode ≡ false) → (x : Move h o.part) × IsStrict t h o.part x) → Strictly t h0 (replies.unless_resetting h s o).part
  unless h s r o p e a f = by_mode (is_resetting h.mode) refl
    where
      by_mode : (b : Bool) → is_resetting h.mode ≡ b → Strictly t h0 (if b then removal.quietly (asks.frees h s) else o).part
      by_mode true t = Goes h _ a (Frees s r e t refl) p
      by_mode false t = let z = f t in Goes h _ a z.0 z.1

  left : (h : Host) (s handle : ℕ) → slot_of h.pool s ≡ Open (request.Leave handle) → is_resetting h.mode ≡ false → (x : Move h (removal.left h s handle)) × IsStrict t h (removal.left h s handle) x
  left h s handle e m = by_phase (removal.is_reset_under s (phase_at h.phases handle)) refl
    where
      phased : Host
      phased = removal.with_phase_of h handle (after_task_done (phase_at h.phases handle) s)

      out : Bool → Host
      out b = if b then asks.asks_internal (asks.frees_high phased s) (request.Remove handle) else asks.frees_high phased s

      by_phase : (b : Bool) → removal.is_reset_under s (phase_at h.phases handle) ≡ b → (x : Move h (out b)) × IsStrict t h (out b) x
      by_phase true t = (LeftAsks s handle (asks.frees_high phased s) e m t (freed_high phased s) (asked_internal (asks.frees_high phased s) (request.Remove handle)), tt)
      by_phase false t = (LeftOnly s handle e m t (freed_high phased s), tt)

  answer : (h : Host) (s : ℕ) (r : Request) (v : Heard) → slot_of h.pool s ≡ Open r → Strictly t h0 h → Strictly t h0 (replies.hears_answer h s r v).part
  answer h s (request.Command n) v e a = Goes h _ a (Answers s n (replies.ended v.frame v.page v.sense) e refl) tt
  answer h s (request.Abort n task) v e a = Goes h _ a (EndsAbort s n task e (freed_high (replies.closes_abort h n task) s)) tt
  answer h s (request.TargetReset address) v e a = Goes h _ a (EndsTarget s address e (freed_high h s)) tt
  answer h s (request.Leave handle) v e a = unless h s (request.Leave handle) (removal.quietly (removal.left h s handle)) tt e a (λ m. left h s handle e m)
  answer h s (request.Page handle) v e a =
      let read = replies.address_read (replies.reply_bytes v) v.page in
      unless h s (request.Page handle) (removal.reads_page h s handle read) tt e a (λ m. (Reads s handle read e m (freed_internal _ s), tt))
  answer h s (request.Remove handle) v e a = unless h s (request.Remove handle) (removal.quietly (removal.removed h s handle)) tt e a (λ m. (Removes s handle e m (freed_internal _ s), tt))
  answer h s (request.Ack ev context) v e a = unless h s (request.Ack ev context) (removal.quietly (asks.frees_internal h s)) tt e a (λ m. (Acked s ev context e m (freed_internal h s), tt))
  answer h s request.Notification v e a =
      unless h s request.Notification (removal.quietly (replies.hears_notified h s)) tt e a (λ m. (Notified s (asks.frees_internal h s) e m (freed_internal h s) (asked_internal (asks.frees_internal h s) request.PortEnable), tt))
  answer h s request.PortEnable v e a = unless h s request.PortEnable (replies.after_port_enable h s) tt e a (λ m. (ComesUp s (asks.frees_internal h s) e m (freed_internal h s) refl, tt))

  none : (h : Host) (s : ℕ) (v : Heard) → Strictly t h0 h → Strictly t h0 (replies.hears_reply_to h s None v).part
  none h s v a = by_mode (is_resetting h.mode) refl
    where
      by_mode : (b : Bool) → is_resetting h.mode ≡ b → Strictly t h0 (if b then removal.quietly h else removal.hears_event h (replies.reply_bytes v)).part
      by_mode true t = a
      by_mode false t = event h (replies.reply_bytes v) t a

  reply_to : (h : Host) (s : ℕ) (x : Slot Request) (v : Heard) → slot_of h.pool s ≡ x → Strictly t h0 h → Strictly t h0 (replies.hears_reply_to h s (record_of x) v).part
  reply_to h s (Open r) v e a = answer h s r v e a
  reply_to h s Free v e a = none h s v a
  reply_to h s Parked v e a = none h s v a

  frame : (h : Host) (d : ℕ) (f : Option (List ℕ)) → Strictly t h0 h → Strictly t h0 (replies.with_frame_heard h d f) × ((replies.with_frame_heard h d f).pool ≡ h.pool)
  frame h d None a = (a, refl)
  frame h d (Some f) a = by_bool h.returning refl
    where
      by_bool : (c : Bool) → h.returning ≡ c → Strictly t h0 (if c then returns.with_return h (returns.frame_of (frame_address_in d)) else returns.keeps h (returns.frame_of (frame_address_in d))) × ((if c then returns.with_return h (returns.frame_of (frame_address_in d)) else returns.keeps h (returns.frame_of (frame_address_in d))).pool ≡ h.pool)
      by_bool true t = (Goes h _ a (Returns (returns.frame_of (frame_address_in d)) t refl) tt, refl)
      by_bool false t = (Goes h _ a (Keeps (returns.frame_of (frame_address_in d)) t refl) tt, refl)

  reply_moves : (h : Host) (queue d : ℕ) (f : Option (List ℕ)) (page sense : List ℕ) → Strictly t h0 h → Strictly t h0 (replies.hears_reply h queue (replies.heard_of d f page sense)).part
  reply_moves h queue d f page sense a =
      let g = frame h d f a in
      reply_to (replies.takes_entry (replies.with_frame_heard h d f) queue) (smid_in d) (slot_of h.pool (smid_in d)) (replies.heard_of d f page sense) (ap (λ p. slot_of p (smid_in d)) g.1) (Goes (replies.with_frame_heard h d f) _ g.0 (TakesEntry queue refl) tt)

  -- ---- inputs but a start and a reset

  submits : (h : Host) (n address : ℕ) (command : Command) (used up : Bool) (handle : Option ℕ) (fit : Bool) (o : Option ℕ) → finset.contains h.accepted n ≡ used → is_up h.mode ≡ up → ready_handle h.phases address ≡ handle → least_free class.ScsiIo h.pool ≡ o → Strictly t h0 h
      → Strictly t h0 (submits_by h n address command used up handle fit o).part
  submits h n address command true up handle fit o e f g i a = a
  submits h n address command false false handle fit o e f g i a = a
  submits h n address command false true None fit o e f g i a = a
  submits h n address command false true (Some x) false o e f g i a = a
  submits h n address command false true (Some x) true None e f g i a = a
  submits h n address command false true (Some x) true (Some s) e f g i a = Goes h _ a (Accepts s n address x command f e g i refl) tt

  aborts : (h : Host) (n : ℕ) (up : Bool) (cmd : Option Cmd) (there o : Option ℕ) → is_up h.mode ≡ up → finmap.get h.cmds n ≡ cmd → finmap.get h.aborts n ≡ there → least_free class.High h.pool ≡ o → Strictly t h0 h → Strictly t h0 (aborts_by h n up cmd there o).part
  aborts h n false cmd there o e f g i a = a
  aborts h n true None there o e f g i a = a
  aborts h n true (Some cmd) (Some x) o e f g i a = a
  aborts h n true (Some cmd) None None e f g i a = a
  aborts h n true (Some cmd) None (Some s) e f g i a = Goes h _ a (AsksAbort s n cmd e f g i refl) tt

  targets : (h : Host) (address : ℕ) (up : Bool) (handle o : Option ℕ) → is_up h.mode ≡ up → ready_handle h.phases address ≡ handle → least_free class.High h.pool ≡ o → Strictly t h0 h → Strictly t h0 (resets_target_by h address up handle o).part
  targets h address false handle o e f g a = a
  targets h address true None o e f g a = a
  targets h address true (Some x) None e f g a = a
  targets h address true (Some x) (Some s) e f g a = Goes h _ a (AsksTarget s address x e f g refl) tt

-- a reply that the host takes is a row of moves
pub reply_is_strict : (t : Bool) (h : Host) (queue d : ℕ) (f : Option (List ℕ)) (page sense : List ℕ) → Strictly t h (replies.hears_reply h queue (replies.heard_of d f page sense)).part
reply_is_strict t h queue d f page sense = reply_moves t h h queue d f page sense Rests

-- a call that asks for no start and no reset
abbrev pub AsksNone : Input → Type 0
AsksNone input.Start = ⊥
AsksNone input.Reset = ⊥
AsksNone input.UnitReset = ⊥
AsksNone _ = Unit {0}

pub input_away : (t : Bool) (h : Host) (i : Input) → AsksNone i → Strictly t h (host_told h i).part
input_away t h (input.Submit n address form) a = submits t h h n address (command_named form) (finset.contains h.accepted n) (is_up h.mode) (ready_handle h.phases address) (fits (command_named form)) (least_free class.ScsiIo h.pool) refl refl refl refl Rests
input_away t h (input.Abort n) a = aborts t h h n (is_up h.mode) (finmap.get h.cmds n) (finmap.get h.aborts n) (least_free class.High h.pool) refl refl refl refl Rests
input_away t h (input.TargetReset address) a = targets t h h address (is_up h.mode) (ready_handle h.phases address) (least_free class.High h.pool) refl refl refl Rests
input_away t h (input.Plug address expander phy) a = Rests
input_away t h (input.Unplug address) a = Rests
input_away t h input.Start a = absurd a
input_away t h input.Reset a = absurd a
input_away t h input.UnitReset a = absurd a

-- ---- the doorbell

module _ (h0 : Host) where
  writes_are : (m : ℕ) (d : HostDoor) (x : DoorStep) → AreWrites (door.turn_from m d x).writes
  unfolding door.turn_from
  writes_are zero d x = tt
  writes_are (suc m) d (step.Write reg value) = writes_are m (next_step d None).door (next_step d None).step
  writes_are (suc m) d (step.Read reg) = tt
  writes_are (suc m) d (step.Done count bytes) = tt
  writes_are (suc m) d (step.Refused at value) = tt

  puts_step : (h : Host) (d : HostDoor) (x : DoorStep) → Strictly true h0 h → Strictly true h0 (door.puts_step h d x)
  puts_step h d (step.Read reg) a = Goes h _ a (PutsRead d reg refl) refl
  puts_step h d (step.Write reg value) a = Goes h _ a (Sets None stage.Idle h.reading h.door_ready h.marks refl) refl
  puts_step h d (step.Done count bytes) a = Goes h _ a (Sets None stage.Idle h.reading h.door_ready h.marks refl) refl
  puts_step h d (step.Refused at value) a = Goes h _ a (Sets None stage.Idle h.reading h.door_ready h.marks refl) refl

  turns : (h : Host) (d : HostDoor) (v : Option ℕ) → Strictly true h0 h → Strictly true h0 (door.puts_turn h (door.next_turn d v))
  turns h d v a =
      let t = door.next_turn d v in
      puts_step (door.puts_writes h t.writes) t.door t.step (Goes h _ a (PutsWrites t.writes (writes_are door.most_writes (next_step d v).door (next_step d v).step) refl) refl)

  begins : (h : Host) (s : Stage) (d : HostDoor) → Strictly true h0 h → Strictly true h0 (door.begins h s d)
  begins h s d a = turns (record h { stage = s }) d None (Goes h _ a (Sets h.machine s h.reading h.door_ready h.marks refl) refl)

  handshake : (h : Host) (s : Stage) (x : HostAsk) → Strictly true h0 h → Strictly true h0 (door.begins_handshake h s x)
  handshake h s x a = begins h s (handshake_of_message (message_bytes (host_message x))) a

  starts_by : (h : Host) (n : ℕ) → Strictly true h0 h → Strictly true h0 (values.starts_by h n)
  starts_by h n a = by_tests (n == IOC_STATE_READY) (n == IOC_STATE_OPERATIONAL) (n == IOC_STATE_FAULT)
    where
      by_tests : (x y z : Bool) → Strictly true h0 (if x then door.begins_facts h else if y then door.begins h stage.StartReset unit_reset else if z then door.begins h stage.StartReset diagnostic_reset else values.looks_to_start h)
      by_tests true y z = handshake h stage.Facts ask.Facts a
      by_tests false true z = begins h stage.StartReset unit_reset a
      by_tests false false true = begins h stage.StartReset diagnostic_reset a
      by_tests false false false = begins h stage.Start look_at_doorbell a

  over : (h : Host) → (h.door_ready ≡ true → is_resetting h.mode ≡ true) → Strictly true h0 h → Strictly true h0 (resets.ends_reset_if_over h).part
  over h g a = by_tests h.door_ready (resets.has_all_marks h) refl refl
    where
      by_tests : (x y : Bool) → h.door_ready ≡ x → resets.has_all_marks h ≡ y → Strictly true h0 (if x && y then resets.ends_reset h else record { part = h; entries = [] }).part
      by_tests true true e f = handshake (resets.renewed h) stage.Facts ask.Facts (Goes h _ a (Anew (g e) e f refl) refl)
      by_tests true false e f = a
      by_tests false y e f = a

  late : (h : Host) (s : Stage) → Strictly true h0 h → Strictly true h0 (resets.begins_late h s)
  late h stage.DiagnosticReset a = begins h stage.DiagnosticReset diagnostic_reset a
  late h stage.UnitReset a = begins h stage.UnitReset unit_reset a
  late h stage.Idle a = a
  late h stage.Start a = a
  late h stage.StartReset a = a
  late h stage.Facts a = a
  late h stage.PortFacts a = a
  late h stage.Init a = a
  late h stage.Look a = a

  ready : (h : Host) → is_resetting h.mode ≡ true → Strictly true h0 h → Strictly true h0 (resets.hears_ready h).part
  ready h g a = over (record h { door_ready = true }) (λ e. g) (Goes h _ a (Sets h.machine h.stage h.reading true h.marks refl) refl)

  ends_stage : (h : Host) (s : Stage) (bytes : List ℕ) → Begins s h.mode → Strictly true h0 h → Strictly true h0 (values.ends_stage h s bytes).part
  ends_stage h stage.Idle bytes f a = a
  ends_stage h stage.Start bytes f a = starts_by h (values.state_read bytes) a
  ends_stage h stage.StartReset bytes f a = handshake h stage.Facts ask.Facts a
  ends_stage h stage.Facts bytes f a = handshake h stage.PortFacts ask.PortFacts a
  ends_stage h stage.PortFacts bytes f a = handshake h stage.Init (ask.Init (Rattle.mpt_rules.specs.Host.Parts.host_queue_count h)) a
  ends_stage h stage.Init bytes f a = Goes h _ a (BeginsMessages (returns.returns_all h) (f.init refl) refl (asked_internal (returns.returns_all h) request.Notification)) refl
  ends_stage h stage.Look bytes f a = a
  ends_stage h stage.DiagnosticReset bytes f a = ready h (f.resets refl) a
  ends_stage h stage.UnitReset bytes f a = ready h (f.resets refl) a

  after_turn : (h : Host) (s : Stage) (x : DoorStep) → Begins s h.mode → Strictly true h0 h → Strictly true h0 (values.after_turn h s x).part
  after_turn h s (step.Done count bytes) f a = ends_stage h s (take count bytes) f a
  after_turn h s (step.Read reg) f a = a
  after_turn h s (step.Write reg value) f a = a
  after_turn h s (step.Refused at value) f a = a

  value_at : (h : Host) (o : Option HostDoor) (v : ℕ) → (is_some o ≡ true → Begins h.stage h.mode) → Strictly true h0 h → Strictly true h0 (values.hears_value_at h o v).part
  value_at h None v f a = late h h.stage a
  value_at h (Some d) v f a = after_turn (door.puts_turn h (door.next_turn d (Some v))) h.stage (door.next_turn d (Some v)).step (subst (Begins h.stage) (sym (mode_step (door.puts_writes h (door.next_turn d (Some v)).writes) (door.next_turn d (Some v)).door (door.next_turn d (Some v)).step)) (f refl)) (turns h d (Some v) a)

  item : (h : Host) (queue : ℕ) (x : Up) → Fits h → Strictly true h0 h → Strictly true h0 (hears_up h queue x).part
  item h queue (upward.Value v) f a = value_at (record h { reading = false }) h.machine v f.machine (Goes h _ a (Sets h.machine h.stage false h.door_ready h.marks refl) refl)
  item h queue (upward.Reply d frame page sense) f a = reply_moves true h0 h queue d frame page sense a
  item h queue (upward.Mark generation) f a = over (record h { marks = slice_set h.marks queue true }) f.ready (Goes h _ a (Sets h.machine h.stage h.reading h.door_ready (slice_set h.marks queue true) refl) refl)
  item h queue upward.Calm f a = a

  -- ---- inputs

  asks_reset : (h : Host) (s : Stage) (d : HostDoor) → is_resetting h.mode ≡ false → Strictly true h0 h → Strictly true h0 (resets.with_reset_asked h s d)
  asks_reset h s d m a = by_read h.reading
    where
      by_read : (c : Bool) → Strictly true h0 (if c then resets.gives_up h s else door.begins (resets.gives_up h s) s d)
      by_read true = Goes h _ a (GivesUp s m refl) refl
      by_read false = begins (resets.gives_up h s) s d (Goes h _ a (GivesUp s m refl) refl)

  starts : (h : Host) (m : HostState) → h.mode ≡ m → Strictly true h0 h → Strictly true h0 (inputs.starts_in h m).part
  starts h state.Off e a = begins (record h { mode = state.Starting }) stage.Start look_at_doorbell (Goes h _ a (Starts e refl) refl)
  starts h state.Starting e a = a
  starts h state.Up e a = a
  starts h state.Resetting e a = a

  diag : (h : Host) (m : HostState) → h.mode ≡ m → Strictly true h0 h → Strictly true h0 (inputs.diag_resets_in h m).part
  diag h state.Off e a = a
  diag h state.Starting e a = asks_reset h stage.DiagnosticReset diagnostic_reset (ap is_resetting e) a
  diag h state.Up e a = asks_reset h stage.DiagnosticReset diagnostic_reset (ap is_resetting e) a
  diag h state.Resetting e a = a

  unit : (h : Host) (m : HostState) → h.mode ≡ m → Strictly true h0 h → Strictly true h0 (inputs.unit_resets_in h m).part
  unit h state.Off e a = a
  unit h state.Starting e a = a
  unit h state.Up e a = asks_reset h stage.UnitReset unit_reset (ap is_resetting e) a
  unit h state.Resetting e a = a

  asked : (h : Host) (i : Input) → Strictly true h0 h → Strictly true h0 (host_told h i).part
  asked h input.Start a = starts h h.mode refl a
  asked h (input.Submit n address form) a = submits true h0 h n address (command_named form) (finset.contains h.accepted n) (is_up h.mode) (ready_handle h.phases address) (fits (command_named form)) (least_free class.ScsiIo h.pool) refl refl refl refl a
  asked h (input.Abort n) a = aborts true h0 h n (is_up h.mode) (finmap.get h.cmds n) (finmap.get h.aborts n) (least_free class.High h.pool) refl refl refl refl a
  asked h (input.TargetReset address) a = targets true h0 h address (is_up h.mode) (ready_handle h.phases address) (least_free class.High h.pool) refl refl refl a
  asked h input.Reset a = diag h h.mode refl a
  asked h input.UnitReset a = unit h h.mode refl a
  asked h (input.Plug address expander phy) a = a
  asked h (input.Unplug address) a = a

-- each call of the host is a row of moves
pub item_is_strict : (h : Host) (queue : ℕ) (x : Up) → Fits h → Strictly true h (hears_up h queue x).part
item_is_strict h queue x f = item h h queue x f Rests

pub input_is_strict : (h : Host) (i : Input) → Strictly true h (host_told h i).part
input_is_strict h i = asked h h i Rests

pub look_is_strict : (h : Host) → Strictly true h (inputs.looks h)
look_is_strict h = begins h h stage.Look look_at_doorbell Rests

pub stop_is_strict : (h : Host) → Strictly true h (inputs.stops h)
stop_is_strict h = Goes h _ Rests (Puts down.Stop tt refl) tt
