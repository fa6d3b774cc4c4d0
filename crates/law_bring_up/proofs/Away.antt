-- What the host does away from the doorbell, move by move: a reply that tells of the event notification is that to the identifier at hand, and one that only frees its identifier
-- is none to a submission, an abort or a target reset that was asked.
use Rattle.std.proofs.Common.{◌≡◌, ℕ, ◌==◌, Bool, true, false, if◌then◌else◌, List, [], ◌∷◌, Option, Some, None, refl, ap, ◌∙◌}
use Rattle.std.specs.FinMap as finmap
use Rattle.std.specs.FinSet as finset
use Rattle.scsi_disk.specs.declared.command.Command.{Command}
use Rattle.scsi_disk.specs.Command.{fits}
use Rattle.smid_pool.specs.Pool.{Slot, Free, Open, Parked, least_free, record_of, slot_of}
use Rattle.smid_pool.specs.declared.class.Class.TheVariants as class
use Rattle.removal.specs.declared.phase.Phase.{Phase}
use Rattle.removal.specs.declared.phase.Phase.TheVariants as phase
use Rattle.removal.specs.Handles.{phase_at, ready_handle}
use Rattle.removal.specs.Phases.{after_task_done}
use Rattle.mpt_trace.specs.Command.{command_named}
use Rattle.mpt_wire.specs.Messages.Fields.{Change, changes_in, event_context_in, event_in, frame_address_in, smid_in, target_added, target_not_responding}
use Rattle.mpt_trace.specs.declared.input.Input.{Input}
use Rattle.mpt_trace.specs.declared.input.Input.TheVariants as input
use Rattle.mpt_rules.specs.declared.request.Request.{Request}
use Rattle.mpt_rules.specs.declared.request.Request.TheVariants as request
use Rattle.mpt_rules.specs.Outcome.{Happening}
use Rattle.mpt_rules.proofs.HostCalls.{submits_by, aborts_by, resets_target_by}
use Rattle.mpt_rules.specs.Host.Parts.{Cmd, Host}
use Rattle.mpt_rules.specs.World.Inputs.{host_told}
use Rattle.mpt_rules.specs.Host.Posts as asks
use Rattle.mpt_rules.specs.Host.Removal as removal
use Rattle.mpt_rules.specs.Host.Replies.{Heard}
use Rattle.mpt_rules.specs.Host.Replies as replies
use Rattle.mpt_rules.specs.Host.Returns as returns
use Rattle.mpt_wire.specs.Machine.Causes.{is_up, is_resetting}
use Rattle.law_flights.proofs.HostMoves.{Acked, Acks, Accepts, Adds, Answers, Anew, AsksAbort, AsksTarget, BeginsMessages, ComesUp, EndsAbort, EndsTarget, Frees, GivesUp, Keeps, LeftAsks, LeftOnly, Loses, Move, Notified, PutsRead, PutsWrites, Reads, Removes, Returns, Sets, Starts, TakesEntry, asked_internal, asked_leave, freed_high, freed_internal, mode_asks, mode_change}
use Rattle.law_records.proofs.Strict.{AsksNone, IsFreed}

-- a move away from the doorbell, where a reply comes to the identifier at hand
abbrev pub IsOk : ℕ → (h h2 : Host) → Move h h2 → Type 0
IsOk hand h h2 (Notified s m o r f a) = s ≡ hand
IsOk hand h h2 (Frees s r e m x) = IsFreed r
IsOk hand h h2 (PutsWrites ws a e) = ⊥
IsOk hand h h2 (PutsRead d reg e) = ⊥
IsOk hand h h2 (Sets machine s reading ready marks e) = ⊥
IsOk hand h h2 (BeginsMessages m r e a) = ⊥
IsOk hand h h2 (Starts m e) = ⊥
IsOk hand h h2 (GivesUp s m e) = ⊥
IsOk hand h h2 (Anew m d a e) = ⊥
IsOk hand h h2 _ = Unit {0}

module _ (P : Host → Type 0) (hand : ℕ) (kept : (h h2 : Host) → (x : Move h h2) → IsOk hand h h2 x → P h → P h2) where
  -- ---- events

  loses : (h : Host) (handle : ℕ) (p : Phase) → is_resetting h.mode ≡ false → removal.is_disk_handle handle ≡ true → phase_at h.phases handle ≡ p → P h → P (removal.after_handle_lost h handle p).part
  loses h handle phase.WaitRead m d e a = kept h _ (Loses handle phase.WaitRead m d e refl (asked_leave _ handle)) tt a
  loses h handle (phase.Reading s) m d e a = kept h _ (Loses handle (phase.Reading s) m d e refl (asked_leave _ handle)) tt a
  loses h handle (phase.Ready address) m d e a = kept h _ (Loses handle (phase.Ready address) m d e refl (asked_leave _ handle)) tt a
  loses h handle phase.Absent m d e a = a
  loses h handle phase.WaitHigh m d e a = a
  loses h handle (phase.Resetting s) m d e a = a
  loses h handle phase.WaitInternal m d e a = a
  loses h handle (phase.Removing s) m d e a = a

  adds : (h : Host) (handle : ℕ) (p : Phase) → is_resetting h.mode ≡ false → removal.is_disk_handle handle ≡ true → phase_at h.phases handle ≡ p → P h → P (removal.after_handle_added h handle p)
  adds h handle phase.Absent m d e a = kept h _ (Adds handle m d e (asked_internal _ (request.Page handle))) tt a
  adds h handle phase.WaitRead m d e a = a
  adds h handle (phase.Reading s) m d e a = a
  adds h handle (phase.Ready address) m d e a = a
  adds h handle phase.WaitHigh m d e a = a
  adds h handle (phase.Resetting s) m d e a = a
  adds h handle phase.WaitInternal m d e a = a
  adds h handle (phase.Removing s) m d e a = a

  change : (h : Host) (c : Change) → is_resetting h.mode ≡ false → P h → P (removal.hears_change h c).part
  change h c m a = by_tests (removal.is_disk_handle c.handle) (c.status == target_added) (c.status == target_not_responding) refl
    where
      by_tests : (x y z : Bool) → removal.is_disk_handle c.handle ≡ x → P (if x then (if y then removal.quietly (removal.after_handle_added h c.handle (phase_at h.phases c.handle)) else (if z then removal.after_handle_lost h c.handle (phase_at h.phases c.handle) else removal.quietly h)) else removal.quietly h).part
      by_tests false y z d = a
      by_tests true true z d = adds h c.handle (phase_at h.phases c.handle) m d refl a
      by_tests true false true d = loses h c.handle (phase_at h.phases c.handle) m d refl a
      by_tests true false false d = a

  changes : (h : Host) (cs : List Change) → is_resetting h.mode ≡ false → P h → P (removal.hears_changes h cs).part
  unfolding removal.hears_changes
  changes h [] m a = a
  changes h (c ∷ cs) m a = changes (removal.hears_change h c).part cs (ap is_resetting (mode_change h c) ∙ m) (change h c m a)

  event : (h : Host) (f : List ℕ) → is_resetting h.mode ≡ false → P h → P (removal.hears_event h f).part
  event h f m a =
      let ack = request.Ack (event_in f) (event_context_in f) in
      changes (asks.asks_internal h ack) (changes_in f) (ap is_resetting (mode_asks h ack) ∙ m) (kept h _ (Acks (event_in f) (event_context_in f) m (asked_internal h ack)) tt a)

  -- ---- answers

  -- while a reset is going on the identifier is free, and else more is done
  unless : (h : Host) (s : ℕ) (r : Request) (o : Happening Host) → IsFreed r → slot_of h.pool s ≡ Open r → P h → ((e : is_resetting h.mode ≡ false) → (x : Move h o.part) × IsOk hand h o.part x) → P (replies.unless_resetting h s o).part
  unless h s r o p e a f = by_mode (is_resetting h.mode) refl
    where
      by_mode : (b : Bool) → is_resetting h.mode ≡ b → P (if b then removal.quietly (asks.frees h s) else o).part
      by_mode true t = kept h _ (Frees s r e t refl) p a
      by_mode false t = let z = f t in kept h _ z.0 z.1 a

  left : (h : Host) (s handle : ℕ) → slot_of h.pool s ≡ Open (request.Leave handle) → is_resetting h.mode ≡ false → (x : Move h (removal.left h s handle)) × IsOk hand h (removal.left h s handle) x
  left h s handle e m = by_phase (removal.is_reset_under s (phase_at h.phases handle)) refl
    where
      phased : Host
      phased = removal.with_phase_of h handle (after_task_done (phase_at h.phases handle) s)

      out : Bool → Host
      out b = if b then asks.asks_internal (asks.frees_high phased s) (request.Remove handle) else asks.frees_high phased s

      by_phase : (b : Bool) → removal.is_reset_under s (phase_at h.phases handle) ≡ b → (x : Move h (out b)) × IsOk hand h (out b) x
      by_phase true t = (LeftAsks s handle (asks.frees_high phased s) e m t (freed_high phased s) (asked_internal (asks.frees_high phased s) (request.Remove handle)), tt)
      by_phase false t = (LeftOnly s handle e m t (freed_high phased s), tt)

  answer : (h : Host) (s : ℕ) (r : Request) (v : Heard) → s ≡ hand → slot_of h.pool s ≡ Open r → P h → P (replies.hears_answer h s r v).part
  answer h s (request.Command n) v is e a = kept h _ (Answers s n (replies.ended v.frame v.page v.sense) e refl) tt a
  answer h s (request.Abort n task) v is e a = kept h _ (EndsAbort s n task e (freed_high (replies.closes_abort h n task) s)) tt a
  answer h s (request.TargetReset address) v is e a = kept h _ (EndsTarget s address e (freed_high h s)) tt a
  answer h s (request.Leave handle) v is e a = unless h s (request.Leave handle) (removal.quietly (removal.left h s handle)) tt e a (λ m. left h s handle e m)
  answer h s (request.Page handle) v is e a =
      let read = replies.address_read (replies.reply_bytes v) v.page in
      unless h s (request.Page handle) (removal.reads_page h s handle read) tt e a (λ m. (Reads s handle read e m (freed_internal _ s), tt))
  answer h s (request.Remove handle) v is e a = unless h s (request.Remove handle) (removal.quietly (removal.removed h s handle)) tt e a (λ m. (Removes s handle e m (freed_internal _ s), tt))
  answer h s (request.Ack ev context) v is e a = unless h s (request.Ack ev context) (removal.quietly (asks.frees_internal h s)) tt e a (λ m. (Acked s ev context e m (freed_internal h s), tt))
  answer h s request.Notification v is e a =
      unless h s request.Notification (removal.quietly (replies.hears_notified h s)) tt e a (λ m. (Notified s (asks.frees_internal h s) e m (freed_internal h s) (asked_internal (asks.frees_internal h s) request.PortEnable), is))
  answer h s request.PortEnable v is e a = unless h s request.PortEnable (replies.after_port_enable h s) tt e a (λ m. (ComesUp s (asks.frees_internal h s) e m (freed_internal h s) refl, tt))

  none : (h : Host) (s : ℕ) (v : Heard) → P h → P (replies.hears_reply_to h s None v).part
  none h s v a = by_mode (is_resetting h.mode) refl
    where
      by_mode : (b : Bool) → is_resetting h.mode ≡ b → P (if b then removal.quietly h else removal.hears_event h (replies.reply_bytes v)).part
      by_mode true t = a
      by_mode false t = event h (replies.reply_bytes v) t a

  reply_to : (h : Host) (s : ℕ) (x : Slot Request) (v : Heard) → s ≡ hand → slot_of h.pool s ≡ x → P h → P (replies.hears_reply_to h s (record_of x) v).part
  reply_to h s (Open r) v is e a = answer h s r v is e a
  reply_to h s Free v is e a = none h s v a
  reply_to h s Parked v is e a = none h s v a

  frame : (h : Host) (d : ℕ) (f : Option (List ℕ)) → P h → P (replies.with_frame_heard h d f) × ((replies.with_frame_heard h d f).pool ≡ h.pool)
  frame h d None a = (a, refl)
  frame h d (Some f) a = by_bool h.returning refl
    where
      by_bool : (c : Bool) → h.returning ≡ c → P (if c then returns.with_return h (returns.frame_of (frame_address_in d)) else returns.keeps h (returns.frame_of (frame_address_in d))) × ((if c then returns.with_return h (returns.frame_of (frame_address_in d)) else returns.keeps h (returns.frame_of (frame_address_in d))).pool ≡ h.pool)
      by_bool true t = (kept h _ (Returns (returns.frame_of (frame_address_in d)) t refl) tt a, refl)
      by_bool false t = (kept h _ (Keeps (returns.frame_of (frame_address_in d)) t refl) tt a, refl)

  pub reply_kept : (h : Host) (queue d : ℕ) (f : Option (List ℕ)) (page sense : List ℕ) → smid_in d ≡ hand → P h → P (replies.hears_reply h queue (replies.heard_of d f page sense)).part
  reply_kept h queue d f page sense is a =
      let g = frame h d f a in
      reply_to (replies.takes_entry (replies.with_frame_heard h d f) queue) (smid_in d) (slot_of h.pool (smid_in d)) (replies.heard_of d f page sense) is (ap (λ p. slot_of p (smid_in d)) g.1) (kept (replies.with_frame_heard h d f) _ (TakesEntry queue refl) tt g.0)

  -- ---- inputs but a start and a reset

  pub submits : (h : Host) (n address : ℕ) (command : Command) (used up : Bool) (handle : Option ℕ) (fit : Bool) (o : Option ℕ) → finset.contains h.accepted n ≡ used → is_up h.mode ≡ up → ready_handle h.phases address ≡ handle → least_free class.ScsiIo h.pool ≡ o → P h
      → P (submits_by h n address command used up handle fit o).part
  submits h n address command true up handle fit o e f g i a = a
  submits h n address command false false handle fit o e f g i a = a
  submits h n address command false true None fit o e f g i a = a
  submits h n address command false true (Some x) false o e f g i a = a
  submits h n address command false true (Some x) true None e f g i a = a
  submits h n address command false true (Some x) true (Some s) e f g i a = kept h _ (Accepts s n address x command f e g i refl) tt a

  pub aborts : (h : Host) (n : ℕ) (up : Bool) (cmd : Option Cmd) (there o : Option ℕ) → is_up h.mode ≡ up → finmap.get h.cmds n ≡ cmd → finmap.get h.aborts n ≡ there → least_free class.High h.pool ≡ o → P h → P (aborts_by h n up cmd there o).part
  aborts h n false cmd there o e f g i a = a
  aborts h n true None there o e f g i a = a
  aborts h n true (Some cmd) (Some x) o e f g i a = a
  aborts h n true (Some cmd) None None e f g i a = a
  aborts h n true (Some cmd) None (Some s) e f g i a = kept h _ (AsksAbort s n cmd e f g i refl) tt a

  pub targets : (h : Host) (address : ℕ) (up : Bool) (handle o : Option ℕ) → is_up h.mode ≡ up → ready_handle h.phases address ≡ handle → least_free class.High h.pool ≡ o → P h → P (resets_target_by h address up handle o).part
  targets h address false handle o e f g a = a
  targets h address true None o e f g a = a
  targets h address true (Some x) None e f g a = a
  targets h address true (Some x) (Some s) e f g a = kept h _ (AsksTarget s address x e f g refl) tt a

  -- a call that asks for no start and no reset
  pub input_kept : (h : Host) (i : Input) → AsksNone i → P h → P (host_told h i).part
  input_kept h (input.Submit n address form) a z = submits h n address (command_named form) (finset.contains h.accepted n) (is_up h.mode) (ready_handle h.phases address) (fits (command_named form)) (least_free class.ScsiIo h.pool) refl refl refl refl z
  input_kept h (input.Abort n) a z = aborts h n (is_up h.mode) (finmap.get h.cmds n) (finmap.get h.aborts n) (least_free class.High h.pool) refl refl refl refl z
  input_kept h (input.TargetReset address) a z = targets h address (is_up h.mode) (ready_handle h.phases address) (least_free class.High h.pool) refl refl refl z
  input_kept h (input.Plug address expander phy) a z = z
  input_kept h (input.Unplug address) a z = z
  input_kept h input.Start a z = absurd a
  input_kept h input.Reset a z = absurd a
  input_kept h input.UnitReset a z = absurd a
