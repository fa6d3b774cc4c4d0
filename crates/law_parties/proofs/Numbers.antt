-- What the host has of a number n, with a accepts and b answers so far: it was accepted where it is among the accepted, one
-- identifier is open for it where it is open, and it is open where it was accepted and not answered.
use Rattle.std.proofs.Common.{◌≡◌, ℕ, zero, suc, ◌+◌, ◌-◌, ◌<◌, ◌≤◌, ◌==◌, Bool, true, false, cond, if◌then◌else◌, List, [], ◌∷◌, length, get_or, set, replicate, Option, Some, None, is_some, refl, ap, sym, ◌∙◌, arith, length-set}
use Rattle.std.specs.FinMap as finmap
use Rattle.std.specs.FinSet as finset
use Rattle.std.specs.List.{fold, range_with_len}
use Rattle.std.specs.Ordering.{nat_cmp}
use Rattle.std.proofs.lemmas.List.{length-replicate}
use Rattle.mpi_doorbell.specs.HostDoor.{HostDoor}
use Rattle.mpi_doorbell.specs.HostSteps.{diagnostic_reset, handshake_of_message, look_at_doorbell, unit_reset}
use Rattle.mpi_doorbell.specs.declared.registers.TheConstants.{IOC_STATE_FAULT, IOC_STATE_OPERATIONAL, IOC_STATE_READY}
use Rattle.mpi_doorbell.specs.declared.step.DoorStep.{DoorStep}
use Rattle.mpi_doorbell.specs.declared.step.DoorStep.TheVariants as step
use Rattle.mpt_messages.specs.FrameBytes.{message_bytes}
use Rattle.mpt_messages.specs.HostFrames.{host_message}
use Rattle.mpt_messages.specs.declared.host_ask.HostAsk.{HostAsk}
use Rattle.mpt_messages.specs.declared.host_ask.HostAsk.TheVariants as ask
use Rattle.mpt_wire.specs.Messages.Fields.{Change, target_added, target_not_responding}
use Rattle.removal.specs.Phases.{after_added, after_gone}
use Rattle.removal.specs.Handles.{phase_at, with_phase}
use Rattle.removal.specs.declared.phase.Phase.{Phase}
use Rattle.removal.specs.declared.phase.Phase.TheVariants as phase
use Rattle.smid_pool.specs.Pool.{Free, Open, Slot, all_free, least_free, slot_of}
use Rattle.smid_pool.specs.declared.class.Class.{Class}
use Rattle.smid_pool.specs.declared.class.Class.TheVariants as class
use Rattle.mpt_rules.specs.declared.request.Request.{Request}
use Rattle.mpt_rules.specs.declared.request.Request.TheVariants as request
use Rattle.mpt_rules.specs.declared.stage.Stage.{Stage}
use Rattle.mpt_rules.specs.declared.stage.Stage.TheVariants as stage
use Rattle.mpt_rules.specs.Host.Doorbell as door
use Rattle.mpt_rules.specs.Host.Parts.{Cmd, Host}
use Rattle.mpt_rules.specs.Host.Posts as asks
use Rattle.mpt_rules.specs.Host.Removal as removal
use Rattle.mpt_rules.specs.Host.Resets as resets
use Rattle.mpt_rules.specs.Host.Returns as returns
use Rattle.mpt_rules.specs.Host.Values as values
use Rattle.mpt_rules.specs.World.Counts.{how_many, one_if}
use Rattle.law_flights.proofs.HostHolds.{class_within, slot_of-set}
use Rattle.law_flights.proofs.KnownOnce.{count_set}
use Rattle.law_flights.proofs.Least.{least_is}

module _ (n : ℕ) where
  -- ---- the slots that are open for the number

  abbrev pub is_for : Slot Request → Bool
  is_for (Open (request.Command k)) = k == n
  is_for _ = false

  abbrev pub slots_for : List (Slot Request) → ℕ
  slots_for pool = how_many is_for pool

  pub record KeepsNumber (a b : ℕ) (pool : List (Slot Request)) (cmds : finmap.FinMap nat_cmp Cmd) (accepted : finset.FinSet nat_cmp) : Type 0 where
    pub table : length pool ≡ 280
    pub held : slots_for pool ≡ one_if (is_some (finmap.get cmds n))
    pub accepts : a ≡ one_if (finset.contains accepted n)
    pub answers : a ≡ b + one_if (is_some (finmap.get cmds n))

  at_place : (pool : List (Slot Request)) (s : ℕ) → 1 ≤ s → slot_of pool s ≡ get_or pool (s - 1) Free
  at_place pool zero l = absurd (omega arith)
  at_place pool (suc i) l = ap (λ (k : ℕ). get_or pool k Free) (omega arith)

  -- a write of the table
  pub written : (pool : List (Slot Request)) (s : ℕ) (y : Slot Request) → 1 ≤ s → s - 1 < length pool → slots_for (set pool (s - 1) y) + one_if (is_for (slot_of pool s)) ≡ slots_for pool + one_if (is_for y)
  written pool s y l i = ap (λ (x : Slot Request). slots_for (set pool (s - 1) y) + one_if (is_for x)) (at_place pool s l) ∙ count_set is_for pool (s - 1) y Free i

  -- an identifier that isn't open for the number
  pub record IsBeside (pool : List (Slot Request)) (s : ℕ) : Type 0 where
    pub least : 1 ≤ s
    pub most : s ≤ 280
    pub other : is_for (slot_of pool s) ≡ false

  module _ (a b : ℕ) where
    abbrev pub Numbers : Host → Type 0
    Numbers host = KeepsNumber a b host.pool host.cmds host.accepted

    -- such a slot gets something else that isn't for the number
    pub stays : (pool : List (Slot Request)) (cmds : finmap.FinMap nat_cmp Cmd) (accepted : finset.FinSet nat_cmp) (s : ℕ) (y : Slot Request) → IsBeside pool s → is_for y ≡ false → KeepsNumber a b pool cmds accepted
        → KeepsNumber a b (set pool (s - 1) y) cmds accepted
    stays pool cmds accepted s y beside none h =
        let t = h.table in
        let l = beside.least in
        let m = beside.most in
        let w = written pool s y l (omega (arith, t, l, m)) in
        let x = ap one_if beside.other in
        let z = ap one_if none in
        let g = h.held in
        record { table = length-set pool (s - 1) y ∙ h.table; held = omega (arith, w, x, z, g); accepts = h.accepts; answers = h.answers }

    -- ---- requests

    pub posted_internal : (host : Host) (s : ℕ) (r : Request) → IsBeside host.pool s → Numbers host → Numbers (asks.posts_internal host s r)
    posted_internal host s (request.Page handle) x h = stays host.pool host.cmds host.accepted s (Open (request.Page handle)) x refl h
    posted_internal host s (request.Remove handle) x h = stays host.pool host.cmds host.accepted s (Open (request.Remove handle)) x refl h
    posted_internal host s (request.Ack event context) x h = stays host.pool host.cmds host.accepted s (Open (request.Ack event context)) x refl h
    posted_internal host s request.Notification x h = stays host.pool host.cmds host.accepted s (Open request.Notification) x refl h
    posted_internal host s request.PortEnable x h = stays host.pool host.cmds host.accepted s (Open request.PortEnable) x refl h
    posted_internal host s (request.Command k) x h = h
    posted_internal host s (request.Abort k task) x h = h
    posted_internal host s (request.TargetReset address) x h = h
    posted_internal host s (request.Leave handle) x h = h

    pub posted_leave : (host : Host) (s handle : ℕ) → IsBeside host.pool s → Numbers host → Numbers (asks.posts_leave host s handle)
    posted_leave host s handle x h = stays host.pool host.cmds host.accepted s (Open (request.Leave handle)) x refl h

    -- the least free one
    pub least_beside : (c : Class) (pool : List (Slot Request)) (s : ℕ) → least_free c pool ≡ Some s → IsBeside pool s
    least_beside c pool s e =
        let l = least_is c pool s e in
        let i = class_within c s l.inside in
        record { least = i.0; most = i.1; other = ap is_for l.free }

    pub asked_internal : (host : Host) (r : Request) → Numbers host → Numbers (asks.asks_internal host r)
    asked_internal host r h = by_free (least_free class.Internal host.pool) refl
      where
        by_free : (o : Option ℕ) → least_free class.Internal host.pool ≡ o → Numbers (asks.posts_internal_or_waits host r o)
        by_free None e = h
        by_free (Some s) e = posted_internal host s r (least_beside class.Internal host.pool s e) h

    pub asked_leave : (host : Host) (handle : ℕ) → Numbers host → Numbers (asks.asks_leave host handle)
    asked_leave host handle h = by_free (least_free class.High host.pool) refl
      where
        by_free : (o : Option ℕ) → least_free class.High host.pool ≡ o → Numbers (asks.posts_leave_or_waits host handle o)
        by_free None e = h
        by_free (Some s) e = posted_leave host s handle (least_beside class.High host.pool s e) h

    -- ---- a freed identifier, and what gets it

    -- after a write of another slot, or of its own, it still isn't for the number
    pub beside_after : (pool : List (Slot Request)) (s j : ℕ) (y : Slot Request) → length pool ≡ 280 → IsBeside pool s → is_for y ≡ false → IsBeside pool j → IsBeside (set pool (s - 1) y) j
    beside_after pool s j y t x none z =
        let l = x.least in
        let m = x.most in
        let e = slot_of-set pool s j y x.least (omega (arith, t, l, m)) in
        record { least = z.least; most = z.most; other = ap is_for e ∙ by_key (j == s) }
      where
        by_key : (k : Bool) → is_for (cond k y (slot_of pool j)) ≡ false
        by_key true = none
        by_key false = z.other

    pub freed : (host : Host) (s : ℕ) → IsBeside host.pool s → Numbers host → Numbers (asks.frees host s)
    freed host s x h = stays host.pool host.cmds host.accepted s Free x refl h

    gave_internal : (host : Host) (s : ℕ) (waits : List Request) → IsBeside host.pool s → Numbers host → Numbers (asks.gives_internal host s waits)
    gave_internal host s [] x h = h
    gave_internal host s (r ∷ rest) x h = posted_internal (record host { wait_internal = rest }) s r x h

    gave_high : (host : Host) (s : ℕ) (waits : List ℕ) → IsBeside host.pool s → Numbers host → Numbers (asks.gives_high host s waits)
    gave_high host s [] x h = h
    gave_high host s (handle ∷ rest) x h = posted_leave (record host { wait_high = rest }) s handle x h

    pub freed_internal : (host : Host) (s : ℕ) → IsBeside host.pool s → Numbers host → Numbers (asks.frees_internal host s)
    freed_internal host s x h = gave_internal (asks.frees host s) s host.wait_internal (beside_after host.pool s s Free h.table x refl x) (freed host s x h)

    pub freed_high : (host : Host) (s : ℕ) → IsBeside host.pool s → Numbers host → Numbers (asks.frees_high host s)
    freed_high host s x h = gave_high (asks.frees host s) s host.wait_high (beside_after host.pool s s Free h.table x refl x) (freed host s x h)

    -- ---- the doorbell

    stepped : (host : Host) (d : HostDoor) (x : DoorStep) → Numbers host → Numbers (door.puts_step host d x)
    stepped host d (step.Read reg) h = h
    stepped host d (step.Write reg value) h = h
    stepped host d (step.Done count bytes) h = h
    stepped host d (step.Refused at value) h = h

    pub turned : (host : Host) (t : door.DoorTurn) → Numbers host → Numbers (door.puts_turn host t)
    turned host t h = stepped (door.puts_writes host t.writes) t.door t.step h

    pub begun : (host : Host) (s : Stage) (d : HostDoor) → Numbers host → Numbers (door.begins host s d)
    begun host s d h = turned (record host { stage = s }) (door.next_turn d None) h

    pub begun_handshake : (host : Host) (s : Stage) (x : HostAsk) → Numbers host → Numbers (door.begins_handshake host s x)
    begun_handshake host s x h = begun host s (handshake_of_message (message_bytes (host_message x))) h

    pub started_by : (host : Host) (found : ℕ) → Numbers host → Numbers (values.starts_by host found)
    started_by host found h = by_tests (found == IOC_STATE_READY) (found == IOC_STATE_OPERATIONAL) (found == IOC_STATE_FAULT)
      where
        by_tests : (x y z : Bool) → Numbers (if x then door.begins_facts host else if y then door.begins host stage.StartReset unit_reset else if z then door.begins host stage.StartReset diagnostic_reset else values.looks_to_start host)
        by_tests true y z = begun_handshake host stage.Facts ask.Facts h
        by_tests false true z = begun host stage.StartReset unit_reset h
        by_tests false false true = begun host stage.StartReset diagnostic_reset h
        by_tests false false false = begun host stage.Start look_at_doorbell h

    pub begun_late : (host : Host) (s : Stage) → Numbers host → Numbers (resets.begins_late host s)
    begun_late host stage.DiagnosticReset h = begun host stage.DiagnosticReset diagnostic_reset h
    begun_late host stage.UnitReset h = begun host stage.UnitReset unit_reset h
    begun_late host stage.Idle h = h
    begun_late host stage.Start h = h
    begun_late host stage.StartReset h = h
    begun_late host stage.Facts h = h
    begun_late host stage.PortFacts h = h
    begun_late host stage.Init h = h
    begun_late host stage.Look h = h

    pub asked_reset : (host : Host) (s : Stage) (d : HostDoor) → Numbers host → Numbers (resets.with_reset_asked host s d)
    asked_reset host s d h = by_read host.reading
      where
        by_read : (c : Bool) → Numbers (if c then resets.gives_up host s else door.begins (resets.gives_up host s) s d)
        by_read true = h
        by_read false = begun (resets.gives_up host s) s d h

    returned : (host : Host) (frames : List ℕ) → Numbers host → Numbers (fold returns.with_return host frames)
    returned host [] h = h
    returned host (f ∷ fs) h = returned (returns.with_return host f) fs h

    pub begun_messages : (host : Host) → Numbers host → Numbers (values.begins_messages host)
    begun_messages host h = asked_internal (returns.returns_all host) request.Notification (returned host (range_with_len 0 returns.reply_frame_count) h)

    -- ---- events

    added : (host : Host) (handle : ℕ) (p : Phase) → Numbers host → Numbers (removal.after_handle_added host handle p)
    added host handle phase.Absent h = asked_internal (removal.with_phase_of host handle (after_added phase.Absent)) (request.Page handle) h
    added host handle phase.WaitRead h = h
    added host handle (phase.Reading smid) h = h
    added host handle (phase.Ready address) h = h
    added host handle phase.WaitHigh h = h
    added host handle (phase.Resetting smid) h = h
    added host handle phase.WaitInternal h = h
    added host handle (phase.Removing smid) h = h

    begun_removal : (host : Host) (handle : ℕ) (p : Phase) → Numbers host → Numbers (removal.begins_removal host handle p).part
    begun_removal host handle p h =
        asked_leave (record host { phases = with_phase host.phases handle (after_gone p); wait_internal = removal.without_page handle host.wait_internal }) handle h

    lost : (host : Host) (handle : ℕ) (p : Phase) → Numbers host → Numbers (removal.after_handle_lost host handle p).part
    lost host handle phase.WaitRead h = begun_removal host handle phase.WaitRead h
    lost host handle (phase.Reading smid) h = begun_removal host handle (phase.Reading smid) h
    lost host handle (phase.Ready address) h = begun_removal host handle (phase.Ready address) h
    lost host handle phase.Absent h = h
    lost host handle phase.WaitHigh h = h
    lost host handle (phase.Resetting smid) h = h
    lost host handle phase.WaitInternal h = h
    lost host handle (phase.Removing smid) h = h

    changed : (host : Host) (c : Change) → Numbers host → Numbers (removal.hears_change host c).part
    changed host c h = by_tests (removal.is_disk_handle c.handle) (c.status == target_added) (c.status == target_not_responding)
      where
        by_tests : (x y z : Bool) → Numbers (if x then (if y then removal.quietly (removal.after_handle_added host c.handle (phase_at host.phases c.handle)) else (if z then removal.after_handle_lost host c.handle (phase_at host.phases c.handle) else removal.quietly host)) else removal.quietly host).part
        by_tests false y z = h
        by_tests true true z = added host c.handle (phase_at host.phases c.handle) h
        by_tests true false true = lost host c.handle (phase_at host.phases c.handle) h
        by_tests true false false = h

    pub all_changed : (host : Host) (cs : List Change) → Numbers host → Numbers (removal.hears_changes host cs).part
    unfolding removal.hears_changes
    all_changed host [] h = h
    all_changed host (c ∷ cs) h = all_changed (removal.hears_change host c).part cs (changed host c h)

    -- ---- the first world's host, and one that has reset

    none_for : (count : ℕ) → slots_for (replicate count Free) ≡ 0
    unfolding how_many
    none_for zero = refl
    none_for (suc count) = let h = none_for count in omega (arith, h)

    pub all_are_free : (accepted : finset.FinSet nat_cmp) → a ≡ one_if (finset.contains accepted n) → a ≡ b → KeepsNumber a b all_free finmap.empty accepted
    all_are_free accepted e f =
        record {
          table = length-replicate {A = Slot Request} 280 Free;
          held = none_for 280 ∙ sym (ap (λ (o : Option Cmd). one_if (is_some o)) (finmap.get-empty nat_cmp n));
          accepts = e;
          answers = let z = ap (λ (o : Option Cmd). one_if (is_some o)) (finmap.get-empty {X = Cmd} nat_cmp n) in omega (arith, f, z);
        }
