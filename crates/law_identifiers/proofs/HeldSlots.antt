-- The host's tables keep what the rule of least identifiers holds of an identifier s of a SCSI IO: each move of the host.
use Rattle.std.proofs.Common.{◌≡◌, ℕ, zero, suc, ◌-◌, ◌<◌, ◌≤◌, ◌==◌, Bool, true, false, cond, if◌then◌else◌, List, [], ◌∷◌, length, set, Option, Some, None, is_some, refl, ap, sym, ◌∙◌, arith, length-set}
use Rattle.std.specs.FinMap as finmap
use Rattle.std.specs.FinSet as finset
use Rattle.std.specs.List.{fold, range_with_len}
use Rattle.std.specs.Ordering.{nat_cmp}
use Rattle.std.proofs.lemmas.Bool.Decides.{nat_tests}
use Rattle.mpi_doorbell.specs.HostDoor.{HostDoor}
use Rattle.mpi_doorbell.specs.HostSteps.{diagnostic_reset, handshake_of_message, look_at_doorbell, unit_reset}
use Rattle.mpi_doorbell.specs.declared.registers.TheConstants.{IOC_STATE_FAULT, IOC_STATE_OPERATIONAL, IOC_STATE_READY}
use Rattle.mpi_doorbell.specs.declared.step.DoorStep.{DoorStep}
use Rattle.mpi_doorbell.specs.declared.step.DoorStep.TheVariants as step
use Rattle.mpt_messages.specs.FrameBytes.{message_bytes}
use Rattle.mpt_messages.specs.HostFrames.{host_message}
use Rattle.mpt_messages.specs.declared.host_ask.HostAsk.{HostAsk}
use Rattle.mpt_messages.specs.declared.host_ask.HostAsk.TheVariants as ask
use Rattle.mpt_wire.specs.Messages.Fields.{Change, target_added, target_not_responding}
use Rattle.mpt_wire.specs.Queues.LeastFree.{Holder}
use Rattle.removal.specs.Phases.{after_added, after_gone}
use Rattle.removal.specs.Handles.{phase_at, with_phase}
use Rattle.removal.specs.declared.phase.Phase.{Phase}
use Rattle.removal.specs.declared.phase.Phase.TheVariants as phase
use Rattle.smid_pool.specs.Pool.{Free, Open, Slot, least_free, slot_of}
use Rattle.smid_pool.specs.declared.class.Class.TheVariants as class
use Rattle.mpt_rules.specs.declared.request.Request.{Request}
use Rattle.mpt_rules.specs.declared.request.Request.TheVariants as request
use Rattle.mpt_rules.specs.declared.stage.Stage.{Stage}
use Rattle.mpt_rules.specs.declared.stage.Stage.TheVariants as stage
use Rattle.mpt_rules.specs.Host.Doorbell as door
use Rattle.mpt_rules.specs.Host.Parts.{Cmd, Host}
use Rattle.mpt_rules.specs.Host.Posts as asks
use Rattle.mpt_rules.specs.Host.Removal as removal
use Rattle.mpt_rules.specs.Host.Resets as resets
use Rattle.mpt_rules.specs.Host.Returns as returns
use Rattle.mpt_rules.specs.Host.Values as values
use Rattle.law_flights.proofs.HostHolds.{class_within, in_table, slot_of-set}
use Rattle.law_flights.proofs.Least.{least_is}
use Rattle.law_identifiers.proofs.Holders.{is_command, is_of_number, is_plain, is_under, only_command, slot_as}

abbrev pub Cmds : Type 0
Cmds = finmap.FinMap nat_cmp Cmd

abbrev pub Aborts : Type 0
Aborts = finmap.FinMap nat_cmp ℕ

abbrev pub Numbers : Type 0
Numbers = finset.FinSet nat_cmp

-- the holder's command is open as the host has it, and so is its abort
abbrev pub Stands : Option Holder → Cmds → Aborts → Numbers → Type 0
Stands None cmds aborts accepted = Unit {0}
Stands (Some h) cmds aborts accepted = (h.is_open ≡ is_some (finmap.get cmds h.number)) × (h.has_abort ≡ is_some (finmap.get aborts h.number)) × (finset.contains accepted h.number ≡ true)

module _ (s : ℕ) (few : s ≤ 256) where
  -- all that is open under an identifier is known by its number; an open abort names the identifier of its number's
  -- holder. The abort under the spare identifier is just being ended
  pub record Keeps (spare : ℕ) (o : Option Holder) (pool : List (Slot Request)) (cmds : Cmds) (aborts : Aborts) (accepted : Numbers) : Type 0 where
    pub table : length pool ≡ 280
    pub slot : slot_of pool s ≡ slot_as o
    pub stands : Stands o cmds aborts accepted
    pub commands : (x n : ℕ) → slot_of pool x ≡ Open (request.Command n) → is_under x (finmap.get cmds n) ≡ true
    pub opened : (n : ℕ) (c : Cmd) → finmap.get cmds n ≡ Some c → slot_of pool c.smid ≡ Open (request.Command n)
    pub known : (n : ℕ) → is_some (finmap.get cmds n) ≡ true → finset.contains accepted n ≡ true
    pub aborted : (n : ℕ) → is_some (finmap.get aborts n) ≡ true → finset.contains accepted n ≡ true
    pub names : (x n task : ℕ) → (x == spare) ≡ false → slot_of pool x ≡ Open (request.Abort n task) → (finmap.get aborts n ≡ Some x) × ((task == s) ≡ is_of_number n o)

  abbrev pub Holds : Option Holder → Host → Type 0
  Holds o host = Keeps 0 o host.pool host.cmds host.aborts host.accepted

  not_zero : (pool : List (Slot Request)) (x : ℕ) (r : Request) → slot_of pool x ≡ Open r → (x == 0) ≡ false
  not_zero pool zero r e = absurd (cc)
  not_zero pool (suc i) r e = grind (arith, nat_tests)

  -- an identifier other than s that isn't a command's
  pub record IsBeside (pool : List (Slot Request)) (x : ℕ) : Type 0 where
    pub least : 1 ≤ x
    pub most : x ≤ 280
    pub apart : (s == x) ≡ false
    pub other : is_command (slot_of pool x) ≡ false

  -- ---- a write of another identifier's slot

  module _ (o : Option Holder) (cmds : Cmds) (aborts : Aborts) (accepted : Numbers) where
    abbrev Has : ℕ → List (Slot Request) → Type 0
    Has spare pool = Keeps spare o pool cmds aborts accepted

    pub hole : (x : ℕ) (pool : List (Slot Request)) → Has 0 pool → Has x pool
    hole x pool h =
        record {
          table = h.table;
          slot = h.slot;
          stands = h.stands;
          commands = h.commands;
          opened = h.opened;
          known = h.known;
          aborted = h.aborted;
          names = λ z n task k e. h.names z n task (not_zero pool z (request.Abort n task) e) e;
        }

    pub puts : (pool : List (Slot Request)) (x : ℕ) (y : Slot Request) → IsBeside pool x → is_plain y ≡ true → Has x pool → Has 0 (set pool (x - 1) y)
    puts pool x y b plain h =
        record {
          table = length-set pool (x - 1) y ∙ h.table;
          slot = at s ∙ (ap (λ (c : Bool). cond c y (slot_of pool s)) b.apart ∙ h.slot);
          stands = h.stands;
          commands = λ z n e. command z n (z == x) (at z) e;
          opened = λ n c e. open_one n c (c.smid == x) refl (at c.smid) (h.opened n c e);
          known = h.known;
          aborted = h.aborted;
          names = λ z n task k e. abort z n task (z == x) refl (at z) e;
        }
      where
        at : (j : ℕ) → slot_of (set pool (x - 1) y) j ≡ cond (j == x) y (slot_of pool j)
        at j = let t = h.table in let l = b.least in let m = b.most in slot_of-set pool x j y b.least (omega (arith, t, l, m))

        command : (z n : ℕ) (c : Bool) → slot_of (set pool (x - 1) y) z ≡ cond c y (slot_of pool z) → slot_of (set pool (x - 1) y) z ≡ Open (request.Command n) → is_under z (finmap.get cmds n) ≡ true
        command z n true a e = let p : false ≡ true = sym (ap is_plain (sym a ∙ e)) ∙ plain in absurd (cc)
        command z n false a e = h.commands z n (sym a ∙ e)

        open_one : (n : ℕ) (c : Cmd) (k : Bool) → (c.smid == x) ≡ k → slot_of (set pool (x - 1) y) c.smid ≡ cond k y (slot_of pool c.smid) → slot_of pool c.smid ≡ Open (request.Command n) → slot_of (set pool (x - 1) y) c.smid ≡ Open (request.Command n)
        open_one n c true k a e =
            let same : c.smid ≡ x = grind (arith, nat_tests, k) in
            let p : true ≡ false = sym (ap is_command (ap (slot_of pool) (sym same) ∙ e)) ∙ b.other in
            absurd (cc)
        open_one n c false k a e = a ∙ e

        abort : (z n task : ℕ) (c : Bool) → (z == x) ≡ c → slot_of (set pool (x - 1) y) z ≡ cond c y (slot_of pool z) → slot_of (set pool (x - 1) y) z ≡ Open (request.Abort n task) → (finmap.get aborts n ≡ Some z) × ((task == s) ≡ is_of_number n o)
        abort z n task true k a e = let p : false ≡ true = sym (ap is_plain (sym a ∙ e)) ∙ plain in absurd (cc)
        abort z n task false k a e = h.names z n task k (sym a ∙ e)

    -- what is open, but no command, is beside
    pub beside_open : (spare : ℕ) (pool : List (Slot Request)) (x : ℕ) (r : Request) → slot_of pool x ≡ Open r → is_command (Open r) ≡ false → Has spare pool → IsBeside pool x
    beside_open spare pool x r e other h =
        let t = h.table in
        let p = in_table pool x (Open r) e (λ z. cc) in
        let l = p.0 in
        let i = p.1 in
        record { least = l; most = omega (arith, l, i, t); apart = by_key (s == x) refl; other = ap is_command e ∙ other }
      where
        by_key : (b : Bool) → (s == x) ≡ b → (s == x) ≡ false
        by_key false k = k
        by_key true k =
            let same : s ≡ x = grind (arith, nat_tests, k) in
            let p : true ≡ false = sym (only_command o r (sym h.slot ∙ (ap (slot_of pool) same ∙ e))) ∙ other in
            absurd (cc)

  -- ---- requests

  module _ (o : Option Holder) where
    pub posted : (host : Host) (x : ℕ) (r : Request) → is_plain (Open r) ≡ true → IsBeside host.pool x → Keeps x o host.pool host.cmds host.aborts host.accepted → Keeps 0 o (set host.pool (x - 1) (Open r)) host.cmds host.aborts host.accepted
    posted host x r plain b h = puts o host.cmds host.aborts host.accepted host.pool x (Open r) b plain h

    pub posted_internal : (host : Host) (x : ℕ) (r : Request) → IsBeside host.pool x → Holds o host → Holds o (asks.posts_internal host x r)
    posted_internal host x (request.Page handle) b h = posted host x (request.Page handle) refl b (hole o host.cmds host.aborts host.accepted x host.pool h)
    posted_internal host x (request.Remove handle) b h = posted host x (request.Remove handle) refl b (hole o host.cmds host.aborts host.accepted x host.pool h)
    posted_internal host x (request.Ack event context) b h = posted host x (request.Ack event context) refl b (hole o host.cmds host.aborts host.accepted x host.pool h)
    posted_internal host x request.Notification b h = posted host x request.Notification refl b (hole o host.cmds host.aborts host.accepted x host.pool h)
    posted_internal host x request.PortEnable b h = posted host x request.PortEnable refl b (hole o host.cmds host.aborts host.accepted x host.pool h)
    posted_internal host x (request.Command k) b h = h
    posted_internal host x (request.Abort k task) b h = h
    posted_internal host x (request.TargetReset address) b h = h
    posted_internal host x (request.Leave handle) b h = h

    pub posted_leave : (host : Host) (x handle : ℕ) → IsBeside host.pool x → Holds o host → Holds o (asks.posts_leave host x handle)
    posted_leave host x handle b h = posted host x (request.Leave handle) refl b (hole o host.cmds host.aborts host.accepted x host.pool h)

    -- the least free one of another class
    pub free_high : (pool : List (Slot Request)) (x : ℕ) → least_free class.High pool ≡ Some x → IsBeside pool x
    free_high pool x e =
        let l = least_is class.High pool x e in
        let i = class_within class.High x l.inside in
        let b = l.inside in
        let above : 256 < x = b.0 in
        record { least = i.0; most = i.1; apart = grind (arith, nat_tests, few, above); other = ap is_command l.free }

    pub free_internal : (pool : List (Slot Request)) (x : ℕ) → least_free class.Internal pool ≡ Some x → IsBeside pool x
    free_internal pool x e =
        let l = least_is class.Internal pool x e in
        let i = class_within class.Internal x l.inside in
        let b = l.inside in
        let above : 264 < x = b.0 in
        record { least = i.0; most = i.1; apart = grind (arith, nat_tests, few, above); other = ap is_command l.free }

    pub asked_internal : (host : Host) (r : Request) → Holds o host → Holds o (asks.asks_internal host r)
    asked_internal host r h = by_free (least_free class.Internal host.pool) refl
      where
        by_free : (w : Option ℕ) → least_free class.Internal host.pool ≡ w → Holds o (asks.posts_internal_or_waits host r w)
        by_free None e = h
        by_free (Some x) e = posted_internal host x r (free_internal host.pool x e) h

    pub asked_leave : (host : Host) (handle : ℕ) → Holds o host → Holds o (asks.asks_leave host handle)
    asked_leave host handle h = by_free (least_free class.High host.pool) refl
      where
        by_free : (w : Option ℕ) → least_free class.High host.pool ≡ w → Holds o (asks.posts_leave_or_waits host handle w)
        by_free None e = h
        by_free (Some x) e = posted_leave host x handle (free_high host.pool x e) h

    -- ---- a freed identifier, and what gets it

    free_beside : (pool : List (Slot Request)) (x : ℕ) → length pool ≡ 280 → IsBeside pool x → IsBeside (set pool (x - 1) Free) x
    free_beside pool x t b =
        let l = b.least in
        let m = b.most in
        let a = slot_of-set pool x x Free b.least (omega (arith, t, l, m)) in
        let same : (x == x) ≡ true = grind (arith, nat_tests) in
        record { least = b.least; most = b.most; apart = b.apart; other = ap is_command (a ∙ ap (λ (c : Bool). cond c Free (slot_of pool x)) same) }

    -- the host whose abort under x is just being ended, or where all stands
    abbrev pub Spares : ℕ → Host → Type 0
    Spares x host = Keeps x o host.pool host.cmds host.aborts host.accepted

    pub spares : (host : Host) (x : ℕ) → Holds o host → Spares x host
    spares host x h = hole o host.cmds host.aborts host.accepted x host.pool h

    pub freed : (host : Host) (x : ℕ) → IsBeside host.pool x → Spares x host → Holds o (asks.frees host x)
    freed host x b h = puts o host.cmds host.aborts host.accepted host.pool x Free b refl h

    gave_internal : (host : Host) (x : ℕ) (waits : List Request) → IsBeside host.pool x → Holds o host → Holds o (asks.gives_internal host x waits)
    gave_internal host x [] b h = h
    gave_internal host x (r ∷ rest) b h = posted_internal (record host { wait_internal = rest }) x r b h

    gave_high : (host : Host) (x : ℕ) (waits : List ℕ) → IsBeside host.pool x → Holds o host → Holds o (asks.gives_high host x waits)
    gave_high host x [] b h = h
    gave_high host x (handle ∷ rest) b h = posted_leave (record host { wait_high = rest }) x handle b h

    pub freed_internal : (host : Host) (x : ℕ) → IsBeside host.pool x → Holds o host → Holds o (asks.frees_internal host x)
    freed_internal host x b h = gave_internal (asks.frees host x) x host.wait_internal (free_beside host.pool x h.table b) (freed host x b (spares host x h))

    pub freed_high : (host : Host) (x : ℕ) → IsBeside host.pool x → Spares x host → Holds o (asks.frees_high host x)
    freed_high host x b h = gave_high (asks.frees host x) x host.wait_high (free_beside host.pool x h.table b) (freed host x b h)

    -- ---- the doorbell

    stepped : (host : Host) (d : HostDoor) (x : DoorStep) → Holds o host → Holds o (door.puts_step host d x)
    stepped host d (step.Read reg) h = h
    stepped host d (step.Write reg value) h = h
    stepped host d (step.Done count bytes) h = h
    stepped host d (step.Refused at value) h = h

    pub turned : (host : Host) (t : door.DoorTurn) → Holds o host → Holds o (door.puts_turn host t)
    turned host t h = stepped (door.puts_writes host t.writes) t.door t.step h

    pub begun : (host : Host) (x : Stage) (d : HostDoor) → Holds o host → Holds o (door.begins host x d)
    begun host x d h = turned (record host { stage = x }) (door.next_turn d None) h

    pub begun_handshake : (host : Host) (x : Stage) (a : HostAsk) → Holds o host → Holds o (door.begins_handshake host x a)
    begun_handshake host x a h = begun host x (handshake_of_message (message_bytes (host_message a))) h

    pub started_by : (host : Host) (found : ℕ) → Holds o host → Holds o (values.starts_by host found)
    started_by host found h = by_tests (found == IOC_STATE_READY) (found == IOC_STATE_OPERATIONAL) (found == IOC_STATE_FAULT)
      where
        by_tests : (x y z : Bool) → Holds o (if x then door.begins_facts host else if y then door.begins host stage.StartReset unit_reset else if z then door.begins host stage.StartReset diagnostic_reset else values.looks_to_start host)
        by_tests true y z = begun_handshake host stage.Facts ask.Facts h
        by_tests false true z = begun host stage.StartReset unit_reset h
        by_tests false false true = begun host stage.StartReset diagnostic_reset h
        by_tests false false false = begun host stage.Start look_at_doorbell h

    pub begun_late : (host : Host) (x : Stage) → Holds o host → Holds o (resets.begins_late host x)
    begun_late host stage.DiagnosticReset h = begun host stage.DiagnosticReset diagnostic_reset h
    begun_late host stage.UnitReset h = begun host stage.UnitReset unit_reset h
    begun_late host stage.Idle h = h
    begun_late host stage.Start h = h
    begun_late host stage.StartReset h = h
    begun_late host stage.Facts h = h
    begun_late host stage.PortFacts h = h
    begun_late host stage.Init h = h
    begun_late host stage.Look h = h

    pub asked_reset : (host : Host) (x : Stage) (d : HostDoor) → Holds o host → Holds o (resets.with_reset_asked host x d)
    asked_reset host x d h = by_read host.reading
      where
        by_read : (c : Bool) → Holds o (if c then resets.gives_up host x else door.begins (resets.gives_up host x) x d)
        by_read true = h
        by_read false = begun (resets.gives_up host x) x d h

    returned : (host : Host) (frames : List ℕ) → Holds o host → Holds o (fold returns.with_return host frames)
    returned host [] h = h
    returned host (f ∷ fs) h = returned (returns.with_return host f) fs h

    pub begun_messages : (host : Host) → Holds o host → Holds o (values.begins_messages host)
    begun_messages host h = asked_internal (returns.returns_all host) request.Notification (returned host (range_with_len 0 returns.reply_frame_count) h)

    -- ---- events

    added : (host : Host) (handle : ℕ) (p : Phase) → Holds o host → Holds o (removal.after_handle_added host handle p)
    added host handle phase.Absent h = asked_internal (removal.with_phase_of host handle (after_added phase.Absent)) (request.Page handle) h
    added host handle phase.WaitRead h = h
    added host handle (phase.Reading smid) h = h
    added host handle (phase.Ready address) h = h
    added host handle phase.WaitHigh h = h
    added host handle (phase.Resetting smid) h = h
    added host handle phase.WaitInternal h = h
    added host handle (phase.Removing smid) h = h

    begun_removal : (host : Host) (handle : ℕ) (p : Phase) → Holds o host → Holds o (removal.begins_removal host handle p).part
    begun_removal host handle p h =
        asked_leave (record host { phases = with_phase host.phases handle (after_gone p); wait_internal = removal.without_page handle host.wait_internal }) handle h

    lost : (host : Host) (handle : ℕ) (p : Phase) → Holds o host → Holds o (removal.after_handle_lost host handle p).part
    lost host handle phase.WaitRead h = begun_removal host handle phase.WaitRead h
    lost host handle (phase.Reading smid) h = begun_removal host handle (phase.Reading smid) h
    lost host handle (phase.Ready address) h = begun_removal host handle (phase.Ready address) h
    lost host handle phase.Absent h = h
    lost host handle phase.WaitHigh h = h
    lost host handle (phase.Resetting smid) h = h
    lost host handle phase.WaitInternal h = h
    lost host handle (phase.Removing smid) h = h

    changed : (host : Host) (c : Change) → Holds o host → Holds o (removal.hears_change host c).part
    changed host c h = by_tests (removal.is_disk_handle c.handle) (c.status == target_added) (c.status == target_not_responding)
      where
        by_tests : (x y z : Bool) → Holds o (if x then (if y then removal.quietly (removal.after_handle_added host c.handle (phase_at host.phases c.handle)) else (if z then removal.after_handle_lost host c.handle (phase_at host.phases c.handle) else removal.quietly host)) else removal.quietly host).part
        by_tests false y z = h
        by_tests true true z = added host c.handle (phase_at host.phases c.handle) h
        by_tests true false true = lost host c.handle (phase_at host.phases c.handle) h
        by_tests true false false = h

    pub all_changed : (host : Host) (cs : List Change) → Holds o host → Holds o (removal.hears_changes host cs).part
    unfolding removal.hears_changes
    all_changed host [] h = h
    all_changed host (c ∷ cs) h = all_changed (removal.hears_change host c).part cs (changed host c h)
