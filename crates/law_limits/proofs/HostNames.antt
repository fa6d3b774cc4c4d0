-- Each call of the host keeps that its tables name handles of disks alone.
use Rattle.std.proofs.Common.{◌≡◌, ℕ, zero, suc, ◌+◌, ◌-◌, ◌==◌, Bool, true, false, cond, List, [], ◌∷◌, length, set, slice_index_or, Option, Some, None, refl, ap, sym, subst, ◌∙◌, length-set, arith}
use Rattle.std.specs.Ordering.{eq_by_cmp, nat_cmp}
use Rattle.std.proofs.lemmas.Cmp.{nat_cmp_total}
use Rattle.std.specs.FinMap as finmap
use Rattle.std.specs.Prelude.{All}
use Rattle.std.specs.Option.{option_map}
use Rattle.std.specs.List.{fold, position, range_with_len}
use Rattle.std.proofs.lemmas.List.Elements.{All-append, All-cons, All-filter, All-head, All-nil, All-replicate, All-set, All-tail}
use Rattle.std.proofs.lemmas.List.Quantifiers.{position-Some}
use Rattle.smid_pool.specs.Pool.{Free, Open, Parked, Slot, slot_of}
use Rattle.removal.specs.Handles.{IsHandle, ready_handle, with_phase}
use Rattle.removal.specs.Phases.{after_grant}
use Rattle.removal.specs.declared.phase.Phase.{Phase}
use Rattle.removal.specs.declared.phase.Phase.TheVariants as phase
use Rattle.mpt_rules.specs.declared.request.Request.{Request}
use Rattle.mpt_rules.specs.declared.request.Request.TheVariants as request
use Rattle.mpt_rules.specs.Host.Parts.{Cmd, Host}
use Rattle.mpt_rules.specs.Host.Posts as asks
use Rattle.mpt_rules.specs.Host.Removal as removal
use Rattle.mpt_rules.specs.Host.Replies as replies
use Rattle.mpt_rules.specs.Host.Returns as returns
use Rattle.law_flights.proofs.HostMoves.{Acked, Acks, Accepts, Adds, Answers, Anew, AsksAbort, AsksTarget, AskedInternal, AskedLeave, BeginsMessages, ComesUp, EndsAbort, EndsTarget, Frees, FreedHigh, FreedInternal, FreesHigh, FreesInternal, GivesHigh, GivesInternal, GivesUp, Keeps, LeftAsks, LeftOnly, Leaves, Loses, Move, Notified, Posts, Puts, PutsRead, PutsWrites, Reads, Removes, Returns, Sets, Starts, TakesEntry, WaitsHigh, WaitsInternal}
use Rattle.law_flights.proofs.HostTurns.{length_free}
use Rattle.law_limits.specs.HandlesNamed.{NamesDiskHandle, WaitNamesDiskHandle}

abbrev pub Cmds : Type 0
Cmds = finmap.FinMap nat_cmp Cmd

pub record NamesDisks (phases : List Phase) (cmds : Cmds) (pool : List (Slot Request)) (high : List ℕ) (internal : List Request) : Type 0 where
  pub handles : length phases ≡ 64
  pub commands : (n : ℕ) (c : Cmd) → finmap.get cmds n ≡ Some c → IsHandle c.handle
  pub records : All NamesDiskHandle pool
  pub leaving : All IsHandle high
  pub waits : All WaitNamesDiskHandle internal

abbrev pub Names : Host → Type 0
Names h = NamesDisks h.phases h.cmds h.pool h.wait_high h.wait_internal

to : (x h2 : Host) → h2 ≡ x → Names x → Names h2
to x h2 e z = subst Names (sym e) z

put : (h : Host) (s : ℕ) (x : Slot Request) → NamesDiskHandle x → Names h → NamesDisks h.phases h.cmds (set h.pool (s - 1) x) h.wait_high h.wait_internal
put h s x f z = record { handles = z.handles; commands = z.commands; records = All-set NamesDiskHandle h.pool (s - 1) x f z.records; leaving = z.leaving; waits = z.waits }

phased : (h : Host) (handle : ℕ) (p : Phase) → Names h → NamesDisks (with_phase h.phases handle p) h.cmds h.pool h.wait_high h.wait_internal
phased h handle p z = record { handles = length-set h.phases _ p ∙ z.handles; commands = z.commands; records = z.records; leaving = z.leaving; waits = z.waits }

granted : (h : Host) (handle s : ℕ) → Names h → Names (asks.grants h handle s)
granted h handle s z = phased h handle _ z

leave : (h : Host) (s handle : ℕ) → IsHandle handle → Names h → Names (asks.posts_leave h s handle)
leave h s handle i z = put (asks.grants h handle s) s (Open (request.Leave handle)) i (granted h handle s z)

internal : (h : Host) (s : ℕ) (x : Request) → WaitNamesDiskHandle x → Names h → Names (asks.posts_internal h s x)
internal h s (request.Page handle) i z = put (asks.grants h handle s) s (Open (request.Page handle)) i (granted h handle s z)
internal h s (request.Remove handle) i z = put (asks.grants h handle s) s (Open (request.Remove handle)) i (granted h handle s z)
internal h s (request.Ack event context) i z = put h s (Open (request.Ack event context)) tt z
internal h s request.Notification i z = put h s (Open request.Notification) tt z
internal h s request.PortEnable i z = put h s (Open request.PortEnable) tt z
internal h s (request.Command n) i z = z
internal h s (request.Abort n task) i z = z
internal h s (request.TargetReset address) i z = z
internal h s (request.Leave handle) i z = z

asked : (x : Request) (h h2 : Host) → AskedInternal x h h2 → WaitNamesDiskHandle x → Names h → Names h2
asked x h h2 (Posts s f e) i z = to _ h2 e (internal h s x i z)
asked x h h2 (WaitsInternal f e) i z = to _ h2 e (record { handles = z.handles; commands = z.commands; records = z.records; leaving = z.leaving; waits = All-append WaitNamesDiskHandle h.wait_internal (x ∷ []) z.waits (All-cons WaitNamesDiskHandle x [] i (All-nil WaitNamesDiskHandle)) })

asked_leave : (handle : ℕ) (h h2 : Host) → AskedLeave handle h h2 → IsHandle handle → Names h → Names h2
asked_leave handle h h2 (Leaves s f e) i z = to _ h2 e (leave h s handle i z)
asked_leave handle h h2 (WaitsHigh f e) i z = to _ h2 e (record { handles = z.handles; commands = z.commands; records = z.records; leaving = All-append IsHandle h.wait_high (handle ∷ []) z.leaving (All-cons IsHandle handle [] i (All-nil IsHandle)); waits = z.waits })

freed_high : (s : ℕ) (h h2 : Host) → FreedHigh s h h2 → Names h → Names h2
freed_high s h h2 (FreesHigh w e) z = to _ h2 e (put h s Free tt z)
freed_high s h h2 (GivesHigh handle rest w e) z =
    let a : All IsHandle (handle ∷ rest) = subst (All IsHandle) w z.leaving in
    let y = put h s Free tt z in
    to _ h2 e (leave (record (asks.frees h s) { wait_high = rest }) s handle (All-head IsHandle handle rest a) (record { handles = y.handles; commands = y.commands; records = y.records; leaving = All-tail IsHandle handle rest a; waits = y.waits }))

freed_internal : (s : ℕ) (h h2 : Host) → FreedInternal s h h2 → Names h → Names h2
freed_internal s h h2 (FreesInternal w e) z = to _ h2 e (put h s Free tt z)
freed_internal s h h2 (GivesInternal x rest w e) z =
    let a : All WaitNamesDiskHandle (x ∷ rest) = subst (All WaitNamesDiskHandle) w z.waits in
    let y = put h s Free tt z in
    to _ h2 e (internal (record (asks.frees h s) { wait_internal = rest }) s x (All-head WaitNamesDiskHandle x rest a) (record { handles = y.handles; commands = y.commands; records = y.records; leaving = y.leaving; waits = All-tail WaitNamesDiskHandle x rest a }))

-- ---- what stands in the tables

entry : (xs : List (Slot Request)) (k : ℕ) → All NamesDiskHandle xs → NamesDiskHandle (slice_index_or xs k Free)
entry [] k a = tt
entry (x ∷ xs) zero a = All-head NamesDiskHandle x xs a
entry (x ∷ xs) (suc k) a = entry xs k (All-tail NamesDiskHandle x xs a)

at_slot : (h : Host) (s : ℕ) (x : Slot Request) → slot_of h.pool s ≡ x → Names h → NamesDiskHandle x
at_slot h zero x e z = subst NamesDiskHandle e tt
at_slot h (suc k) x e z = subst NamesDiskHandle e (entry h.pool k z.records)

unparked : (h : Host) (task : ℕ) (x : Slot Request) → Names h → Names (replies.unparks h task x)
unparked h task Parked z = put h task Free tt z
unparked h task Free z = z
unparked h task (Open r) z = z

disk_handle : (handle : ℕ) → removal.is_disk_handle handle ≡ true → IsHandle handle
disk_handle handle e = (grind (arith, e), grind (arith, e))

ready_is_handle : (phases : List Phase) (address handle : ℕ) → length phases ≡ 64 → ready_handle phases address ≡ Some handle → IsHandle handle
ready_is_handle phases address handle l e = by_place (position (Rattle.removal.specs.Phases.is_ready_at address) phases) refl e
  where
    by_place : (o : Option ℕ) → position (Rattle.removal.specs.Phases.is_ready_at address) phases ≡ o → option_map (λ place. 9 + place) o ≡ Some handle → IsHandle handle
    by_place None p q = absurd (cc)
    by_place (Some i) p q =
        let b = (position-Some (Rattle.removal.specs.Phases.is_ready_at address) phases i phase.Absent p).0 in
        let s : 9 + i ≡ handle = cc in
        (omega (arith, s), omega (arith, s, b, l))

answered : (m : Cmds) (k n : ℕ) (c : Cmd) → finmap.get (finmap.remove m k) n ≡ Some c → finmap.get m n ≡ Some c
answered m k n c e = by_same (k == n) (sym removed ∙ e)
  where
    removed : finmap.get (finmap.remove m k) n ≡ cond (k == n) None (finmap.get m n)
    removed =
        let same : eq_by_cmp nat_cmp n k ≡ (k == n) = grind arith in
        finmap.get-remove nat_cmp_total m k n ∙ ap (λ (b : Bool). cond b None (finmap.get m n)) same

    by_same : (b : Bool) → cond b None (finmap.get m n) ≡ Some c → finmap.get m n ≡ Some c
    by_same true q = absurd (cc)
    by_same false q = q

accepted : (m : Cmds) (k : ℕ) (v : Cmd) (n : ℕ) (c : Cmd) → IsHandle v.handle → (finmap.get m n ≡ Some c → IsHandle c.handle) → finmap.get (finmap.insert m k v) n ≡ Some c → IsHandle c.handle
accepted m k v n c i f e = by_same (k == n) (sym inserted ∙ e)
  where
    inserted : finmap.get (finmap.insert m k v) n ≡ cond (k == n) (Some v) (finmap.get m n)
    inserted =
        let same : eq_by_cmp nat_cmp n k ≡ (k == n) = grind arith in
        finmap.get-insert nat_cmp_total m k v n ∙ ap (λ (b : Bool). cond b (Some v) (finmap.get m n)) same

    by_same : (b : Bool) → cond b (Some v) (finmap.get m n) ≡ Some c → IsHandle c.handle
    by_same true q = let s : v ≡ c = cc in subst (λ (x : Cmd). IsHandle x.handle) s i
    by_same false q = f q

abbrev no_cmds : Cmds
no_cmds = finmap.empty

none_open : (n : ℕ) (c : Cmd) → finmap.get no_cmds n ≡ Some c → IsHandle c.handle
none_open n c e = let f = sym (finmap.get-empty nat_cmp n) ∙ e in absurd (cc)

-- ---- each move

all_returned : (h : Host) (fs : List ℕ) → Names h → Names (fold returns.with_return h fs)
all_returned h [] z = z
all_returned h (f ∷ fs) z = all_returned (returns.with_return h f) fs z

pub move_names : (h h2 : Host) → Move h h2 → Names h → Names h2
move_names h h2 (Puts x a e) z = to _ h2 e z
move_names h h2 (PutsWrites ws a e) z = to _ h2 e z
move_names h h2 (PutsRead d reg e) z = to _ h2 e z
move_names h h2 (Sets machine s reading ready marks e) z = to _ h2 e z
move_names h h2 (TakesEntry queue e) z = to _ h2 e z
move_names h h2 (Returns f r e) z = to _ h2 e z
move_names h h2 (Keeps f r e) z = to _ h2 e z
move_names h h2 (BeginsMessages m b r a) z = asked request.Notification m h2 a tt (to _ m r (all_returned h (range_with_len 0 returns.reply_frame_count) z))
move_names h h2 (Frees s r o m e) z = to _ h2 e (put h s Free tt z)
move_names h h2 (Answers s n how o e) z = to _ h2 e (answers (finmap.get h.aborts n))
  where
    answers : (o : Option ℕ) → NamesDisks h.phases (finmap.remove h.cmds n) (set h.pool (s - 1) (replies.slot_after o)) h.wait_high h.wait_internal
    answers None = record { handles = z.handles; commands = λ k c q. z.commands k c (answered h.cmds n k c q); records = All-set NamesDiskHandle h.pool (s - 1) Free tt z.records; leaving = z.leaving; waits = z.waits }
    answers (Some x) = record { handles = z.handles; commands = λ k c q. z.commands k c (answered h.cmds n k c q); records = All-set NamesDiskHandle h.pool (s - 1) Parked tt z.records; leaving = z.leaving; waits = z.waits }
move_names h h2 (EndsAbort s n task o f) z = freed_high s _ h2 f (unparked (record h { aborts = finmap.remove h.aborts n }) task (slot_of h.pool task) z)
move_names h h2 (EndsTarget s address o f) z = freed_high s h h2 f z
move_names h h2 (LeftAsks s handle m o r u f a) z = asked (request.Remove handle) m h2 a (at_slot h s (Open (request.Leave handle)) o z) (freed_high s _ m f (phased h handle _ z))
move_names h h2 (LeftOnly s handle o r u f) z = freed_high s _ h2 f (phased h handle _ z)
move_names h h2 (Reads s handle page o r f) z = freed_internal s _ h2 f (phased h handle _ z)
move_names h h2 (Removes s handle o r f) z = freed_internal s _ h2 f (phased h handle _ z)
move_names h h2 (Acked s event context o r f) z = freed_internal s h h2 f z
move_names h h2 (Notified s m o r f a) z = asked request.PortEnable m h2 a tt (freed_internal s h m f z)
move_names h h2 (ComesUp s m o r f e) z = to _ h2 e (freed_internal s h m f z)
move_names h h2 (Acks event context b a) z = asked (request.Ack event context) h h2 a tt z
move_names h h2 (Adds handle b d p a) z = asked (request.Page handle) _ h2 a (disk_handle handle d) (phased h handle _ z)
move_names h h2 (Loses handle p b d o r a) z =
    asked_leave handle _ h2 a (disk_handle handle d)
    (record { handles = length-set h.phases _ _ ∙ z.handles; commands = z.commands; records = z.records; leaving = z.leaving; waits = All-filter _ WaitNamesDiskHandle h.wait_internal z.waits })
move_names h h2 (Accepts s n address handle command u a r f e) z =
    let i = ready_is_handle h.phases address handle z.handles r in
    to _ h2 e (record { handles = z.handles; commands = λ k c q. accepted h.cmds n (record { smid = s; handle = handle }) k c i (z.commands k c) q; records = All-set NamesDiskHandle h.pool (s - 1) (Open (request.Command n)) tt z.records; leaving = z.leaving; waits = z.waits })
move_names h h2 (AsksAbort s n cmd u c a f e) z = to _ h2 e (put h s (Open (request.Abort n cmd.smid)) tt z)
move_names h h2 (AsksTarget s address handle u r f e) z = to _ h2 e (put h s (Open (request.TargetReset address)) tt z)
move_names h h2 (Starts o e) z = to _ h2 e z
move_names h h2 (GivesUp s m e) z = to _ h2 e (record { handles = z.handles; commands = z.commands; records = z.records; leaving = All-nil IsHandle; waits = All-nil WaitNamesDiskHandle })
move_names h h2 (Anew g r m e) z = to _ h2 e (record { handles = length_free 64 phase.Absent; commands = λ n c q. none_open n c q; records = All-replicate NamesDiskHandle 280 Free tt; leaving = z.leaving; waits = z.waits })
