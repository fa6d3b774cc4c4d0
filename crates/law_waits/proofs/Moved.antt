-- Each move of the host keeps that what waits finds no identifier free.
use Rattle.std.proofs.Common.{◌≡◌, ◌≢◌, ℕ, zero, suc, if◌then◌else◌, ◌-◌, ◌≤◌, Bool, true, false, not, List, [], ◌∷◌, ◌++◌, length, filter, set, Option, Some, None, refl, sym, ap, ◌∙◌, subst, arith, length-set, fold, get_or, replicate}
use Rattle.std.specs.List.{range_with_len}
use Rattle.std.specs.Prelude.{All}
use Rattle.std.proofs.lemmas.List.Elements.{All-append, All-cons, All-head, All-nil, All-tail}
use Rattle.std.specs.FinMap as finmap
use Rattle.smid_pool.specs.Pool.{Slot, Free, Open, Parked, all_free, slot_of}
use Rattle.smid_pool.specs.Class.{IsIn}
use Rattle.smid_pool.specs.declared.class.Class.TheVariants as class
use Rattle.mpt_trace.specs.declared.host_state.HostState.{HostState}
use Rattle.mpt_trace.specs.declared.host_state.HostState.TheVariants as state
use Rattle.mpt_wire.specs.Machine.Causes.{is_resetting, is_up}
use Rattle.mpt_rules.specs.declared.request.Request.{Request}
use Rattle.mpt_rules.specs.declared.request.Request.TheVariants as request
use Rattle.mpt_rules.specs.Host.Parts.{Host}
use Rattle.mpt_rules.specs.Host.Posts as asks
use Rattle.mpt_rules.specs.Host.Removal as removal
use Rattle.mpt_rules.specs.Host.Replies as replies
use Rattle.mpt_rules.specs.Host.Returns as returns
use Rattle.law_flights.specs.Classes.{class_asked}
use Rattle.law_flights.proofs.HostMoves.{Acked, Acks, Accepts, Adds, Answers, Anew, AsksAbort, AsksTarget, AskedInternal, AskedLeave, BeginsMessages, ComesUp, EndsAbort, EndsTarget, Frees, FreedHigh, FreedInternal, FreesHigh, FreesInternal, GivesHigh, GivesInternal, GivesUp, Keeps, LeftAsks, LeftOnly, Leaves, Loses, Move, Notified, Posts, Puts, PutsRead, PutsWrites, Reads, Removes, Returns, Sets, Starts, TakesEntry, WaitsHigh, WaitsInternal, mode_internal}
use Rattle.law_flights.proofs.Least.{least_is}
use Rattle.law_waits.proofs.Full.{Classed, ClassedSlot, Full, all_taken, classed_set, full_freed, full_given, full_taken, high_internal, internal_high, io_high, io_internal}

-- the request is of the internal class
abbrev pub IsInternal : Request → Type 0
IsInternal r = class_asked r ≡ class.Internal

-- what waits, beside the pool; while a reset goes on nothing does
pub record Waiting (pool : List (Slot Request)) (high : List ℕ) (internal : List Request) (mode : HostState) : Type 0 where
  pub table : length pool ≡ 280
  pub classed : Classed pool
  pub none_high : 1 ≤ length high → Full class.High pool
  pub none_internal : 1 ≤ length internal → Full class.Internal pool
  pub reset_high : is_resetting mode ≡ true → high ≡ []
  pub reset_internal : is_resetting mode ≡ true → internal ≡ []
  pub fit : All IsInternal internal

abbrev pub Waits : Host → Type 0
Waits x = Waiting x.pool x.wait_high x.wait_internal x.mode

to : (x h2 : Host) → h2 ≡ x → Waits x → Waits h2
to x h2 e z = subst Waits (sym e) z

open_is_taken : (r : Request) → Open r ≢ Free
open_is_taken r e = absurd (cc)

parked_is_taken : (x : Slot Request) → x ≡ Parked → x ≢ Free
parked_is_taken x e f = absurd (cc)

module _ (pool : List (Slot Request)) (high : List ℕ) (internal : List Request) (mode : HostState) (z : Waiting pool high internal mode) where
  -- an identifier is given to a record of its class
  pub opened : (s : ℕ) (r : Request) → IsIn (class_asked r) s → Waiting (set pool (s - 1) (Open r)) high internal mode
  opened s r i = record {
    table = length-set pool (s - 1) (Open r) ∙ z.table;
    classed = classed_set pool z.table (class_asked r) s i (Open r) i z.classed;
    none_high = λ l. full_taken pool z.table (class_asked r) s i class.High (Open r) (open_is_taken r) (z.none_high l);
    none_internal = λ l. full_taken pool z.table (class_asked r) s i class.Internal (Open r) (open_is_taken r) (z.none_internal l);
    reset_high = z.reset_high;
    reset_internal = z.reset_internal;
    fit = z.fit;
  }

  -- one of a command is freed or parked
  pub command_closed : (s : ℕ) (x : Slot Request) → IsIn class.ScsiIo s → ClassedSlot s x → Waiting (set pool (s - 1) x) high internal mode
  command_closed s x i y = record {
    table = length-set pool (s - 1) x ∙ z.table;
    classed = classed_set pool z.table class.ScsiIo s i x y z.classed;
    none_high = λ l. full_freed pool z.table class.ScsiIo s i class.High x io_high (z.none_high l);
    none_internal = λ l. full_freed pool z.table class.ScsiIo s i class.Internal x io_internal (z.none_internal l);
    reset_high = z.reset_high;
    reset_internal = z.reset_internal;
    fit = z.fit;
  }

-- what is empty waits for nothing
nothing_long : {X Y : Type 0} (xs : List X) → xs ≡ [] → 1 ≤ length xs → Y
nothing_long xs e l = absurd (omega (arith, ap length e, l))

freed_high_only : (h : Host) (s : ℕ) → IsIn class.High s → h.wait_high ≡ [] → Waits h → Waits (asks.frees h s)
freed_high_only h s i e z = record {
  table = length-set h.pool (s - 1) Free ∙ z.table;
  classed = classed_set h.pool z.table class.High s i Free tt z.classed;
  none_high = λ l. nothing_long h.wait_high e l;
  none_internal = λ l. full_freed h.pool z.table class.High s i class.Internal Free high_internal (z.none_internal l);
  reset_high = z.reset_high;
  reset_internal = z.reset_internal;
  fit = z.fit;
}

freed_internal_only : (h : Host) (s : ℕ) → IsIn class.Internal s → h.wait_internal ≡ [] → Waits h → Waits (asks.frees h s)
freed_internal_only h s i e z = record {
  table = length-set h.pool (s - 1) Free ∙ z.table;
  classed = classed_set h.pool z.table class.Internal s i Free tt z.classed;
  none_high = λ l. full_freed h.pool z.table class.Internal s i class.High Free internal_high (z.none_high l);
  none_internal = λ l. nothing_long h.wait_internal e l;
  reset_high = z.reset_high;
  reset_internal = z.reset_internal;
  fit = z.fit;
}

-- ---- asked, or waiting

internal : (h : Host) (s : ℕ) (x : Request) → IsIn class.Internal s → Waits h → Waits (asks.posts_internal h s x)
internal h s (request.Page handle) i z = opened h.pool h.wait_high h.wait_internal h.mode z s (request.Page handle) i
internal h s (request.Remove handle) i z = opened h.pool h.wait_high h.wait_internal h.mode z s (request.Remove handle) i
internal h s (request.Ack event context) i z = opened h.pool h.wait_high h.wait_internal h.mode z s (request.Ack event context) i
internal h s request.Notification i z = opened h.pool h.wait_high h.wait_internal h.mode z s request.Notification i
internal h s request.PortEnable i z = opened h.pool h.wait_high h.wait_internal h.mode z s request.PortEnable i
internal h s (request.Command n) i z = z
internal h s (request.Abort n task) i z = z
internal h s (request.TargetReset address) i z = z
internal h s (request.Leave handle) i z = z

asked : (x : Request) (h h2 : Host) → IsInternal x → is_resetting h.mode ≡ false → AskedInternal x h h2 → Waits h → Waits h2
asked x h h2 k b (Posts s f e) z = to _ h2 e (internal h s x (least_is class.Internal h.pool s f).inside z)
asked x h h2 k b (WaitsInternal f e) z = to (record h { wait_internal = h.wait_internal ++ x ∷ [] }) h2 e (record {
  table = z.table;
  classed = z.classed;
  none_high = z.none_high;
  none_internal = λ l. all_taken class.Internal h.pool z.table f;
  reset_high = z.reset_high;
  reset_internal = λ r. absurd (cc);
  fit = All-append IsInternal h.wait_internal (x ∷ []) z.fit (All-cons IsInternal x [] k (All-nil IsInternal));
})

asked_leave : (handle : ℕ) (h h2 : Host) → is_resetting h.mode ≡ false → AskedLeave handle h h2 → Waits h → Waits h2
asked_leave handle h h2 b (Leaves s f e) z = to _ h2 e (opened h.pool h.wait_high h.wait_internal h.mode z s (request.Leave handle) (least_is class.High h.pool s f).inside)
asked_leave handle h h2 b (WaitsHigh f e) z = to (record h { wait_high = h.wait_high ++ handle ∷ [] }) h2 e (record {
  table = z.table;
  classed = z.classed;
  none_high = λ l. all_taken class.High h.pool z.table f;
  none_internal = z.none_internal;
  reset_high = λ r. absurd (cc);
  reset_internal = z.reset_internal;
  fit = z.fit;
})

-- ---- freed, or given on

no_cons : {X Y : Type 0} (xs : List X) (x : X) (rest : List X) → xs ≡ x ∷ rest → xs ≡ [] → Y
no_cons xs x rest e f = absurd (cc)

long_cons : {X : Type 0} (xs : List X) (x : X) (rest : List X) → xs ≡ x ∷ rest → 1 ≤ length xs
long_cons xs x rest e = subst (λ l. 1 ≤ length l) (sym e) (omega arith)

freed_high : (s : ℕ) (h h2 : Host) → IsIn class.High s → FreedHigh s h h2 → Waits h → Waits h2
freed_high s h h2 i (FreesHigh w e) z = to _ h2 e (freed_high_only h s i w z)
freed_high s h h2 i (GivesHigh handle rest w e) z = to _ h2 e (record {
  table = length-set (set h.pool (s - 1) Free) (s - 1) (Open (request.Leave handle)) ∙ (length-set h.pool (s - 1) Free ∙ z.table);
  classed = classed_set (set h.pool (s - 1) Free) (length-set h.pool (s - 1) Free ∙ z.table) class.High s i (Open (request.Leave handle)) i (classed_set h.pool z.table class.High s i Free tt z.classed);
  none_high = λ l. full_given h.pool z.table class.High s i class.High (Open (request.Leave handle)) (open_is_taken (request.Leave handle)) (z.none_high (long_cons h.wait_high handle rest w));
  none_internal = λ l. full_given h.pool z.table class.High s i class.Internal (Open (request.Leave handle)) (open_is_taken (request.Leave handle)) (z.none_internal l);
  reset_high = λ r. no_cons h.wait_high handle rest w (z.reset_high r);
  reset_internal = z.reset_internal;
  fit = z.fit;
})

-- a request of the internal class stands in the slot, or it is free; the class is full all the same where one waited that is no other class's
given : (h : Host) (s : ℕ) (x : Request) (rest : List Request) → IsIn class.Internal s → h.wait_internal ≡ x ∷ rest → Waits h
    → (r : Request) → class_asked r ≡ class.Internal → Waiting (set (set h.pool (s - 1) Free) (s - 1) (Open r)) h.wait_high rest h.mode
given h s x rest i w z r k = record {
  table = length-set (set h.pool (s - 1) Free) (s - 1) (Open r) ∙ (length-set h.pool (s - 1) Free ∙ z.table);
  classed = classed_set (set h.pool (s - 1) Free) (length-set h.pool (s - 1) Free ∙ z.table) class.Internal s i (Open r) (subst (λ d. IsIn d s) (sym k) i) (classed_set h.pool z.table class.Internal s i Free tt z.classed);
  none_high = λ l. full_given h.pool z.table class.Internal s i class.High (Open r) (open_is_taken r) (z.none_high l);
  none_internal = λ l. full_given h.pool z.table class.Internal s i class.Internal (Open r) (open_is_taken r) (z.none_internal (long_cons h.wait_internal x rest w));
  reset_high = z.reset_high;
  reset_internal = λ e. no_cons h.wait_internal x rest w (z.reset_internal e);
  fit = All-tail IsInternal x rest (subst (All IsInternal) w z.fit);
}

freed_internal : (s : ℕ) (h h2 : Host) → IsIn class.Internal s → FreedInternal s h h2 → Waits h → Waits h2
freed_internal s h h2 i (FreesInternal w e) z = to _ h2 e (freed_internal_only h s i w z)
freed_internal s h h2 i (GivesInternal x rest w e) z = to _ h2 e (by_request x w (All-head IsInternal x rest (subst (All IsInternal) w z.fit)))
  where
    by_request : (x : Request) → h.wait_internal ≡ x ∷ rest → IsInternal x → Waits (asks.posts_internal (record (asks.frees h s) { wait_internal = rest }) s x)
    by_request (request.Page handle) w k = given h s (request.Page handle) rest i w z (request.Page handle) refl
    by_request (request.Remove handle) w k = given h s (request.Remove handle) rest i w z (request.Remove handle) refl
    by_request (request.Ack event context) w k = given h s (request.Ack event context) rest i w z (request.Ack event context) refl
    by_request request.Notification w k = given h s request.Notification rest i w z request.Notification refl
    by_request request.PortEnable w k = given h s request.PortEnable rest i w z request.PortEnable refl
    by_request (request.Command n) w k = absurd (cc)
    by_request (request.Abort n task) w k = absurd (cc)
    by_request (request.TargetReset address) w k = absurd (cc)
    by_request (request.Leave handle) w k = absurd (cc)

-- ---- moves

unparked : (h : Host) (task : ℕ) (x : Slot Request) → slot_of h.pool task ≡ x → Waits h → Waits (replies.unparks h task x)
unparked h task Parked e z = command_closed h.pool h.wait_high h.wait_internal h.mode z task Free (subst (ClassedSlot task) e (z.classed task)) tt
unparked h task Free e z = z
unparked h task (Open r) e z = z

returned : (h : Host) (ns : List ℕ) → Waits h → Waits (fold returns.with_return h ns)
returned h [] z = z
returned h (n ∷ ns) z = returned (returns.with_return h n) ns z

class_at : (h : Host) (s : ℕ) (r : Request) → slot_of h.pool s ≡ Open r → Waits h → IsIn (class_asked r) s
class_at h s r e z = subst (ClassedSlot s) e (z.classed s)

up_rests : (m : HostState) → is_up m ≡ true → is_resetting m ≡ false
up_rests state.Up e = refl
up_rests state.Off e = absurd (cc)
up_rests state.Starting e = absurd (cc)
up_rests state.Resetting e = absurd (cc)

filtered : (p : Request → Bool) (xs : List Request) → 1 ≤ length (filter p xs) → 1 ≤ length xs
filtered p [] l = l
filtered p (x ∷ xs) l = omega arith

all_filtered : (p : Request → Bool) (xs : List Request) → All IsInternal xs → All IsInternal (filter p xs)
all_filtered p [] a = All-nil IsInternal
all_filtered p (x ∷ xs) a = by_test (p x) (all_filtered p xs (All-tail IsInternal x xs a))
  where
    by_test : (b : Bool) → All IsInternal (filter p xs) → All IsInternal (if b then x ∷ filter p xs else filter p xs)
    by_test true r = All-cons IsInternal x (filter p xs) (All-head IsInternal x xs a) r
    by_test false r = r

empty_filter : (p : Request → Bool) (xs : List Request) → xs ≡ [] → filter p xs ≡ []
empty_filter p xs e = ap (filter p) e

answered_slot : (s : ℕ) (o : Option ℕ) → IsIn class.ScsiIo s → ClassedSlot s (replies.slot_after o)
answered_slot s None i = tt
answered_slot s (Some a) i = i

free_at : (n i : ℕ) → get_or (replicate n (let x : Slot Request = Free in x)) i Free ≡ Free
free_at zero i = refl
free_at (suc n) zero = refl
free_at (suc n) (suc i) = free_at n i

all_free_at : (s : ℕ) → slot_of {R = Request} all_free s ≡ Free
all_free_at zero = refl
all_free_at (suc i) = free_at 280 i

same_mode : (h : Host) (ns : List ℕ) → (fold returns.with_return h ns).mode ≡ h.mode
same_mode h [] = refl
same_mode h (n ∷ ns) = same_mode (returns.with_return h n) ns

-- while a reset goes on nothing waits, whatever is freed
freed_in_reset : (h : Host) (s : ℕ) (r : Request) → slot_of h.pool s ≡ Open r → is_resetting h.mode ≡ true → Waits h → Waits (asks.frees h s)
freed_in_reset h s r o m z = record {
  table = length-set h.pool (s - 1) Free ∙ z.table;
  classed = classed_set h.pool z.table (class_asked r) s (class_at h s r o z) Free tt z.classed;
  none_high = λ l. nothing_long h.wait_high (z.reset_high m) l;
  none_internal = λ l. nothing_long h.wait_internal (z.reset_internal m) l;
  reset_high = z.reset_high;
  reset_internal = z.reset_internal;
  fit = z.fit;
}

freed_high_rests : (s : ℕ) (h m : Host) → FreedHigh s h m → is_resetting h.mode ≡ false → is_resetting m.mode ≡ false
freed_high_rests s h m (FreesHigh w e) r = subst (λ (x : Host). is_resetting x.mode ≡ false) (sym e) r
freed_high_rests s h m (GivesHigh handle rest w e) r = subst (λ (x : Host). is_resetting x.mode ≡ false) (sym e) r

freed_internal_rests : (s : ℕ) (h m : Host) → FreedInternal s h m → is_resetting h.mode ≡ false → is_resetting m.mode ≡ false
freed_internal_rests s h m (FreesInternal w e) r = subst (λ (x : Host). is_resetting x.mode ≡ false) (sym e) r
freed_internal_rests s h m (GivesInternal x rest w e) r =
    subst (λ (y : Host). is_resetting y.mode ≡ false) (sym e) (subst (λ n. is_resetting n ≡ false) (sym (mode_internal (record (asks.frees h s) { wait_internal = rest }) s x)) r)

up_waits : (h : Host) → Waits h → Waits (record h { mode = state.Up })
up_waits h z = record {
  table = z.table;
  classed = z.classed;
  none_high = z.none_high;
  none_internal = z.none_internal;
  reset_high = λ r. absurd (cc);
  reset_internal = λ r. absurd (cc);
  fit = z.fit;
}

pub move_waits : (h h2 : Host) → Move h h2 → Waits h → Waits h2
move_waits h h2 (Puts x a e) z = to _ h2 e z
move_waits h h2 (PutsWrites ws a e) z = to _ h2 e z
move_waits h h2 (PutsRead d reg e) z = to _ h2 e z
move_waits h h2 (Sets machine s reading ready marks e) z = to _ h2 e z
move_waits h h2 (TakesEntry queue e) z = to _ h2 e z
move_waits h h2 (Returns f r e) z = to _ h2 e z
move_waits h h2 (Keeps f r e) z = to _ h2 e z
move_waits h h2 (BeginsMessages m b r a) z =
    asked request.Notification m h2 refl (subst (λ (x : Host). is_resetting x.mode ≡ false) (sym r) (returned_rests h (range_with_len 0 returns.reply_frame_count) b)) a (to _ m r (returned h (range_with_len 0 returns.reply_frame_count) z))
  where
    returned_rests : (h : Host) (ns : List ℕ) → is_resetting h.mode ≡ false → is_resetting (fold returns.with_return h ns).mode ≡ false
    returned_rests h ns b = subst (λ m. is_resetting m ≡ false) (sym (same_mode h ns)) b
move_waits h h2 (Frees s r o m e) z = to _ h2 e (freed_in_reset h s r o m z)
move_waits h h2 (Answers s n how o e) z =
    let i = class_at h s (request.Command n) o z in
    to _ h2 e (command_closed h.pool h.wait_high h.wait_internal h.mode z s _ i (answered_slot s (finmap.get h.aborts n) i))
move_waits h h2 (EndsAbort s n task o f) z =
    freed_high s (replies.closes_abort h n task) h2 (class_at h s (request.Abort n task) o z) f (unparked (record h { aborts = finmap.remove h.aborts n }) task (slot_of h.pool task) refl z)
move_waits h h2 (EndsTarget s address o f) z = freed_high s h h2 (class_at h s (request.TargetReset address) o z) f z
move_waits h h2 (LeftAsks s handle m o r u f a) z =
    asked (request.Remove handle) m h2 refl (freed_high_rests s _ m f r) a (freed_high s _ m (class_at h s (request.Leave handle) o z) f z)
move_waits h h2 (LeftOnly s handle o r u f) z = freed_high s _ h2 (class_at h s (request.Leave handle) o z) f z
move_waits h h2 (Reads s handle page o r f) z = freed_internal s _ h2 (class_at h s (request.Page handle) o z) f z
move_waits h h2 (Removes s handle o r f) z = freed_internal s _ h2 (class_at h s (request.Remove handle) o z) f z
move_waits h h2 (Acked s event context o r f) z = freed_internal s h h2 (class_at h s (request.Ack event context) o z) f z
move_waits h h2 (Notified s m o r f a) z =
    asked request.PortEnable m h2 refl (freed_internal_rests s h m f r) a (freed_internal s h m (class_at h s request.Notification o z) f z)
move_waits h h2 (ComesUp s m o r f e) z = to _ h2 e (up_waits m (freed_internal s h m (class_at h s request.PortEnable o z) f z))
move_waits h h2 (Acks event context b a) z = asked (request.Ack event context) h h2 refl b a z
move_waits h h2 (Adds handle b d p a) z = asked (request.Page handle) _ h2 refl b a z
move_waits h h2 (Loses handle p b d o r a) z =
    asked_leave handle _ h2 b a (record {
      table = z.table;
      classed = z.classed;
      none_high = z.none_high;
      none_internal = λ l. z.none_internal (filtered (λ q. not (removal.is_page_of handle q)) h.wait_internal l);
      reset_high = z.reset_high;
      reset_internal = λ e. empty_filter (λ q. not (removal.is_page_of handle q)) h.wait_internal (z.reset_internal e);
      fit = all_filtered (λ q. not (removal.is_page_of handle q)) h.wait_internal z.fit;
    })
move_waits h h2 (Accepts s n address handle command u a r f e) z = to _ h2 e (opened h.pool h.wait_high h.wait_internal h.mode z s (request.Command n) (least_is class.ScsiIo h.pool s f).inside)
move_waits h h2 (AsksAbort s n cmd u c a f e) z = to _ h2 e (opened h.pool h.wait_high h.wait_internal h.mode z s (request.Abort n cmd.smid) (least_is class.High h.pool s f).inside)
move_waits h h2 (AsksTarget s address handle u r f e) z = to _ h2 e (opened h.pool h.wait_high h.wait_internal h.mode z s (request.TargetReset address) (least_is class.High h.pool s f).inside)
move_waits h h2 (Starts o e) z = to _ h2 e (record {
  table = z.table;
  classed = z.classed;
  none_high = z.none_high;
  none_internal = z.none_internal;
  reset_high = λ r. absurd (cc);
  reset_internal = λ r. absurd (cc);
  fit = z.fit;
})
move_waits h h2 (GivesUp s m e) z = to _ h2 e (record {
  table = z.table;
  classed = z.classed;
  none_high = λ l. absurd (omega (arith, l));
  none_internal = λ l. absurd (omega (arith, l));
  reset_high = λ r. refl;
  reset_internal = λ r. refl;
  fit = All-nil IsInternal;
})
move_waits h h2 (Anew g r m e) z = to _ h2 e (record {
  table = grind arith;
  classed = λ s. subst (ClassedSlot s) (sym (all_free_at s)) tt;
  none_high = λ l. nothing_long h.wait_high (z.reset_high g) l;
  none_internal = λ l. nothing_long h.wait_internal (z.reset_internal g) l;
  reset_high = λ r. absurd (cc);
  reset_internal = λ r. absurd (cc);
  fit = z.fit;
})
