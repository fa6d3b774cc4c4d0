-- Away from the doorbell a host opens no event notification, and lets none wait.
use Rattle.std.proofs.Common.{◌≡◌, ℕ, zero, suc, ◌-◌, ◌⊎◌, inl, inr, false, true, not, List, [], ◌∷◌, set, refl, ap, sym, ◌∙◌, subst}
use Rattle.std.specs.Prelude.{All}
use Rattle.std.specs.List.{filter}
use Rattle.std.specs.FinMap as finmap
use Rattle.std.proofs.lemmas.List.Elements.{All-append, All-cons, All-filter, All-head, All-nil, All-tail}
use Rattle.smid_pool.specs.Pool.{Free, Open, Parked, Slot, slot_of}
use Rattle.mpi_rings.specs.declared.request_descriptor.PostKind.TheVariants as post
use Rattle.mpt_wire.specs.Queues.Identifiers.{first_smid}
use Rattle.mpt_rules.specs.declared.request.Request.{Request}
use Rattle.mpt_rules.specs.declared.request.Request.TheVariants as request
use Rattle.mpt_rules.specs.Host.Parts.{Host}
use Rattle.mpt_rules.specs.Host.Posts as asks
use Rattle.mpt_rules.specs.Host.Removal as removal
use Rattle.mpt_rules.specs.Host.Replies as replies
use Rattle.law_flights.proofs.HostMoves.{Accepts, Acked, Acks, Adds, Anew, Answers, AskedInternal, AskedLeave, AsksAbort, AsksTarget, BeginsMessages, ComesUp, EndsAbort, EndsTarget, FreedHigh, FreedInternal, Frees, FreesHigh, FreesInternal, GivesHigh, GivesInternal, GivesUp, Keeps, Leaves, LeftAsks, LeftOnly, Loses, Move, Notified, Posts, Puts, PutsRead, PutsWrites, Reads, Removes, Returns, Sets, Starts, TakesEntry, WaitsHigh, WaitsInternal}
use Rattle.law_records.proofs.Strict.{IsStrict}
use Rattle.law_classes.specs.Made.{IsNoNotification}

-- ---- a pool

abbrev pub notified : Slot Request
notified = Open request.Notification

abbrev pub IsFirstIn : List (Slot Request) → Type 0
IsFirstIn pool = (s : ℕ) → slot_of pool s ≡ notified → s ≡ first_smid post.Default

-- a slot that is written
pub written : (pool : List (Slot Request)) (i j : ℕ) (y : Slot Request) → (slot_of (set pool i y) j ≡ slot_of pool j) ⊎ ((j ≡ suc i) × (slot_of (set pool i y) j ≡ y))
written pool i zero y = inl refl
written [] i (suc k) y = inl refl
written (x ∷ xs) zero (suc zero) y = inr (refl, refl)
written (x ∷ xs) zero (suc (suc k)) y = inl refl
written (x ∷ xs) (suc i) (suc zero) y = inl refl
written (x ∷ xs) (suc i) (suc (suc k)) y = lifted (written xs i (suc k) y)
  where
    lifted : (slot_of (set xs i y) (suc k) ≡ slot_of xs (suc k)) ⊎ ((suc k ≡ suc i) × (slot_of (set xs i y) (suc k) ≡ y)) → (slot_of (set (x ∷ xs) (suc i) y) (suc (suc k)) ≡ slot_of (x ∷ xs) (suc (suc k))) ⊎ ((suc (suc k) ≡ suc (suc i)) × (slot_of (set (x ∷ xs) (suc i) y) (suc (suc k)) ≡ y))
    lifted (inl q) = inl q
    lifted (inr q) = inr (ap suc q.0, q.1)

-- another one is written
other_written : (pool : List (Slot Request)) (i : ℕ) (y : Slot Request) → (y ≡ notified → ⊥) → IsFirstIn pool → IsFirstIn (set pool i y)
other_written pool i y o g s e = by_place (written pool i s y)
  where
    by_place : (slot_of (set pool i y) s ≡ slot_of pool s) ⊎ ((s ≡ suc i) × (slot_of (set pool i y) s ≡ y)) → s ≡ first_smid post.Default
    by_place (inl q) = g s (sym q ∙ e)
    by_place (inr q) = absurd (o (sym q.1 ∙ e))

-- ---- a host

pub record NoticesFit (h : Host) : Type 0 where
  pub first : IsFirstIn h.pool
  pub waiting : All IsNoNotification h.wait_internal

to : (x h2 : Host) → h2 ≡ x → NoticesFit x → NoticesFit h2
to x h2 e z = subst NoticesFit (sym e) z

-- its tables with one slot written
with_other : (h k : Host) (i : ℕ) (y : Slot Request) → (y ≡ notified → ⊥) → k.pool ≡ set h.pool i y → k.wait_internal ≡ h.wait_internal → NoticesFit h → NoticesFit k
with_other h k i y o p q z = record { first = subst IsFirstIn (sym p) (other_written h.pool i y o z.first); waiting = subst (All IsNoNotification) (sym q) z.waiting }

pub same : (h k : Host) → k.pool ≡ h.pool → k.wait_internal ≡ h.wait_internal → NoticesFit h → NoticesFit k
same h k p q z = record { first = subst IsFirstIn (sym p) z.first; waiting = subst (All IsNoNotification) (sym q) z.waiting }

posted : (h : Host) (s : ℕ) (x : Request) → IsNoNotification x → NoticesFit h → NoticesFit (asks.posts_internal h s x)
posted h s (request.Page handle) o z = with_other h _ (s - 1) (Open (request.Page handle)) (λ e. cc) refl refl z
posted h s (request.Remove handle) o z = with_other h _ (s - 1) (Open (request.Remove handle)) (λ e. cc) refl refl z
posted h s (request.Ack event context) o z = with_other h _ (s - 1) (Open (request.Ack event context)) (λ e. cc) refl refl z
posted h s request.Notification o z = absurd o
posted h s request.PortEnable o z = with_other h _ (s - 1) (Open request.PortEnable) (λ e. cc) refl refl z
posted h s (request.Command n) o z = z
posted h s (request.Abort n task) o z = z
posted h s (request.TargetReset address) o z = z
posted h s (request.Leave handle) o z = z

asked : (x : Request) (h h2 : Host) → IsNoNotification x → AskedInternal x h h2 → NoticesFit h → NoticesFit h2
asked x h h2 o (Posts s f e) z = to _ h2 e (posted h s x o z)
asked x h h2 o (WaitsInternal f e) z =
    to _ h2 e
    (record {
      first = z.first;
      waiting = All-append IsNoNotification h.wait_internal (x ∷ []) z.waiting (All-cons IsNoNotification x [] o (All-nil IsNoNotification));
    })

leave : (h : Host) (s handle : ℕ) → NoticesFit h → NoticesFit (asks.posts_leave h s handle)
leave h s handle z = with_other h (asks.posts_leave h s handle) (s - 1) (Open (request.Leave handle)) (λ e. cc) refl refl z

asked_leave : (handle : ℕ) (h h2 : Host) → AskedLeave handle h h2 → NoticesFit h → NoticesFit h2
asked_leave handle h h2 (Leaves s f e) z = to _ h2 e (leave h s handle z)
asked_leave handle h h2 (WaitsHigh f e) z = to _ h2 e (record { first = z.first; waiting = z.waiting })

freed : (h : Host) (s : ℕ) → NoticesFit h → NoticesFit (asks.frees h s)
freed h s z = with_other h (asks.frees h s) (s - 1) Free (λ e. cc) refl refl z

freed_high : (s : ℕ) (h h2 : Host) → FreedHigh s h h2 → NoticesFit h → NoticesFit h2
freed_high s h h2 (FreesHigh w e) z = to _ h2 e (freed h s z)
freed_high s h h2 (GivesHigh handle rest w e) z = let q = freed h s z in to _ h2 e (leave (record (asks.frees h s) { wait_high = rest }) s handle (record { first = q.first; waiting = q.waiting }))

freed_internal : (s : ℕ) (h h2 : Host) → FreedInternal s h h2 → NoticesFit h → NoticesFit h2
freed_internal s h h2 (FreesInternal w e) z = to _ h2 e (freed h s z)
freed_internal s h h2 (GivesInternal x rest w e) z =
    let a : All IsNoNotification (x ∷ rest) = subst (All IsNoNotification) w z.waiting in
    let k : Host = record (asks.frees h s) { wait_internal = rest } in
    to _ h2 e (posted k s x (All-head IsNoNotification x rest a) (record { first = (freed h s z).first; waiting = All-tail IsNoNotification x rest a }))

unparked : (h : Host) (task : ℕ) (x : Slot Request) → NoticesFit h → NoticesFit (replies.unparks h task x)
unparked h task Free z = z
unparked h task (Open r) z = z
unparked h task Parked z = freed h task z

answered : (o : Rattle.std.specs.Prelude.Option ℕ) → replies.slot_after o ≡ notified → ⊥
answered Rattle.std.specs.Prelude.None e = cc
answered (Rattle.std.specs.Prelude.Some n) e = cc

never : {T : Type 0} → false ≡ true → T
never e = absurd (cc)

pub move_fits : (h h2 : Host) → (x : Move h h2) → IsStrict false h h2 x → NoticesFit h → NoticesFit h2
move_fits h h2 (Puts x a e) t z = to _ h2 e (record { first = z.first; waiting = z.waiting })
move_fits h h2 (PutsWrites ws a e) t z = never t
move_fits h h2 (PutsRead d reg e) t z = never t
move_fits h h2 (Sets machine s reading ready marks e) t z = never t
move_fits h h2 (TakesEntry queue e) t z = to _ h2 e (record { first = z.first; waiting = z.waiting })
move_fits h h2 (Returns f r e) t z = to _ h2 e (record { first = z.first; waiting = z.waiting })
move_fits h h2 (Keeps f r e) t z = to _ h2 e (record { first = z.first; waiting = z.waiting })
move_fits h h2 (BeginsMessages m b r a) t z = never t
move_fits h h2 (Frees s r o m e) t z = to _ h2 e (freed h s z)
move_fits h h2 (Answers s n how o e) t z = to _ h2 e (with_other h _ (s - 1) (replies.slot_after (finmap.get h.aborts n)) (answered (finmap.get h.aborts n)) refl refl z)
move_fits h h2 (EndsAbort s n task o f) t z = freed_high s (replies.closes_abort h n task) h2 f (unparked (record h { aborts = finmap.remove h.aborts n }) task (slot_of h.pool task) (record { first = z.first; waiting = z.waiting }))
move_fits h h2 (EndsTarget s address o f) t z = freed_high s h h2 f z
move_fits h h2 (LeftAsks s handle m o r u f a) t z = asked (request.Remove handle) m h2 tt a (freed_high s _ m f (record { first = z.first; waiting = z.waiting }))
move_fits h h2 (LeftOnly s handle o r u f) t z = freed_high s _ h2 f (record { first = z.first; waiting = z.waiting })
move_fits h h2 (Reads s handle page o r f) t z = freed_internal s _ h2 f (record { first = z.first; waiting = z.waiting })
move_fits h h2 (Removes s handle o r f) t z = freed_internal s _ h2 f (record { first = z.first; waiting = z.waiting })
move_fits h h2 (Acked s event context o r f) t z = freed_internal s h h2 f z
move_fits h h2 (Notified s m o r f a) t z = asked request.PortEnable m h2 tt a (freed_internal s h m f z)
move_fits h h2 (ComesUp s m o r f e) t z = let q = freed_internal s h m f z in to _ h2 e (record { first = q.first; waiting = q.waiting })
move_fits h h2 (Acks event context r a) t z = asked (request.Ack event context) h h2 tt a z
move_fits h h2 (Adds handle r d p a) t z = asked (request.Page handle) _ h2 tt a (record { first = z.first; waiting = z.waiting })
move_fits h h2 (Loses handle p r d q u a) t z =
    asked_leave handle _ h2 a
    (record {
      first = z.first;
      waiting = All-filter (λ x. not (removal.is_page_of handle x)) IsNoNotification h.wait_internal z.waiting;
    })
move_fits h h2 (Accepts s n address handle command u c r l e) t z = to _ h2 e (with_other h _ (s - 1) (Open (request.Command n)) (λ q. cc) refl refl z)
move_fits h h2 (AsksAbort s n cmd u c b l e) t z = to _ h2 e (with_other h _ (s - 1) (Open (request.Abort n cmd.smid)) (λ q. cc) refl refl z)
move_fits h h2 (AsksTarget s address handle u r l e) t z = to _ h2 e (with_other h _ (s - 1) (Open (request.TargetReset address)) (λ q. cc) refl refl z)
move_fits h h2 (Starts m e) t z = never t
move_fits h h2 (GivesUp s m e) t z = never t
move_fits h h2 (Anew m d a e) t z = never t
