-- Each call of the host keeps that its tables agree.
use Rattle.std.proofs.Common.{true, ◌≡◌, ℕ, ◌-◌, List, [], ◌∷◌, set, refl, sym, subst, ◌∙◌}
use Rattle.std.specs.FinMap as finmap
use Rattle.std.specs.List.{fold, range_with_len}
use Rattle.smid_pool.specs.Pool.{Free, Open, Parked, Slot, slot_of}
use Rattle.smid_pool.specs.declared.class.Class.TheVariants as class
use Rattle.mpt_rules.specs.declared.request.Request.{Request}
use Rattle.mpt_rules.specs.declared.request.Request.TheVariants as request
use Rattle.mpt_rules.specs.Host.Parts.{Host}
use Rattle.mpt_rules.specs.Host.Posts as asks
use Rattle.mpt_rules.specs.Host.Replies as replies
use Rattle.mpt_rules.specs.Host.Returns as returns
use Rattle.law_flights.proofs.HostMoves.{Acked, Acks, Accepts, Adds, Answers, Anew, AsksAbort, AsksTarget, AskedInternal, AskedLeave, BeginsMessages, ComesUp, EndsAbort, EndsTarget, Frees, FreedHigh, FreedInternal, FreesHigh, FreesInternal, GivesHigh, GivesInternal, GivesUp, Keeps, LeftAsks, LeftOnly, Leaves, Loses, Move, Notified, Posts, Puts, PutsRead, PutsWrites, Reads, Removes, Returns, Sets, Starts, TakesEntry, WaitsHigh, WaitsInternal}
use Rattle.law_records.proofs.Books as book
use Rattle.law_records.proofs.Books.{Books, IsBeside, IsPlain, beside_least, beside_open, puts, puts_twice}
use Rattle.law_records.proofs.Strict.{IsFreed, IsStrict}

abbrev pub Agree : Host → Type 0
Agree host = Books 0 host.pool host.cmds host.aborts host.accepted

to : (x h2 : Host) → h2 ≡ x → Agree x → Agree h2
to x h2 e z = subst Agree (sym e) z

-- ---- a post under an identifier that is beside

posted : (h : Host) (s : ℕ) (x : Slot Request) → IsPlain x → IsBeside h.cmds h.aborts h.accepted h.pool s → Agree h → Books 0 (set h.pool (s - 1) x) h.cmds h.aborts h.accepted
posted h s x p b z = puts h.cmds h.aborts h.accepted h.pool s x p b (book.hole h.cmds h.aborts h.accepted s h.pool z)

internal : (h : Host) (s : ℕ) (x : Request) → IsBeside h.cmds h.aborts h.accepted h.pool s → Agree h → Agree (asks.posts_internal h s x)
internal h s (request.Page handle) b z = posted h s (Open (request.Page handle)) tt b z
internal h s (request.Remove handle) b z = posted h s (Open (request.Remove handle)) tt b z
internal h s (request.Ack event context) b z = posted h s (Open (request.Ack event context)) tt b z
internal h s request.Notification b z = posted h s (Open request.Notification) tt b z
internal h s request.PortEnable b z = posted h s (Open request.PortEnable) tt b z
internal h s (request.Command n) b z = z
internal h s (request.Abort n task) b z = z
internal h s (request.TargetReset address) b z = z
internal h s (request.Leave handle) b z = z

asked : (x : Request) (h h2 : Host) → AskedInternal x h h2 → Agree h → Agree h2
asked x h h2 (Posts s f e) z = to _ h2 e (internal h s x (beside_least h.cmds h.aborts h.accepted class.Internal h.pool s f z) z)
asked x h h2 (WaitsInternal f e) z = to _ h2 e z

asked_leave : (handle : ℕ) (h h2 : Host) → AskedLeave handle h h2 → Agree h → Agree h2
asked_leave handle h h2 (Leaves s f e) z = to _ h2 e (posted h s (Open (request.Leave handle)) tt (beside_least h.cmds h.aborts h.accepted class.High h.pool s f z) z)
asked_leave handle h h2 (WaitsHigh f e) z = to _ h2 e z

-- ---- an identifier that is freed, and given on

module _ (s : ℕ) (h : Host) (b : IsBeside h.cmds h.aborts h.accepted h.pool s) (z : Books s h.pool h.cmds h.aborts h.accepted) where
  freed : Agree (asks.frees h s)
  freed = puts h.cmds h.aborts h.accepted h.pool s Free tt b z

  twice : (y : Slot Request) → IsPlain y → Books 0 (set (set h.pool (s - 1) Free) (s - 1) y) h.cmds h.aborts h.accepted
  twice y p = puts_twice h.cmds h.aborts h.accepted h.pool s Free y tt p b z

  freed_high : (h2 : Host) → FreedHigh s h h2 → Agree h2
  freed_high h2 (FreesHigh w e) = to _ h2 e freed
  freed_high h2 (GivesHigh handle rest w e) = to _ h2 e (twice (Open (request.Leave handle)) tt)

  given : (x : Request) (rest : List Request) → Agree (asks.posts_internal (record (asks.frees h s) { wait_internal = rest }) s x)
  given (request.Page handle) rest = twice (Open (request.Page handle)) tt
  given (request.Remove handle) rest = twice (Open (request.Remove handle)) tt
  given (request.Ack event context) rest = twice (Open (request.Ack event context)) tt
  given request.Notification rest = twice (Open request.Notification) tt
  given request.PortEnable rest = twice (Open request.PortEnable) tt
  given (request.Command n) rest = freed
  given (request.Abort n task) rest = freed
  given (request.TargetReset address) rest = freed
  given (request.Leave handle) rest = freed

  freed_internal : (h2 : Host) → FreedInternal s h h2 → Agree h2
  freed_internal h2 (FreesInternal w e) = to _ h2 e freed
  freed_internal h2 (GivesInternal x rest w e) = to _ h2 e (given x rest)

-- what is open under it is neither a submission's nor an abort's
module _ (s : ℕ) (r : Request) (h : Host) (e : slot_of h.pool s ≡ Open r) (p : IsPlain (Open r)) (z : Agree h) where
  open_beside : IsBeside h.cmds h.aborts h.accepted h.pool s
  open_beside = beside_open h.cmds h.aborts h.accepted h.pool s r e p z

  spare : Books s h.pool h.cmds h.aborts h.accepted
  spare = book.hole h.cmds h.aborts h.accepted s h.pool z

-- ---- an abort that ends

abort_ends : (s n task : ℕ) (h h2 : Host) → slot_of h.pool s ≡ Open (request.Abort n task) → (x : Slot Request) → slot_of h.pool task ≡ x → FreedHigh s (replies.unparks (record h { aborts = finmap.remove h.aborts n }) task x) h2 → Agree h → Agree h2
abort_ends s n task h h2 e Free t f z =
    let k : Host = record h { aborts = finmap.remove h.aborts n } in
    let q = book.ended_open h.pool h.cmds h.aborts h.accepted s n task e z (λ y. not_parked (sym t ∙ y)) in
    freed_high s k q.1 q.0 h2 f
  where
    not_parked : book.free_slot ≡ Parked → ⊥
    not_parked y = cc
abort_ends s n task h h2 e (Open r) t f z =
    let k : Host = record h { aborts = finmap.remove h.aborts n } in
    let q = book.ended_open h.pool h.cmds h.aborts h.accepted s n task e z (λ y. not_parked (sym t ∙ y)) in
    freed_high s k q.1 q.0 h2 f
  where
    not_parked : Open r ≡ Parked → ⊥
    not_parked y = cc
abort_ends s n task h h2 e Parked t f z =
    let k : Host = asks.frees (record h { aborts = finmap.remove h.aborts n }) task in
    let q = book.ended_parked h.pool h.cmds h.aborts h.accepted s n task e z t in
    freed_high s k q.1 q.0 h2 f

-- ---- each move

all_returned : (h : Host) (fs : List ℕ) → Agree h → Agree (fold returns.with_return h fs)
all_returned h [] z = z
all_returned h (f ∷ fs) z = all_returned (returns.with_return h f) fs z

frees_only : (s : ℕ) (r : Request) (h : Host) → slot_of h.pool s ≡ Open r → IsFreed r → Agree h → Agree (asks.frees h s)
frees_only s (request.Leave handle) h e p z = freed s h (open_beside s (request.Leave handle) h e tt z) (spare s (request.Leave handle) h e tt z)
frees_only s (request.Page handle) h e p z = freed s h (open_beside s (request.Page handle) h e tt z) (spare s (request.Page handle) h e tt z)
frees_only s (request.Remove handle) h e p z = freed s h (open_beside s (request.Remove handle) h e tt z) (spare s (request.Remove handle) h e tt z)
frees_only s (request.Ack event context) h e p z = freed s h (open_beside s (request.Ack event context) h e tt z) (spare s (request.Ack event context) h e tt z)
frees_only s request.Notification h e p z = freed s h (open_beside s request.Notification h e tt z) (spare s request.Notification h e tt z)
frees_only s request.PortEnable h e p z = freed s h (open_beside s request.PortEnable h e tt z) (spare s request.PortEnable h e tt z)
frees_only s (request.Command n) h e p z = absurd p
frees_only s (request.Abort n task) h e p z = absurd p
frees_only s (request.TargetReset address) h e p z = absurd p

pub move_kept : (h h2 : Host) → (x : Move h h2) → IsStrict true h h2 x → Agree h → Agree h2
move_kept h h2 (Puts x a e) t z = to _ h2 e z
move_kept h h2 (PutsWrites ws a e) t z = to _ h2 e z
move_kept h h2 (PutsRead d reg e) t z = to _ h2 e z
move_kept h h2 (Sets machine s reading ready marks e) t z = to _ h2 e z
move_kept h h2 (TakesEntry queue e) t z = to _ h2 e z
move_kept h h2 (Returns f r e) t z = to _ h2 e z
move_kept h h2 (Keeps f r e) t z = to _ h2 e z
move_kept h h2 (BeginsMessages m b r a) t z = asked request.Notification m h2 a (to _ m r (all_returned h (range_with_len 0 returns.reply_frame_count) z))
move_kept h h2 (Frees s r o m e) t z = to _ h2 e (frees_only s r h o t z)
move_kept h h2 (Answers s n how o e) t z = to _ h2 e (book.answered h.pool h.cmds h.aborts h.accepted s n o z)
move_kept h h2 (EndsAbort s n task o f) t z = abort_ends s n task h h2 o (slot_of h.pool task) refl f z
move_kept h h2 (EndsTarget s address o f) t z = freed_high s h (open_beside s (request.TargetReset address) h o tt z) (spare s (request.TargetReset address) h o tt z) h2 f
move_kept h h2 (LeftAsks s handle m o r u f a) t z = asked (request.Remove handle) m h2 a (freed_high s _ (open_beside s (request.Leave handle) h o tt z) (spare s (request.Leave handle) h o tt z) m f)
move_kept h h2 (LeftOnly s handle o r u f) t z = freed_high s _ (open_beside s (request.Leave handle) h o tt z) (spare s (request.Leave handle) h o tt z) h2 f
move_kept h h2 (Reads s handle page o r f) t z = freed_internal s _ (open_beside s (request.Page handle) h o tt z) (spare s (request.Page handle) h o tt z) h2 f
move_kept h h2 (Removes s handle o r f) t z = freed_internal s _ (open_beside s (request.Remove handle) h o tt z) (spare s (request.Remove handle) h o tt z) h2 f
move_kept h h2 (Acked s event context o r f) t z = freed_internal s h (open_beside s (request.Ack event context) h o tt z) (spare s (request.Ack event context) h o tt z) h2 f
move_kept h h2 (Notified s m o r f a) t z = asked request.PortEnable m h2 a (freed_internal s h (open_beside s request.Notification h o tt z) (spare s request.Notification h o tt z) m f)
move_kept h h2 (ComesUp s m o r f e) t z = to _ h2 e (freed_internal s h (open_beside s request.PortEnable h o tt z) (spare s request.PortEnable h o tt z) m f)
move_kept h h2 (Acks event context b a) t z = asked (request.Ack event context) h h2 a z
move_kept h h2 (Adds handle b d p a) t z = asked (request.Page handle) _ h2 a z
move_kept h h2 (Loses handle p b d o r a) t z = asked_leave handle _ h2 a z
move_kept h h2 (Accepts s n address handle command u a r f e) t z = to _ h2 e (book.accepts h.pool h.cmds h.aborts h.accepted n s handle a f z)
move_kept h h2 (AsksAbort s n cmd u c a f e) t z = to _ h2 e (book.asks_abort h.pool h.cmds h.aborts h.accepted n s cmd c a f z)
move_kept h h2 (AsksTarget s address handle u r f e) t z = to _ h2 e (posted h s (Open (request.TargetReset address)) tt (beside_least h.cmds h.aborts h.accepted class.High h.pool s f z) z)
move_kept h h2 (Starts o e) t z = to _ h2 e z
move_kept h h2 (GivesUp s m e) t z = to _ h2 e z
move_kept h h2 (Anew g r m e) t z = to _ h2 e (book.all_anew h.accepted)
