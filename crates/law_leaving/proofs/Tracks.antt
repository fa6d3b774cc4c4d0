-- From which phase each handle came, after each call of the host on a reply.
use Rattle.std.proofs.Common.{◌≡◌, ℕ, ◌<◌, ◌≤◌, ◌==◌, cond, Bool, true, false, if◌then◌else◌, List, [], ◌∷◌, ◌++◌, length, Option, Some, None, refl, ap, sym, ◌∙◌, subst, length-set, arith}
use Rattle.std.specs.Prelude.{All}
use Rattle.std.specs.FinMap as finmap
use Rattle.std.proofs.lemmas.Bool.{eqb-true}
use Rattle.std.proofs.lemmas.List.Elements.{All-head}
use Rattle.smid_pool.specs.Pool.{Free, Open, Parked, Slot, least_free, slot_of}
use Rattle.smid_pool.specs.declared.class.Class.TheVariants as class
use Rattle.removal.specs.Handles.{IsHandle, phase_at, with_phase}
use Rattle.removal.specs.Phases.{after_gone, after_grant, after_page, after_removed, after_task_done}
use Rattle.removal.specs.declared.phase.Phase.{Phase}
use Rattle.removal.specs.declared.phase.Phase.TheVariants as phase
use Rattle.mpi_rings.specs.declared.request_descriptor.PostKind.TheVariants as post
use Rattle.mpt_wire.specs.Machine.Causes.{is_resetting}
use Rattle.mpt_wire.specs.Messages.Fields.{post_descriptor, smid_in}
use Rattle.mpt_trace.specs.declared.item.Down.{Down}
use Rattle.mpt_trace.specs.declared.item.Down.TheVariants as down
use Rattle.mpt_rules.specs.declared.request.Request.{Request}
use Rattle.mpt_rules.specs.declared.request.Request.TheVariants as request
use Rattle.mpt_rules.specs.Host.Parts.{Host}
use Rattle.mpt_rules.specs.Host.Posts as asks
use Rattle.mpt_rules.specs.Host.Removal as removal
use Rattle.mpt_rules.specs.Host.Replies as replies
use Rattle.mpt_rules.specs.Outcome.{Happening}
use Rattle.mpt_rules.specs.World.Counts.{one_if, post_count}
use Rattle.mpt_rules.proofs.Counts.{post_count-append, post_count-cons}
use Rattle.law_facts.specs.Handles.{IsWaiting}
use Rattle.law_flights.proofs.Descriptors.{smid_posted}
use Rattle.law_flights.proofs.Least.{least_is}
use Rattle.law_handles.proofs.Phased.{phase_at-with}
use Rattle.law_leaving.proofs.Steps.{CameFrom, done_from, granted_from, more_out, page_from, removed_from, same_phase}

-- a post counts in an outbox that it is put into
one_post : (s d : ℕ) (f p : List ℕ) (out : List Down) → smid_in d ≡ s → 1 ≤ post_count s (out ++ down.Post d f p ∷ [])
one_post s d f p out e =
    let a = post_count-append s out (down.Post d f p ∷ []) in let c = post_count-cons s (down.Post d f p) [] in
    let o : one_if (smid_in d == s) ≡ 1 = ap (λ n. one_if (n == s)) e ∙ own s in
    omega (arith, a, c, o)
  where
    own : (n : ℕ) → one_if (n == n) ≡ 1
    own n = grind arith

more_posts : (xs ys : List Down) (s : ℕ) → post_count s xs ≤ post_count s (xs ++ ys)
more_posts xs ys s = let a = post_count-append s xs ys in omega (arith, a)

-- an identifier of a class is none beyond the posts' field
least_low : (h : Host) (s : ℕ) → least_free class.High h.pool ≡ Some s → s < 65536
least_low h s e = let i = (least_is class.High h.pool s e).inside in omega (arith, i)

least_internal : (h : Host) (s : ℕ) → least_free class.Internal h.pool ≡ Some s → s < 65536
least_internal h s e = let i = (least_is class.Internal h.pool s e).inside in omega (arith, i)

-- each handle's phase came from the one that it had among these
pub record Tracks (hand : ℕ) (ps qs : List Phase) (out : List Down) : Type 0 where
  pub handles : length qs ≡ 64
  pub from : (g : ℕ) → IsHandle g → CameFrom hand out (phase_at ps g) (phase_at qs g)

pub unchanged : (hand : ℕ) (ps : List Phase) (out : List Down) → length ps ≡ 64 → Tracks hand ps ps out
unchanged hand ps out n = record { handles = n; from = λ g i. same_phase hand out (phase_at ps g) }

module _ (hand : ℕ) (ps : List Phase) where
  pub turned : (qs : List Phase) (out : List Down) (g0 : ℕ) (p : Phase) → IsHandle g0 → CameFrom hand out (phase_at ps g0) p → Tracks hand ps qs out → Tracks hand ps (with_phase qs g0 p) out
  turned qs out g0 p i e v =
      record {
        handles = length-set qs _ p ∙ v.handles;
        from = λ g j. by_key g j (g == g0) refl (phase_at-with qs g0 g p v.handles i j);
      }
    where
      by_key : (g : ℕ) → IsHandle g → (b : Bool) → (g == g0) ≡ b → phase_at (with_phase qs g0 p) g ≡ cond b p (phase_at qs g) → CameFrom hand out (phase_at ps g) (phase_at (with_phase qs g0 p) g)
      by_key g j true t k = subst (CameFrom hand out (phase_at ps g)) (sym k) (subst (λ n. CameFrom hand out (phase_at ps n) p) (sym (eqb-true g g0 t)) e)
      by_key g j false t k = subst (CameFrom hand out (phase_at ps g)) (sym k) (v.from g j)

  grown : (qs : List Phase) (out more : List Down) → Tracks hand ps qs out → Tracks hand ps qs (out ++ more)
  grown qs out more v = record { handles = v.handles; from = λ g i. more_out hand out (out ++ more) (more_posts out more) (phase_at ps g) (phase_at qs g) (v.from g i) }

  abbrev On : Host → Type 0
  On h = Tracks hand ps h.phases h.out

  -- ---- requests that go out

  granted : (h : Host) (s g d : ℕ) (f p : List ℕ) → IsHandle g → smid_in d ≡ s → On h → Tracks hand ps (with_phase h.phases g (after_grant (phase_at h.phases g) s)) (h.out ++ down.Post d f p ∷ [])
  granted h s g d f p i e v =
      let more : Tracks hand ps h.phases (h.out ++ down.Post d f p ∷ []) = grown h.phases h.out (down.Post d f p ∷ []) v in
      turned h.phases (h.out ++ down.Post d f p ∷ []) g (after_grant (phase_at h.phases g) s) i
      (granted_from hand (h.out ++ down.Post d f p ∷ []) (phase_at ps g) (phase_at h.phases g) s (one_post s d f p h.out e) (more.from g i)) more

  leave : (h : Host) (s g : ℕ) → s < 65536 → IsHandle g → On h → On (asks.posts_leave h s g)
  leave h s g l i v = granted h s g (post_descriptor post.HighPriority 0 s 0) _ [] i (smid_posted post.HighPriority 0 s 0 (omega arith) l) v

  pub asks_leave : (h : Host) (g : ℕ) → IsHandle g → On h → On (asks.asks_leave h g)
  asks_leave h g i v = by_free (least_free class.High h.pool) refl
    where
      by_free : (o : Option ℕ) → least_free class.High h.pool ≡ o → On (asks.posts_leave_or_waits h g o)
      by_free None e = v
      by_free (Some s) e = leave h s g (least_low h s e) i v

  internal : (h : Host) (s : ℕ) (r : Request) → s < 65536 → IsWaiting r → On h → On (asks.posts_internal h s r)
  internal h s (request.Page g) l i v = granted h s g (post_descriptor post.Default 0 s 0) _ [] i (smid_posted post.Default 0 s 0 (omega arith) l) v
  internal h s (request.Remove g) l i v = granted h s g (post_descriptor post.Default 0 s 0) _ [] i (smid_posted post.Default 0 s 0 (omega arith) l) v
  internal h s (request.Ack event context) l i v = grown h.phases h.out _ v
  internal h s request.Notification l i v = grown h.phases h.out _ v
  internal h s request.PortEnable l i v = grown h.phases h.out _ v
  internal h s (request.Command n) l i v = v
  internal h s (request.Abort n task) l i v = v
  internal h s (request.TargetReset address) l i v = v
  internal h s (request.Leave g) l i v = v

  pub asks_internal : (h : Host) (r : Request) → IsWaiting r → On h → On (asks.asks_internal h r)
  asks_internal h r i v = by_free (least_free class.Internal h.pool) refl
    where
      by_free : (o : Option ℕ) → least_free class.Internal h.pool ≡ o → On (asks.posts_internal_or_waits h r o)
      by_free None e = v
      by_free (Some s) e = internal h s r (least_internal h s e) i v

  frees_high : (h : Host) (s : ℕ) → s < 65536 → All IsHandle h.wait_high → On h → On (asks.frees_high h s)
  frees_high h s l a v = by_list h.wait_high a
    where
      by_list : (gs : List ℕ) → All IsHandle gs → On (asks.gives_high (asks.frees h s) s gs)
      by_list [] a = v
      by_list (g ∷ rest) a = leave (record (asks.frees h s) { wait_high = rest }) s g l (All-head IsHandle g rest a) v

  frees_internal : (h : Host) (s : ℕ) → s < 65536 → All IsWaiting h.wait_internal → On h → On (asks.frees_internal h s)
  frees_internal h s l a v = by_list h.wait_internal a
    where
      by_list : (rs : List Request) → All IsWaiting rs → On (asks.gives_internal (asks.frees h s) s rs)
      by_list [] a = v
      by_list (r ∷ rest) a = internal (record (asks.frees h s) { wait_internal = rest }) s r l (All-head IsWaiting r rest a) v

  -- ---- replies with an identifier

  unless : (h : Host) (s : ℕ) (o : Happening Host) → is_resetting h.mode ≡ false → On o.part → On (replies.unless_resetting h s o).part
  unless h s o m v = subst (λ b. On (if b then removal.quietly (asks.frees h s) else o).part) (sym m) v

  -- a record's handle is a disk's
  abbrev pub NamesDisk : Request → Type 0
  NamesDisk (request.Leave g) = IsHandle g
  NamesDisk (request.Remove g) = IsHandle g
  NamesDisk (request.Page g) = IsHandle g
  NamesDisk r = Unit {0}

  module _ (h : Host) (low : hand < 65536) (highs : All IsHandle h.wait_high) (internals : All IsWaiting h.wait_internal) (m : is_resetting h.mode ≡ false) (same : h.phases ≡ ps) (v : On h) where
    unparked : (x : Slot Request) (task : ℕ) (j : Host) → All IsHandle j.wait_high → On j → On (asks.frees_high (replies.unparks j task x) hand)
    unparked Free task j a k = frees_high j hand low a k
    unparked (Open r) task j a k = frees_high j hand low a k
    unparked Parked task j a k = frees_high (asks.frees j task) hand low a k

    -- the handle's phase is changed by the reply
    changed : (g : ℕ) (p : Phase) → IsHandle g → CameFrom hand h.out (phase_at h.phases g) p → On (removal.with_phase_of h g p)
    changed g p i c = turned h.phases h.out g p i (subst (λ xs. CameFrom hand h.out (phase_at xs g) p) same c) v

    pub answer : (r : Request) (x : replies.Heard) → NamesDisk r → On (replies.hears_answer h hand r x).part
    answer (request.Command n) x i = v
    answer (request.Abort n task) x i = unparked (slot_of h.pool task) task (record h { aborts = finmap.remove h.aborts n }) highs v
    answer (request.TargetReset address) x i = frees_high h hand low highs v
    answer (request.Leave g) x i = unless h hand (removal.quietly (removal.left h hand g)) m (by_under (removal.is_reset_under hand (phase_at h.phases g)))
      where
        freed : On (asks.frees_high (removal.with_phase_of h g (after_task_done (phase_at h.phases g) hand)) hand)
        freed = frees_high (removal.with_phase_of h g (after_task_done (phase_at h.phases g) hand)) hand low highs (changed g (after_task_done (phase_at h.phases g) hand) i (done_from hand h.out (phase_at h.phases g)))

        by_under : (b : Bool)
            → On (if b then asks.asks_internal (asks.frees_high (removal.with_phase_of h g (after_task_done (phase_at h.phases g) hand)) hand) (request.Remove g) else asks.frees_high (removal.with_phase_of h g (after_task_done (phase_at h.phases g) hand)) hand)
        by_under true = asks_internal (asks.frees_high (removal.with_phase_of h g (after_task_done (phase_at h.phases g) hand)) hand) (request.Remove g) i freed
        by_under false = freed
    answer (request.Page g) x i =
        let o : Option ℕ = replies.address_read (replies.reply_bytes x) x.page in
        unless h hand (removal.reads_page h hand g o) m
        (frees_internal (removal.with_phase_of h g (after_page (phase_at h.phases g) hand o)) hand low internals (changed g (after_page (phase_at h.phases g) hand o) i (page_from hand h.out (phase_at h.phases g) o)))
    answer (request.Remove g) x i =
        unless h hand (removal.quietly (removal.removed h hand g)) m
        (frees_internal (removal.with_phase_of h g (after_removed (phase_at h.phases g) hand)) hand low internals (changed g (after_removed (phase_at h.phases g) hand) i (removed_from hand h.out (phase_at h.phases g))))
    answer (request.Ack event context) x i = unless h hand (removal.quietly (asks.frees_internal h hand)) m (frees_internal h hand low internals v)
    answer request.Notification x i = unless h hand (removal.quietly (replies.hears_notified h hand)) m (asks_internal (asks.frees_internal h hand) request.PortEnable tt (frees_internal h hand low internals v))
    answer request.PortEnable x i = unless h hand (replies.after_port_enable h hand) m (frees_internal h hand low internals v)

-- ---- an event: the one change of it, at a host whose acknowledgement is asked

module _ (h : Host) (g : ℕ) (handle : IsHandle g) (sized : length h.phases ≡ 64) where
  is_disk : removal.is_disk_handle g ≡ true
  is_disk = let a = handle.0 in let b = handle.1 in grind (arith, a, b)

  -- the phases with which the change begins
  abbrev pub begun_with : Phase → List Phase
  begun_with p = with_phase h.phases g p

  added : (p : Phase) → removal.is_absent p ≡ true → Tracks 0 (begun_with phase.WaitRead) (removal.after_handle_added h g p).phases (removal.after_handle_added h g p).out
  added phase.Absent t = asks_internal 0 (begun_with phase.WaitRead) (removal.with_phase_of h g phase.WaitRead) (request.Page g) handle (unchanged 0 (begun_with phase.WaitRead) h.out (length-set h.phases _ phase.WaitRead ∙ sized))
  added phase.WaitRead t = absurd (cc)
  added (phase.Reading s) t = absurd (cc)
  added (phase.Ready a) t = absurd (cc)
  added phase.WaitHigh t = absurd (cc)
  added (phase.Resetting s) t = absurd (cc)
  added phase.WaitInternal t = absurd (cc)
  added (phase.Removing s) t = absurd (cc)

  begins : (p : Phase) → after_gone p ≡ phase.WaitHigh → Tracks 0 (begun_with phase.WaitHigh) (removal.begins_removal h g p).part.phases (removal.begins_removal h g p).part.out
  begins p e =
      asks_leave 0 (begun_with phase.WaitHigh) (record h { phases = with_phase h.phases g (after_gone p); wait_internal = removal.without_page g h.wait_internal }) g handle
      (subst (λ q. Tracks 0 (begun_with phase.WaitHigh) (with_phase h.phases g q) h.out) (sym e) (unchanged 0 (begun_with phase.WaitHigh) h.out (length-set h.phases _ phase.WaitHigh ∙ sized)))

  -- where it leads to, by the phase that the handle had
  abbrev pub AfterGone : Phase → Host → Type 0
  AfterGone phase.WaitRead k = Tracks 0 (begun_with phase.WaitHigh) k.phases k.out
  AfterGone (phase.Reading s) k = Tracks 0 (begun_with phase.WaitHigh) k.phases k.out
  AfterGone (phase.Ready a) k = Tracks 0 (begun_with phase.WaitHigh) k.phases k.out
  AfterGone p k = Tracks 0 h.phases k.phases k.out

  lost : (p : Phase) → AfterGone p (removal.after_handle_lost h g p).part
  lost phase.WaitRead = begins phase.WaitRead refl
  lost (phase.Reading s) = begins (phase.Reading s) refl
  lost (phase.Ready a) = begins (phase.Ready a) refl
  lost phase.Absent = unchanged 0 h.phases h.out sized
  lost phase.WaitHigh = unchanged 0 h.phases h.out sized
  lost (phase.Resetting s) = unchanged 0 h.phases h.out sized
  lost phase.WaitInternal = unchanged 0 h.phases h.out sized
  lost (phase.Removing s) = unchanged 0 h.phases h.out sized

  -- a change that adds finds the handle absent
  pub adds : removal.is_absent (phase_at h.phases g) ≡ true
      → Tracks 0 (begun_with phase.WaitRead) (removal.hears_change h (record { handle = g; status = 1 })).part.phases (removal.hears_change h (record { handle = g; status = 1 })).part.out
  adds a = subst (λ b. (k : Host) → k ≡ (if b then removal.hears_status h g 1 else removal.quietly h).part → Tracks 0 (begun_with phase.WaitRead) k.phases k.out) (sym is_disk)
      (λ k e. subst (λ (x : Host). Tracks 0 (begun_with phase.WaitRead) x.phases x.out) (sym e) (added (phase_at h.phases g) a)) (removal.hears_change h (record { handle = g; status = 1 })).part refl

  pub loses : AfterGone (phase_at h.phases g) (removal.hears_change h (record { handle = g; status = 2 })).part
  loses = subst (λ b. (k : Host) → k ≡ (if b then removal.hears_status h g 2 else removal.quietly h).part → AfterGone (phase_at h.phases g) k) (sym is_disk)
      (λ k e. subst (AfterGone (phase_at h.phases g)) (sym e) (lost (phase_at h.phases g))) (removal.hears_change h (record { handle = g; status = 2 })).part refl
