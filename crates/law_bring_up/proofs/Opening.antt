-- What a host does away from the doorbell to the start's two requests: it opens no event notification, and a port enable only where it may.
use Rattle.std.proofs.Common.{◌≡◌, ◌≢◌, ℕ, zero, suc, ◌+◌, ◌-◌, ◌%◌, ◌<◌, ◌≤◌, ◌==◌, ◌⊎◌, inl, inr, not, cond, Bool, true, false, List, [], ◌∷◌, ◌++◌, get_or, length, length-set, mod-lt, set, Option, Some, None, refl, ap, sym, ◌∙◌, subst, arith}
use Rattle.std.specs.Prelude.{All}
use Rattle.std.specs.FinMap as finmap
use Rattle.std.specs.List.{filter}
use Rattle.std.proofs.lemmas.Bool.{eqb-true}
use Rattle.std.proofs.lemmas.List.Elements.{All-append, All-cons, All-head, All-nil, All-tail}
use Rattle.smid_pool.specs.Pool.{Free, Open, Slot, slot_of}
use Rattle.smid_pool.specs.declared.class.Class.TheVariants as class
use Rattle.mpi_doorbell.specs.HostDoor.{HostDoor}
use Rattle.mpi_rings.specs.declared.request_descriptor.PostKind.TheVariants as post
use Rattle.mpt_wire.specs.Messages.Fields.{post_descriptor, smid_in, target_reset}
use Rattle.mpt_trace.specs.declared.host_state.HostState.{HostState}
use Rattle.mpt_trace.specs.declared.item.Down.{Down}
use Rattle.mpt_trace.specs.declared.item.Down.TheVariants as down
use Rattle.mpt_rules.specs.declared.post.Post.{Post}
use Rattle.mpt_rules.specs.declared.request.Request.{Request}
use Rattle.mpt_rules.specs.declared.request.Request.TheVariants as request
use Rattle.mpt_rules.specs.Host.Parts.{Host}
use Rattle.mpt_rules.specs.Host.Posts as asks
use Rattle.mpt_rules.specs.World.Counts.{how_many, one_if, queued_count}
use Rattle.mpt_rules.specs.World.Lines.{is_high, normal_post, normal_posts}
use Rattle.mpt_rules.proofs.Counts.{how_many-append, queued_count-append, queued_count-cons, queued_count-nil}
use Rattle.mpt_rules.proofs.Lines.{normal_posts-append, normal_posts-cons, normal_posts-nil}
use Rattle.law_facts.specs.Messages.{is_enable_waiting}
use Rattle.law_facts.specs.Words.{is_enable_asked, is_notification_asked}
use Rattle.law_flights.proofs.Descriptors.{kind_posted, smid_posted}
use Rattle.law_flights.proofs.HostHolds.{in_table, slot_of-set}
use Rattle.law_flights.proofs.HostMoves.{AskedInternal, AskedLeave, FreedHigh, FreedInternal, FreesHigh, FreesInternal, GivesHigh, GivesInternal, Leaves, Posts, WaitsHigh, WaitsInternal}
use Rattle.law_flights.proofs.KnownOnce.{count_set}
use Rattle.law_flights.proofs.Least.{least_is}
use Rattle.law_moves.proofs.Counted.{how_many-cons, how_many-nil}
use Rattle.law_classes.specs.Made.{IsNoNotification}
use Rattle.law_classes.proofs.FirstMoves.{written}

-- ---- counts

-- one of the two
abbrev pub weight : Slot Request → ℕ
weight x = one_if (is_notification_asked x) + one_if (is_enable_asked x)

-- the two that are open, and port enables that wait
abbrev pub asked_in : List (Slot Request) → List Request → ℕ
asked_in pool wait = how_many is_notification_asked pool + (how_many is_enable_asked pool + how_many is_enable_waiting wait)

pub place_of : (pool : List (Slot Request)) (s : ℕ) → 1 ≤ s → get_or pool (s - 1) Free ≡ slot_of pool s
place_of pool zero l = absurd (omega (arith, l))
place_of pool (suc s) l = let e : suc s - 1 ≡ s = omega arith in ap (λ j. get_or pool j Free) e

pub written_count : (pool : List (Slot Request)) (wait : List Request) (p : ℕ) (y : Slot Request) → 1 ≤ p → p - 1 < length pool → asked_in (set pool (p - 1) y) wait + weight (slot_of pool p) ≡ asked_in pool wait + weight y
written_count pool wait p y l m =
    let a = count_set is_notification_asked pool (p - 1) y Free m in
    let b = count_set is_enable_asked pool (p - 1) y Free m in
    let e = ap (λ x. one_if (is_notification_asked x)) (place_of pool p l) in
    let f = ap (λ x. one_if (is_enable_asked x)) (place_of pool p l) in
    omega (arith, a, b, e, f)

-- the posts of the normal queue under an identifier
unfoldable pub normal_count : ℕ → List Down → ℕ
normal_count s items = queued_count s (normal_posts items)

pub normal_count-is : (s : ℕ) (xs : List Down) → normal_count s xs ≡ queued_count s (normal_posts xs)
unfolding normal_count
normal_count-is s xs = refl

pub normal_count-append : (s : ℕ) (xs ys : List Down) → normal_count s (xs ++ ys) ≡ normal_count s xs + normal_count s ys
unfolding normal_count
normal_count-append s xs ys = ap (queued_count s) (normal_posts-append xs ys) ∙ queued_count-append s (normal_posts xs) (normal_posts ys)

-- an item alone
pub normal_count-one : (s : ℕ) (x : Down) → normal_count s (x ∷ []) ≡ queued_count s (Rattle.std.specs.List.cons_option (normal_post x) [])
unfolding normal_count
normal_count-one s x = ap (queued_count s) (normal_posts-cons x [] ∙ ap (Rattle.std.specs.List.cons_option (normal_post x)) normal_posts-nil)

pub post_count-low : (s d : ℕ) (f p : List ℕ) → is_high d ≡ false → normal_count s (down.Post d f p ∷ []) ≡ one_if (smid_in d == s)
post_count-low s d f p e =
    let x : Post = record { descriptor = d; frame = f; payload = p } in
    let a = normal_count-one s (down.Post d f p) ∙ ap (λ c. queued_count s (Rattle.std.specs.List.cons_option (Rattle.std.proofs.Common.cond c None (Some x)) [])) e in
    let c = queued_count-cons s x [] in let n = queued_count-nil s in
    omega (arith, a, c, n)

pub post_count-few : (s d : ℕ) (f p : List ℕ) → normal_count s (down.Post d f p ∷ []) ≤ one_if (smid_in d == s)
post_count-few s d f p = by_test (is_high d) refl
  where
    by_test : (c : Bool) → is_high d ≡ c → normal_count s (down.Post d f p ∷ []) ≤ one_if (smid_in d == s)
    by_test false e = let a = post_count-low s d f p e in omega (arith, a)
    by_test true e =
        let x : Post = record { descriptor = d; frame = f; payload = p } in
        let a = normal_count-one s (down.Post d f p) ∙ ap (λ c. queued_count s (Rattle.std.specs.List.cons_option (Rattle.std.proofs.Common.cond c None (Some x)) [])) e in
        let n = queued_count-nil s in omega (arith, a, n)

-- what isn't a post
abbrev pub IsNoPost : Down → Type 0
IsNoPost (down.Post d f p) = ⊥
IsNoPost _ = Unit {0}

pub no_post : (s : ℕ) (x : Down) → IsNoPost x → normal_count s (x ∷ []) ≡ 0
no_post s (down.Post d f p) n = absurd n
no_post s (down.Write reg value) n = normal_count-one s (down.Write reg value) ∙ queued_count-nil s
no_post s (down.Read reg) n = normal_count-one s (down.Read reg) ∙ queued_count-nil s
no_post s (down.Return a i) n = normal_count-one s (down.Return a i) ∙ queued_count-nil s
no_post s down.Stop n = normal_count-one s down.Stop ∙ queued_count-nil s

other_is : (a b : ℕ) → a ≢ b → one_if (a == b) ≡ 0
other_is a b d = by_test (a == b) refl
  where
    by_test : (c : Bool) → (a == b) ≡ c → one_if c ≡ 0
    by_test true e = absurd (d (eqb-true a b e))
    by_test false e = refl

same_true : (a : ℕ) → (a == a) ≡ true
same_true a = grind arith

same_is : (a : ℕ) → one_if (a == a) ≡ 1
same_is a = ap one_if (same_true a)

-- ---- what stands along the way

module _ (h0 : Host) (A : Type 0) where
  -- an open port enable was so before, with its post; or it may be, and its post is there
  abbrev pub Enabling : ℕ → List Down → Type 0
  Enabling s out = ((slot_of h0.pool s ≡ Open request.PortEnable) × (normal_count s out ≡ normal_count s h0.out)) ⊎ (A × (1 ≤ normal_count s out))

  pub record HeldAt (k : ℕ) (m mode : HostState) (pool : List (Slot Request)) (wait : List Request) (out : List Down) (machine : Option HostDoor) (asked : ℕ) (indices : List ℕ) : Type 0 where
    pub table : length pool ≡ 280
    pub plain : All IsNoNotification wait
    pub count : asked_in pool wait ≡ k
    pub notified : (s : ℕ) → slot_of pool s ≡ Open request.Notification → slot_of h0.pool s ≡ Open request.Notification
    pub enabling : (s : ℕ) → slot_of pool s ≡ Open request.PortEnable → Enabling s out
    pub waiting : 1 ≤ how_many is_enable_waiting wait → A
    pub mode_is : mode ≡ m
    pub machine_is : machine ≡ h0.machine
    pub asked_is : asked ≡ h0.asked
    pub queues : length indices ≡ length h0.indices

  abbrev pub Held : ℕ → HostState → Host → Type 0
  Held k m x = HeldAt k m x.mode x.pool x.wait_internal x.out x.machine x.asked x.indices

  more_enabling : (s : ℕ) (out : List Down) (y : Down) → normal_count s (y ∷ []) ≡ 0 → Enabling s out → Enabling s (out ++ y ∷ [])
  more_enabling s out y z (inl e) = let a = normal_count-append s out (y ∷ []) in let g = e.1 in inl (e.0, omega (arith, a, z, g))
  more_enabling s out y z (inr e) = let a = normal_count-append s out (y ∷ []) in let g = e.1 in inr (e.0, omega (arith, a, g))

  -- an item that is no post of such an identifier
  pub item : (k : ℕ) (m : HostState) (x : Host) (y : Down) → ((s : ℕ) → slot_of x.pool s ≡ Open request.PortEnable → normal_count s (y ∷ []) ≡ 0) → Held k m x → Held k m (record x { out = x.out ++ y ∷ [] })
  item k m x y z a =
      record {
        table = a.table;
        plain = a.plain;
        count = a.count;
        notified = a.notified;
        enabling = λ s e. more_enabling s x.out y (z s e) (a.enabling s e);
        waiting = a.waiting;
        mode_is = a.mode_is;
        machine_is = a.machine_is;
        asked_is = a.asked_is;
        queues = a.queues;
      }

  pub plain_item : (k : ℕ) (m : HostState) (x : Host) (y : Down) → IsNoPost y → Held k m x → Held k m (record x { out = x.out ++ y ∷ [] })
  plain_item k m x y n a = item k m x y (λ s e. no_post s y n) a

  -- neither of the two
  pub record IsOther (y : Slot Request) : Type 0 where
    pub notified : y ≡ Open request.Notification → ⊥
    pub enabled : y ≡ Open request.PortEnable → ⊥
    pub light : weight y ≡ 0

  -- another slot is written
  pub writes : (k k2 : ℕ) (m : HostState) (x : Host) (p : ℕ) (y : Slot Request) → 1 ≤ p → p ≤ 280 → IsOther y → k2 + weight (slot_of x.pool p) ≡ k → Held k m x → Held k2 m (record x { pool = set x.pool (p - 1) y })
  writes k k2 m x p y l n o e a =
      record {
        table = length-set x.pool (p - 1) y ∙ a.table;
        plain = a.plain;
        count = let t = a.table in let w = written_count x.pool x.wait_internal p y l (omega (arith, l, n, t)) in let c = a.count in let i = o.light in omega (arith, w, c, i, e);
        notified = λ s g. by_note s g (written x.pool (p - 1) s y);
        enabling = λ s g. by_enable s g (written x.pool (p - 1) s y);
        waiting = a.waiting;
        mode_is = a.mode_is;
        machine_is = a.machine_is;
        asked_is = a.asked_is;
        queues = a.queues;
      }
    where
      by_note : (s : ℕ) → slot_of (set x.pool (p - 1) y) s ≡ Open request.Notification → (slot_of (set x.pool (p - 1) y) s ≡ slot_of x.pool s) ⊎ ((s ≡ suc (p - 1)) × (slot_of (set x.pool (p - 1) y) s ≡ y)) → slot_of h0.pool s ≡ Open request.Notification
      by_note s g (inl q) = a.notified s (sym q ∙ g)
      by_note s g (inr q) = absurd (o.notified (sym q.1 ∙ g))

      by_enable : (s : ℕ) → slot_of (set x.pool (p - 1) y) s ≡ Open request.PortEnable → (slot_of (set x.pool (p - 1) y) s ≡ slot_of x.pool s) ⊎ ((s ≡ suc (p - 1)) × (slot_of (set x.pool (p - 1) y) s ≡ y)) → Enabling s x.out
      by_enable s g (inl q) = a.enabling s (sym q ∙ g)
      by_enable s g (inr q) = absurd (o.enabled (sym q.1 ∙ g))

  -- a request that is neither is posted under an identifier that was free
  free_light : (pool : List (Slot Request)) (p : ℕ) → slot_of pool p ≡ Free → weight (slot_of pool p) ≡ 0
  free_light pool p e = ap weight e

  pub posts : (k : ℕ) (m : HostState) (x : Host) (p d : ℕ) (r : Request) (f pl : List ℕ) → 1 ≤ p → p ≤ 280 → IsOther (Open r) → slot_of x.pool p ≡ Free → smid_in d ≡ p → Held k m x → Held k m (record x { pool = set x.pool (p - 1) (Open r); out = x.out ++ down.Post d f pl ∷ [] })
  posts k m x p d r f pl l n o e q a =
      let z = free_light x.pool p e in
      item k m (record x { pool = set x.pool (p - 1) (Open r) }) (down.Post d f pl) apart (writes k k m x p (Open r) l n o (omega (arith, z)) a)
    where
      here : slot_of (set x.pool (p - 1) (Open r)) p ≡ Open r
      here = let t = a.table in slot_of-set x.pool p p (Open r) l (omega (arith, l, n, t)) ∙ ap (λ c. cond c (Open r) (slot_of x.pool p)) (same_true p)

      apart : (s : ℕ) → slot_of (set x.pool (p - 1) (Open r)) s ≡ Open request.PortEnable → normal_count s (down.Post d f pl ∷ []) ≡ 0
      apart s g =
          let few = post_count-few s d f pl in
          let z = other_is (smid_in d) s (λ u. o.enabled (sym here ∙ (ap (slot_of (set x.pool (p - 1) (Open r))) (sym q ∙ u) ∙ g))) in
          omega (arith, few, z)

  -- a port enable is
  pub enables : (k : ℕ) (m : HostState) (x : Host) (p d : ℕ) (f pl : List ℕ) → A → 1 ≤ p → p ≤ 280 → slot_of x.pool p ≡ Free → smid_in d ≡ p → is_high d ≡ false → Held k m x
      → Held (k + 1) m (record x { pool = set x.pool (p - 1) (Open request.PortEnable); out = x.out ++ down.Post d f pl ∷ [] })
  enables k m x p d f pl may l n e q b a =
      record {
        table = length-set x.pool (p - 1) (Open request.PortEnable) ∙ a.table;
        plain = a.plain;
        count = let t = a.table in let w = written_count x.pool x.wait_internal p (Open request.PortEnable) l (omega (arith, l, n, t)) in let c = a.count in let z = free_light x.pool p e in omega (arith, w, c, z);
        notified = λ s g. by_note s g (written x.pool (p - 1) s (Open request.PortEnable));
        enabling = λ s g. by_key s g (s == p) refl;
        waiting = a.waiting;
        mode_is = a.mode_is;
        machine_is = a.machine_is;
        asked_is = a.asked_is;
        queues = a.queues;
      }
    where
      by_note : (s : ℕ) → slot_of (set x.pool (p - 1) (Open request.PortEnable)) s ≡ Open request.Notification
          → (slot_of (set x.pool (p - 1) (Open request.PortEnable)) s ≡ slot_of x.pool s) ⊎ ((s ≡ suc (p - 1)) × (slot_of (set x.pool (p - 1) (Open request.PortEnable)) s ≡ Open request.PortEnable)) → slot_of h0.pool s ≡ Open request.Notification
      by_note s g (inl u) = a.notified s (sym u ∙ g)
      by_note s g (inr u) = let c : Open request.PortEnable ≡ Open request.Notification = sym u.1 ∙ g in absurd (cc)

      posted : (s : ℕ) → normal_count s (down.Post d f pl ∷ []) ≡ one_if (p == s)
      posted s = post_count-low s d f pl b ∙ ap (λ j. one_if (j == s)) q

      by_key : (s : ℕ) → slot_of (set x.pool (p - 1) (Open request.PortEnable)) s ≡ Open request.PortEnable → (c : Bool) → (s == p) ≡ c → Enabling s (x.out ++ down.Post d f pl ∷ [])
      by_key s g true t =
          let u = eqb-true s p t in let c = normal_count-append s x.out (down.Post d f pl ∷ []) in let o = posted s in
          let i : one_if (p == s) ≡ 1 = ap (λ j. one_if (p == j)) u ∙ same_is p in
          inr (may, omega (arith, c, o, i))
      by_key s g false t =
          let t2 = a.table in
          let u : slot_of (set x.pool (p - 1) (Open request.PortEnable)) s ≡ slot_of x.pool s = slot_of-set x.pool p s (Open request.PortEnable) l (omega (arith, l, n, t2)) ∙ ap (λ c. cond c (Open request.PortEnable) (slot_of x.pool s)) t in
          let i = other_is p s (λ j. contrary (s == p) t (grind (arith, j))) in let o = posted s in
          more_enabling s x.out (down.Post d f pl) (omega (arith, o, i)) (a.enabling s (sym u ∙ g))
        where
          contrary : (c : Bool) → c ≡ false → c ≡ true → ⊥
          contrary true e f = cc
          contrary false e f = cc

  -- ---- requests of the internal class

  pub recount : (k k2 : ℕ) (m : HostState) (x : Host) → k ≡ k2 → Held k m x → Held k2 m x
  recount k k2 m x e a = subst (λ j. Held j m x) e a

  default_smid : (s : ℕ) → s ≤ 280 → smid_in (post_descriptor post.Default 0 s 0) ≡ s
  default_smid s l = smid_posted post.Default 0 s 0 (omega arith) (omega (arith, l))

  default_low : (s : ℕ) → s ≤ 280 → is_high (post_descriptor post.Default 0 s 0) ≡ false
  default_low s l = by_test (is_high (post_descriptor post.Default 0 s 0)) refl
    where
      by_test : (c : Bool) → is_high (post_descriptor post.Default 0 s 0) ≡ c → c ≡ false
      by_test false e = refl
      by_test true e =
          let k = kind_posted post.Default 0 s 0 (omega arith) (omega (arith, l)) in
          let q : 8 ≡ 6 = sym (flags s l) ∙ eqb-true _ _ e in absurd (omega (arith, q))
        where
          flags : (s : ℕ) → s ≤ 280 → Rattle.mpt_wire.specs.Messages.Fields.flags_in (post_descriptor post.Default 0 s 0) ≡ 8
          flags s l = omega (arith, l)

  pub internal : (k : ℕ) (m : HostState) (x : Host) (s : ℕ) (r : Request) → (1 ≤ s) × (s ≤ 280) → slot_of x.pool s ≡ Free → IsNoNotification r → (is_enable_waiting r ≡ true → A) → Held k m x → Held (k + one_if (is_enable_waiting r)) m (asks.posts_internal x s r)
  internal k m x s (request.Page handle) i e n may a = recount k (k + 0) m (asks.posts_internal x s (request.Page handle)) (omega arith) (posts k m (asks.grants x handle s) s (post_descriptor post.Default 0 s 0) (request.Page handle) _ [] (omega (arith, i)) (omega (arith, i)) (record { notified = λ g. cc; enabled = λ g. cc; light = refl }) e (default_smid s (omega (arith, i))) a)
  internal k m x s (request.Remove handle) i e n may a = recount k (k + 0) m (asks.posts_internal x s (request.Remove handle)) (omega arith) (posts k m (asks.grants x handle s) s (post_descriptor post.Default 0 s 0) (request.Remove handle) _ [] (omega (arith, i)) (omega (arith, i)) (record { notified = λ g. cc; enabled = λ g. cc; light = refl }) e (default_smid s (omega (arith, i))) a)
  internal k m x s (request.Ack event context) i e n may a = recount k (k + 0) m (asks.posts_internal x s (request.Ack event context)) (omega arith) (posts k m x s (post_descriptor post.Default 0 s 0) (request.Ack event context) _ [] (omega (arith, i)) (omega (arith, i)) (record { notified = λ g. cc; enabled = λ g. cc; light = refl }) e (default_smid s (omega (arith, i))) a)
  internal k m x s request.Notification i e n may a = absurd n
  internal k m x s request.PortEnable i e n may a = enables k m x s (post_descriptor post.Default 0 s 0) _ [] (may refl) (omega (arith, i)) (omega (arith, i)) e (default_smid s (omega (arith, i))) (default_low s (omega (arith, i))) a
  internal k m x s (request.Command c) i e n may a = recount k (k + 0) m x (omega arith) a
  internal k m x s (request.Abort c task) i e n may a = recount k (k + 0) m x (omega arith) a
  internal k m x s (request.TargetReset address) i e n may a = recount k (k + 0) m x (omega arith) a
  internal k m x s (request.Leave handle) i e n may a = recount k (k + 0) m x (omega arith) a

  pub to : (k : ℕ) (m : HostState) (x y : Host) → y ≡ x → Held k m x → Held k m y
  to k m x y e a = subst (Held k m) (sym e) a

  pub asked : (k : ℕ) (m : HostState) (r : Request) (x y : Host) → AskedInternal r x y → IsNoNotification r → (is_enable_waiting r ≡ true → A) → Held k m x → Held (k + one_if (is_enable_waiting r)) m y
  asked k m r x y (Posts s f e) n may a = let l = least_is class.Internal x.pool s f in to (k + one_if (is_enable_waiting r)) m _ y e (internal k m x s r (let i = l.inside in (omega (arith, i), omega (arith, i))) l.free n may a)
  asked k m r x y (WaitsInternal f e) n may a =
      to (k + one_if (is_enable_waiting r)) m _ y e
      (record {
        table = a.table;
        plain = All-append IsNoNotification x.wait_internal (r ∷ []) a.plain (All-cons IsNoNotification r [] n (All-nil IsNoNotification));
        count = let c = a.count in let w = counted in omega (arith, c, w);
        notified = a.notified;
        enabling = a.enabling;
        waiting = λ l. by_test (is_enable_waiting r) refl l;
        mode_is = a.mode_is;
        machine_is = a.machine_is;
        asked_is = a.asked_is;
        queues = a.queues;
      })
    where
      counted : how_many is_enable_waiting (x.wait_internal ++ r ∷ []) ≡ how_many is_enable_waiting x.wait_internal + one_if (is_enable_waiting r)
      counted = let p = how_many-append is_enable_waiting x.wait_internal (r ∷ []) in let c = how_many-cons is_enable_waiting r [] in let z = how_many-nil is_enable_waiting in omega (arith, p, c, z)

      by_test : (b : Bool) → is_enable_waiting r ≡ b → 1 ≤ how_many is_enable_waiting (x.wait_internal ++ r ∷ []) → A
      by_test true t l = may t
      by_test false t l = let c = counted in let o : one_if (is_enable_waiting r) ≡ 0 = ap one_if t in a.waiting (omega (arith, c, o, l))

  -- one that is neither leaves the count
  pub asked_other : (k : ℕ) (m : HostState) (r : Request) (x y : Host) → AskedInternal r x y → IsNoNotification r → is_enable_waiting r ≡ false → Held k m x → Held k m y
  asked_other k m r x y g n o a = recount (k + one_if (is_enable_waiting r)) k m y (let z : one_if (is_enable_waiting r) ≡ 0 = ap one_if o in omega (arith, z)) (asked k m r x y g n (λ t. contrary (is_enable_waiting r) o t) a)
    where
      contrary : (c : Bool) → c ≡ false → c ≡ true → A
      contrary true e f = absurd (cc)
      contrary false e f = absurd (cc)

  -- ---- task management

  pub high_smid : (s : ℕ) → s ≤ 280 → smid_in (post_descriptor post.HighPriority 0 s 0) ≡ s
  high_smid s l = smid_posted post.HighPriority 0 s 0 (omega arith) (omega (arith, l))

  pub leaves : (k : ℕ) (m : HostState) (x : Host) (s handle : ℕ) → (1 ≤ s) × (s ≤ 280) → slot_of x.pool s ≡ Free → Held k m x → Held k m (asks.posts_leave x s handle)
  leaves k m x s handle i e a = posts k m (asks.grants x handle s) s (post_descriptor post.HighPriority 0 s 0) (request.Leave handle) _ [] (omega (arith, i)) (omega (arith, i)) (record { notified = λ g. cc; enabled = λ g. cc; light = refl }) e (high_smid s (omega (arith, i))) a

  pub asked_leave : (k : ℕ) (m : HostState) (handle : ℕ) (x y : Host) → AskedLeave handle x y → Held k m x → Held k m y
  asked_leave k m handle x y (Leaves s f e) a = let l = least_is class.High x.pool s f in to k m _ y e (leaves k m x s handle (let i = l.inside in (omega (arith, i), omega (arith, i))) l.free a)
  asked_leave k m handle x y (WaitsHigh f e) a = to k m (record x { wait_high = x.wait_high ++ handle ∷ [] }) y e a

  -- ---- an identifier that is freed, and given on

  pub is_free : IsOther Free
  is_free = record { notified = λ g. cc; enabled = λ g. cc; light = refl }

  module _ (x : Host) (s : ℕ) (r : Request) (o : slot_of x.pool s ≡ Open r) where
    open_apart : Open r ≢ Free
    open_apart e = cc

    pub inside : (m : HostState) (k : ℕ) → Held k m x → (1 ≤ s) × (s ≤ 280)
    inside m k a = let i = in_table x.pool s (Open r) o open_apart in let t = a.table in (i.0, omega (arith, i, t))

    pub weighs : (k : ℕ) (m : HostState) → Held k m x → weight (Open r) ≤ k
    weighs k m a =
        let i = inside m k a in let t = a.table in let w = written_count x.pool x.wait_internal s Free i.0 (omega (arith, i, t)) in
        let z = ap weight o in let c = a.count in omega (arith, w, z, c)

    pub freed : (k k2 : ℕ) (m : HostState) → k2 + weight (Open r) ≡ k → Held k m x → Held k2 m (asks.frees x s)
    freed k k2 m e a = let i = inside m k a in let z = ap weight o in writes k k2 m x s Free i.0 i.1 is_free (omega (arith, e, z)) a

    freed_is : (k : ℕ) (m : HostState) → Held k m x → slot_of (set x.pool (s - 1) Free) s ≡ Free
    freed_is k m a = let i = inside m k a in let t = a.table in slot_of-set x.pool s s Free i.0 (omega (arith, i, t)) ∙ ap (λ c. cond c Free (slot_of x.pool s)) (same_true s)

    pub freed_high : (k : ℕ) (m : HostState) (y : Host) → weight (Open r) ≡ 0 → FreedHigh s x y → Held k m x → Held k m y
    freed_high k m y z (FreesHigh w e) a = to k m _ y e (freed k k m (omega (arith, z)) a)
    freed_high k m y z (GivesHigh handle rest w e) a =
        to k m _ y e (leaves k m (record (asks.frees x s) { wait_high = rest }) s handle (inside m k a) (freed_is k m a) (freed k k m (omega (arith, z)) a))

    pub freed_internal : (k k2 : ℕ) (m : HostState) (y : Host) → k2 + weight (Open r) ≡ k → FreedInternal s x y → Held k m x → Held k2 m y
    freed_internal k k2 m y z (FreesInternal w e) a = to k2 m _ y e (freed k k2 m z a)
    freed_internal k k2 m y z (GivesInternal r2 rest w e) a = by_request (is_enable_waiting r2) refl
      where
        all : All IsNoNotification (r2 ∷ rest)
        all = subst (All IsNoNotification) w a.plain

        lists : how_many is_enable_waiting x.wait_internal ≡ one_if (is_enable_waiting r2) + how_many is_enable_waiting rest
        lists = ap (how_many is_enable_waiting) w ∙ how_many-cons is_enable_waiting r2 rest

        -- without the first that waits
        taken : (j : ℕ) → j + one_if (is_enable_waiting r2) ≡ k2 → Held j m (record (asks.frees x s) { wait_internal = rest })
        taken j q =
            let g = freed k k2 m z a in
            record {
              table = g.table;
              plain = All-tail IsNoNotification r2 rest all;
              count = let n = g.count in let l = lists in omega (arith, n, l, q);
              notified = g.notified;
              enabling = g.enabling;
              waiting = λ l. let n = lists in g.waiting (omega (arith, n, l));
              mode_is = g.mode_is;
              machine_is = g.machine_is;
              asked_is = g.asked_is;
              queues = g.queues;
            }

        given : (j : ℕ) → j + one_if (is_enable_waiting r2) ≡ k2 → (is_enable_waiting r2 ≡ true → A) → Held k2 m y
        given j q may =
            to k2 m _ y e
            (recount (j + one_if (is_enable_waiting r2)) k2 m (asks.posts_internal (record (asks.frees x s) { wait_internal = rest }) s r2) q
            (internal j m (record (asks.frees x s) { wait_internal = rest }) s r2 (inside m k a) (freed_is k m a) (All-head IsNoNotification r2 rest all) may (taken j q)))

        by_request : (b : Bool) → is_enable_waiting r2 ≡ b → Held k2 m y
        by_request false t = let n : one_if (is_enable_waiting r2) ≡ 0 = ap one_if t in given k2 (omega (arith, n)) (λ u. contrary (is_enable_waiting r2) t u)
          where
            contrary : (c : Bool) → c ≡ false → c ≡ true → A
            contrary true e f = absurd (cc)
            contrary false e f = absurd (cc)
        by_request true t =
            let n : one_if (is_enable_waiting r2) ≡ 1 = ap one_if t in let l = lists in
            let g = freed k k2 m z a in let q = g.count in
            given (k2 - 1) (omega (arith, n, l, q)) (λ u. a.waiting (omega (arith, n, l)))
