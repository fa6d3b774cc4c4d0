-- What the host does with a reply, and with the inputs that ask for messages, post by post: identifiers keep their
-- records, but the one that is answered, and each post that goes into the outbox is as its record names it.
use Rattle.std.proofs.Common.{◌≡◌, ◌≢◌, ℕ, ◌-◌, ◌<◌, ◌≤◌, ◌==◌, ◌⊎◌, inl, inr, cond, Bool, true, false, if◌then◌else◌, List, [], ◌∷◌, ◌++◌, length, set, length-set, Option, Some, None, refl, ap, sym, ◌∙◌, subst, arith}
use Rattle.std.specs.Prelude.{All}
use Rattle.std.specs.FinMap as finmap
use Rattle.std.proofs.lemmas.Bool.{eqb-true}
use Rattle.std.proofs.lemmas.List.Elements.{All-append, All-head, All-tail}
use Rattle.smid_pool.specs.Class.{IsIn}
use Rattle.smid_pool.specs.Pool.{Slot, Free, Open, Parked, is_open, least_free, slot_of}
use Rattle.smid_pool.specs.declared.class.Class.TheVariants as class
use Rattle.removal.specs.Handles.{IsHandle, phase_at, with_phase}
use Rattle.removal.specs.Phases.{after_added, after_gone}
use Rattle.removal.specs.declared.phase.Phase.{Phase}
use Rattle.removal.specs.declared.phase.Phase.TheVariants as phase
use Rattle.mpi_rings.specs.declared.request_descriptor.PostKind.TheVariants as post
use Rattle.mpt_messages.specs.declared.host_ask.HostAsk.TheVariants as ask
use Rattle.mpt_wire.specs.Messages.Fields.{Change, changes_in, event_context_in, event_in, post_descriptor, smid_in, target_added, target_not_responding, target_reset}
use Rattle.mpt_trace.specs.declared.item.Down.{Down}
use Rattle.mpt_trace.specs.declared.item.Down.TheVariants as down
use Rattle.mpt_rules.specs.declared.post.Post.{Post}
use Rattle.mpt_rules.specs.declared.request.Request.{Request}
use Rattle.mpt_rules.specs.declared.request.Request.TheVariants as request
use Rattle.mpt_rules.specs.Host.Parts.{Cmd, Host, host_queue_count}
use Rattle.mpt_rules.specs.Host.Posts as asks
use Rattle.mpt_rules.specs.Host.Removal as removal
use Rattle.mpt_rules.specs.World.Counts.{how_many, post_count}
use Rattle.mpt_rules.specs.World.Places.{is_posted_as}
use Rattle.mpt_rules.specs.World.State.{World}
use Rattle.mpt_rules.proofs.Counts.{post_count-append}
use Rattle.law_facts.specs.History.{History}
use Rattle.law_facts.specs.Messages.{DownIsRecord, PostIs}
use Rattle.law_facts.specs.Words.{is_post, slot}
use Rattle.law_flights.proofs.Descriptors.{smid_posted}
use Rattle.law_flights.proofs.HostHolds.{slot_of-set}
use Rattle.law_flights.proofs.Least.{IsLeast, least_is}
use Rattle.law_messages.proofs.Agreeing.{Cmds, CmdsAgree, Opens, all_more, all_posted, all_same, cmds_follow, cmds_stay, differ, no_posts_fit, not_both, opens_stay, post_moves, same}
use Rattle.law_messages.proofs.Keys.{get_other_inserted, get_other_removed, get_removed}
use Rattle.law_messages.proofs.PostFields.{handle_of_reset}

of_disk : (n : ℕ) → removal.is_disk_handle n ≡ true → IsHandle n
of_disk n e = (grind (arith, e), grind (arith, e))

-- `fresh` is the number that is accepted meanwhile, if one is
module _ (w : World) (k : History) (hand : ℕ) (fresh : Option ℕ) where
  -- a world that has these of its host
  abbrev pub With : List (Slot Request) → Cmds → List ℕ → World
  With pool cmds indices = record w { host = record w.host { pool = pool; cmds = cmds; indices = indices } }

  abbrev pub Fits : List (Slot Request) → Cmds → List ℕ → List Down → Type 0
  Fits pool cmds indices out = All (DownIsRecord (With pool cmds indices) k) out

  pub record Walk (pool : List (Slot Request)) (cmds : Cmds) (indices : List ℕ) (out : List Down) : Type 0 where
    pub table : length pool ≡ 280
    pub queues : length indices ≡ host_queue_count w.host
    pub fit : Fits pool cmds indices out
    pub slots : (s : ℕ) (r : Request) → s ≢ hand → slot w.host s ≡ Open r → slot_of pool s ≡ Open r
    pub agree : (s : ℕ) (r : Request) → s ≢ hand → slot w.host s ≡ Open r → CmdsAgree w.host.cmds cmds r
    pub less : (n : ℕ) (c : Cmd) → finmap.get cmds n ≡ Some c → (finmap.get w.host.cmds n ≡ Some c) ⊎ (fresh ≡ Some n)

  abbrev pub Walks : Host → Type 0
  Walks x = Walk x.pool x.cmds x.indices x.out

  -- ---- moves

  -- items that are no posts
  pub items : (x : Host) (xs : List Down) → how_many is_post xs ≡ 0 → Walks x → Walks (record x { out = x.out ++ xs })
  items x xs z a =
      record { table = a.table; queues = a.queues; fit = All-append (DownIsRecord (With x.pool x.cmds x.indices) k) x.out xs a.fit (no_posts_fit (With x.pool x.cmds x.indices) k xs z); slots = a.slots; agree = a.agree; less = a.less }

  pub one_item : (x : Host) (y : Down) → is_post y ≡ false → Walks x → Walks (record x { out = x.out ++ y ∷ [] })
  one_item x y z a =
      record { table = a.table; queues = a.queues; fit = all_more (DownIsRecord (With x.pool x.cmds x.indices) k) x.out y a.fit (Rattle.law_messages.proofs.Agreeing.no_post_fits (With x.pool x.cmds x.indices) k y z); slots = a.slots; agree = a.agree; less = a.less }

  -- a slot that isn't open has no post
  pub unposted : (x : Host) (s : ℕ) → is_open (slot_of x.pool s) ≡ false → Walks x → post_count s x.out ≡ 0
  unposted x s e a = each x.out a.fit
    where
      none : (p : Post) (y : Slot Request) → is_open y ≡ false → PostIs (With x.pool x.cmds x.indices) k p y → ⊥
      none p Free e f = f
      none p Parked e f = f
      none p (Open r) e f = absurd (cc)

      not_it : (y : Down) → DownIsRecord (With x.pool x.cmds x.indices) k y → is_posted_as s y ≡ false
      not_it (down.Post d f p) b = by_key (smid_in d == s) refl
        where
          by_key : (c : Bool) → (smid_in d == s) ≡ c → c ≡ false
          by_key false t = refl
          by_key true t = absurd (none (record { descriptor = d; frame = f; payload = p }) (slot_of x.pool s) e (subst (λ n. PostIs (With x.pool x.cmds x.indices) k (record { descriptor = d; frame = f; payload = p }) (slot_of x.pool n)) (eqb-true (smid_in d) s t) b))
      not_it (down.Write reg value) b = refl
      not_it (down.Read reg) b = refl
      not_it (down.Return address index) b = refl
      not_it down.Stop b = refl

      each : (xs : List Down) → All (DownIsRecord (With x.pool x.cmds x.indices) k) xs → post_count s xs ≡ 0
      each [] b = Rattle.mpt_rules.proofs.Counts.post_count-nil s
      each (y ∷ ys) b =
          let c = Rattle.mpt_rules.proofs.Counts.post_count-cons s y ys in let n = ap Rattle.mpt_rules.specs.World.Counts.one_if (not_it y (All-head (DownIsRecord (With x.pool x.cmds x.indices) k) y ys b)) in
          let t = each ys (All-tail (DownIsRecord (With x.pool x.cmds x.indices) k) y ys b) in
          omega (arith, c, n, t)

  -- a slot that isn't open, or the hand's, is another
  pub changes : (x : Host) (s : ℕ) (y : Slot Request) → 1 ≤ s → s ≤ 280 → post_count s x.out ≡ 0 → (is_open (slot_of x.pool s) ≡ false) ⊎ (s ≡ hand) → Walks x → Walks (record x { pool = set x.pool (s - 1) y })
  changes x s y l m z o a =
      record {
        table = length-set x.pool (s - 1) y ∙ a.table;
        queues = a.queues;
        fit = all_posted s (DownIsRecord (With x.pool x.cmds x.indices) k) (DownIsRecord (With (set x.pool (s - 1) y) x.cmds x.indices) k) each x.out z a.fit;
        slots = λ q r n e. stays q n (a.slots q r n e) o;
        agree = a.agree;
        less = a.less;
      }
    where
      short : s - 1 < length x.pool
      short = let t = a.table in omega (arith, l, m, t)

      at : (j : ℕ) → (j == s) ≡ false → slot_of (set x.pool (s - 1) y) j ≡ slot_of x.pool j
      at j n = slot_of-set x.pool s j y l short ∙ ap (λ c. cond c y (slot_of x.pool j)) n

      each : (d : Down) → is_posted_as s d ≡ false → DownIsRecord (With x.pool x.cmds x.indices) k d → DownIsRecord (With (set x.pool (s - 1) y) x.cmds x.indices) k d
      each (down.Post d f p) n b = subst (PostIs (With x.pool x.cmds x.indices) k (record { descriptor = d; frame = f; payload = p })) (sym (at (smid_in d) n)) b
      each (down.Write reg value) n b = tt
      each (down.Read reg) n b = tt
      each (down.Return address index) n b = tt
      each down.Stop n b = tt

      stays : (q : ℕ) {r : Request} → q ≢ hand → slot_of x.pool q ≡ Open r → (is_open (slot_of x.pool s) ≡ false) ⊎ (s ≡ hand) → slot_of (set x.pool (s - 1) y) q ≡ Open r
      stays q {r} n e o = by_key (q == s) refl o
        where
          by_key : (c : Bool) → (q == s) ≡ c → (is_open (slot_of x.pool s) ≡ false) ⊎ (s ≡ hand) → slot_of (set x.pool (s - 1) y) q ≡ Open r
          by_key false t o = at q t ∙ e
          by_key true t (inr g) = absurd (n (eqb-true q s t ∙ g))
          by_key true t (inl g) = not_both (is_open (slot_of x.pool s)) g (ap (λ j. is_open (slot_of x.pool j)) (sym (eqb-true q s t)) ∙ ap is_open e)

  -- a post that its record names goes into the outbox
  pub posts : (x : Host) (s d : ℕ) (r : Request) (f p : List ℕ) → 1 ≤ s → s ≤ 280 → smid_in d ≡ s → is_open (slot_of x.pool s) ≡ false → PostIs (With x.pool x.cmds x.indices) k (record { descriptor = d; frame = f; payload = p }) (Open r)
      → Walks x → Walks (record x { pool = set x.pool (s - 1) (Open r); out = x.out ++ down.Post d f p ∷ [] })
  posts x s d r f p l m e o g a =
      let c = changes x s (Open r) l m (unposted x s o a) (inl o) a in
      record {
        table = c.table;
        queues = c.queues;
        fit = all_more (DownIsRecord (With (set x.pool (s - 1) (Open r)) x.cmds x.indices) k) x.out (down.Post d f p) c.fit
            (subst (PostIs (With (set x.pool (s - 1) (Open r)) x.cmds x.indices) k (record { descriptor = d; frame = f; payload = p })) (sym is) (still r g));
        slots = c.slots;
        agree = c.agree;
        less = c.less;
      }
    where
      is : slot_of (set x.pool (s - 1) (Open r)) (smid_in d) ≡ Open r
      is = let t = a.table in ap (slot_of (set x.pool (s - 1) (Open r))) e ∙ (slot_of-set x.pool s s (Open r) l (omega (arith, l, m, t)) ∙ ap (λ c. cond c (Open r) (slot_of x.pool s)) (same s))

      still : (r : Request) → PostIs (With x.pool x.cmds x.indices) k (record { descriptor = d; frame = f; payload = p }) (Open r) → PostIs (With (set x.pool (s - 1) (Open r)) x.cmds x.indices) k (record { descriptor = d; frame = f; payload = p }) (Open r)
      still r g = g

  -- ---- numbers

  -- a number that no record has is open no more
  pub forgets : (x : Host) (n : ℕ) → ((s : ℕ) → slot_of x.pool s ≡ Open (request.Command n) → ⊥) → Walks x → Walks (record x { cmds = finmap.remove x.cmds n })
  forgets x n none a =
      record {
        table = a.table;
        queues = a.queues;
        fit = all_same (DownIsRecord (With x.pool x.cmds x.indices) k) (DownIsRecord (With x.pool (finmap.remove x.cmds n) x.indices) k) each x.out a.fit;
        slots = a.slots;
        agree = λ s r d e. cmds_follow w.host.cmds x.cmds (finmap.remove x.cmds n) r (a.agree s r d e) (fewer s r (a.slots s r d e));
        less = λ m c g. a.less m c (kept m c g);
      }
    where
      abort : (m : ℕ) → (finmap.get (finmap.remove x.cmds n) m ≡ finmap.get x.cmds m) ⊎ (finmap.get (finmap.remove x.cmds n) m ≡ None)
      abort m = by_key (m == n) refl
        where
          by_key : (b : Bool) → (m == n) ≡ b → (finmap.get (finmap.remove x.cmds n) m ≡ finmap.get x.cmds m) ⊎ (finmap.get (finmap.remove x.cmds n) m ≡ None)
          by_key true t = inr (ap (finmap.get (finmap.remove x.cmds n)) (eqb-true m n t) ∙ get_removed x.cmds n)
          by_key false t = inl (get_other_removed x.cmds n m (differ m n t))

      kept : (m : ℕ) (c : Cmd) → finmap.get (finmap.remove x.cmds n) m ≡ Some c → finmap.get x.cmds m ≡ Some c
      kept m c g = by_key (m == n) refl
        where
          by_key : (b : Bool) → (m == n) ≡ b → finmap.get x.cmds m ≡ Some c
          by_key true t = let z : None ≡ Some c = sym (ap (finmap.get (finmap.remove x.cmds n)) (eqb-true m n t) ∙ get_removed x.cmds n) ∙ g in absurd (cc)
          by_key false t = sym (get_other_removed x.cmds n m (differ m n t)) ∙ g

      fewer : (s : ℕ) (r : Request) → slot_of x.pool s ≡ Open r → CmdsAgree x.cmds (finmap.remove x.cmds n) r
      fewer s (request.Command m) e = get_other_removed x.cmds n m (λ q. none s (e ∙ ap (λ j. Open (request.Command j)) q))
      fewer s (request.Abort m task) e = abort m
      fewer s (request.TargetReset address) e = tt
      fewer s (request.Leave handle) e = tt
      fewer s (request.Page handle) e = tt
      fewer s (request.Remove handle) e = tt
      fewer s (request.Ack ev context) e = tt
      fewer s request.Notification e = tt
      fewer s request.PortEnable e = tt

      by_slot : (p : Post) (s : ℕ) (y : Slot Request) → slot_of x.pool s ≡ y → PostIs (With x.pool x.cmds x.indices) k p y → PostIs (With x.pool (finmap.remove x.cmds n) x.indices) k p y
      by_slot p s Free e b = b
      by_slot p s Parked e b = b
      by_slot p s (Open r) e b = post_moves (With x.pool x.cmds x.indices) k (With x.pool (finmap.remove x.cmds n) x.indices) k refl p r (fewer s r e) (opens_stay k.machine.requests r) b

      each : (d : Down) → DownIsRecord (With x.pool x.cmds x.indices) k d → DownIsRecord (With x.pool (finmap.remove x.cmds n) x.indices) k d
      each (down.Post d f p) b = by_slot (record { descriptor = d; frame = f; payload = p }) (smid_in d) (slot_of x.pool (smid_in d)) refl b
      each (down.Write reg value) b = tt
      each (down.Read reg) b = tt
      each (down.Return address index) b = tt
      each down.Stop b = tt

  -- a number that no record has, and that wasn't open, is
  pub names : (x : Host) (n : ℕ) (c : Cmd) → fresh ≡ Some n → ((s : ℕ) → slot_of x.pool s ≡ Open (request.Command n) → ⊥) → ((s task : ℕ) → slot_of x.pool s ≡ Open (request.Abort n task) → ⊥) → Walks x → Walks (record x { cmds = finmap.insert x.cmds n c })
  names x n c is_fresh none none_aborts a =
      record {
        table = a.table;
        queues = a.queues;
        fit = all_same (DownIsRecord (With x.pool x.cmds x.indices) k) (DownIsRecord (With x.pool (finmap.insert x.cmds n c) x.indices) k) each x.out a.fit;
        slots = a.slots;
        agree = λ s r d e. cmds_follow w.host.cmds x.cmds (finmap.insert x.cmds n c) r (a.agree s r d e) (more s r (a.slots s r d e));
        less = λ m d g. other m d g;
      }
    where
      other : (m : ℕ) (d : Cmd) → finmap.get (finmap.insert x.cmds n c) m ≡ Some d → (finmap.get w.host.cmds m ≡ Some d) ⊎ (fresh ≡ Some m)
      other m d g = by_key (m == n) refl
        where
          by_key : (b : Bool) → (m == n) ≡ b → (finmap.get w.host.cmds m ≡ Some d) ⊎ (fresh ≡ Some m)
          by_key true t = inr (is_fresh ∙ ap Some (sym (eqb-true m n t)))
          by_key false t = a.less m d (sym (get_other_inserted x.cmds n c m (differ m n t)) ∙ g)

      more : (s : ℕ) (r : Request) → slot_of x.pool s ≡ Open r → CmdsAgree x.cmds (finmap.insert x.cmds n c) r
      more s (request.Command m) e = get_other_inserted x.cmds n c m (λ q. none s (e ∙ ap (λ j. Open (request.Command j)) q))
      more s (request.Abort m task) e = inl (get_other_inserted x.cmds n c m (λ q. none_aborts s task (e ∙ ap (λ j. Open (request.Abort j task)) q)))
      more s (request.TargetReset address) e = tt
      more s (request.Leave handle) e = tt
      more s (request.Page handle) e = tt
      more s (request.Remove handle) e = tt
      more s (request.Ack ev context) e = tt
      more s request.Notification e = tt
      more s request.PortEnable e = tt

      by_slot : (p : Post) (s : ℕ) (y : Slot Request) → slot_of x.pool s ≡ y → PostIs (With x.pool x.cmds x.indices) k p y → PostIs (With x.pool (finmap.insert x.cmds n c) x.indices) k p y
      by_slot p s Free e b = b
      by_slot p s Parked e b = b
      by_slot p s (Open r) e b = post_moves (With x.pool x.cmds x.indices) k (With x.pool (finmap.insert x.cmds n c) x.indices) k refl p r (more s r e) (opens_stay k.machine.requests r) b

      each : (d : Down) → DownIsRecord (With x.pool x.cmds x.indices) k d → DownIsRecord (With x.pool (finmap.insert x.cmds n c) x.indices) k d
      each (down.Post d f p) b = by_slot (record { descriptor = d; frame = f; payload = p }) (smid_in d) (slot_of x.pool (smid_in d)) refl b
      each (down.Write reg value) b = tt
      each (down.Read reg) b = tt
      each (down.Return address index) b = tt
      each down.Stop b = tt

  -- ---- as many queues

  pub same_queues : (pool : List (Slot Request)) (cmds : Cmds) (i j : List ℕ) → length j ≡ length i → (out : List Down) → Fits pool cmds i out → Fits pool cmds j out
  same_queues pool cmds i j l out a = all_same (DownIsRecord (With pool cmds i) k) (DownIsRecord (With pool cmds j) k) each out a
    where
      by_slot : (p : Post) (y : Slot Request) → PostIs (With pool cmds i) k p y → PostIs (With pool cmds j) k p y
      by_slot p Free b = b
      by_slot p Parked b = b
      by_slot p (Open r) b = post_moves (With pool cmds i) k (With pool cmds j) k l p r (cmds_stay cmds r) (opens_stay k.machine.requests r) b

      each : (d : Down) → DownIsRecord (With pool cmds i) k d → DownIsRecord (With pool cmds j) k d
      each (down.Post d f p) b = by_slot (record { descriptor = d; frame = f; payload = p }) (slot_of pool (smid_in d)) b
      each (down.Write reg value) b = tt
      each (down.Read reg) b = tt
      each (down.Return address index) b = tt
      each down.Stop b = tt

  -- ---- requests that go out

  closed_of : {y : Slot Request} → y ≡ Free → is_open y ≡ false
  closed_of e = ap is_open e

  pub leave : (x : Host) (s handle : ℕ) → IsIn class.High s → IsHandle handle → is_open (slot_of x.pool s) ≡ false → Walks x → Walks (asks.posts_leave x s handle)
  leave x s handle i g o a =
      let f = handle_of_reset handle g in let d = smid_posted post.HighPriority 0 s 0 (omega arith) (omega (arith, i)) in
      posts x s (post_descriptor post.HighPriority 0 s 0) (request.Leave handle) (asks.frame_asked (ask.Task handle target_reset 0)) [] (omega (arith, i)) (omega (arith, i)) d o
      ((ap (λ n. post_descriptor post.HighPriority 0 n 0) (sym d), ap (λ n. asks.frame_asked (ask.Task n target_reset 0)) (sym f), refl), f) a

  pub internal : (x : Host) (s : ℕ) (r : Request) → IsIn class.Internal s → is_open (slot_of x.pool s) ≡ false → Walks x → Walks (asks.posts_internal x s r)
  internal x s r i o a = by_request r
    where
      d : smid_in (post_descriptor post.Default 0 s 0) ≡ s
      d = smid_posted post.Default 0 s 0 (omega arith) (omega (arith, i))

      described : post_descriptor post.Default 0 s 0 ≡ post_descriptor post.Default 0 (smid_in (post_descriptor post.Default 0 s 0)) 0
      described = ap (λ n. post_descriptor post.Default 0 n 0) (sym d)

      by_request : (r : Request) → Walks (asks.posts_internal x s r)
      by_request (request.Page handle) = posts x s _ (request.Page handle) _ [] (omega (arith, i)) (omega (arith, i)) d o (described, ap (λ n. asks.frame_asked (ask.PageRead n handle)) (sym d), refl) a
      by_request (request.Remove handle) = posts x s _ (request.Remove handle) _ [] (omega (arith, i)) (omega (arith, i)) d o (described, refl, refl) a
      by_request (request.Ack ev context) = posts x s _ (request.Ack ev context) _ [] (omega (arith, i)) (omega (arith, i)) d o (described, refl, refl) a
      by_request request.Notification = posts x s _ request.Notification _ [] (omega (arith, i)) (omega (arith, i)) d o (described, refl, refl) a
      by_request request.PortEnable = posts x s _ request.PortEnable _ [] (omega (arith, i)) (omega (arith, i)) d o (described, refl, refl) a
      by_request (request.Command n) = a
      by_request (request.Abort n task) = a
      by_request (request.TargetReset address) = a
      by_request (request.Leave handle) = a

  pub asks_internal : (x : Host) (r : Request) → Walks x → Walks (asks.asks_internal x r)
  asks_internal x r a = by_free (least_free class.Internal x.pool) (λ s e. least_is class.Internal x.pool s e)
    where
      by_free : (o : Option ℕ) → ((s : ℕ) → o ≡ Some s → IsLeast class.Internal x.pool s) → Walks (asks.posts_internal_or_waits x r o)
      by_free None f = a
      by_free (Some s) f = let l = f s refl in internal x s r l.inside (closed_of l.free) a

  asks_leave : (x : Host) (handle : ℕ) → IsHandle handle → Walks x → Walks (asks.asks_leave x handle)
  asks_leave x handle g a = by_free (least_free class.High x.pool) (λ s e. least_is class.High x.pool s e)
    where
      by_free : (o : Option ℕ) → ((s : ℕ) → o ≡ Some s → IsLeast class.High x.pool s) → Walks (asks.posts_leave_or_waits x handle o)
      by_free None f = a
      by_free (Some s) f = let l = f s refl in leave x s handle l.inside g (closed_of l.free) a

  -- ---- events

  adds : (x : Host) (handle : ℕ) (p : Phase) → Walks x → Walks (removal.after_handle_added x handle p)
  adds x handle phase.Absent a = asks_internal (removal.with_phase_of x handle (after_added phase.Absent)) (request.Page handle) a
  adds x handle phase.WaitRead a = a
  adds x handle (phase.Reading s) a = a
  adds x handle (phase.Ready address) a = a
  adds x handle phase.WaitHigh a = a
  adds x handle (phase.Resetting s) a = a
  adds x handle phase.WaitInternal a = a
  adds x handle (phase.Removing s) a = a

  begins_removal : (x : Host) (handle : ℕ) (p : Phase) → IsHandle handle → Walks x → Walks (removal.begins_removal x handle p).part
  begins_removal x handle p g a = asks_leave (record x { phases = with_phase x.phases handle (after_gone p); wait_internal = removal.without_page handle x.wait_internal }) handle g a

  loses : (x : Host) (handle : ℕ) (p : Phase) → IsHandle handle → Walks x → Walks (removal.after_handle_lost x handle p).part
  loses x handle phase.WaitRead g a = begins_removal x handle phase.WaitRead g a
  loses x handle (phase.Reading s) g a = begins_removal x handle (phase.Reading s) g a
  loses x handle (phase.Ready address) g a = begins_removal x handle (phase.Ready address) g a
  loses x handle phase.Absent g a = a
  loses x handle phase.WaitHigh g a = a
  loses x handle (phase.Resetting s) g a = a
  loses x handle phase.WaitInternal g a = a
  loses x handle (phase.Removing s) g a = a

  change : (x : Host) (c : Change) → Walks x → Walks (removal.hears_change x c).part
  change x c a = by_tests (removal.is_disk_handle c.handle) refl (c.status == target_added) (c.status == target_not_responding)
    where
      by_tests : (d : Bool) → removal.is_disk_handle c.handle ≡ d → (y z : Bool) → Walks (if d then (if y then removal.quietly (removal.after_handle_added x c.handle (phase_at x.phases c.handle)) else (if z then removal.after_handle_lost x c.handle (phase_at x.phases c.handle) else removal.quietly x)) else removal.quietly x).part
      by_tests true e true z = adds x c.handle (phase_at x.phases c.handle) a
      by_tests true e false true = loses x c.handle (phase_at x.phases c.handle) (of_disk c.handle e) a
      by_tests true e false false = a
      by_tests false e y z = a

  changes_heard : (x : Host) (cs : List Change) → Walks x → Walks (removal.hears_changes x cs).part
  unfolding removal.hears_changes
  changes_heard x [] a = a
  changes_heard x (c ∷ cs) a = changes_heard (removal.hears_change x c).part cs (change x c a)

  pub event : (x : Host) (f : List ℕ) → Walks x → Walks (removal.hears_event x f).part
  event x f a = changes_heard (asks.asks_internal x (request.Ack (event_in f) (event_context_in f))) (changes_in f) (asks_internal x (request.Ack (event_in f) (event_context_in f)) a)
