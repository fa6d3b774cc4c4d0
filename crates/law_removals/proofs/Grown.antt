-- What a host that goes on normally makes of a reply: the posts that it puts behind those of its outbox, and what the phases of their handles are.
use Rattle.std.proofs.Common.{◌≡◌, ℕ, ◌-◌, ◌<◌, ◌≤◌, ◌==◌, cond, Bool, true, false, if◌then◌else◌, List, [], ◌∷◌, ◌++◌, length, set, length-set, Option, Some, None, refl, ap, sym, ◌∙◌, subst, arith, append_assoc, append-nil}
use Rattle.std.specs.Prelude.{All}
use Rattle.std.specs.FinMap as finmap
use Rattle.std.proofs.lemmas.Bool.{eqb-true}
use Rattle.std.proofs.lemmas.List.Elements.{All-head, All-nil}
use Rattle.smid_pool.specs.Pool.{Slot, Free, Open, Parked, is_open, least_free, record_of, slot_of}
use Rattle.smid_pool.specs.declared.class.Class.TheVariants as class
use Rattle.removal.specs.Handles.{IsHandle, phase_at, with_phase}
use Rattle.removal.specs.Phases.{after_added, after_gone, after_grant, after_page, after_removed, after_task_done}
use Rattle.removal.specs.declared.phase.Phase.{Phase}
use Rattle.removal.specs.declared.phase.Phase.TheVariants as phase
use Rattle.mpi_rings.specs.declared.request_descriptor.PostKind.TheVariants as post
use Rattle.mpt_messages.specs.declared.host_ask.HostAsk.{HostAsk}
use Rattle.mpt_messages.specs.declared.host_ask.HostAsk.TheVariants as ask
use Rattle.mpt_wire.specs.Machine.Causes.{is_resetting}
use Rattle.mpt_wire.specs.Messages.Fields.{Change, changes_in, event_context_in, event_in, post_descriptor, smid_in, target_added, target_not_responding, target_reset}
use Rattle.mpt_trace.specs.declared.item.Down.{Down}
use Rattle.mpt_trace.specs.declared.item.Down.TheVariants as down
use Rattle.mpt_rules.specs.declared.post.Post.{Post}
use Rattle.mpt_rules.specs.declared.request.Request.{Request}
use Rattle.mpt_rules.specs.declared.request.Request.TheVariants as request
use Rattle.mpt_rules.specs.Host.Parts.{Host}
use Rattle.mpt_rules.specs.Host.Posts as asks
use Rattle.mpt_rules.specs.Host.Removal as removal
use Rattle.mpt_rules.specs.Host.Replies as replies
use Rattle.mpt_rules.specs.World.Counts.{how_many, one_if}
use Rattle.mpt_rules.specs.World.Lines.{high_posts, is_high, normal_posts}
use Rattle.mpt_rules.specs.World.State.{World}
use Rattle.mpt_rules.proofs.Lines.{high_posts-append, high_posts-cons, high_posts-nil, normal_posts-append, normal_posts-cons, normal_posts-nil}
use Rattle.law_facts.specs.Clock.{in_normal}
use Rattle.law_facts.specs.Facts.{Facts}
use Rattle.law_facts.specs.Handles.{IsWaiting, phase_of, waits_for_read, waits_for_internal}
use Rattle.law_facts.specs.History.{History}
use Rattle.law_facts.specs.Words.{slot, waits_for_page, waits_to_remove}
use Rattle.law_flights.proofs.Descriptors.{smid_posted}
use Rattle.law_flights.proofs.HostHolds.{class_within, in_table, slot_of-set}
use Rattle.law_flights.proofs.Least.{least_is}
use Rattle.law_handles.proofs.Phased.{phase_at-with}
use Rattle.law_messages.proofs.Agreeing.{all_more, all_same}
use Rattle.law_moves.proofs.Counted.{how_many-cons}
use Rattle.law_lives.proofs.HostDoes.{Alike}
use Rattle.law_removals.proofs.Behind.{clash}

-- ---- descriptors, and posts of an outbox

pub high_flags : (s : ℕ) → s < 65536 → is_high (post_descriptor post.HighPriority 0 s 0) ≡ true
high_flags s l = let z : Rattle.mpt_wire.specs.Messages.Fields.flags_in (post_descriptor post.HighPriority 0 s 0) ≡ 6 = omega arith in ap (λ n. n == 6) z

normal_flags : (s : ℕ) → s < 65536 → is_high (post_descriptor post.Default 0 s 0) ≡ false
normal_flags s l = let z : Rattle.mpt_wire.specs.Messages.Fields.flags_in (post_descriptor post.Default 0 s 0) ≡ 8 = omega arith in ap (λ n. n == 6) z

pub one_normal : (out : List Down) (d : ℕ) (f p : List ℕ) → is_high d ≡ false → (normal_posts (out ++ down.Post d f p ∷ []) ≡ normal_posts out ++ record { descriptor = d; frame = f; payload = p } ∷ []) × (high_posts (out ++ down.Post d f p ∷ []) ≡ high_posts out)
one_normal out d f p e =
    let x : Post = record { descriptor = d; frame = f; payload = p } in
    let a = normal_posts-append out (down.Post d f p ∷ []) in
    let b : normal_posts (down.Post d f p ∷ []) ≡ x ∷ [] = normal_posts-cons (down.Post d f p) [] ∙ (ap (λ c. Rattle.std.specs.List.cons_option (if c then None else Some x) (normal_posts [])) e ∙ ap (λ xs. x ∷ xs) normal_posts-nil) in
    let c = high_posts-append out (down.Post d f p ∷ []) in
    let g : high_posts (down.Post d f p ∷ []) ≡ [] = high_posts-cons (down.Post d f p) [] ∙ (ap (λ c. Rattle.std.specs.List.cons_option (if c then Some x else None) (high_posts [])) e ∙ high_posts-nil) in
    (a ∙ ap (λ xs. normal_posts out ++ xs) b, c ∙ (ap (λ xs. high_posts out ++ xs) g ∙ append-nil (high_posts out)))

pub one_high : (out : List Down) (d : ℕ) (f p : List ℕ) → is_high d ≡ true → (high_posts (out ++ down.Post d f p ∷ []) ≡ high_posts out ++ record { descriptor = d; frame = f; payload = p } ∷ []) × (normal_posts (out ++ down.Post d f p ∷ []) ≡ normal_posts out)
one_high out d f p e =
    let x : Post = record { descriptor = d; frame = f; payload = p } in
    let a = high_posts-append out (down.Post d f p ∷ []) in
    let b : high_posts (down.Post d f p ∷ []) ≡ x ∷ [] = high_posts-cons (down.Post d f p) [] ∙ (ap (λ c. Rattle.std.specs.List.cons_option (if c then Some x else None) (high_posts [])) e ∙ ap (λ xs. x ∷ xs) high_posts-nil) in
    let c = normal_posts-append out (down.Post d f p ∷ []) in
    let g : normal_posts (down.Post d f p ∷ []) ≡ [] = normal_posts-cons (down.Post d f p) [] ∙ (ap (λ c. Rattle.std.specs.List.cons_option (if c then None else Some x) (normal_posts [])) e ∙ normal_posts-nil) in
    (a ∙ ap (λ xs. high_posts out ++ xs) b, c ∙ (ap (λ xs. normal_posts out ++ xs) g ∙ append-nil (normal_posts out)))

of_disk : (n : ℕ) → removal.is_disk_handle n ≡ true → IsHandle n
of_disk n e = (grind (arith, e), grind (arith, e))

-- ---- phases

-- a phase of a disk that was added and whose removal hasn't come to its remove device
abbrev pub is_out_there : Phase → Bool
is_out_there phase.WaitRead = true
is_out_there (phase.Reading s) = true
is_out_there (phase.Ready address) = true
is_out_there phase.WaitHigh = true
is_out_there (phase.Resetting s) = true
is_out_there p = false

-- the removal's target reset was answered, or is by the reply to `hand`
abbrev pub is_left_by : ℕ → Phase → Bool
is_left_by hand phase.WaitInternal = true
is_left_by hand (phase.Resetting s) = s == hand
is_left_by hand p = false

granted_there : (p : Phase) (s : ℕ) → is_out_there p ≡ true → is_out_there (after_grant p s) ≡ true
granted_there phase.WaitRead s t = refl
granted_there (phase.Reading r) s t = refl
granted_there (phase.Ready a) s t = refl
granted_there phase.WaitHigh s t = refl
granted_there (phase.Resetting r) s t = refl
granted_there phase.Absent s t = absurd (cc)
granted_there phase.WaitInternal s t = absurd (cc)
granted_there (phase.Removing r) s t = absurd (cc)

granted_waits : (p : Phase) (s : ℕ) → after_grant p s ≡ phase.WaitInternal → ⊥
granted_waits phase.WaitRead s e = cc
granted_waits (phase.Reading r) s e = cc
granted_waits (phase.Ready a) s e = cc
granted_waits phase.WaitHigh s e = cc
granted_waits (phase.Resetting r) s e = cc
granted_waits phase.Absent s e = cc
granted_waits phase.WaitInternal s e = cc
granted_waits (phase.Removing r) s e = cc

module _ (w : World) (hand : ℕ) where
  abbrev pub LeftBy : ℕ → Type 0
  LeftBy g = is_left_by hand (phase_of w g) ≡ true

  -- a post that is new, by the record of its identifier
  abbrev pub NewNormal : List Phase → Slot Request → Type 0
  NewNormal phases (Open (request.Page g)) = IsHandle g × (is_out_there (phase_at phases g) ≡ true)
  NewNormal phases (Open (request.Remove g)) = LeftBy g
  NewNormal phases (Open (request.Ack event context)) = Unit {0}
  NewNormal phases (Open request.Notification) = Unit {0}
  NewNormal phases (Open request.PortEnable) = Unit {0}
  NewNormal phases x = ⊥

  abbrev pub NewHigh : Slot Request → Type 0
  NewHigh (Open (request.Leave g)) = Unit {0}
  NewHigh x = ⊥

  abbrev pub NewNormals : List (Slot Request) → List Phase → List Post → Type 0
  NewNormals pool phases ps = All (λ (p : Post). NewNormal phases (slot_of pool (smid_in p.descriptor))) ps

  abbrev pub NewHighs : List (Slot Request) → List Post → Type 0
  NewHighs pool ps = All (λ (p : Post). NewHigh (slot_of pool (smid_in p.descriptor))) ps

  pub record Grown (pool : List (Slot Request)) (phases : List Phase) (out : List Down) : Type 0 where
    pub table : length pool ≡ 280
    pub handles : length phases ≡ 64
    pub normal_news : List Post
    pub high_news : List Post
    pub normal_is : normal_posts out ≡ normal_posts w.host.out ++ normal_news
    pub high_is : high_posts out ≡ high_posts w.host.out ++ high_news
    pub normal_new : NewNormals pool phases normal_news
    pub high_new : NewHighs pool high_news
    pub waits : (g : ℕ) → IsHandle g → phase_at phases g ≡ phase.WaitInternal → LeftBy g

  abbrev pub Grows : Host → Type 0
  Grows x = Grown x.pool x.phases x.out

  -- without posts so far
  pub record Bare (pool : List (Slot Request)) (phases : List Phase) (internal : List Request) (high : List ℕ) (out : List Down) : Type 0 where
    table : length pool ≡ 280
    handles : length phases ≡ 64
    normal_same : normal_posts out ≡ normal_posts w.host.out
    high_same : high_posts out ≡ high_posts w.host.out
    internal_same : internal ≡ w.host.wait_internal
    high_wait : high ≡ w.host.wait_high
    waits : (g : ℕ) → IsHandle g → phase_at phases g ≡ phase.WaitInternal → LeftBy g
    reads : (g : ℕ) → IsHandle g → phase_of w g ≡ phase.WaitRead → phase_at phases g ≡ phase.WaitRead

  abbrev pub IsBare : Host → Type 0
  IsBare x = Bare x.pool x.phases x.wait_internal x.wait_high x.out

  pub no_posts : (x : Host) → IsBare x → Grows x
  no_posts x b =
      record {
        table = b.table;
        handles = b.handles;
        normal_news = [];
        high_news = [];
        normal_is = b.normal_same ∙ sym (append-nil (normal_posts w.host.out));
        high_is = b.high_same ∙ sym (append-nil (high_posts w.host.out));
        normal_new = All-nil (λ (p : Post). NewNormal x.phases (slot_of x.pool (smid_in p.descriptor)));
        high_new = All-nil (λ (p : Post). NewHigh (slot_of x.pool (smid_in p.descriptor)));
        waits = b.waits;
      }

  closes : (x : Host) (s : ℕ) (y : Slot Request) → IsBare x → IsBare (record x { pool = set x.pool (s - 1) y })
  closes x s y b = record { table = length-set x.pool (s - 1) y ∙ b.table; handles = b.handles; normal_same = b.normal_same; high_same = b.high_same; internal_same = b.internal_same; high_wait = b.high_wait; waits = b.waits; reads = b.reads }

  -- another phase
  bare_phased : (x : Host) (g0 : ℕ) (p : Phase) → IsHandle g0 → (p ≡ phase.WaitInternal → LeftBy g0) → (phase_of w g0 ≡ phase.WaitRead → p ≡ phase.WaitRead) → IsBare x → IsBare (record x { phases = with_phase x.phases g0 p })
  bare_phased x g0 p i u v b =
      record {
        table = b.table;
        handles = length-set x.phases _ _ ∙ b.handles;
        normal_same = b.normal_same;
        high_same = b.high_same;
        internal_same = b.internal_same;
        high_wait = b.high_wait;
        waits = λ g j e. waits_by g j e (g == g0) refl (phase_at-with x.phases g0 g p b.handles i j);
        reads = λ g j e. reads_by g j e (g == g0) refl (phase_at-with x.phases g0 g p b.handles i j);
      }
    where
      waits_by : (g : ℕ) → IsHandle g → phase_at (with_phase x.phases g0 p) g ≡ phase.WaitInternal → (c : Bool) → (g == g0) ≡ c → phase_at (with_phase x.phases g0 p) g ≡ cond c p (phase_at x.phases g) → LeftBy g
      waits_by g j e true t z = subst LeftBy (sym (eqb-true g g0 t)) (u (sym z ∙ e))
      waits_by g j e false t z = b.waits g j (sym z ∙ e)

      reads_by : (g : ℕ) → IsHandle g → phase_of w g ≡ phase.WaitRead → (c : Bool) → (g == g0) ≡ c → phase_at (with_phase x.phases g0 p) g ≡ cond c p (phase_at x.phases g) → phase_at (with_phase x.phases g0 p) g ≡ phase.WaitRead
      reads_by g j e true t z = z ∙ v (subst (λ k. phase_of w k ≡ phase.WaitRead) (eqb-true g g0 t) e)
      reads_by g j e false t z = z ∙ b.reads g j e

  -- ---- what was posted stays new

  none_there : {X : Type 0} (pool : List (Slot Request)) (s q : ℕ) → is_open (slot_of pool s) ≡ false → q ≡ s → (is_open (slot_of pool q) ≡ true) → X
  none_there pool s q e z o = clash (is_open (slot_of pool q)) o (ap (λ j. is_open (slot_of pool j)) z ∙ e)

  normal_open : (phases : List Phase) (x : Slot Request) → NewNormal phases x → is_open x ≡ true
  normal_open phases (Open r) n = refl
  normal_open phases Free n = absurd n
  normal_open phases Parked n = absurd n

  high_open : (x : Slot Request) → NewHigh x → is_open x ≡ true
  high_open (Open r) n = refl
  high_open Free n = absurd n
  high_open Parked n = absurd n

  module _ (pool : List (Slot Request)) (table : length pool ≡ 280) (s : ℕ) (r : Request) (l : 1 ≤ s) (m : s ≤ 280) (e : is_open (slot_of pool s) ≡ false) where
    pub stays_there : (q : ℕ) → is_open (slot_of pool q) ≡ true → slot_of (set pool (s - 1) (Open r)) q ≡ slot_of pool q
    stays_there q o = by_key (q == s) refl (slot_of-set pool s q (Open r) l (omega (arith, l, m, table)))
      where
        by_key : (c : Bool) → (q == s) ≡ c → slot_of (set pool (s - 1) (Open r)) q ≡ cond c (Open r) (slot_of pool q) → slot_of (set pool (s - 1) (Open r)) q ≡ slot_of pool q
        by_key true t z = none_there pool s q e (eqb-true q s t) o
        by_key false t z = z

    now_there : slot_of (set pool (s - 1) (Open r)) s ≡ Open r
    now_there = let z : (s == s) ≡ true = grind arith in slot_of-set pool s s (Open r) l (omega (arith, l, m, table)) ∙ ap (λ c. cond c (Open r) (slot_of pool s)) z

    normals_stay : (phases : List Phase) (ps : List Post) → NewNormals pool phases ps → NewNormals (set pool (s - 1) (Open r)) phases ps
    normals_stay phases ps a =
        all_same (λ (p : Post). NewNormal phases (slot_of pool (smid_in p.descriptor))) (λ (p : Post). NewNormal phases (slot_of (set pool (s - 1) (Open r)) (smid_in p.descriptor)))
        (λ p n. subst (NewNormal phases) (sym (stays_there (smid_in p.descriptor) (normal_open phases (slot_of pool (smid_in p.descriptor)) n))) n) ps a

    highs_stay : (ps : List Post) → NewHighs pool ps → NewHighs (set pool (s - 1) (Open r)) ps
    highs_stay ps a =
        all_same (λ (p : Post). NewHigh (slot_of pool (smid_in p.descriptor))) (λ (p : Post). NewHigh (slot_of (set pool (s - 1) (Open r)) (smid_in p.descriptor)))
        (λ p n. subst NewHigh (sym (stays_there (smid_in p.descriptor) (high_open (slot_of pool (smid_in p.descriptor)) n))) n) ps a

  -- ---- posts

  module _ (x : Host) (s : ℕ) (r : Request) (d : ℕ) (f p : List ℕ) (l : 1 ≤ s) (m : s ≤ 280) (e : is_open (slot_of x.pool s) ≡ false) (is : smid_in d ≡ s) (g : Grows x) where
    abbrev Posted : Host
    Posted = record x { pool = set x.pool (s - 1) (Open r); out = x.out ++ down.Post d f p ∷ [] }

    posts_normal : is_high d ≡ false → NewNormal x.phases (Open r) → Grows Posted
    posts_normal z n =
        let o = one_normal x.out d f p z in
        record {
          table = length-set x.pool (s - 1) (Open r) ∙ g.table;
          handles = g.handles;
          normal_news = g.normal_news ++ record { descriptor = d; frame = f; payload = p } ∷ [];
          high_news = g.high_news;
          normal_is = o.0 ∙ (ap (λ xs. xs ++ record { descriptor = d; frame = f; payload = p } ∷ []) g.normal_is ∙ append_assoc (normal_posts w.host.out) g.normal_news (record { descriptor = d; frame = f; payload = p } ∷ []));
          high_is = o.1 ∙ g.high_is;
          normal_new = all_more (λ (q : Post). NewNormal x.phases (slot_of (set x.pool (s - 1) (Open r)) (smid_in q.descriptor))) g.normal_news (record { descriptor = d; frame = f; payload = p })
              (normals_stay x.pool g.table s r l m e x.phases g.normal_news g.normal_new) (subst (NewNormal x.phases) (sym (ap (slot_of (set x.pool (s - 1) (Open r))) is ∙ now_there x.pool g.table s r l m e)) n);
          high_new = highs_stay x.pool g.table s r l m e g.high_news g.high_new;
          waits = g.waits;
        }

    posts_high : is_high d ≡ true → NewHigh (Open r) → Grows Posted
    posts_high z n =
        let o = one_high x.out d f p z in
        record {
          table = length-set x.pool (s - 1) (Open r) ∙ g.table;
          handles = g.handles;
          normal_news = g.normal_news;
          high_news = g.high_news ++ record { descriptor = d; frame = f; payload = p } ∷ [];
          normal_is = o.1 ∙ g.normal_is;
          high_is = o.0 ∙ (ap (λ xs. xs ++ record { descriptor = d; frame = f; payload = p } ∷ []) g.high_is ∙ append_assoc (high_posts w.host.out) g.high_news (record { descriptor = d; frame = f; payload = p } ∷ []));
          normal_new = normals_stay x.pool g.table s r l m e x.phases g.normal_news g.normal_new;
          high_new = all_more (λ (q : Post). NewHigh (slot_of (set x.pool (s - 1) (Open r)) (smid_in q.descriptor))) g.high_news (record { descriptor = d; frame = f; payload = p })
              (highs_stay x.pool g.table s r l m e g.high_news g.high_new) (subst NewHigh (sym (ap (slot_of (set x.pool (s - 1) (Open r))) is ∙ now_there x.pool g.table s r l m e)) n);
          waits = g.waits;
        }

  -- another phase, of a handle that is out there as long as it was
  phased : (x : Host) (g0 : ℕ) (p : Phase) → IsHandle g0 → (is_out_there (phase_at x.phases g0) ≡ true → is_out_there p ≡ true) → (p ≡ phase.WaitInternal → ⊥) → Grows x → Grows (record x { phases = with_phase x.phases g0 p })
  phased x g0 p i u v g =
      record {
        table = g.table;
        handles = length-set x.phases _ _ ∙ g.handles;
        normal_news = g.normal_news;
        high_news = g.high_news;
        normal_is = g.normal_is;
        high_is = g.high_is;
        normal_new = all_same (λ (q : Post). NewNormal x.phases (slot_of x.pool (smid_in q.descriptor))) (λ (q : Post). NewNormal (with_phase x.phases g0 p) (slot_of x.pool (smid_in q.descriptor))) (λ q n. still (slot_of x.pool (smid_in q.descriptor)) n) g.normal_news g.normal_new;
        high_new = g.high_new;
        waits = λ k j e. waits_by k j e (k == g0) refl (phase_at-with x.phases g0 k p g.handles i j);
      }
    where
      waits_by : (k : ℕ) → IsHandle k → phase_at (with_phase x.phases g0 p) k ≡ phase.WaitInternal → (c : Bool) → (k == g0) ≡ c → phase_at (with_phase x.phases g0 p) k ≡ cond c p (phase_at x.phases k) → LeftBy k
      waits_by k j e true t z = absurd (v (sym z ∙ e))
      waits_by k j e false t z = g.waits k j (sym z ∙ e)

      there_by : (k : ℕ) → is_out_there (phase_at x.phases k) ≡ true → (c : Bool) → (k == g0) ≡ c → phase_at (with_phase x.phases g0 p) k ≡ cond c p (phase_at x.phases k) → is_out_there (phase_at (with_phase x.phases g0 p) k) ≡ true
      there_by k o true t z = ap is_out_there z ∙ u (subst (λ j. is_out_there (phase_at x.phases j) ≡ true) (eqb-true k g0 t) o)
      there_by k o false t z = ap is_out_there z ∙ o

      still : (y : Slot Request) → NewNormal x.phases y → NewNormal (with_phase x.phases g0 p) y
      still (Open (request.Page k)) n = (n.0, there_by k n.1 (k == g0) refl (phase_at-with x.phases g0 k p g.handles i n.0))
      still (Open (request.Remove k)) n = n
      still (Open (request.Ack event context)) n = tt
      still (Open request.Notification) n = tt
      still (Open request.PortEnable) n = tt
      still (Open (request.Command n)) k = absurd k
      still (Open (request.Abort n t)) k = absurd k
      still (Open (request.TargetReset a)) k = absurd k
      still (Open (request.Leave k)) n = absurd n
      still Free n = absurd n
      still Parked n = absurd n

  -- ---- calls

  module _ (s : ℕ) (l : 1 ≤ s) (m : s ≤ 280) where
    low : s < 65536
    low = omega (arith, m)

    granted : (x : Host) (handle : ℕ) → IsHandle handle → Grows x → Grows (asks.grants x handle s)
    granted x handle i g = phased x handle (after_grant (phase_at x.phases handle) s) i (λ t. granted_there (phase_at x.phases handle) s t) (λ t. granted_waits (phase_at x.phases handle) s t) g

    leaves : (x : Host) (handle : ℕ) → IsHandle handle → is_open (slot_of x.pool s) ≡ false → Grows x → Grows (asks.posts_leave x s handle)
    leaves x handle i e g =
        posts_high (asks.grants x handle s) s (request.Leave handle) (post_descriptor post.HighPriority 0 s 0) (asks.frame_asked (ask.Task handle target_reset 0)) [] l m e (smid_posted post.HighPriority 0 s 0 (omega arith) low) (granted x handle i g) (high_flags s low) tt

    -- what may be posted
    abbrev pub May : Host → Request → Type 0
    May x (request.Page k) = IsHandle k × (is_out_there (phase_at x.phases k) ≡ true)
    May x (request.Remove k) = IsHandle k × LeftBy k
    May x (request.Ack event context) = Unit {0}
    May x request.Notification = Unit {0}
    May x request.PortEnable = Unit {0}
    May x r = ⊥

    plainly : (x : Host) (r : Request) (q : HostAsk) → is_open (slot_of x.pool s) ≡ false → NewNormal x.phases (Open r) → Grows x → Grows (asks.posts_default x s r q)
    plainly x r q e n g = posts_normal x s r (post_descriptor post.Default 0 s 0) (asks.frame_asked q) [] l m e (smid_posted post.Default 0 s 0 (omega arith) low) g (normal_flags s low) n

    posts : (x : Host) (r : Request) → May x r → is_open (slot_of x.pool s) ≡ false → Grows x → Grows (asks.posts_internal x s r)
    posts x (request.Page k) n e g =
        let z = phase_at-with x.phases k k (after_grant (phase_at x.phases k) s) g.handles n.0 n.0 in
        let y : (k == k) ≡ true = grind arith in
        let t : phase_at (with_phase x.phases k (after_grant (phase_at x.phases k) s)) k ≡ after_grant (phase_at x.phases k) s = z ∙ ap (λ c. cond c (after_grant (phase_at x.phases k) s) (phase_at x.phases k)) y in
        plainly (asks.grants x k s) (request.Page k) (ask.PageRead s k) e (n.0, ap is_out_there t ∙ granted_there (phase_at x.phases k) s n.1) (granted x k n.0 g)
    posts x (request.Remove k) n e g = plainly (asks.grants x k s) (request.Remove k) (ask.Remove k) e n.1 (granted x k n.0 g)
    posts x (request.Ack event context) n e g = plainly x (request.Ack event context) (ask.Ack event context) e tt g
    posts x request.Notification n e g = plainly x request.Notification ask.Notification e tt g
    posts x request.PortEnable n e g = plainly x request.PortEnable ask.PortEnable e tt g
    posts x (request.Command n) k e g = absurd k
    posts x (request.Abort n t) k e g = absurd k
    posts x (request.TargetReset a) k e g = absurd k
    posts x (request.Leave k) n e g = absurd n

  pub asks_internal : (x : Host) (r : Request) → ((s : ℕ) (l : 1 ≤ s) (m : s ≤ 280) → May s l m x r) → Grows x → Grows (asks.asks_internal x r)
  asks_internal x r n g = by_free (least_free class.Internal x.pool) refl
    where
      by_free : (o : Option ℕ) → least_free class.Internal x.pool ≡ o → Grows (asks.posts_internal_or_waits x r o)
      by_free None e = record { table = g.table; handles = g.handles; normal_news = g.normal_news; high_news = g.high_news; normal_is = g.normal_is; high_is = g.high_is; normal_new = g.normal_new; high_new = g.high_new; waits = g.waits }
      by_free (Some s) e = let z = least_is class.Internal x.pool s e in let i = class_within class.Internal s z.inside in posts s i.0 i.1 x r (n s i.0 i.1) (ap is_open z.free) g

  asks_leave : (x : Host) (handle : ℕ) → IsHandle handle → Grows x → Grows (asks.asks_leave x handle)
  asks_leave x handle j g = by_free (least_free class.High x.pool) refl
    where
      by_free : (o : Option ℕ) → least_free class.High x.pool ≡ o → Grows (asks.posts_leave_or_waits x handle o)
      by_free None e = record { table = g.table; handles = g.handles; normal_news = g.normal_news; high_news = g.high_news; normal_is = g.normal_is; high_is = g.high_is; normal_new = g.normal_new; high_new = g.high_new; waits = g.waits }
      by_free (Some s) e = let z = least_is class.High x.pool s e in let i = class_within class.High s z.inside in leaves s i.0 i.1 x handle j (ap is_open z.free) g

-- ---- what answers leave

task_left : (p : Phase) (s : ℕ) → after_task_done p s ≡ phase.WaitInternal → is_left_by s p ≡ true
task_left (phase.Resetting r) s e = by_key (r == s) e
  where
    by_key : (c : Bool) → (if c then phase.WaitInternal else phase.Resetting r) ≡ phase.WaitInternal → c ≡ true
    by_key true e = refl
    by_key false e = absurd (cc)
task_left phase.WaitInternal s e = refl
task_left phase.Absent s e = absurd (cc)
task_left phase.WaitRead s e = absurd (cc)
task_left (phase.Reading r) s e = absurd (cc)
task_left (phase.Ready a) s e = absurd (cc)
task_left phase.WaitHigh s e = absurd (cc)
task_left (phase.Removing r) s e = absurd (cc)

page_left : (p : Phase) (s : ℕ) (page : Option ℕ) → after_page p s page ≡ phase.WaitInternal → is_left_by s p ≡ true
page_left (phase.Reading r) s page e = by_key (r == s) page e
  where
    by_key : (c : Bool) (page : Option ℕ) → (if c then Rattle.removal.specs.Phases.phase_by_page page else phase.Reading r) ≡ phase.WaitInternal → false ≡ true
    by_key true (Some a) e = cc
    by_key true None e = cc
    by_key false page e = cc
page_left phase.WaitInternal s page e = refl
page_left phase.Absent s page e = absurd (cc)
page_left phase.WaitRead s page e = absurd (cc)
page_left (phase.Resetting r) s page e = absurd (cc)
page_left (phase.Ready a) s page e = absurd (cc)
page_left phase.WaitHigh s page e = absurd (cc)
page_left (phase.Removing r) s page e = absurd (cc)

removed_left : (p : Phase) (s : ℕ) → after_removed p s ≡ phase.WaitInternal → is_left_by s p ≡ true
removed_left (phase.Removing r) s e = by_key (r == s) e
  where
    by_key : (c : Bool) → (if c then phase.Absent else phase.Removing r) ≡ phase.WaitInternal → false ≡ true
    by_key true e = cc
    by_key false e = cc
removed_left phase.WaitInternal s e = refl
removed_left phase.Absent s e = absurd (cc)
removed_left phase.WaitRead s e = absurd (cc)
removed_left (phase.Resetting r) s e = absurd (cc)
removed_left (phase.Reading r) s e = absurd (cc)
removed_left (phase.Ready a) s e = absurd (cc)
removed_left phase.WaitHigh s e = absurd (cc)

under_left : (p : Phase) (s : ℕ) → removal.is_reset_under s p ≡ true → is_left_by s p ≡ true
under_left (phase.Resetting r) s t = t
under_left phase.WaitInternal s t = refl
under_left phase.Absent s t = absurd (cc)
under_left phase.WaitRead s t = absurd (cc)
under_left (phase.Reading r) s t = absurd (cc)
under_left (phase.Ready a) s t = absurd (cc)
under_left phase.WaitHigh s t = absurd (cc)
under_left (phase.Removing r) s t = absurd (cc)

waits_read : (p : Phase) → waits_for_read p ≡ true → p ≡ phase.WaitRead
waits_read phase.WaitRead t = refl
waits_read phase.WaitInternal t = absurd (cc)
waits_read phase.Absent t = absurd (cc)
waits_read (phase.Reading r) t = absurd (cc)
waits_read (phase.Ready a) t = absurd (cc)
waits_read phase.WaitHigh t = absurd (cc)
waits_read (phase.Resetting r) t = absurd (cc)
waits_read (phase.Removing r) t = absurd (cc)

waits_left : (p : Phase) (s : ℕ) → waits_for_internal p ≡ true → is_left_by s p ≡ true
waits_left phase.WaitInternal s t = refl
waits_left phase.WaitRead s t = absurd (cc)
waits_left phase.Absent s t = absurd (cc)
waits_left (phase.Reading r) s t = absurd (cc)
waits_left (phase.Ready a) s t = absurd (cc)
waits_left phase.WaitHigh s t = absurd (cc)
waits_left (phase.Resetting r) s t = absurd (cc)
waits_left (phase.Removing r) s t = absurd (cc)

true_by : (b : Bool) → 1 ≤ one_if b → b ≡ true
true_by true l = refl
true_by false l = absurd (omega (arith, l))

own : (g : ℕ) → one_if (g == g) ≡ 1
own g = grind arith

pub bare_of : (w : World) (hand : ℕ) (h : History) → Facts w h → (x : Host) → Alike w.host x → IsBare w hand x
bare_of w hand h f x a =
    record {
      table = ap length a.pool_is ∙ f.flights.sizes.pool;
      handles = ap length a.phases_are ∙ f.flights.sizes.phases;
      normal_same = a.normal_out;
      high_same = a.high_out;
      internal_same = a.internal_is;
      high_wait = a.high_is;
      waits = λ g i e. ap (is_left_by hand) (sym (ap (λ ps. phase_at ps g) a.phases_are) ∙ e);
      reads = λ g i e. ap (λ ps. phase_at ps g) a.phases_are ∙ e;
    }

module _ (w : World) (hand : ℕ) (h : History) (f : Facts w h) (normal : in_normal w ≡ true) (l : 1 ≤ hand) (m : hand ≤ 280) where
  freed_now : (x : Host) → length x.pool ≡ 280 → is_open (slot_of (set x.pool (hand - 1) Free) hand) ≡ false
  freed_now x t = let z : (hand == hand) ≡ true = grind arith in ap is_open (slot_of-set x.pool hand hand Free l (omega (arith, l, m, t)) ∙ ap (λ c. cond c Free (slot_of x.pool hand)) z)

  gives_high : (x : Host) (xs : List ℕ) → w.host.wait_high ≡ xs → is_open (slot_of x.pool hand) ≡ false → IsBare w hand x → Grows w hand (asks.gives_high x hand xs)
  gives_high x [] e o b = no_posts w hand x b
  gives_high x (handle ∷ rest) e o b = leaves w hand hand l m (record x { wait_high = rest }) handle (All-head IsHandle handle rest (subst (All IsHandle) e f.handles.waits.handles)) o (no_posts w hand x b)

  frees_high : (x : Host) → IsBare w hand x → Grows w hand (asks.frees_high x hand)
  frees_high x b = subst (λ xs. Grows w hand (asks.gives_high (asks.frees x hand) hand xs)) (sym b.high_wait) (gives_high (asks.frees x hand) w.host.wait_high refl (freed_now x b.table) (closes w hand x hand Free b))

  may : (x : Host) (r : Request) (rest : List Request) → w.host.wait_internal ≡ r ∷ rest → IsBare w hand x → IsWaiting r → May w hand hand l m x r
  may x (request.Page k) rest e b n =
      let p = (f.handles.each k n).records normal in
      let c = how_many-cons (waits_for_page k) (request.Page k) rest in let z = ap (how_many (waits_for_page k)) e in let u = own k in let q = p.read in
      let t = waits_read (phase_of w k) (true_by (waits_for_read (phase_of w k)) (omega (arith, c, z, u, q))) in
      (n, ap is_out_there (b.reads k n t))
  may x (request.Remove k) rest e b n =
      let p = (f.handles.each k n).records normal in
      let c = how_many-cons (waits_to_remove k) (request.Remove k) rest in let z = ap (how_many (waits_to_remove k)) e in let u = own k in let q = p.remove in
      (n, waits_left (phase_of w k) hand (true_by (waits_for_internal (phase_of w k)) (omega (arith, c, z, u, q))))
  may x (request.Ack event context) rest e b n = tt
  may x request.Notification rest e b n = tt
  may x request.PortEnable rest e b n = tt
  may x (request.Command n) rest e b k = absurd k
  may x (request.Abort n t) rest e b k = absurd k
  may x (request.TargetReset a) rest e b k = absurd k
  may x (request.Leave k) rest e b n = absurd n

  gives_internal : (x : Host) (rs : List Request) → w.host.wait_internal ≡ rs → is_open (slot_of x.pool hand) ≡ false → IsBare w hand x → Grows w hand (asks.gives_internal x hand rs)
  gives_internal x [] e o b = no_posts w hand x b
  gives_internal x (r ∷ rest) e o b =
      posts w hand hand l m (record x { wait_internal = rest }) r (may x r rest e b (All-head IsWaiting r rest (subst (All IsWaiting) e f.handles.waits.requests))) o (no_posts w hand x b)

  frees_internal : (x : Host) → IsBare w hand x → Grows w hand (asks.frees_internal x hand)
  frees_internal x b = subst (λ rs. Grows w hand (asks.gives_internal (asks.frees x hand) hand rs)) (sym b.internal_same) (gives_internal (asks.frees x hand) w.host.wait_internal refl (freed_now x b.table) (closes w hand x hand Free b))

  unparked : (x : Host) (task : ℕ) (y : Slot Request) → IsBare w hand x → IsBare w hand (replies.unparks x task y)
  unparked x task Parked b = closes w hand x task Free b
  unparked x task Free b = b
  unparked x task (Open r) b = b

  module _ (x : Host) (a : Alike w.host x) where
    bare : IsBare w hand x
    bare = bare_of w hand h f x a

    same_phase : (g : ℕ) → phase_at x.phases g ≡ phase_of w g
    same_phase g = ap (λ ps. phase_at ps g) a.phases_are

    left : (g : ℕ) → IsHandle g → Grows w hand (removal.left x hand g)
    left g i = by_phase (removal.is_reset_under hand (phase_at x.phases g)) refl
      where
        freed : Grows w hand (asks.frees_high (removal.with_phase_of x g (after_task_done (phase_at x.phases g) hand)) hand)
        freed =
            frees_high (removal.with_phase_of x g (after_task_done (phase_at x.phases g) hand))
            (bare_phased w hand x g (after_task_done (phase_at x.phases g) hand) i (λ e. ap (is_left_by hand) (sym (same_phase g)) ∙ task_left (phase_at x.phases g) hand e) (λ e. ap (λ p. after_task_done p hand) (same_phase g ∙ e)) bare)

        by_phase : (b : Bool) → removal.is_reset_under hand (phase_at x.phases g) ≡ b
            → Grows w hand (if b then asks.asks_internal (asks.frees_high (removal.with_phase_of x g (after_task_done (phase_at x.phases g) hand)) hand) (request.Remove g) else asks.frees_high (removal.with_phase_of x g (after_task_done (phase_at x.phases g) hand)) hand)
        by_phase true t = asks_internal w hand _ (request.Remove g) (λ s j k. (i, ap (is_left_by hand) (sym (same_phase g)) ∙ under_left (phase_at x.phases g) hand t)) freed
        by_phase false t = freed

    page : (g : ℕ) → IsHandle g → (o : Option ℕ) → Grows w hand (removal.reads_page x hand g o).part
    page g i o =
        frees_internal (removal.with_phase_of x g (after_page (phase_at x.phases g) hand o))
        (bare_phased w hand x g (after_page (phase_at x.phases g) hand o) i (λ e. ap (is_left_by hand) (sym (same_phase g)) ∙ page_left (phase_at x.phases g) hand o e) (λ e. ap (λ p. after_page p hand o) (same_phase g ∙ e)) bare)

    removed : (g : ℕ) → IsHandle g → Grows w hand (removal.removed x hand g)
    removed g i =
        frees_internal (removal.with_phase_of x g (after_removed (phase_at x.phases g) hand))
        (bare_phased w hand x g (after_removed (phase_at x.phases g) hand) i (λ e. ap (is_left_by hand) (sym (same_phase g)) ∙ removed_left (phase_at x.phases g) hand e) (λ e. ap (λ p. after_removed p hand) (same_phase g ∙ e)) bare)

    unless : is_resetting x.mode ≡ false → (o : Rattle.mpt_rules.specs.Outcome.Happening Host) → Grows w hand o.part → Grows w hand (replies.unless_resetting x hand o).part
    unless n o g = subst (λ b. Grows w hand (if b then removal.quietly (asks.frees x hand) else o).part) (sym n) g

    answer : is_resetting x.mode ≡ false → (r : Request) (v : replies.Heard) → Rattle.law_facts.specs.Handles.RecordHasPhase w hand (Open r) → Grows w hand (replies.hears_answer x hand r v).part
    answer n (request.Command k) v e = no_posts w hand (replies.host_answers x hand k (replies.ended v.frame v.page v.sense)).part (closes w hand x hand (replies.slot_after (finmap.get x.aborts k)) bare)
    answer n (request.Abort k task) v e = frees_high (replies.closes_abort x k task) (unparked (record x { aborts = finmap.remove x.aborts k }) task (slot_of x.pool task) bare)
    answer n (request.TargetReset a) v e = frees_high x bare
    answer n (request.Leave g) v e = unless n (removal.quietly (removal.left x hand g)) (left g e.0)
    answer n (request.Page g) v e = unless n (removal.reads_page x hand g (replies.address_read (replies.reply_bytes v) v.page)) (page g e (replies.address_read (replies.reply_bytes v) v.page))
    answer n (request.Remove g) v e = unless n (removal.quietly (removal.removed x hand g)) (removed g e.0)
    answer n (request.Ack event context) v e = unless n (removal.quietly (asks.frees_internal x hand)) (frees_internal x bare)
    answer n request.Notification v e = unless n (removal.quietly (replies.hears_notified x hand)) (asks_internal w hand (asks.frees_internal x hand) request.PortEnable (λ s j k. tt) (frees_internal x bare))
    answer n request.PortEnable v e = unless n (replies.after_port_enable x hand) (let g = frees_internal x bare in record { table = g.table; handles = g.handles; normal_news = g.normal_news; high_news = g.high_news; normal_is = g.normal_is; high_is = g.high_is; normal_new = g.normal_new; high_new = g.high_new; waits = g.waits })

-- ---- events

module _ (w : World) (hand : ℕ) where
  adds : (x : Host) (g : ℕ) (p : Phase) → IsHandle g → phase_at x.phases g ≡ p → Grows w hand x → Grows w hand (removal.after_handle_added x g p)
  adds x g phase.Absent i e k =
      let z = phase_at-with x.phases g g phase.WaitRead k.handles i i in
      let y : (g == g) ≡ true = grind arith in
      let t : phase_at (with_phase x.phases g phase.WaitRead) g ≡ phase.WaitRead = z ∙ ap (λ c. cond c phase.WaitRead (phase_at x.phases g)) y in
      asks_internal w hand (removal.with_phase_of x g phase.WaitRead) (request.Page g) (λ s l m. (i, ap is_out_there t)) (phased w hand x g phase.WaitRead i (λ u. refl) (λ u. absurd (cc)) k)
  adds x g phase.WaitRead i e k = k
  adds x g (phase.Reading s) i e k = k
  adds x g (phase.Ready a) i e k = k
  adds x g phase.WaitHigh i e k = k
  adds x g (phase.Resetting s) i e k = k
  adds x g phase.WaitInternal i e k = k
  adds x g (phase.Removing s) i e k = k

  goes : (x : Host) (g : ℕ) (p : Phase) → after_gone p ≡ phase.WaitHigh → IsHandle g → Grows w hand x → Grows w hand (removal.begins_removal x g p).part
  goes x g p e i k =
      asks_leave w hand (record x { phases = with_phase x.phases g (after_gone p); wait_internal = removal.without_page g x.wait_internal }) g i
      (phased w hand x g (after_gone p) i (λ u. ap is_out_there e) (λ u. let z : phase.WaitHigh ≡ phase.WaitInternal = sym e ∙ u in absurd (cc)) k)

  loses : (x : Host) (g : ℕ) (p : Phase) → IsHandle g → Grows w hand x → Grows w hand (removal.after_handle_lost x g p).part
  loses x g phase.WaitRead i k = goes x g phase.WaitRead refl i k
  loses x g (phase.Reading s) i k = goes x g (phase.Reading s) refl i k
  loses x g (phase.Ready a) i k = goes x g (phase.Ready a) refl i k
  loses x g phase.Absent i k = k
  loses x g phase.WaitHigh i k = k
  loses x g (phase.Resetting s) i k = k
  loses x g phase.WaitInternal i k = k
  loses x g (phase.Removing s) i k = k

  change : (x : Host) (c : Change) → Grows w hand x → Grows w hand (removal.hears_change x c).part
  change x c k = by_tests (removal.is_disk_handle c.handle) (c.status == target_added) (c.status == target_not_responding) refl
    where
      by_tests : (a b d : Bool) → removal.is_disk_handle c.handle ≡ a → Grows w hand (if a then (if b then removal.quietly (removal.after_handle_added x c.handle (phase_at x.phases c.handle)) else (if d then removal.after_handle_lost x c.handle (phase_at x.phases c.handle) else removal.quietly x)) else removal.quietly x).part
      by_tests false b d t = k
      by_tests true true d t = adds x c.handle (phase_at x.phases c.handle) (of_disk c.handle t) refl k
      by_tests true false true t = loses x c.handle (phase_at x.phases c.handle) (of_disk c.handle t) k
      by_tests true false false t = k

  changes : (x : Host) (cs : List Change) → Grows w hand x → Grows w hand (removal.hears_changes x cs).part
  unfolding removal.hears_changes
  changes x [] k = k
  changes x (c ∷ cs) k = changes (removal.hears_change x c).part cs (change x c k)

  event : (x : Host) (fr : List ℕ) → Grows w hand x → Grows w hand (removal.hears_event x fr).part
  event x fr k = changes (asks.asks_internal x (request.Ack (event_in fr) (event_context_in fr))) (changes_in fr) (asks_internal w hand x (request.Ack (event_in fr) (event_context_in fr)) (λ s l m. tt) k)

-- a reply, in a host that goes on normally
module _ (w : World) (h : History) (f : Facts w h) (normal : in_normal w ≡ true) (d : ℕ) where
  none : (x : Host) → Alike w.host x → is_resetting x.mode ≡ false → (v : replies.Heard) → Grows w (smid_in d) (replies.hears_reply_to x (smid_in d) None v).part
  none x a n v = subst (λ b. Grows w (smid_in d) (if b then removal.quietly x else removal.hears_event x (replies.reply_bytes v)).part) (sym n) (event w (smid_in d) x (replies.reply_bytes v) (no_posts w (smid_in d) x (bare_of w (smid_in d) h f x a)))

  pub reply : (x : Host) → Alike w.host x → is_resetting x.mode ≡ false → (v : replies.Heard) (y : Slot Request) → slot w.host (smid_in d) ≡ y → Grows w (smid_in d) (replies.hears_reply_to x (smid_in d) (record_of y) v).part
  reply x a n v (Open r) e =
      let p = in_table w.host.pool (smid_in d) (Open r) e (λ z. absurd (cc)) in let t = f.flights.sizes.pool in
      answer w (smid_in d) h f normal p.0 (omega (arith, p, t)) x a n r v (subst (Rattle.law_facts.specs.Handles.RecordHasPhase w (smid_in d)) e (f.handles.records normal (smid_in d)))
  reply x a n v Free e = none x a n v
  reply x a n v Parked e = none x a n v
