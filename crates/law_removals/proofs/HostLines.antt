-- What each call of a host makes of its posts: those of the outbox stay in front, and what is new behind them is of a handle in a phase that asks for it.
use Rattle.std.proofs.Common.{◌≡◌, ℕ, zero, suc, ◌+◌, ◌-◌, ◌%◌, ◌<◌, ◌≤◌, ◌==◌, ◌||◌, cond, Bool, true, false, if◌then◌else◌, List, [], ◌∷◌, ◌++◌, length, set, mod-lt, Option, Some, None, option_map, refl, ap, sym, ◌∙◌, subst, arith, append-nil}
use Rattle.std.specs.Prelude.{All}
use Rattle.std.specs.FinMap as finmap
use Rattle.std.specs.List.{filter, position}
use Rattle.std.proofs.lemmas.Bool.{eqb-true}
use Rattle.std.proofs.lemmas.List.Elements.{All-nil}
use Rattle.std.proofs.lemmas.List.Quantifiers.{position-Some}
use Rattle.smid_pool.specs.Pool.{Slot, Free, Open, Parked, slot_of}
use Rattle.smid_pool.specs.declared.class.Class.TheVariants as class
use Rattle.removal.specs.Handles.{IsHandle, phase_at, ready_handle}
use Rattle.removal.specs.Phases.{is_ready_at}
use Rattle.removal.specs.declared.phase.Phase.{Phase}
use Rattle.removal.specs.declared.phase.Phase.TheVariants as phase
use Rattle.mpi_rings.specs.declared.request_descriptor.PostKind.TheVariants as post
use Rattle.mpt_messages.specs.declared.host_ask.HostAsk.TheVariants as ask
use Rattle.mpt_wire.specs.Messages.Fields.{abort_task, dev_handle_in, post_descriptor, smid_in, target_reset}
use Rattle.mpt_wire.specs.Machine.Causes.{is_up}
use Rattle.mpt_trace.specs.declared.host_state.HostState.{HostState}
use Rattle.mpt_trace.specs.declared.host_state.HostState.TheVariants as state
use Rattle.mpt_trace.specs.declared.item.Down.{Down}
use Rattle.mpt_trace.specs.declared.item.Down.TheVariants as down
use Rattle.mpt_rules.specs.declared.post.Post.{Post}
use Rattle.mpt_rules.specs.declared.request.Request.{Request}
use Rattle.mpt_rules.specs.declared.request.Request.TheVariants as request
use Rattle.mpt_rules.specs.Host.Inputs as inputs
use Rattle.mpt_rules.specs.Host.Parts.{Cmd, Host, host_queue_count}
use Rattle.mpt_rules.specs.Host.Posts as asks
use Rattle.mpt_rules.specs.Host.Resets as resets
use Rattle.mpt_rules.specs.Host.Takes.{is_starting}
use Rattle.mpt_rules.specs.World.Lines.{high_posts, is_high, normal_posts}
use Rattle.mpt_rules.specs.World.State.{World}
use Rattle.law_facts.specs.Clock.{in_normal, is_linked_up}
use Rattle.law_facts.specs.Facts.{Facts}
use Rattle.law_facts.specs.Handles.{phase_of}
use Rattle.law_facts.specs.History.{History}
use Rattle.law_flights.proofs.Descriptors.{smid_posted}
use Rattle.law_flights.proofs.HostHolds.{slot_of-set}
use Rattle.law_flights.proofs.HostMoves.{mode_asks}
use Rattle.law_flights.proofs.Least.{least_is}
use Rattle.law_messages.proofs.Agreeing.{all_one, all_same}
use Rattle.law_messages.proofs.Keys.{get_inserted}
use Rattle.law_messages.proofs.PostFields.{handle_of_reset}
use Rattle.law_lives.proofs.HostDoes.{Accepts, AsksAbort, AsksTarget, Begins, GivesUp, HostDoes, Notifies, Renews, Rests}
use Rattle.law_removals.proofs.Grown.{Grows, NewHigh, NewNormal, asks_internal, bare_of, high_flags, is_left_by, no_posts, one_high, one_normal}

abbrev pub is_ready_phase : Phase → Bool
is_ready_phase (phase.Ready address) = true
is_ready_phase p = false

module _ (w : World) (hand : ℕ) where
  -- a new post, by the record of its identifier
  abbrev pub FreshNormal : Host → Slot Request → Type 0
  FreshNormal k (Open (request.Command n)) = (c : Cmd) → finmap.get k.cmds n ≡ Some c → is_ready_phase (phase_at k.phases c.handle) ≡ true
  FreshNormal k x = NewNormal w hand k.phases x

  abbrev pub FreshHigh : Host → Post → Slot Request → Type 0
  FreshHigh k p (Open (request.Leave g)) = Unit {0}
  FreshHigh k p (Open (request.Abort n task)) = Unit {0}
  FreshHigh k p (Open (request.TargetReset a)) = IsHandle (dev_handle_in p.frame) × (phase_of w (dev_handle_in p.frame) ≡ phase.Ready a) × (phase_at k.phases (dev_handle_in p.frame) ≡ phase.Ready a) × (in_normal w ≡ true)
  FreshHigh k p x = ⊥

  pub record Grew (k : Host) : Type 0 where
    pub normal_news : List Post
    pub high_news : List Post
    pub normal_is : normal_posts k.out ≡ normal_posts w.host.out ++ normal_news
    pub high_is : high_posts k.out ≡ high_posts w.host.out ++ high_news
    pub normal_new : All (λ (p : Post). FreshNormal k (slot_of k.pool (smid_in p.descriptor))) normal_news
    pub high_new : All (λ (p : Post). FreshHigh k p (slot_of k.pool (smid_in p.descriptor))) high_news
    pub waits : (g : ℕ) → IsHandle g → phase_at k.phases g ≡ phase.WaitInternal → is_left_by hand (phase_of w g) ≡ true

  fresh_normal : (k : Host) (x : Slot Request) → NewNormal w hand k.phases x → FreshNormal k x
  fresh_normal k (Open (request.Command n)) z = absurd z
  fresh_normal k (Open (request.Page g)) z = z
  fresh_normal k (Open (request.Remove g)) z = z
  fresh_normal k (Open (request.Ack event context)) z = z
  fresh_normal k (Open request.Notification) z = z
  fresh_normal k (Open request.PortEnable) z = z
  fresh_normal k (Open (request.Abort n t)) z = absurd z
  fresh_normal k (Open (request.TargetReset a)) z = absurd z
  fresh_normal k (Open (request.Leave g)) z = absurd z
  fresh_normal k Free z = absurd z
  fresh_normal k Parked z = absurd z

  fresh_high : (k : Host) (p : Post) (x : Slot Request) → NewHigh w hand x → FreshHigh k p x
  fresh_high k p (Open (request.Leave g)) z = tt
  fresh_high k p (Open (request.Command n)) z = absurd z
  fresh_high k p (Open (request.Page g)) z = absurd z
  fresh_high k p (Open (request.Remove g)) z = absurd z
  fresh_high k p (Open (request.Ack event context)) z = absurd z
  fresh_high k p (Open request.Notification) z = absurd z
  fresh_high k p (Open request.PortEnable) z = absurd z
  fresh_high k p (Open (request.Abort n t)) z = absurd z
  fresh_high k p (Open (request.TargetReset a)) z = absurd z
  fresh_high k p Free z = absurd z
  fresh_high k p Parked z = absurd z

  pub of_reply : (k : Host) → Grows w hand k → Grew k
  of_reply k g =
      record {
        normal_news = g.normal_news;
        high_news = g.high_news;
        normal_is = g.normal_is;
        high_is = g.high_is;
        normal_new = all_same (λ (p : Post). NewNormal w hand k.phases (slot_of k.pool (smid_in p.descriptor))) (λ (p : Post). FreshNormal k (slot_of k.pool (smid_in p.descriptor))) (λ p z. fresh_normal k (slot_of k.pool (smid_in p.descriptor)) z) g.normal_news g.normal_new;
        high_new = all_same (λ (p : Post). NewHigh w hand (slot_of k.pool (smid_in p.descriptor))) (λ (p : Post). FreshHigh k p (slot_of k.pool (smid_in p.descriptor))) (λ p z. fresh_high k p (slot_of k.pool (smid_in p.descriptor)) z) g.high_news g.high_new;
        waits = g.waits;
      }

up_goes : (m : HostState) → is_up m ≡ true → (is_starting m || is_up m) ≡ true
up_goes state.Off t = absurd (cc)
up_goes state.Starting t = absurd (cc)
up_goes state.Up t = refl
up_goes state.Resetting t = absurd (cc)

-- ---- the handle of a ready disk

pub ready_phase : (phases : List Phase) (a handle : ℕ) → length phases ≡ 64 → ready_handle phases a ≡ Some handle → IsHandle handle × (phase_at phases handle ≡ phase.Ready a)
ready_phase phases a handle l e = by_place (position (is_ready_at a) phases) refl e
  where
    ready_is : (p : Phase) → is_ready_at a p ≡ true → p ≡ phase.Ready a
    ready_is (phase.Ready b) t = ap phase.Ready (eqb-true b a t)
    ready_is phase.Absent t = absurd (cc)
    ready_is phase.WaitRead t = absurd (cc)
    ready_is (phase.Reading s) t = absurd (cc)
    ready_is phase.WaitHigh t = absurd (cc)
    ready_is (phase.Resetting s) t = absurd (cc)
    ready_is phase.WaitInternal t = absurd (cc)
    ready_is (phase.Removing s) t = absurd (cc)

    by_place : (o : Option ℕ) → position (is_ready_at a) phases ≡ o → option_map (λ place. 0x0009 + place) o ≡ Some handle → IsHandle handle × (phase_at phases handle ≡ phase.Ready a)
    by_place None p e = absurd (cc)
    by_place (Some place) p e =
        let s = position-Some (is_ready_at a) phases place phase.Absent p in
        let z : 0x0009 + place ≡ handle = cc in
        let q = s.0 in
        let i : place ≡ handle - 0x0009 = omega (arith, z) in
        ((omega (arith, z), omega (arith, q, l, z)), ready_is (phase_at phases handle) (subst (λ j. is_ready_at a (Rattle.std.proofs.Common.get_or phases j phase.Absent) ≡ true) i s.1))

-- ---- whatever the host does but with a reply

command_flags : (q s handle : ℕ) → q < 256 → s < 65536 → is_high (post_descriptor post.ScsiIo q s handle) ≡ false
command_flags q s handle a b = let z : Rattle.mpt_wire.specs.Messages.Fields.flags_in (post_descriptor post.ScsiIo q s handle) ≡ 0 = omega (arith, a, b) in ap (λ n. n == 6) z

pub data HostLine (w : World) (k : Host) : Type 0 where
  SameOf : normal_posts k.out ≡ normal_posts w.host.out → high_posts k.out ≡ high_posts w.host.out → k.phases ≡ w.host.phases → HostLine w k
  MoreOf : (is_starting k.mode || is_up k.mode) ≡ true → Grew w 0 k → HostLine w k
  LessOf : normal_posts k.out ≡ [] → high_posts k.out ≡ [] → HostLine w k
  Anew : is_linked_up w ≡ true → normal_posts k.out ≡ normal_posts w.host.out → high_posts k.out ≡ high_posts w.host.out → HostLine w k

filtered_out : (xs : List Down) → (normal_posts (filter resets.is_no_post xs) ≡ []) × (high_posts (filter resets.is_no_post xs) ≡ [])
filtered_out [] = (Rattle.mpt_rules.proofs.Lines.normal_posts-nil, Rattle.mpt_rules.proofs.Lines.high_posts-nil)
filtered_out (down.Post d f p ∷ xs) = filtered_out xs
filtered_out (down.Write reg value ∷ xs) = let r = filtered_out xs in (Rattle.mpt_rules.proofs.Lines.normal_posts-cons (down.Write reg value) (filter resets.is_no_post xs) ∙ r.0, Rattle.mpt_rules.proofs.Lines.high_posts-cons (down.Write reg value) (filter resets.is_no_post xs) ∙ r.1)
filtered_out (down.Read reg ∷ xs) = let r = filtered_out xs in (Rattle.mpt_rules.proofs.Lines.normal_posts-cons (down.Read reg) (filter resets.is_no_post xs) ∙ r.0, Rattle.mpt_rules.proofs.Lines.high_posts-cons (down.Read reg) (filter resets.is_no_post xs) ∙ r.1)
filtered_out (down.Return a i ∷ xs) = let r = filtered_out xs in (Rattle.mpt_rules.proofs.Lines.normal_posts-cons (down.Return a i) (filter resets.is_no_post xs) ∙ r.0, Rattle.mpt_rules.proofs.Lines.high_posts-cons (down.Return a i) (filter resets.is_no_post xs) ∙ r.1)
filtered_out (down.Stop ∷ xs) = let r = filtered_out xs in (Rattle.mpt_rules.proofs.Lines.normal_posts-cons down.Stop (filter resets.is_no_post xs) ∙ r.0, Rattle.mpt_rules.proofs.Lines.high_posts-cons down.Stop (filter resets.is_no_post xs) ∙ r.1)

module _ (w : World) (h : History) (f : Facts w h) where
  -- one post of a call, in a host with the same phases
  posted_at : (s : ℕ) (r : Request) → 1 ≤ s → s ≤ 280 → slot_of (set w.host.pool (s - 1) (Open r)) s ≡ Open r
  posted_at s r l m =
      let t = f.flights.sizes.pool in let z : (s == s) ≡ true = grind arith in
      slot_of-set w.host.pool s s (Open r) l (omega (arith, l, m, t)) ∙ ap (λ c. cond c (Open r) (slot_of w.host.pool s)) z

  high_call : (k : Host) (s : ℕ) (r : Request) (fr : List ℕ) → 1 ≤ s → s ≤ 280 → k.pool ≡ set w.host.pool (s - 1) (Open r) → k.phases ≡ w.host.phases
      → k.out ≡ w.host.out ++ down.Post (post_descriptor post.HighPriority 0 s 0) fr [] ∷ [] → FreshHigh w 0 k (record { descriptor = post_descriptor post.HighPriority 0 s 0; frame = fr; payload = [] }) (Open r) → Grew w 0 k
  high_call k s r fr l m e p o n =
      let d = post_descriptor post.HighPriority 0 s 0 in
      let q = one_high w.host.out d fr [] (high_flags s (omega (arith, m))) in
      let is : smid_in d ≡ s = smid_posted post.HighPriority 0 s 0 (omega arith) (omega (arith, m)) in
      record {
        normal_news = [];
        high_news = record { descriptor = d; frame = fr; payload = [] } ∷ [];
        normal_is = ap normal_posts o ∙ (q.1 ∙ sym (append-nil (normal_posts w.host.out)));
        high_is = ap high_posts o ∙ q.0;
        normal_new = All-nil (λ (x : Post). FreshNormal w 0 k (slot_of k.pool (smid_in x.descriptor)));
        high_new = all_one (λ (x : Post). FreshHigh w 0 k x (slot_of k.pool (smid_in x.descriptor))) (record { descriptor = d; frame = fr; payload = [] })
            (subst (FreshHigh w 0 k (record { descriptor = d; frame = fr; payload = [] })) (sym (ap (slot_of k.pool) is ∙ (ap (λ xs. slot_of xs s) e ∙ posted_at s r l m))) n);
        waits = λ g i z. ap (is_left_by 0) (sym (ap (λ ps. phase_at ps g) p) ∙ z);
      }

  pub by_does : (k : Host) → HostDoes w k → HostLine w k
  by_does k (Rests a) = SameOf a.normal_out a.high_out a.phases_are
  by_does k (Begins m a) = SameOf a.normal_out a.high_out a.phases_are
  by_does k (GivesUp s m a) = let r = filtered_out w.host.out in LessOf (a.normal_out ∙ r.0) (a.high_out ∙ r.1)
  by_does k (Renews r u a) = Anew u a.normal_out a.high_out
  by_does k (Notifies m st a e) = subst (HostLine w) (sym e) (MoreOf (ap (λ y. is_starting y || is_up y) (mode_asks m request.Notification ∙ (a.mode_is ∙ st))) (of_reply w 0 (asks.asks_internal m request.Notification) (asks_internal w 0 m request.Notification (λ s l j. tt) (no_posts w 0 m (bare_of w 0 h f m a)))))
  by_does k (AsksAbort s n cmd u c r free e) =
      let i = (least_is class.High w.host.pool s free).inside in
      MoreOf (ap (λ (x : Host). is_starting x.mode || is_up x.mode) e ∙ up_goes w.host.mode u) (high_call k s (request.Abort n cmd.smid) (asks.frame_asked (ask.Task cmd.handle abort_task cmd.smid)) (omega (arith, i)) (omega (arith, i)) (ap (λ (x : Host). x.pool) e) (ap (λ (x : Host). x.phases) e) (ap (λ (x : Host). x.out) e) tt)
  by_does k (AsksTarget s address handle u r free e) =
      let i = (least_is class.High w.host.pool s free).inside in
      let y = ready_phase w.host.phases address handle f.flights.sizes.phases r in
      let t = handle_of_reset handle y.0 in
      MoreOf (ap (λ (x : Host). is_starting x.mode || is_up x.mode) e ∙ up_goes w.host.mode u) (high_call k s (request.TargetReset address) (asks.frame_asked (ask.Task handle target_reset 0)) (omega (arith, i)) (omega (arith, i)) (ap (λ (x : Host). x.pool) e) (ap (λ (x : Host). x.phases) e) (ap (λ (x : Host). x.out) e)
      (subst IsHandle (sym t) y.0, ap (phase_of w) t ∙ y.1, ap (phase_at k.phases) t ∙ (ap (λ (x : Host). phase_at x.phases handle) e ∙ y.1), up_goes w.host.mode u))
  by_does k (Accepts s n address handle command u c r free e) =
      let i = (least_is class.ScsiIo w.host.pool s free).inside in
      let y = ready_phase w.host.phases address handle f.flights.sizes.phases r in
      let some = f.flights.sizes.some_queue in let few = f.flights.sizes.few_queues in
      let m : (s - 1) % host_queue_count w.host < host_queue_count w.host = mod-lt (s - 1) (let z : 0 < host_queue_count w.host = omega (arith, some) in z) in
      let d = post_descriptor post.ScsiIo ((s - 1) % host_queue_count w.host) s handle in
      let fr = asks.frame_asked (asks.command_asked s handle command) in
      let is : smid_in d ≡ s = smid_posted post.ScsiIo ((s - 1) % host_queue_count w.host) s handle (omega (arith, m, few)) (omega (arith, i)) in
      let q = one_normal w.host.out d fr command.payload (command_flags ((s - 1) % host_queue_count w.host) s handle (omega (arith, m, few)) (omega (arith, i))) in
      let k1 : Host = inputs.with_accepted w.host n address command handle s in
      let fresh : FreshNormal w 0 k1 (Open (request.Command n)) = λ c0 z. (
      let c1 : Cmd = record { smid = s; handle = handle } in
      let g : Some c1 ≡ Some c0 = sym (get_inserted w.host.cmds n c1) ∙ z in
      let same : handle ≡ c0.handle = ap handle_of g in
      subst (λ j. is_ready_phase (phase_at w.host.phases j) ≡ true) same (ap is_ready_phase y.1)) in
      let grew : Grew w 0 k1 =
      record {
        normal_news = record { descriptor = d; frame = fr; payload = command.payload } ∷ [];
        high_news = [];
        normal_is = q.0;
        high_is = q.1 ∙ sym (append-nil (high_posts w.host.out));
        normal_new = all_one (λ (x : Post). FreshNormal w 0 k1 (slot_of k1.pool (smid_in x.descriptor))) (record { descriptor = d; frame = fr; payload = command.payload })
            (subst (FreshNormal w 0 k1) (sym (ap (slot_of k1.pool) is ∙ posted_at s (request.Command n) (omega (arith, i)) (omega (arith, i)))) fresh);
        high_new = All-nil (λ (x : Post). FreshHigh w 0 k1 x (slot_of k1.pool (smid_in x.descriptor)));
        waits = λ g i z. ap (is_left_by 0) z;
      } in
      subst (HostLine w) (sym e) (MoreOf (up_goes w.host.mode u) grew)
    where
      handle_of : Option Cmd → ℕ
      handle_of (Some c) = c.handle
      handle_of None = 0
