-- Each move of a host away from the doorbell keeps what stands of the start's two requests.
use Rattle.std.proofs.Common.{◌≡◌, ◌≢◌, ℕ, zero, suc, ◌+◌, ◌-◌, ◌%◌, ◌<◌, ◌≤◌, ◌==◌, ◌⊎◌, inl, inr, Bool, true, false, List, [], ◌∷◌, ◌++◌, length, length-set, mod-lt, set, Option, Some, None, refl, ap, sym, ◌∙◌, subst, arith}
use Rattle.std.specs.FinMap as finmap
use Rattle.std.proofs.lemmas.List.Elements.{All-filter}
use Rattle.smid_pool.specs.Pool.{Free, Open, Parked, Slot, slot_of}
use Rattle.smid_pool.specs.declared.class.Class.TheVariants as class
use Rattle.removal.specs.Handles.{phase_at}
use Rattle.removal.specs.Phases.{after_page, after_removed, after_task_done}
use Rattle.mpi_rings.specs.declared.request_descriptor.PostKind.TheVariants as post
use Rattle.mpt_wire.specs.Machine.Causes.{is_resetting}
use Rattle.mpt_wire.specs.Messages.Fields.{post_descriptor}
use Rattle.mpt_trace.specs.declared.host_state.HostState.{HostState}
use Rattle.mpt_trace.specs.declared.host_state.HostState.TheVariants as state
use Rattle.mpt_trace.specs.declared.item.Down.{Down}
use Rattle.mpt_trace.specs.declared.item.Down.TheVariants as down
use Rattle.mpt_rules.specs.declared.request.Request.{Request}
use Rattle.mpt_rules.specs.declared.request.Request.TheVariants as request
use Rattle.mpt_rules.specs.Host.Parts.{Host, host_queue_count}
use Rattle.mpt_rules.specs.Host.Posts as asks
use Rattle.mpt_rules.specs.Host.Removal as removal
use Rattle.mpt_rules.specs.Host.Replies as replies
use Rattle.law_facts.specs.Messages.{is_enable_waiting}
use Rattle.law_flights.proofs.Descriptors.{smid_posted}
use Rattle.law_flights.proofs.HostHolds.{in_table, slot_of-set}
use Rattle.law_flights.proofs.HostMoves.{Acked, Acks, Accepts, Adds, Anew, Answers, AsksAbort, AsksTarget, BeginsMessages, ComesUp, EndsAbort, EndsTarget, Frees, FreedHigh, FreedInternal, GivesUp, IsAccess, Keeps, LeftAsks, LeftOnly, Loses, Move, Notified, Puts, PutsRead, PutsWrites, Reads, Removes, Returns, Sets, Starts, TakesEntry}
use Rattle.law_flights.proofs.Least.{least_is}
use Rattle.law_moves.proofs.Counted.{filter_keeps}
use Rattle.law_classes.specs.Made.{IsNoNotification}
use Rattle.law_bring_up.proofs.Away.{IsOk}
use Rattle.law_bring_up.proofs.Opening as opening
use Rattle.law_bring_up.proofs.Opening.{Held, IsNoPost, IsOther, asked_in, weight}

no_access_posts : (x : Down) → IsAccess x → IsNoPost x
no_access_posts (down.Write reg value) a = tt
no_access_posts (down.Read reg) a = tt
no_access_posts down.Stop a = tt
no_access_posts (down.Post d f p) a = a
no_access_posts (down.Return address index) a = absurd a

abbrev parked : Slot Request
parked = Parked

parked_apart : parked ≢ Free
parked_apart e = cc

not_page : (handle : ℕ) (r : Request) → is_enable_waiting r ≡ true → Rattle.std.proofs.Common.not (removal.is_page_of handle r) ≡ true
not_page handle request.PortEnable e = refl
not_page handle request.Notification e = refl
not_page handle (request.Command n) e = refl
not_page handle (request.Abort n task) e = refl
not_page handle (request.TargetReset address) e = refl
not_page handle (request.Leave h) e = refl
not_page handle (request.Page h) e = absurd (cc)
not_page handle (request.Remove h) e = refl
not_page handle (request.Ack event context) e = refl

module _ (h0 : Host) (A : Type 0) (hand : ℕ) (notice : slot_of h0.pool hand ≡ Open request.Notification → is_resetting h0.mode ≡ false → A) (few : host_queue_count h0 ≤ 8) (some : 1 ≤ host_queue_count h0) (one : asked_in h0.pool h0.wait_internal ≤ 1) where
  -- the two are as many as before, or a reset goes on and some are none any more, or the host came up
  abbrev pub Reached : ℕ → HostState → Type 0
  Reached k m = ((m ≡ h0.mode) × ((k ≡ asked_in h0.pool h0.wait_internal) ⊎ ((is_resetting h0.mode ≡ true) × (k ≤ asked_in h0.pool h0.wait_internal)))) ⊎ ((m ≡ state.Up) × (k ≡ 0))

  pub record Stands (x : Host) : Type 0 where
    pub k : ℕ
    pub m : HostState
    pub held : Held h0 A k m x
    pub reached : Reached k m

  to : (x y : Host) → y ≡ x → Stands x → Stands y
  to x y e a = subst Stands (sym e) a

  at_most : (k : ℕ) (m : HostState) → Reached k m → k ≤ 1
  at_most k m (inl (e, inl f)) = let o = one in omega (arith, f, o)
  at_most k m (inl (e, inr f)) = let o = one in let l = f.1 in omega (arith, l, o)
  at_most k m (inr e) = let z = e.1 in omega (arith, z)

  fewer : (k k2 : ℕ) (m : HostState) → k2 ≤ k → is_resetting m ≡ true → Reached k m → Reached k2 m
  fewer k k2 m l r (inl (e, inl f)) = inl (e, inr (ap is_resetting (sym e) ∙ r, omega (arith, l, f)))
  fewer k k2 m l r (inl (e, inr f)) = let g = f.1 in inl (e, inr (f.0, omega (arith, l, g)))
  fewer k k2 m l r (inr e) = let c : is_resetting m ≡ false = ap is_resetting e.0 in absurd (cc)

  -- ---- each move

  same : (x y : Host) → (a : Stands x) → Held h0 A a.k a.m y → Stands y
  same x y a g = record { k = a.k; m = a.m; held = g; reached = a.reached }

  ended : (o : Option ℕ) → IsOther h0 A (replies.slot_after o)
  ended None = opening.is_free h0 A
  ended (Some n) = record { notified = λ g. cc; enabled = λ g. cc; light = refl }

  freed_only : (h : Host) (s : ℕ) (r : Request) → slot_of h.pool s ≡ Open r → is_resetting h.mode ≡ true → Stands h → Stands (asks.frees h s)
  freed_only h s r o m a =
      let g = a.held in let l = opening.weighs h0 A h s r o a.k a.m g in
      record {
        k = a.k - weight (Open r);
        m = a.m;
        held = opening.freed h0 A h s r o a.k (a.k - weight (Open r)) a.m (omega (arith, l)) g;
        reached = fewer a.k (a.k - weight (Open r)) a.m (omega arith) (ap is_resetting (sym g.mode_is) ∙ m) a.reached;
      }

  -- an abort that ends
  record Unparked (k : ℕ) (m : HostState) (h y : Host) (s : ℕ) (r : Request) : Type 0 where
    held : Held h0 A k m y
    opens : slot_of y.pool s ≡ Open r

  unparks : (h : Host) (k : ℕ) (m : HostState) (s task : ℕ) (r : Request) (x : Slot Request) → slot_of h.pool s ≡ Open r → slot_of h.pool task ≡ x → Held h0 A k m h → Unparked k m h (replies.unparks h task x) s r
  unparks h k m s task r Free o e a = record { held = a; opens = o }
  unparks h k m s task r (Open q) o e a = record { held = a; opens = o }
  unparks h k m s task r Parked o e a =
      let i = in_table h.pool task Parked e parked_apart in let t = a.table in let z = ap weight e in
      record {
        held = opening.writes h0 A k k m h task Free i.0 (omega (arith, i, t)) (opening.is_free h0 A) (omega (arith, z)) a;
        opens = slot_of-set h.pool task s Free i.0 i.1 ∙ by_key (s == task) refl;
      }
    where
      by_key : (c : Bool) → (s == task) ≡ c → Rattle.std.proofs.Common.cond c Free (slot_of h.pool s) ≡ Open r
      by_key false t = o
      by_key true t = let q : parked ≡ Open r = sym e ∙ (ap (slot_of h.pool) (sym (Rattle.std.proofs.lemmas.Bool.eqb-true s task t)) ∙ o) in absurd (cc)

  -- the event notification is answered
  notified : (h m h2 : Host) (s : ℕ) → slot_of h.pool s ≡ Open request.Notification → is_resetting h.mode ≡ false → s ≡ hand → FreedInternal s h m → Rattle.law_flights.proofs.HostMoves.AskedInternal request.PortEnable m h2 → Stands h → Stands h2
  notified h m h2 s o r is f g a = by_reached a.reached
    where
      l : 1 ≤ a.k
      l = opening.weighs h0 A h s request.Notification o a.k a.m a.held

      by_reached : Reached a.k a.m → Stands h2
      by_reached (inr e) = let z = e.1 in let q = l in absurd (omega (arith, z, q))
      by_reached (inl e) =
          let q = l in
          let may : A = notice (ap (slot_of h0.pool) (sym is) ∙ (a.held).notified s o) (ap is_resetting (sym e.0 ∙ sym (a.held).mode_is) ∙ r) in
          let x = opening.freed_internal h0 A h s request.Notification o a.k (a.k - 1) a.m m (omega (arith, q)) f a.held in
          let y = opening.asked h0 A (a.k - 1) a.m request.PortEnable m h2 g tt (λ t. may) x in
          record { k = a.k; m = a.m; held = opening.recount h0 A ((a.k - 1) + 1) a.k a.m h2 (omega (arith, q)) y; reached = a.reached }

  comes_up : (h m h2 : Host) (s : ℕ) → slot_of h.pool s ≡ Open request.PortEnable → FreedInternal s h m → h2 ≡ record m { mode = state.Up } → Stands h → Stands h2
  comes_up h m h2 s o f e a =
      let l = opening.weighs h0 A h s request.PortEnable o a.k a.m a.held in let q = at_most a.k a.m a.reached in
      let x = opening.freed_internal h0 A h s request.PortEnable o a.k 0 a.m m (omega (arith, l, q)) f a.held in
      to (record m { mode = state.Up }) h2 e
      (record {
        k = 0;
        m = state.Up;
        held = record { table = x.table; plain = x.plain; count = x.count; notified = x.notified; enabling = x.enabling; waiting = x.waiting; mode_is = refl; machine_is = x.machine_is; asked_is = x.asked_is; queues = x.queues };
        reached = inr (refl, refl);
      })

  -- the pages of a handle wait no more
  without : (h : Host) (handle k : ℕ) (m : HostState) → Held h0 A k m h → Held h0 A k m (record h { wait_internal = removal.without_page handle h.wait_internal })
  without h handle k m a =
      let n = filter_keeps is_enable_waiting (λ r. Rattle.std.proofs.Common.not (removal.is_page_of handle r)) (not_page handle) h.wait_internal in
      record {
        table = a.table;
        plain = All-filter (λ r. Rattle.std.proofs.Common.not (removal.is_page_of handle r)) IsNoNotification h.wait_internal a.plain;
        count = let c = a.count in omega (arith, c, n);
        notified = a.notified;
        enabling = a.enabling;
        waiting = λ l. a.waiting (omega (arith, l, n));
        mode_is = a.mode_is;
        machine_is = a.machine_is;
        asked_is = a.asked_is;
        queues = a.queues;
      }

  pub kept : (h h2 : Host) → (x : Move h h2) → IsOk hand h h2 x → Stands h → Stands h2
  kept h h2 (Puts x a e) t z = to _ h2 e (same h _ z (opening.plain_item h0 A z.k z.m h x (no_access_posts x a) z.held))
  kept h h2 (PutsWrites ws a e) t z = absurd t
  kept h h2 (PutsRead d reg e) t z = absurd t
  kept h h2 (Sets machine s reading ready marks e) t z = absurd t
  kept h h2 (TakesEntry queue e) t z =
      let g = opening.plain_item h0 A z.k z.m h (down.Write _ _) tt z.held in
      to _ h2 e
      (same h (replies.takes_entry h queue) z
      (record { table = g.table; plain = g.plain; count = g.count; notified = g.notified; enabling = g.enabling; waiting = g.waiting; mode_is = g.mode_is; machine_is = g.machine_is; asked_is = g.asked_is; queues = length-set h.indices queue (replies.next_index h queue) ∙ g.queues }))
  kept h h2 (Returns f r e) t z = to _ h2 e (same h _ z (opening.plain_item h0 A z.k z.m h (down.Return _ _) tt z.held))
  kept h h2 (Keeps f r e) t z = to _ h2 e (same h _ z z.held)
  kept h h2 (BeginsMessages m r e a) t z = absurd t
  kept h h2 (Frees s r o m e) t z = to _ h2 e (freed_only h s r o m z)
  kept h h2 (Answers s n how o e) t z =
      let i = opening.inside h0 A h s (request.Command n) o z.m z.k z.held in let w = ap weight o in
      to _ h2 e (same h _ z (opening.writes h0 A z.k z.k z.m h s (replies.slot_after (finmap.get h.aborts n)) i.0 i.1 (ended (finmap.get h.aborts n)) (omega (arith, w)) z.held))
  kept h h2 (EndsAbort s n task o f) t z =
      let u = unparks (record h { aborts = finmap.remove h.aborts n }) z.k z.m s task (request.Abort n task) (slot_of h.pool task) o refl z.held in
      same h h2 z (opening.freed_high h0 A (replies.closes_abort h n task) s (request.Abort n task) u.opens z.k z.m h2 refl f u.held)
  kept h h2 (EndsTarget s address o f) t z = same h h2 z (opening.freed_high h0 A h s (request.TargetReset address) o z.k z.m h2 refl f z.held)
  kept h h2 (LeftAsks s handle m o r u f a) t z =
      let x = opening.freed_high h0 A (removal.with_phase_of h handle (after_task_done (phase_at h.phases handle) s)) s (request.Leave handle) o z.k z.m m refl f z.held in
      same h h2 z (opening.asked_other h0 A z.k z.m (request.Remove handle) m h2 a tt refl x)
  kept h h2 (LeftOnly s handle o r u f) t z = same h h2 z (opening.freed_high h0 A (removal.with_phase_of h handle (after_task_done (phase_at h.phases handle) s)) s (request.Leave handle) o z.k z.m h2 refl f z.held)
  kept h h2 (Reads s handle page o r f) t z = same h h2 z (opening.freed_internal h0 A (removal.with_phase_of h handle (after_page (phase_at h.phases handle) s page)) s (request.Page handle) o z.k z.k z.m h2 (omega arith) f z.held)
  kept h h2 (Removes s handle o r f) t z = same h h2 z (opening.freed_internal h0 A (removal.with_phase_of h handle (after_removed (phase_at h.phases handle) s)) s (request.Remove handle) o z.k z.k z.m h2 (omega arith) f z.held)
  kept h h2 (Acked s event context o r f) t z = same h h2 z (opening.freed_internal h0 A h s (request.Ack event context) o z.k z.k z.m h2 (omega arith) f z.held)
  kept h h2 (Notified s m o r f a) t z = notified h m h2 s o r t f a z
  kept h h2 (ComesUp s m o r f e) t z = comes_up h m h2 s o f e z
  kept h h2 (Acks event context r a) t z = same h h2 z (opening.asked_other h0 A z.k z.m (request.Ack event context) h h2 a tt refl z.held)
  kept h h2 (Adds handle r d p a) t z = same h h2 z (opening.asked_other h0 A z.k z.m (request.Page handle) (removal.with_phase_of h handle _) h2 a tt refl z.held)
  kept h h2 (Loses handle p r d q u a) t z = same h h2 z (opening.asked_leave h0 A z.k z.m handle _ h2 a (without h handle z.k z.m z.held))
  kept h h2 (Accepts s n address handle command u c r l e) t z =
      let i = least_is class.ScsiIo h.pool s l in let j = i.inside in
      to _ h2 e
      (same h _ z
      (opening.posts h0 A z.k z.m h s (post_descriptor post.ScsiIo (asks.host_queue_of h s) s handle) (request.Command n) _ command.payload (omega (arith, j)) (omega (arith, j))
      (record { notified = λ g. cc; enabled = λ g. cc; light = refl }) i.free (smid_posted post.ScsiIo (asks.host_queue_of h s) s handle queue (omega (arith, j))) z.held))
    where
      queue : asks.host_queue_of h s < 256
      queue = let q = (z.held).queues in let a = few in let b = some in let m = mod-lt (s - 1) (let g : 0 < host_queue_count h = omega (arith, q, b) in g) in omega (arith, m, q, a)
  kept h h2 (AsksAbort s n cmd u c b l e) t z =
      let i = least_is class.High h.pool s l in let j = i.inside in
      to _ h2 e
      (same h _ z
      (opening.posts h0 A z.k z.m h s (post_descriptor post.HighPriority 0 s 0) (request.Abort n cmd.smid) _ [] (omega (arith, j)) (omega (arith, j)) (record { notified = λ g. cc; enabled = λ g. cc; light = refl }) i.free (opening.high_smid h0 A s (omega (arith, j))) z.held))
  kept h h2 (AsksTarget s address handle u r l e) t z =
      let i = least_is class.High h.pool s l in let j = i.inside in
      to _ h2 e
      (same h _ z
      (opening.posts h0 A z.k z.m h s (post_descriptor post.HighPriority 0 s 0) (request.TargetReset address) _ [] (omega (arith, j)) (omega (arith, j)) (record { notified = λ g. cc; enabled = λ g. cc; light = refl }) i.free (opening.high_smid h0 A s (omega (arith, j))) z.held))
  kept h h2 (Starts m e) t z = absurd t
  kept h h2 (GivesUp s m e) t z = absurd t
  kept h h2 (Anew m d a e) t z = absurd t
