-- What the facts of the start's two requests say of one identifier, and the other way round.
use Rattle.std.proofs.Common.{◌≡◌, ◌≢◌, ℕ, zero, suc, ◌+◌, ◌-◌, ◌<◌, ◌≤◌, ◌==◌, ◌&&◌, ◌||◌, not, Bool, true, false, List, [], ◌∷◌, get_or, length, is_some, refl, ap, sym, ◌∙◌, subst, arith}
use Rattle.smid_pool.specs.Pool.{Free, Open, Parked, Slot, slot_of}
use Rattle.mpt_wire.specs.Machine.Causes.{is_resetting, is_up}
use Rattle.mpt_trace.specs.declared.host_state.HostState.{HostState}
use Rattle.mpt_trace.specs.declared.host_state.HostState.TheVariants as state
use Rattle.mpt_rules.specs.declared.request.Request.{Request}
use Rattle.mpt_rules.specs.declared.request.Request.TheVariants as request
use Rattle.mpt_rules.specs.Host.Takes.{is_starting}
use Rattle.mpt_rules.specs.World.Counts.{how_many, one_if, queued_count, reply_count}
use Rattle.mpt_rules.specs.World.Lines.{normal_line, up_line}
use Rattle.mpt_rules.specs.World.State.{World}
use Rattle.law_facts.specs.Clock.{is_live}
use Rattle.law_facts.specs.Messages.{BringUp, enables_before, is_enable_waiting, notifications, notified, port_enables}
use Rattle.law_facts.specs.Words.{is_enable_asked, is_notification_asked, slot}
use Rattle.law_flights.proofs.HostHolds.{in_table}
use Rattle.law_moves.proofs.Counted.{how_many-cons, how_many-nil}
use Rattle.law_lights.proofs.Ones.{all_but, some_of}
use Rattle.law_bring_up.specs.Enables.{EnablesStand}
use Rattle.law_bring_up.proofs.Opening.{asked_in, place_of}

-- ---- counts of a table by its places

-- a place that is counted
pub record Placed (pool : List (Slot Request)) (y : Slot Request) (more : ℕ → Type 0) : Type 0 where
  pub s : ℕ
  pub there : slot_of pool s ≡ y
  pub also : more s

at_most_one : (b : Bool) → one_if b ≤ 1
at_most_one true = omega arith
at_most_one false = omega arith

-- a sum over the slots that pass and whose identifiers are counted elsewhere
module _ (test : Slot Request → Bool) (c : ℕ → ℕ) (f : ℕ → List (Slot Request) → ℕ) (nil : (s : ℕ) → f s [] ≡ 0) (cons : (s : ℕ) (r : Slot Request) (rs : List (Slot Request)) → f s (r ∷ rs) ≡ one_if (test r && not (c s == 0)) + f (suc s) rs) where
  record Found (k : ℕ) (rs : List (Slot Request)) : Type 0 where
    i : ℕ
    passes : test (get_or rs i Free) ≡ true
    counted : 1 ≤ c (k + i)

  both : (a b : Bool) → 1 ≤ one_if (a && b) → (a ≡ true) × (b ≡ true)
  both true true l = (refl, refl)
  both true false l = absurd (omega (arith, l))
  both false b l = absurd (omega (arith, l))

  positive : (n : ℕ) → not (n == 0) ≡ true → 1 ≤ n
  positive n e = grind (arith, e)

  found : (k : ℕ) (rs : List (Slot Request)) → 1 ≤ f k rs → Found k rs
  found k [] l = let n = nil k in absurd (omega (arith, n, l))
  found k (r ∷ rs) l = by_test (test r && not (c k == 0)) refl (cons k r rs) (λ m. found (suc k) rs m)
    where
      at_once : (k : ℕ) → k ≡ k + 0
      at_once k = omega arith

      next : (k i : ℕ) → suc k + i ≡ k + suc i
      next k i = omega arith

      by_test : (b : Bool) → (test r && not (c k == 0)) ≡ b → f k (r ∷ rs) ≡ one_if (test r && not (c k == 0)) + f (suc k) rs → (1 ≤ f (suc k) rs → Found (suc k) rs) → Found k (r ∷ rs)
      by_test true t e more =
          let p = both (test r) (not (c k == 0)) (let o : one_if (test r && not (c k == 0)) ≡ 1 = ap one_if t in omega (arith, o)) in
          record { i = 0; passes = p.0; counted = subst (λ j. 1 ≤ c j) (at_once k) (positive (c k) p.1) }
      by_test false t e more =
          let o : one_if (test r && not (c k == 0)) ≡ 0 = ap one_if t in
          let g = more (omega (arith, e, l, o)) in
          record { i = suc g.i; passes = g.passes; counted = subst (λ j. 1 ≤ c j) (next k g.i) g.counted }

  there : (k i : ℕ) (rs : List (Slot Request)) → i < length rs → test (get_or rs i Free) ≡ true → 1 ≤ c (k + i) → 1 ≤ f k rs
  there k i [] l t p = absurd (omega (arith, l))
  there k zero (r ∷ rs) l t p =
      let e = cons k r rs in
      let o : one_if (test r && not (c k == 0)) ≡ 1 = ap (λ b. one_if (b && not (c k == 0))) t ∙ ap one_if (is_positive (c k) (subst (λ j. 1 ≤ c j) (at_once k) p)) in
      omega (arith, e, o)
    where
      at_once : (k : ℕ) → k + 0 ≡ k
      at_once k = omega arith

      is_positive : (n : ℕ) → 1 ≤ n → not (n == 0) ≡ true
      is_positive n l = grind (arith, l)
  there k (suc i) (r ∷ rs) l t p =
      let e = cons k r rs in let h = there (suc k) i rs (omega (arith, l)) t (subst (λ j. 1 ≤ c j) (next k i) p) in
      omega (arith, e, h)
    where
      next : (k i : ℕ) → k + suc i ≡ suc k + i
      next k i = omega arith

-- the first slot that passes
record Passes (test : Slot Request → Bool) (rs : List (Slot Request)) : Type 0 where
  i : ℕ
  passes : test (get_or rs i Free) ≡ true

passing : (test : Slot Request → Bool) (rs : List (Slot Request)) → 1 ≤ how_many test rs → Passes test rs
passing test [] l = let n = how_many-nil test in absurd (omega (arith, n, l))
passing test (r ∷ rs) l = by_test (test r) refl (how_many-cons test r rs) (λ m. passing test rs m)
  where
    by_test : (b : Bool) → test r ≡ b → how_many test (r ∷ rs) ≡ one_if (test r) + how_many test rs → (1 ≤ how_many test rs → Passes test rs) → Passes test (r ∷ rs)
    by_test true t e more = record { i = 0; passes = t }
    by_test false t e more = let o : one_if (test r) ≡ 0 = ap one_if t in let g = more (omega (arith, e, l, o)) in record { i = suc g.i; passes = g.passes }

pub is_enable : (y : Slot Request) → is_enable_asked y ≡ true → y ≡ Open request.PortEnable
is_enable (Open request.PortEnable) e = refl
is_enable (Open request.Notification) e = absurd (cc)
is_enable (Open (request.Command n)) e = absurd (cc)
is_enable (Open (request.Abort n task)) e = absurd (cc)
is_enable (Open (request.TargetReset address)) e = absurd (cc)
is_enable (Open (request.Leave handle)) e = absurd (cc)
is_enable (Open (request.Page handle)) e = absurd (cc)
is_enable (Open (request.Remove handle)) e = absurd (cc)
is_enable (Open (request.Ack event context)) e = absurd (cc)
is_enable Free e = absurd (cc)
is_enable Parked e = absurd (cc)

pub is_notice : (y : Slot Request) → is_notification_asked y ≡ true → y ≡ Open request.Notification
is_notice (Open request.Notification) e = refl
is_notice (Open request.PortEnable) e = absurd (cc)
is_notice (Open (request.Command n)) e = absurd (cc)
is_notice (Open (request.Abort n task)) e = absurd (cc)
is_notice (Open (request.TargetReset address)) e = absurd (cc)
is_notice (Open (request.Leave handle)) e = absurd (cc)
is_notice (Open (request.Page handle)) e = absurd (cc)
is_notice (Open (request.Remove handle)) e = absurd (cc)
is_notice (Open (request.Ack event context)) e = absurd (cc)
is_notice Free e = absurd (cc)
is_notice Parked e = absurd (cc)

open_apart : (r : Request) → Open r ≢ Free
open_apart r e = cc

-- what is open is counted
pub counts : (test : Slot Request → Bool) (pool : List (Slot Request)) (s : ℕ) (r : Request) → slot_of pool s ≡ Open r → test (Open r) ≡ true → 1 ≤ how_many test pool
counts test pool s r e t = let i = in_table pool s (Open r) e (open_apart r) in some_of test Free pool (s - 1) i.1 (ap test (place_of pool s i.0 ∙ e) ∙ t)

module _ (w : World) where
  before-nil : (s : ℕ) → enables_before w s [] ≡ 0
  unfolding enables_before
  before-nil s = refl

  before-cons : (s : ℕ) (r : Slot Request) (rs : List (Slot Request)) → enables_before w s (r ∷ rs) ≡ one_if (is_enable_asked r && not (queued_count s (normal_line w) == 0)) + enables_before w (suc s) rs
  unfolding enables_before
  before-cons s r rs = refl

  notified-nil : (s : ℕ) → notified w s [] ≡ 0
  unfolding notified
  notified-nil s = refl

  notified-cons : (s : ℕ) (r : Slot Request) (rs : List (Slot Request)) → notified w s (r ∷ rs) ≡ one_if (is_notification_asked r && not (reply_count s (up_line w 0) == 0)) + notified w (suc s) rs
  unfolding notified
  notified-cons s r rs = refl

  pub enable_before : 1 ≤ enables_before w 1 w.host.pool → Placed w.host.pool (Open request.PortEnable) (λ s. 1 ≤ queued_count s (normal_line w))
  enable_before l =
      let g = found is_enable_asked (λ s. queued_count s (normal_line w)) (enables_before w) before-nil before-cons 1 w.host.pool l in
      let e : suc g.i ≡ 1 + g.i = omega arith in
      record { s = suc g.i; there = is_enable (get_or w.host.pool g.i Free) g.passes; also = subst (λ s. 1 ≤ queued_count s (normal_line w)) (sym e) g.counted }

  pub notice_answered : 1 ≤ notified w 1 w.host.pool → Placed w.host.pool (Open request.Notification) (λ s. 1 ≤ reply_count s (up_line w 0))
  notice_answered l =
      let g = found is_notification_asked (λ s. reply_count s (up_line w 0)) (notified w) notified-nil notified-cons 1 w.host.pool l in
      let e : suc g.i ≡ 1 + g.i = omega arith in
      record { s = suc g.i; there = is_notice (get_or w.host.pool g.i Free) g.passes; also = subst (λ s. 1 ≤ reply_count s (up_line w 0)) (sym e) g.counted }

  pub enable_open : 1 ≤ port_enables w → Placed w.host.pool (Open request.PortEnable) (λ s. Unit {0})
  enable_open l = let g = passing is_enable_asked w.host.pool l in record { s = suc g.i; there = is_enable (get_or w.host.pool g.i Free) g.passes; also = tt }

  pub notice_open : 1 ≤ notifications w → Placed w.host.pool (Open request.Notification) (λ s. Unit {0})
  notice_open l = let g = passing is_notification_asked w.host.pool l in record { s = suc g.i; there = is_notice (get_or w.host.pool g.i Free) g.passes; also = tt }

  module _ (s : ℕ) where
    in_place : (r : Request) → slot w.host s ≡ Open r → (1 ≤ s) × (s - 1 < length w.host.pool)
    in_place r e = in_table w.host.pool s (Open r) e (open_apart r)

    next : 1 ≤ s → 1 + (s - 1) ≡ s
    next l = omega (arith, l)

    pub before_there : slot w.host s ≡ Open request.PortEnable → 1 ≤ queued_count s (normal_line w) → 1 ≤ enables_before w 1 w.host.pool
    before_there e q =
        let i = in_place request.PortEnable e in
        there is_enable_asked (λ s. queued_count s (normal_line w)) (enables_before w) before-nil before-cons 1 (s - 1) w.host.pool i.1 (ap is_enable_asked (place_of w.host.pool s i.0 ∙ e)) (subst (λ j. 1 ≤ queued_count j (normal_line w)) (sym (next i.0)) q)

    pub notified_there : slot w.host s ≡ Open request.Notification → 1 ≤ reply_count s (up_line w 0) → 1 ≤ notified w 1 w.host.pool
    notified_there e q =
        let i = in_place request.Notification e in
        there is_notification_asked (λ s. reply_count s (up_line w 0)) (notified w) notified-nil notified-cons 1 (s - 1) w.host.pool i.1 (ap is_notification_asked (place_of w.host.pool s i.0 ∙ e)) (subst (λ j. 1 ≤ reply_count j (up_line w 0)) (sym (next i.0)) q)

    -- the one that is open isn't queued
    pub none_before : slot w.host s ≡ Open request.PortEnable → port_enables w ≤ 1 → queued_count s (normal_line w) ≡ 0 → enables_before w 1 w.host.pool ≡ 0
    none_before e m q =
        let i = in_place request.PortEnable e in
        let n = all_but w 1 w.host.pool (s - 1) i.1 (ap is_enable_asked (place_of w.host.pool s i.0 ∙ e)) (ap (λ j. queued_count j (normal_line w)) (next i.0) ∙ q) in
        omega (arith, n, m)

-- ---- what stands, by identifier

-- of a controller that is live or not, enabled, lets events through, of this generation; with so many posts of the normal queue and replies on queue 0 under each identifier
pub record SoundAt (L E T : Bool) (g : ℕ) (q r : ℕ → ℕ) (m : HostState) (pool : List (Slot Request)) (wait : List Request) (asked : ℕ) : Type 0 where
  pub few : asked_in pool wait ≤ 1
  pub idle : is_starting m ≡ false → how_many is_enable_waiting wait ≡ 0
  pub up : is_up m ≡ true → asked_in pool wait ≡ 0
  pub enabled : L ≡ true → (s : ℕ) → slot_of pool s ≡ Open request.PortEnable → 1 ≤ q s → E ≡ false
  pub processed : (is_starting m || is_up m) ≡ true → L ≡ true → (s : ℕ) → slot_of pool s ≡ Open request.PortEnable → q s ≡ 0 → E ≡ true
  pub before : L ≡ true → (s : ℕ) → slot_of pool s ≡ Open request.Notification → E ≡ false
  pub opened : L ≡ true → (s : ℕ) → slot_of pool s ≡ Open request.PortEnable → T ≡ true
  pub answered : L ≡ true → (s : ℕ) → slot_of pool s ≡ Open request.Notification → 1 ≤ r s → T ≡ true
  pub waiting : L ≡ true → 1 ≤ how_many is_enable_waiting wait → (E ≡ false) × (T ≡ true)
  pub none : (is_resetting m && (asked == g)) ≡ false → L ≡ false → how_many is_notification_asked pool + how_many is_enable_asked pool ≡ 0

abbrev pub OneAt : HostState → List (Slot Request) → List Request → Bool → Type 0
OneAt m pool wait machine = is_starting m ≡ true → asked_in pool wait ≡ one_if (not machine)

abbrev pub Sound : World → Type 0
Sound w = SoundAt (is_live w) w.ioc.enabled w.ioc.through w.ioc.generation (λ s. queued_count s (normal_line w)) (λ s. reply_count s (up_line w 0)) w.host.mode w.host.pool w.host.wait_internal w.host.asked

abbrev pub One : World → Type 0
One w = OneAt w.host.mode w.host.pool w.host.wait_internal (is_some w.host.machine)

starting_or_not : {T : Type 0} (m : HostState) → (is_starting m ≡ true → T) → (is_starting m ≡ false → T) → T
starting_or_not {T} m a b = by_test (is_starting m) refl
  where
    by_test : (c : Bool) → is_starting m ≡ c → T
    by_test true e = a e
    by_test false e = b e

pub sound_of : (w : World) → BringUp w → EnablesStand w → Sound w
sound_of w b n =
    record {
      few = starting_or_not w.host.mode (λ e. let o = b.one e in let l = at_most_one (not (is_some w.host.machine)) in omega (arith, o, l)) (λ e. let m = b.at_most in let z = b.waiting e in omega (arith, m, z));
      idle = b.waiting;
      up = λ u. let z = b.up u in let t = b.waiting (up_starts w.host.mode u) in omega (arith, z, t);
      enabled = λ l s e q. b.enabled l (before_there w s e q);
      processed = λ m l s e q. b.processed m l (counts is_enable_asked w.host.pool s request.PortEnable e refl) (none_before w s e (let f = b.at_most in omega (arith, f)) q);
      before = λ l s e. b.before l (counts is_notification_asked w.host.pool s request.Notification e refl);
      opened = λ l s e. let c = counts is_enable_asked w.host.pool s request.PortEnable e refl in b.through l (omega (arith, c));
      answered = λ l s e q. let c = notified_there w s e q in b.through l (omega (arith, c));
      waiting = n.waiting;
      none = n.none;
    }
  where
    up_starts : (m : HostState) → is_up m ≡ true → is_starting m ≡ false
    up_starts state.Up e = refl
    up_starts state.Off e = absurd (cc)
    up_starts state.Starting e = absurd (cc)
    up_starts state.Resetting e = absurd (cc)

pub bring_up_of : (w : World) → Sound w → One w → BringUp w
bring_up_of w a o =
    record {
      one = o;
      at_most = let f = a.few in omega (arith, f);
      enabled = λ l n. let p = enable_before w n in a.enabled l p.s p.there p.also;
      processed = λ m l n z. let p = enable_open w n in a.processed m l p.s p.there (no_more p.s p.there z);
      before = λ l n. let p = notice_open w n in a.before l p.s p.there;
      through = λ l n. by_count l (port_enables w) refl n;
      up = λ u. let z = a.up u in omega (arith, z);
      waiting = a.idle;
    }
  where
    no_more : (s : ℕ) → slot w.host s ≡ Open request.PortEnable → enables_before w 1 w.host.pool ≡ 0 → queued_count s (normal_line w) ≡ 0
    no_more s e z = by_count (queued_count s (normal_line w)) refl
      where
        by_count : (n : ℕ) → queued_count s (normal_line w) ≡ n → queued_count s (normal_line w) ≡ 0
        by_count zero e2 = e2
        by_count (suc n) e2 = let c = before_there w s e (omega (arith, e2)) in absurd (omega (arith, c, z))

    by_count : is_live w ≡ true → (k : ℕ) → port_enables w ≡ k → 1 ≤ port_enables w + notified w 1 w.host.pool → w.ioc.through ≡ true
    by_count l (suc k) e n = let p = enable_open w (omega (arith, e)) in a.opened l p.s p.there
    by_count l zero e n = let p = notice_answered w (omega (arith, e, n)) in a.answered l p.s p.there p.also

pub enables_of : (w : World) → Sound w → EnablesStand w
enables_of w a = record { waiting = a.waiting; none = a.none }

-- ---- where neither is open, and none waits

pub blank : (L E T : Bool) (g : ℕ) (q r : ℕ → ℕ) (m : HostState) (pool : List (Slot Request)) (wait : List Request) (asked : ℕ) → how_many is_notification_asked pool + how_many is_enable_asked pool ≡ 0 → how_many is_enable_waiting wait ≡ 0 → SoundAt L E T g q r m pool wait asked
blank L E T g q r m pool wait asked z t =
    record {
      few = omega (arith, z, t);
      idle = λ e. t;
      up = λ e. omega (arith, z, t);
      enabled = λ l s e k. enable s e;
      processed = λ k l s e j. enable s e;
      before = λ l s e. notice s e;
      opened = λ l s e. enable s e;
      answered = λ l s e k. notice s e;
      waiting = λ l k. absurd (omega (arith, t, k));
      none = λ b l. z;
    }
  where
    enable : {X : Type 0} (s : ℕ) → slot_of pool s ≡ Open request.PortEnable → X
    enable s e = let c = counts is_enable_asked pool s request.PortEnable e refl in absurd (omega (arith, z, c))

    notice : {X : Type 0} (s : ℕ) → slot_of pool s ≡ Open request.Notification → X
    notice s e = let c = counts is_notification_asked pool s request.Notification e refl in absurd (omega (arith, z, c))

-- other counts of what is on its way, and a controller whose words are the same
pub alike : {L E T : Bool} {g : ℕ} {q r : ℕ → ℕ} {m : HostState} {pool : List (Slot Request)} {wait : List Request} {asked : ℕ} (L2 E2 T2 : Bool) (g2 : ℕ) (q2 r2 : ℕ → ℕ)
    → L2 ≡ L → E2 ≡ E → T2 ≡ T → g2 ≡ g → (L ≡ true → (s : ℕ) → slot_of pool s ≡ Open request.PortEnable → q2 s ≡ q s) → (L ≡ true → (s : ℕ) → slot_of pool s ≡ Open request.Notification → r2 s ≤ r s)
    → SoundAt L E T g q r m pool wait asked → SoundAt L2 E2 T2 g2 q2 r2 m pool wait asked
alike {m = m} {asked = asked} L2 E2 T2 g2 q2 r2 el ee et eg eq er a =
    record {
      few = a.few;
      idle = a.idle;
      up = a.up;
      enabled = λ l s e k. let x = eq (sym el ∙ l) s e in ee ∙ a.enabled (sym el ∙ l) s e (omega (arith, k, x));
      processed = λ n l s e k. let x = eq (sym el ∙ l) s e in ee ∙ a.processed n (sym el ∙ l) s e (omega (arith, k, x));
      before = λ l s e. ee ∙ a.before (sym el ∙ l) s e;
      opened = λ l s e. et ∙ a.opened (sym el ∙ l) s e;
      answered = λ l s e k. let x = er (sym el ∙ l) s e in et ∙ a.answered (sym el ∙ l) s e (omega (arith, k, x));
      waiting = λ l k. let x = a.waiting (sym el ∙ l) k in (ee ∙ x.0, et ∙ x.1);
      none = λ b l. a.none (ap (λ j. is_resetting m && (asked == j)) (sym eg) ∙ b) (sym el ∙ l);
    }
