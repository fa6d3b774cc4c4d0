-- What is known of the world behind a case, and that what has a post or waits keeps its record.
use Rattle.std.proofs.Common.{◌≡◌, ◌≢◌, ℕ, zero, suc, ◌+◌, ◌≤◌, Bool, true, false, sum_by, refl, ap, sym, ◌∙◌, subst, arith}
use Rattle.std.specs.FinMap as finmap
use Rattle.smid_pool.specs.Pool.{Slot, Free, Open, Parked, is_open}
use Rattle.mpt_rules.specs.declared.request.Request.{Request}
use Rattle.mpt_rules.specs.declared.request.Request.TheVariants as request
use Rattle.mpt_rules.specs.Ioc.Tables.{is_held_as}
use Rattle.mpt_rules.specs.Law.{NothingIsStrange}
use Rattle.mpt_rules.specs.World.Cases.{Case, entries, happens}
use Rattle.mpt_rules.specs.World.Counts.{how_many, post_count, queued_count}
use Rattle.mpt_rules.specs.World.Lines.{down_line}
use Rattle.mpt_rules.specs.World.PlaceCounts.{smid_count}
use Rattle.mpt_rules.specs.World.State.{World}
use Rattle.law_facts.specs.Clock.{is_linked_up}
use Rattle.law_facts.specs.Facts.{Facts}
use Rattle.law_facts.specs.Flights.{HeldResets, QueuesSorted, Sizes}
use Rattle.law_facts.specs.History.{History, history_after}
use Rattle.law_facts.specs.Words.{slot}
use Rattle.law_flights.proofs.HostHolds.{in_table}
use Rattle.law_messages.specs.Numbers.{AbortsAreAccepted}
use Rattle.law_messages.specs.Posts.{PostsStand}
use Rattle.law_messages.proofs.Agreeing.{none_posted, none_queued}
use Rattle.law_messages.proofs.Leads as lead
use Rattle.law_messages.proofs.Leads.{Away, Leads}
use Rattle.law_messages.proofs.Shown as messages
use Rattle.law_places.specs.Further.{VectorsFit}
use Rattle.law_places.proofs.Kept.{places_kept}
use Rattle.law_lives.specs.Standing.{LivesStand, PhasesStand}
use Rattle.law_lives.proofs.Lives.{lives_stand}
use Rattle.law_lives.proofs.Standing.{phases_stand}

pub record After (w : World) (h : History) (v : World) (k : History) : Type 0 where
  pub phases : PhasesStand v
  pub lives : LivesStand v
  pub once : (s : ℕ) → 1 ≤ s → s ≤ 280 → smid_count v s ≤ 1
  pub sizes : Sizes v
  pub sorted : QueuesSorted v
  pub held : (handle : ℕ) → HeldResets v handle
  pub posts : PostsStand v k
  pub leads : Leads w h v.host k

pub after_case : (w : World) (h : History) (c : Case) → Facts w h → NothingIsStrange w → AbortsAreAccepted w → VectorsFit w → After w h (happens w c) (history_after h (entries w c))
after_case w h c f plain aborts vectors =
    let p = places_kept w h f plain vectors c in
    record {
      phases = phases_stand w h c f;
      lives = lives_stand w h c f plain;
      once = λ s i j. (p.identifiers s i j).at_most;
      sizes = p.sizes;
      sorted = p.sorted;
      held = p.held;
      posts = messages.posts_kept w h c f plain aborts;
      leads = messages.leads w h c f plain aborts;
    }

pub clash : {X : Type 0} (b : Bool) → b ≡ true → b ≡ false → X
clash true x y = absurd (cc)
clash false x y = absurd (cc)

-- in how many posts an identifier is, and there and where it waits
abbrev pub posted : World → ℕ → ℕ
posted w s = post_count s (down_line w) + (queued_count s w.ioc.high + queued_count s w.ioc.normal)

abbrev pub lying : World → ℕ → ℕ
lying w s = posted w s + how_many (is_held_as s) w.ioc.held

module _ (w : World) (h : History) (f : Facts w h) where
  pub in_range : (s : ℕ) (r : Request) → slot w.host s ≡ Open r → (1 ≤ s) × (s ≤ 280)
  in_range s r e = let x = in_table w.host.pool s (Open r) e (λ z. absurd (cc)) in let l = f.flights.sizes.pool in (x.0, omega (arith, x, l))

  pub open_there : (s : ℕ) → 1 ≤ posted w s → (r : Request) × (slot w.host s ≡ Open r)
  open_there s l = by_slot (slot w.host s) refl
    where
      closed : is_open (slot w.host s) ≡ false → (r : Request) × (slot w.host s ≡ Open r)
      closed e =
          let a = none_posted w h s e (down_line w) f.messages.down in let b = none_queued w h s e w.ioc.high f.messages.high in let c = none_queued w h s e w.ioc.normal f.messages.normal in
          absurd (omega (arith, a, b, c, l))

      by_slot : (x : Slot Request) → slot w.host s ≡ x → (r : Request) × (slot w.host s ≡ Open r)
      by_slot (Open r) e = (r, e)
      by_slot Free e = closed (ap is_open e)
      by_slot Parked e = closed (ap is_open e)

  module _ (v : World) (k : History) (a : After w h v k) (dead : is_linked_up w ≡ true → ⊥) where
    apart_from : (s : ℕ) (r : Request) (hand : ℕ) → slot w.host s ≡ Open r → 1 ≤ lying w s → Away w h hand → s ≢ hand
    apart_from s r hand e l (lead.Closed c) z = clash (is_open (slot w.host s)) (ap is_open e) (ap (λ j. is_open (slot w.host j)) z ∙ c)
    apart_from s r hand e l (lead.Replied q o y) z =
        let i = in_range s r e in
        let m = (f.flights.identifiers s i.0 i.1).at_most in
        let y2 = subst (λ j. 1 ≤ sum_by (Rattle.mpt_rules.specs.World.PlaceCounts.replies_on j) w.up) (sym z) y in
        absurd (omega (arith, m, l, y2))

    not_zero : (s : ℕ) (r : Request) → slot w.host s ≡ Open r → s ≢ 0
    not_zero zero r e z = absurd (cc)
    not_zero (suc s) r e z = absurd (cc)

    -- what has a post, or waits, keeps its record
    pub still_open : (s : ℕ) (r : Request) → slot w.host s ≡ Open r → 1 ≤ lying w s → slot v.host s ≡ Open r
    still_open s r e l = by_leads a.leads
      where
        by_leads : Leads w h v.host k → slot v.host s ≡ Open r
        by_leads (lead.Goes hand y x) = x.follows.slots s r (apart_from s r hand e l y) e
        by_leads (lead.Accepts n q t g plug form x) = x.follows.slots s r (not_zero s r e) e
        by_leads (lead.Ends u p c n t) = absurd (dead u)

    -- and a command's number what it has
    pub still_named : (s n : ℕ) → slot w.host s ≡ Open (request.Command n) → 1 ≤ lying w s → finmap.get v.host.cmds n ≡ finmap.get w.host.cmds n
    still_named s n e l = by_leads a.leads
      where
        by_leads : Leads w h v.host k → finmap.get v.host.cmds n ≡ finmap.get w.host.cmds n
        by_leads (lead.Goes hand y x) = x.follows.cmds s (request.Command n) (apart_from s (request.Command n) hand e l y) e
        by_leads (lead.Accepts m q t g plug form x) = x.follows.cmds s (request.Command n) (not_zero s (request.Command n) e) e
        by_leads (lead.Ends u p c m t) = absurd (dead u)

    -- so what has one had the record that it has now
    pub had_record : (s : ℕ) → 1 ≤ posted w s → slot v.host s ≡ slot w.host s
    had_record s l = let o = open_there s l in let z = still_open s o.0 o.1 (omega (arith, l)) in z ∙ sym o.1
