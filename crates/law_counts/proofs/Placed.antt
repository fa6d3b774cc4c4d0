-- What the facts say of an identifier of which something is at the fabric, or on its way there.
use Rattle.std.proofs.Common.{◌≡◌, ℕ, ◌+◌, ◌≤◌, ◌==◌, ◌&&◌, Bool, true, false, not, if◌then◌else◌, List, [], ◌∷◌, ◌++◌, Option, Some, None, is_some, refl, ap, sym, ◌∙◌, subst, arith}
use Rattle.std.specs.List.{sum_by}
use Rattle.smid_pool.specs.Pool.{Slot, Free, Open, Parked, is_open}
use Rattle.mpt_trace.specs.declared.item.Down.{Down}
use Rattle.mpt_trace.specs.declared.item.Down.TheVariants as downward
use Rattle.mpt_rules.specs.declared.at_fabric.AtFabric.{AtFabric}
use Rattle.mpt_rules.specs.declared.at_fabric.AtFabric.TheVariants as at
use Rattle.mpt_rules.specs.declared.at_fabric.HeldReset.{HeldReset}
use Rattle.mpt_rules.specs.declared.request.Request.{Request}
use Rattle.mpt_rules.specs.declared.request.Request.TheVariants as request
use Rattle.mpt_rules.specs.Ioc.Tables.{is_held_as, request_at}
use Rattle.mpt_rules.specs.World.Counts.{how_many, one_if, post_count, queued_count, reply_count}
use Rattle.mpt_rules.specs.World.Lines.{back_line, down_line}
use Rattle.mpt_rules.specs.World.PlaceCounts.{replies_on}
use Rattle.mpt_rules.specs.World.Places.{is_posted_as}
use Rattle.mpt_rules.specs.World.State.{World}
use Rattle.mpt_rules.proofs.Counts.{post_count-append, queued_count-nil}
use Rattle.law_facts.specs.Clock.{in_reset, is_linked_up, is_live}
use Rattle.law_facts.specs.Facts.{Facts}
use Rattle.law_facts.specs.Flights.{abort_tokens, reset_tokens}
use Rattle.law_facts.specs.History.{History}
use Rattle.law_facts.specs.Messages.{RequestIs}
use Rattle.law_facts.specs.Paths.{before_fabric}
use Rattle.law_facts.specs.Words.{is_abort, is_abort_asked, is_load, is_target_asked, is_target_reset, slot}
use Rattle.law_moves.proofs.Counted.{fewer_pass, how_many-nil}
use Rattle.law_asked.proofs.Firm.{Firm, firm_by_tokens, not_live_there}
use Rattle.law_counts.specs.Counted.{asked_tokens}
use Rattle.law_counts.proofs.FabricAsks.{ends}
use Rattle.law_counts.proofs.IocAsks.{asked_out, both_out}

some_of : (o : Option AtFabric) → one_if (is_abort o) + one_if (is_target_reset o) ≤ one_if (is_some o)
some_of None = omega arith
some_of (Some (at.Command handle queue len written)) = omega arith
some_of (Some (at.Abort handle)) = omega arith
some_of (Some (at.TargetReset handle)) = omega arith
some_of (Some at.PortEnable) = omega arith

pub opened_by_none : (o : Slot Request) → one_if (not (is_open o)) ≡ 0 → (r : Request) × (o ≡ Open r)
opened_by_none Free e = absurd (omega (arith, e))
opened_by_none Parked e = absurd (omega (arith, e))
opened_by_none (Open r) e = (r, refl)

one_is : (b : Bool) → 1 ≤ one_if b → b ≡ true
one_is true l = refl
one_is false l = absurd (omega (arith, l))

posted_load : (s : ℕ) (x : Down) → is_posted_as s x ≡ true → is_load x ≡ true
posted_load s (downward.Post d f p) e = refl
posted_load s (downward.Write reg value) e = absurd (cc)
posted_load s (downward.Read reg) e = absurd (cc)
posted_load s (downward.Return address i) e = absurd (cc)
posted_load s downward.Stop e = absurd (cc)

posts_load : (s : ℕ) (xs : List Down) → post_count s xs ≤ how_many is_load xs
unfolding post_count
posts_load s xs = fewer_pass (is_posted_as s) is_load (posted_load s) xs

not_both : {T : Type 0} (b : Bool) → b ≡ true → b ≡ false → T
not_both true x y = absurd (cc)
not_both false x y = absurd (cc)

module _ (w : World) (h : History) (f : Facts w h) (q : ℕ) (least : 1 ≤ q) (most : q ≤ 280) where
  -- all that is at the fabric and on the lines to it of an abort or a target reset
  abbrev pub tokens : ℕ
  tokens = abort_tokens w q + reset_tokens w q

  pub tokens_are : tokens ≡ (asked_out q w.out + asked_out q w.ioc.out) + ends q (back_line w)
  tokens_are = let a = both_out q w.out w.ioc.out in omega (arith, a)

  -- where it is else
  abbrev pub elsewhere : ℕ
  elsewhere =
      one_if (not (is_open (slot w.host q))) + (post_count q (down_line w) + (queued_count q w.ioc.high + (queued_count q w.ioc.normal
      + (how_many (is_held_as q) w.ioc.held + (sum_by (reply_count q) w.ioc.up + sum_by (replies_on q) w.up)))))

  pub record Apart : Type 0 where
    pub nowhere : elsewhere ≡ 0
    pub one : tokens ≤ 1

  pub apart : 1 ≤ tokens → Apart
  apart c = by_states (is_live w) (in_reset w) refl refl
    where
      by_states : (a b : Bool) → is_live w ≡ a → in_reset w ≡ b → Apart
      by_states true b l t =
          let o = f.flights.fabric q least most in
          let y = o.aborts l in let z = o.resets l in let n = o.at_most in
          let s = some_of (request_at w.ioc q) in
          let m = (f.flights.identifiers q least most).at_most in
          record { nowhere = omega (arith, y, z, s, m, c); one = omega (arith, n) }
      by_states false true l t =
          let o = f.flights.fabric q least most in let n = o.at_most in
          let z = o.old t (omega (arith, c)) in
          record { nowhere = omega (arith, z); one = omega (arith, n) }
      by_states false false l t = let z = (f.flights.fabric q least most).none l t in absurd (omega (arith, z, c))

  -- of which kind it is
  pub abort_asked : 1 ≤ abort_tokens w q → is_abort_asked (slot w.host q) ≡ true
  abort_asked c = by_states (is_live w) (in_reset w) refl refl
    where
      by_request : (o : Option AtFabric) → request_at w.ioc q ≡ o → is_abort o ≡ true → RequestIs w h q o → is_abort_asked (slot w.host q) ≡ true
      by_request (Some (at.Abort handle)) e a r = by_slot (slot w.host q) r
        where
          by_slot : (x : Slot Request) → Rattle.law_facts.specs.Messages.AbortAt w handle x → is_abort_asked x ≡ true
          by_slot (Open (request.Abort n task)) r = refl
          by_slot Free r = absurd r
          by_slot Parked r = absurd r
          by_slot (Open (request.Command n)) r = absurd r
          by_slot (Open (request.TargetReset address)) r = absurd r
          by_slot (Open (request.Leave handle)) r = absurd r
          by_slot (Open (request.Page handle)) r = absurd r
          by_slot (Open (request.Remove handle)) r = absurd r
          by_slot (Open (request.Ack event context)) r = absurd r
          by_slot (Open request.Notification) r = absurd r
          by_slot (Open request.PortEnable) r = absurd r
      by_request None e a r = absurd (cc)
      by_request (Some (at.Command handle queue len written)) e a r = absurd (cc)
      by_request (Some (at.TargetReset handle)) e a r = absurd (cc)
      by_request (Some at.PortEnable) e a r = absurd (cc)

      by_states : (a b : Bool) → is_live w ≡ a → in_reset w ≡ b → is_abort_asked (slot w.host q) ≡ true
      by_states true b l t = let y = (f.flights.fabric q least most).aborts l in by_request (request_at w.ioc q) refl (one_is (is_abort (request_at w.ioc q)) (omega (arith, y, c))) (f.messages.requests q)
      by_states false true l t = (f.flights.fabric q least most).old_abort t c
      by_states false false l t = let z = (f.flights.fabric q least most).none l t in absurd (omega (arith, z, c))

  pub reset_asked : 1 ≤ reset_tokens w q → is_target_asked (slot w.host q) ≡ true
  reset_asked c = by_states (is_live w) (in_reset w) refl refl
    where
      by_request : (o : Option AtFabric) → request_at w.ioc q ≡ o → is_target_reset o ≡ true → RequestIs w h q o → is_target_asked (slot w.host q) ≡ true
      by_request (Some (at.TargetReset handle)) e a r = by_slot (slot w.host q) r
        where
          by_slot : (x : Slot Request) → Rattle.law_facts.specs.Messages.IsTarget x → is_target_asked x ≡ true
          by_slot (Open (request.TargetReset address)) r = refl
          by_slot Free r = absurd r
          by_slot Parked r = absurd r
          by_slot (Open (request.Command n)) r = absurd r
          by_slot (Open (request.Abort n task)) r = absurd r
          by_slot (Open (request.Leave handle)) r = absurd r
          by_slot (Open (request.Page handle)) r = absurd r
          by_slot (Open (request.Remove handle)) r = absurd r
          by_slot (Open (request.Ack event context)) r = absurd r
          by_slot (Open request.Notification) r = absurd r
          by_slot (Open request.PortEnable) r = absurd r
      by_request None e a r = absurd (cc)
      by_request (Some (at.Command handle queue len written)) e a r = absurd (cc)
      by_request (Some (at.Abort handle)) e a r = absurd (cc)
      by_request (Some at.PortEnable) e a r = absurd (cc)

      by_states : (a b : Bool) → is_live w ≡ a → in_reset w ≡ b → is_target_asked (slot w.host q) ≡ true
      by_states true b l t = let y = (f.flights.fabric q least most).resets l in by_request (request_at w.ioc q) refl (one_is (is_target_reset (request_at w.ioc q)) (omega (arith, y, c))) (f.messages.requests q)
      by_states false true l t = (f.flights.fabric q least most).old_reset t c
      by_states false false l t = let z = (f.flights.fabric q least most).none l t in absurd (omega (arith, z, c))

  -- ---- it keeps its record

  -- on its way to the controller, in its high queue, or waiting there
  abbrev on_way : ℕ
  on_way = post_count q w.down + (queued_count q w.ioc.high + how_many (is_held_as q) w.ioc.held)

  unlinked : 1 ≤ on_way → is_linked_up w ≡ true → ⊥
  unlinked c l =
      let n = not_live_there w h f l in
      let t = f.clock.tables_empty n.2 in
      let a : queued_count q w.ioc.high ≡ 0 = ap (queued_count q) t.high ∙ queued_count-nil q in
      let b : how_many (is_held_as q) w.ioc.held ≡ 0 = ap (how_many (is_held_as q)) t.held ∙ how_many-nil {X = HeldReset} (is_held_as q) in
      let p = post_count-append q w.down w.host.out in let m = posts_load q (down_line w) in
      not_both (is_live w) (f.clock.loads_before_reset.live (omega (arith, a, b, p, m, c))) n.0

  pub record Firmly : Type 0 where
    pub asks : Request
    pub firm : Firm w h q asks

  pub firmly : 1 ≤ before_fabric w q + asked_tokens w q → Firmly
  firmly c = by_tokens tokens refl
    where
      by_tokens : (n : ℕ) → tokens ≡ n → Firmly
      by_tokens (Rattle.std.proofs.Common.suc n) e =
          let a = apart (omega (arith, e)) in let z = a.nowhere in
          let o = opened_by_none (slot w.host q) (omega (arith, z)) in
          record { asks = o.0; firm = firm_by_tokens w h f q o.0 o.1 (omega (arith, e)) }
      by_tokens Rattle.std.proofs.Common.zero e =
          let t = tokens_are in
          let k : 1 ≤ on_way = omega (arith, e, t, c) in
          let m = (f.flights.identifiers q least most).at_most in
          let p = post_count-append q w.down w.host.out in
          let o = opened_by_none (slot w.host q) (omega (arith, m, p, k)) in
          record { asks = o.0; firm = record { opens = o.1; silent = omega (arith, m, p, k); begun = unlinked k } }
