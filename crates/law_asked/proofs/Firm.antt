-- An identifier that has something at the controller, or of it at the fabric, keeps its record in each case.
use Rattle.std.proofs.Common.{◌≡◌, ◌≢◌, ℕ, ◌+◌, ◌≤◌, ◌==◌, ◌&&◌, Bool, true, false, if◌then◌else◌, [], ◌∷◌, Option, Some, None, is_some, refl, ap, sym, ◌∙◌, subst, arith}
use Rattle.std.specs.List.{sum_by}
use Rattle.std.proofs.lemmas.Bool.{eqb-true}
use Rattle.mpi_doorbell.specs.declared.state.IocState.{IocState}
use Rattle.mpi_doorbell.specs.declared.state.IocState.TheVariants as ioc_state
use Rattle.scsi_disk.specs.declared.scsi_result.ScsiResult.{ScsiResult}
use Rattle.smid_pool.specs.Pool.{Free, Open, is_open, slot_of}
use Rattle.mpt_wire.specs.Machine.View.{Seen}
use Rattle.mpt_trace.specs.Command.{command_named}
use Rattle.mpt_trace.specs.declared.command_form.CommandForm.{CommandForm}
use Rattle.mpt_trace.specs.declared.entry.Entry.TheVariants as entry
use Rattle.mpt_trace.specs.declared.input.Input.TheVariants as input
use Rattle.mpt_rules.specs.declared.at_fabric.AtFabric.{AtFabric}
use Rattle.mpt_rules.specs.declared.at_fabric.AtFabric.TheVariants as at
use Rattle.mpt_rules.specs.declared.request.Request.{Request}
use Rattle.mpt_rules.specs.declared.request.Request.TheVariants as request
use Rattle.mpt_rules.specs.Host.Parts.{host_queue_count}
use Rattle.mpt_rules.specs.Ioc.Tables.{is_operational, is_ready, is_reset, request_at, is_held_as}
use Rattle.mpt_rules.specs.World.Counts.{how_many, one_if, queued_count}
use Rattle.mpt_rules.specs.World.PlaceCounts.{replies_on}
use Rattle.mpt_rules.specs.World.State.{World}
use Rattle.law_facts.specs.Clock.{in_begun, in_reset, is_linked_up, is_live}
use Rattle.law_facts.specs.Facts.{Facts}
use Rattle.law_facts.specs.Flights.{abort_tokens, command_tokens, reset_tokens}
use Rattle.law_facts.specs.History.{History, history_after}
use Rattle.law_facts.specs.Words.{is_abort, is_bare, is_command, is_target_reset, slot}
use Rattle.law_messages.proofs.Agreeing.{CmdsAgree, OpensAgree, not_both}
use Rattle.law_messages.proofs.Known.{inside, no_command}
use Rattle.law_messages.proofs.HostAsks as asked
use Rattle.law_messages.proofs.Leads.{Accepted, Accepts, Away, Closed, Ends, Follow, Goes, Leads, Replied}
use Rattle.law_messages.proofs.Requests.{accepted_outcome}
use Rattle.law_messages.proofs.Walks.{accepted_live}

pub ready_not_live : (s : IocState) → is_ready s ≡ true → (is_operational s ≡ false) × (is_reset s ≡ false) × (is_bare s ≡ true)
ready_not_live ioc_state.Ready e = (refl, refl, refl)
ready_not_live ioc_state.Operational e = absurd (cc)
ready_not_live ioc_state.Reset e = absurd (cc)
ready_not_live (ioc_state.Fault code) e = absurd (cc)

pub second : (a b : Bool) → (a && b) ≡ true → b ≡ true
second true b e = e
second false b e = absurd (cc)

never_and : (a : Bool) → (a && false) ≡ false
never_and true = refl
never_and false = refl

module _ (w : World) (h : History) where
  -- its record is open, no reply to it comes, and no reset is over
  pub record Firm (s : ℕ) (r : Request) : Type 0 where
    pub opens : slot w.host s ≡ Open r
    pub silent : sum_by (replies_on s) w.up ≡ 0
    pub begun : is_linked_up w ≡ true → ⊥

  -- so it has its record still
  pub record Stay (v : World) (k : History) (s : ℕ) (r : Request) : Type 0 where
    pub opens : slot v.host s ≡ Open r
    pub queues : host_queue_count v.host ≡ host_queue_count w.host
    pub cmds : CmdsAgree w.host.cmds v.host.cmds r
    pub opened : OpensAgree h.machine.requests k.machine.requests r
    pub live : (k.walk s).known.live ≡ (h.walk s).known.live
    pub outcomes : (n : ℕ) (x : ScsiResult) → r ≡ request.Command n → h.machine.outcome n ≡ Some x → k.machine.outcome n ≡ Some x

module _ (w : World) (h : History) (f : Facts w h) where
  -- ---- what is firm

  pub not_live_there : is_linked_up w ≡ true → (is_live w ≡ false) × (in_reset w ≡ false) × (is_bare w.ioc.door.state ≡ true)
  not_live_there e =
      let y = ready_not_live w.ioc.door.state (second (in_begun w) (is_ready w.ioc.door.state) e) in
      (y.0, ap (λ b. in_begun w && b) y.1 ∙ never_and (in_begun w), y.2)

  -- what was posted and is at the controller
  pub firm_by_places : (s : ℕ) (r : Request) → slot w.host s ≡ Open r → 1 ≤ queued_count s w.ioc.high + (queued_count s w.ioc.normal + (one_if (is_some (request_at w.ioc s)) + how_many (is_held_as s) w.ioc.held))
      → (is_linked_up w ≡ true → ⊥) → Firm w h s r
  firm_by_places s r e c g =
      let i = inside w h f s r e in let m = (f.flights.identifiers s i.0 i.1).at_most in
      record { opens = e; silent = omega (arith, m, c); begun = g }

  some_command : (o : Option AtFabric) → one_if (is_command o) + (one_if (is_abort o) + one_if (is_target_reset o)) ≤ one_if (is_some o)
  some_command None = omega arith
  some_command (Some (at.Command handle queue len written)) = omega arith
  some_command (Some (at.Abort handle)) = omega arith
  some_command (Some (at.TargetReset handle)) = omega arith
  some_command (Some at.PortEnable) = omega arith

  -- what the fabric has to do with
  pub firm_by_tokens : (s : ℕ) (r : Request) → slot w.host s ≡ Open r → 1 ≤ command_tokens w s + (abort_tokens w s + reset_tokens w s) → Firm w h s r
  firm_by_tokens s r e c = record { opens = e; silent = by_states (is_live w) (in_reset w) refl refl; begun = begun }
    where
      within : (1 ≤ s) × (s ≤ 280)
      within = inside w h f s r e

      begun : is_linked_up w ≡ true → ⊥
      begun g = let y = not_live_there g in let z = (f.flights.fabric s within.0 within.1).none y.0 y.1 in omega (arith, z, c)

      by_states : (a b : Bool) → is_live w ≡ a → in_reset w ≡ b → sum_by (replies_on s) w.up ≡ 0
      by_states true b l t =
          let o = f.flights.fabric s within.0 within.1 in
          let x = o.commands l in let y = o.aborts l in let z = o.resets l in
          let q = some_command (request_at w.ioc s) in
          let m = (f.flights.identifiers s within.0 within.1).at_most in
          omega (arith, x, y, z, q, m, c)
      by_states false true l t = let z = (f.flights.fabric s within.0 within.1).old t c in omega (arith, z)
      by_states false false l t = let z = (f.flights.fabric s within.0 within.1).none l t in absurd (omega (arith, z, c))

  -- ---- it stays

  seen : Seen
  seen = record { machine = h.machine; so_far = h.so_far }

  module _ (v : World) (s : ℕ) (r : Request) (z : Firm w h s r) where
    goes : (k : History) (hand : ℕ) → Away w h hand → Follow w h v.host k hand → Stay w h v k s r
    goes k hand a fo =
        record {
          opens = fo.follows.slots s r apart z.opens;
          queues = fo.follows.queues;
          cmds = fo.follows.cmds s r apart z.opens;
          opened = fo.follows.opens s r apart z.opens;
          live = fo.lives s apart;
          outcomes = λ n x e g. fo.outcomes n x g;
        }
      where
        by_away : Away w h hand → s ≡ hand → ⊥
        by_away (Closed c) e = not_both (is_open (slot w.host s)) (subst (λ j. is_open (slot w.host j) ≡ false) (sym e) c) (ap is_open z.opens)
        by_away (Replied q o c) e = let y = subst (λ j. 1 ≤ sum_by (replies_on j) w.up) (sym e) c in let n = z.silent in omega (arith, y, n)

        apart : s ≢ hand
        apart e = by_away a e

    accepts : (n a p handle plug : ℕ) (form : CommandForm) → Accepted w h v.host (history_after h (entry.Given (input.Submit n a form) ∷ entry.Accept n a p ∷ [])) n a p handle plug form
        → Stay w h v (history_after h (entry.Given (input.Submit n a form) ∷ entry.Accept n a p ∷ [])) s r
    unfolding seen
    accepts n a p handle plug form y =
        record {
          opens = y.follows.slots s r apart z.opens;
          queues = y.follows.queues;
          cmds = y.follows.cmds s r apart z.opens;
          opened = y.follows.opens s r apart z.opens;
          live = accepted_live s (h.walk s) n a p form ∙ ap (λ b. if b then Some (record { number = n; address = a; command = command_named form }) else (h.walk s).known.live) other;
          outcomes = kept_outcome;
        }
      where
        apart : s ≢ 0
        apart e = let i = inside w h f s r z.opens in omega (arith, i, e)

        other : (p == s) ≡ false
        other = by_key (p == s) refl
          where
            by_key : (b : Bool) → (p == s) ≡ b → b ≡ false
            by_key false t = refl
            by_key true t = let l = y.least in let q : Free ≡ Open r = sym l.free ∙ (ap (slot_of w.host.pool) (eqb-true p s t) ∙ z.opens) in absurd (cc)

        kept_outcome : (m : ℕ) (x : ScsiResult) → r ≡ request.Command m → h.machine.outcome m ≡ Some x → (history_after h (entry.Given (input.Submit n a form) ∷ entry.Accept n a p ∷ [])).machine.outcome m ≡ Some x
        kept_outcome m x e g = by_key (m == n) refl
          where
            by_key : (b : Bool) → (m == n) ≡ b → (history_after h (entry.Given (input.Submit n a form) ∷ entry.Accept n a p ∷ [])).machine.outcome m ≡ Some x
            by_key false t = accepted_outcome seen n a plug p form y.ready m t ∙ g
            by_key true t = absurd (no_command w h f n (asked.not_open w h f (history_after h []) n y.fresh) s (z.opens ∙ (ap Open e ∙ ap (λ j. Open (request.Command j)) (eqb-true m n t))))

    pub stays : (k : History) → Leads w h v.host k → Stay w h v k s r
    stays k (Goes hand a fo) = goes k hand a fo
    stays k (Accepts n a p handle plug form y) = subst (λ x. Stay w h v x s r) (sym y.told) (accepts n a p handle plug form (subst (λ x. Accepted w h v.host x n a p handle plug form) y.told y))
    stays k (Ends l p c u g) = absurd (z.begun l)
