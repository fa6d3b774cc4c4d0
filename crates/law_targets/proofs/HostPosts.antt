-- In no call does the host make a post of an identifier that is open then and was before.
use Rattle.std.proofs.Common.{◌≡◌, ◌≢◌, ℕ, ◌≤◌, ◌==◌, ◌&&◌, ◌||◌, Bool, true, false, List, [], ◌∷◌, Option, None, refl, ap, ◌∙◌, arith}
use Rattle.std.specs.FinMap as finmap
use Rattle.std.specs.List.{list_any}
use Rattle.std.proofs.lemmas.Bool.{eqb-true}
use Rattle.std.proofs.lemmas.List.Folds.{list_any-append}
use Rattle.smid_pool.specs.Pool.{Open, is_open, record_of, slot_of}
use Rattle.mpi_doorbell.specs.declared.state.IocState.{IocState}
use Rattle.mpi_doorbell.specs.declared.state.IocState.TheVariants as ioc_state
use Rattle.mpt_wire.specs.Machine.Causes.{is_resetting}
use Rattle.mpt_wire.specs.Messages.Fields.{smid_in}
use Rattle.mpt_wire.specs.Walks.Cycles.{is_reset_end}
use Rattle.mpt_trace.specs.declared.entry.Entry.{Entry}
use Rattle.mpt_trace.specs.declared.entry.Entry.TheVariants as entry
use Rattle.mpt_trace.specs.declared.input.Input.{Input}
use Rattle.mpt_trace.specs.declared.item.Up.{Up}
use Rattle.mpt_trace.specs.declared.item.Up.TheVariants as upward
use Rattle.mpt_rules.specs.declared.request.Request.{Request}
use Rattle.mpt_rules.specs.declared.request.Request.TheVariants as request
use Rattle.mpt_rules.specs.Host.Parts.{Host, host_queue_count}
use Rattle.mpt_rules.specs.Host.Replies as replies
use Rattle.mpt_rules.specs.Host.Takes.{hears_up, looks, stops}
use Rattle.mpt_rules.specs.Ioc.Parts.{state_of}
use Rattle.mpt_rules.specs.Ioc.Tables.{is_operational, is_ready}
use Rattle.mpt_rules.specs.Law.{NothingIsStrange}
use Rattle.mpt_rules.specs.World.Counts.{one_if, post_count}
use Rattle.mpt_rules.specs.World.Inputs.{host_told}
use Rattle.mpt_rules.specs.World.State.{World, up_on}
use Rattle.law_facts.specs.Clock.{in_begun, is_live}
use Rattle.law_facts.specs.Facts.{Facts}
use Rattle.law_facts.specs.History.{History}
use Rattle.law_facts.specs.Words.{slot}
use Rattle.law_flights.specs.Flights.{at_host, unopened}
use Rattle.law_flights.proofs.HostAsks as asks
use Rattle.law_flights.proofs.HostHears as hears
use Rattle.law_flights.proofs.HostHolds.{Holds, unopened-open}
use Rattle.law_flights.proofs.HostTold.{EndsReset}
use Rattle.law_flights.proofs.HostTurns as turns
use Rattle.law_messages.proofs.Keys.{get_removed}
use Rattle.law_moves.proofs.Phases.{and_false}
use Rattle.law_places.specs.Further.{VectorsFit}
use Rattle.law_places.proofs.Premises.{IsLast, last}
use Rattle.law_places.proofs.Standing.{stands}

-- a reply to a command ends its number
pub answered_ends : (host : Host) (queue d : ℕ) (g : Option (List ℕ)) (page sense : List ℕ) (n : ℕ) → slot_of host.pool (smid_in d) ≡ Open (request.Command n) → finmap.get (hears_up host queue (upward.Reply d g page sense)).part.cmds n ≡ None
answered_ends host queue d g page sense n e =
    let a : Host = replies.takes_entry (replies.with_frame_heard host d g) queue in
    ap (λ x. finmap.get (replies.hears_reply_to a (smid_in d) (record_of x) (replies.heard_of d g page sense)).part.cmds n) e ∙ get_removed a.cmds n

module _ (w : World) (h : History) (f : Facts w h) (plain : NothingIsStrange w) (vectors : VectorsFit w) (s : ℕ) (least : 1 ≤ s) (r : Request) (open_before : slot w.host s ≡ Open r) where
  n : ℕ
  n = host_queue_count w.host

  abbrev b : Bool
  b = is_resetting w.host.mode

  abbrev HoldsHost : ℕ → Host → Type 0
  HoldsHost k x = Holds s k (host_queue_count w.host) (is_resetting w.host.mode) x.pool x.out x.indices x.mode

  holds : HoldsHost (at_host s w.host) w.host
  holds = (stands w h f vectors s least).host_holds

  none_unopened : unopened s w.host.pool ≡ 0
  none_unopened = unopened-open s w.host.pool r open_before

  abbrev pub Fewer : Host → Type 0
  Fewer x = post_count s x.out ≤ post_count s w.host.out

  goes : (x : Host) (q : Request) → slot_of x.pool s ≡ Open q → HoldsHost (at_host s w.host) x → Fewer x
  goes x q e k = let a = k.number in let z = none_unopened in omega (arith, a, z)

  -- ---- what is asked

  input : (x : Host) (q : Request) → slot_of x.pool s ≡ Open q → asks.Asked s (host_queue_count w.host) (is_resetting w.host.mode) least f.flights.sizes.some_queue f.flights.sizes.few_queues (at_host s w.host) (post_count s w.host.out) x → Fewer x
  input x q e (asks.Goes k) = goes x q e k
  input x q e (asks.GivesUp j m k) = let a = k.number in let z = none_unopened in omega (arith, m, a, z)

  pub told_fewer : (i : Input) (q : Request) → slot_of (host_told w.host i).part.pool s ≡ Open q → Fewer (host_told w.host i).part
  told_fewer i q e = input (host_told w.host i).part q e (asks.hears_input s (host_queue_count w.host) (is_resetting w.host.mode) least f.flights.sizes.some_queue f.flights.sizes.few_queues (at_host s w.host) w.host i holds)

  pub looks_fewer : (q : Request) → slot_of (looks w.host).pool s ≡ Open q → Fewer (looks w.host)
  looks_fewer q e = goes (looks w.host) q e (asks.looks s (host_queue_count w.host) (is_resetting w.host.mode) least f.flights.sizes.some_queue f.flights.sizes.few_queues (at_host s w.host) w.host holds)

  pub stops_fewer : (q : Request) → slot_of (stops w.host).pool s ≡ Open q → Fewer (stops w.host)
  stops_fewer q e = goes (stops w.host) q e (asks.stops s (host_queue_count w.host) (is_resetting w.host.mode) least f.flights.sizes.some_queue f.flights.sizes.few_queues (at_host s w.host) w.host holds)

  -- ---- what is taken

  ends : (t : List Entry) → EndsReset t → list_any is_reset_end t ≡ true
  ends t e = ap (list_any is_reset_end) e.is ∙ (list_any-append is_reset_end e.told (entry.ResetDone ∷ []) ∙ or_true (list_any is_reset_end e.told))
    where
      or_true : (c : Bool) → (c || true) ≡ true
      or_true true = refl
      or_true false = refl

  -- no reset ends while the controller is OPERATIONAL
  not_last : {T : Type 0} → is_live w ≡ true → IsLast w h f plain → T
  not_last l z = by_state (state_of w.ioc) l (and_false (in_begun w) (is_ready (state_of w.ioc)) z.linked).1
    where
      by_state : {T : Type 0} (x : IocState) → is_operational x ≡ true → is_ready x ≡ true → T
      by_state ioc_state.Reset l e = absurd (cc)
      by_state ioc_state.Ready l e = absurd (cc)
      by_state ioc_state.Operational l e = absurd (cc)
      by_state (ioc_state.Fault code) l e = absurd (cc)

  after : (queue : ℕ) (x : Up) (rest : List Up) → up_on w queue ≡ x ∷ rest → is_live w ≡ true → (q : Request) → slot_of (hears_up w.host queue x).part.pool s ≡ Open q
      → turns.After s (host_queue_count w.host) (is_resetting w.host.mode) least f.flights.sizes.few_queues (at_host s w.host) (post_count s w.host.out) (hears_up w.host queue x).part (hears_up w.host queue x).entries → Fewer (hears_up w.host queue x).part
  after queue x rest e l q o (turns.Goes k t) = goes (hears_up w.host queue x).part q o k
  after queue x rest e l q o (turns.Anew k t) = not_last l (last w h f plain queue x rest e (ends (hears_up w.host queue x).entries t))

  pub takes_fewer : (queue : ℕ) (x : Up) (rest : List Up) → up_on w queue ≡ x ∷ rest → is_live w ≡ true → (q : Request) → slot_of (hears_up w.host queue x).part.pool s ≡ Open q
      → ((d : ℕ) (g : Option (List ℕ)) (page sense : List ℕ) → x ≡ upward.Reply d g page sense → s ≢ smid_in d) → Fewer (hears_up w.host queue x).part
  takes_fewer queue (upward.Value v) rest e l q o n = after queue (upward.Value v) rest e l q o (turns.hears_value s (host_queue_count w.host) (is_resetting w.host.mode) least f.flights.sizes.few_queues (at_host s w.host) v w.host holds)
  takes_fewer queue (upward.Mark g) rest e l q o n = after queue (upward.Mark g) rest e l q o (turns.hears_mark s (host_queue_count w.host) (is_resetting w.host.mode) least f.flights.sizes.few_queues (at_host s w.host) queue w.host holds)
  takes_fewer queue upward.Calm rest e l q o n = omega arith
  takes_fewer queue (upward.Reply d g page sense) rest e l q o n =
      let k = hears.hears_reply s (host_queue_count w.host) (is_resetting w.host.mode) least f.flights.sizes.few_queues (at_host s w.host) queue d w.host g page sense holds in
      let a = k.number in let z = none_unopened in let c = apart (is_open (slot_of w.host.pool (smid_in d))) (s == smid_in d) refl in
      omega (arith, a, z, c)
    where
      apart : (a c : Bool) → (s == smid_in d) ≡ c → one_if (a && c) ≡ 0
      apart a true t = absurd (n d g page sense refl (eqb-true s (smid_in d) t))
      apart true false t = refl
      apart false false t = refl
