-- What is open stays open in each call of the host, but what a reply answers, or where a reset ends.
use Rattle.std.proofs.Common.{◌≡◌, ◌≢◌, ℕ, zero, suc, ◌≤◌, ◌==◌, ◌⊎◌, inl, inr, Bool, true, false, cond, if◌then◌else◌, List, [], ◌∷◌, map, get_or, Option, Some, None, refl, ap, sym, ◌∙◌, subst, arith}
use Rattle.std.specs.Prelude.{All}
use Rattle.std.specs.FinMap as finmap
use Rattle.std.specs.List.{sum_by}
use Rattle.std.proofs.lemmas.Bool.{eqb-true}
use Rattle.std.proofs.lemmas.List.Sums.{sum_by-cons}
use Rattle.removal.specs.Handles.{ready_handle}
use Rattle.smid_pool.specs.Pool.{Slot, Free, Open, Parked, all_free, is_open, least_free, slot_of}
use Rattle.smid_pool.specs.declared.class.Class.TheVariants as class
use Rattle.mpi_doorbell.specs.HostSteps.{diagnostic_reset, unit_reset}
use Rattle.scsi_disk.specs.Command.{fits}
use Rattle.scsi_disk.specs.declared.command.Command.{Command}
use Rattle.mpt_wire.specs.Machine.Causes.{is_up}
use Rattle.mpt_wire.specs.Messages.Fields.{smid_in}
use Rattle.mpt_trace.specs.Command.{command_named}
use Rattle.mpt_trace.specs.declared.host_state.HostState.{HostState}
use Rattle.mpt_trace.specs.declared.host_state.HostState.TheVariants as state
use Rattle.mpt_trace.specs.declared.input.Input.{Input}
use Rattle.mpt_trace.specs.declared.input.Input.TheVariants as input
use Rattle.mpt_trace.specs.declared.item.Up.{Up}
use Rattle.mpt_trace.specs.declared.item.Up.TheVariants as upward
use Rattle.mpt_rules.specs.declared.request.Request.{Request}
use Rattle.mpt_rules.specs.declared.stage.Stage.TheVariants as stage
use Rattle.mpt_rules.proofs.HostCalls.{aborts_by, resets_target_by, submits_by}
use Rattle.mpt_rules.specs.Host.Inputs as inputs
use Rattle.mpt_rules.specs.Host.Parts.{Host}
use Rattle.mpt_rules.specs.Host.Takes.{hears_up}
use Rattle.mpt_rules.specs.Ioc.Places.{is_reply_of}
use Rattle.mpt_rules.specs.Outcome.{Happening}
use Rattle.mpt_rules.specs.World.Counts.{one_if, post_count, reply_count}
use Rattle.mpt_rules.specs.World.Inputs.{host_told}
use Rattle.mpt_rules.specs.World.Lines.{said_of}
use Rattle.mpt_rules.specs.World.PlaceCounts.{replies_on, smid_count}
use Rattle.mpt_rules.specs.World.State.{World, up_on}
use Rattle.mpt_rules.proofs.Counts.{post_count-append, reply_count-cons}
use Rattle.law_facts.specs.Facts.{Facts}
use Rattle.law_facts.specs.History.{History}
use Rattle.law_facts.specs.Messages.{DownIsRecord}
use Rattle.law_facts.specs.Words.{slot}
use Rattle.law_flights.proofs.HostHolds.{slot_of-set}
use Rattle.law_flights.proofs.Least.{IsLeast, least_is}
use Rattle.law_moves.proofs.Cases.{IsHosts}
use Rattle.law_messages.proofs.Agreeing.{all_last, cmds_stay, differ, none_posted, not_both, same}
use Rattle.law_messages.proofs.HostAnswers.{reply_walks}
use Rattle.law_messages.proofs.HostAsks as asked
use Rattle.law_messages.proofs.HostValues as values
use Rattle.law_messages.proofs.HostValues.{Comes, Over, Walked}
use Rattle.law_messages.proofs.HostWalk as walk
use Rattle.law_messages.proofs.Known.{inside}
use Rattle.law_messages.proofs.PostsKept.{in_mode_of, ready_resets_of}

-- an item on a lane is counted
pub on_lane : (s : ℕ) (lanes : List (List Up)) (queue : ℕ) (x : Up) (rest : List Up) → get_or lanes queue [] ≡ x ∷ rest → is_reply_of s (said_of x) ≡ true → 1 ≤ sum_by (replies_on s) lanes
on_lane s [] queue x rest e t = absurd (cc)
on_lane s (b ∷ bs) zero x rest e t =
    let z : b ≡ x ∷ rest = e in let a = sum_by-cons (replies_on s) b bs in let c = ap (replies_on s) z in let d = reply_count-cons s (said_of x) (map said_of rest) in
    let o : one_if (is_reply_of s (said_of x)) ≡ 1 = ap one_if t in omega (arith, a, c, d, o)
on_lane s (b ∷ bs) (suc i) x rest e t = let a = sum_by-cons (replies_on s) b bs in let c = on_lane s bs i x rest e t in omega (arith, a, c)

pub reply_of : (q d : ℕ) (g : Option (List ℕ)) (page sense : List ℕ) → is_reply_of q (said_of (upward.Reply d g page sense)) ≡ (smid_in d == q)
reply_of q d None page sense = refl
reply_of q d (Some g) page sense = refl

module _ (w : World) (h : History) (f : Facts w h) where
  begin : (hand : ℕ) → walk.Walks w h hand None w.host
  begin hand =
      record {
        table = f.flights.sizes.pool;
        queues = refl;
        fit = all_last (DownIsRecord w h) w.down w.host.out f.messages.down;
        slots = λ s r n e. e;
        agree = λ s r n e. cmds_stay w.host.cmds r;
        less = λ n c e. inl e;
      }

  -- what is open keeps its request
  abbrev pub StaysOpen : Host → Type 0
  StaysOpen x = (s : ℕ) (r : Request) → slot w.host s ≡ Open r → slot_of x.pool s ≡ Open r

  of_walk : {fresh : Option ℕ} (x : Host) → walk.Walks w h 0 fresh x → StaysOpen x
  of_walk x a s r e = a.slots s r (λ z. let i = inside w h f s r e in omega (arith, i, z)) e

  -- ---- an item

  pub data Hears (x : Host) (y : Up) : Type 0 where
    Keeps : ((s : ℕ) (r : Request) → is_reply_of s (said_of y) ≡ false → slot w.host s ≡ Open r → slot_of x.pool s ≡ Open r) → Hears x y
    Anew : x.pool ≡ all_free → Hears x y

  comes : (o : Happening Host) (y : Up) → Comes w h 0 o → Hears o.part y
  comes o y (Walked a t) = Keeps (λ s r n e. of_walk o.part a s r e)
  comes o y (Over r m z p c u t e) = Anew p

  none_out : (queue d : ℕ) (g : Option (List ℕ)) (page sense : List ℕ) (rest : List Up) → up_on w queue ≡ upward.Reply d g page sense ∷ rest → post_count (smid_in d) w.host.out ≡ 0
  none_out queue d g page sense rest e = by_slot (slot w.host (smid_in d)) refl
    where
      closed : is_open (slot w.host (smid_in d)) ≡ false → post_count (smid_in d) w.host.out ≡ 0
      closed c = none_posted w h (smid_in d) c w.host.out (all_last (DownIsRecord w h) w.down w.host.out f.messages.down)

      by_slot : (x : Slot Request) → slot w.host (smid_in d) ≡ x → post_count (smid_in d) w.host.out ≡ 0
      by_slot Free z = closed (ap is_open z)
      by_slot Parked z = closed (ap is_open z)
      by_slot (Open r) z =
          let i = inside w h f (smid_in d) r z in let m = (f.flights.identifiers (smid_in d) i.0 i.1).at_most in let a = post_count-append (smid_in d) w.down w.host.out in
          let c = on_lane (smid_in d) w.up queue (upward.Reply d g page sense) rest e (reply_of (smid_in d) d g page sense ∙ same (smid_in d)) in omega (arith, m, a, c)

  pub item_slots : (queue : ℕ) (x : Up) (rest : List Up) → up_on w queue ≡ x ∷ rest → Hears (hears_up w.host queue x).part x
  item_slots queue (upward.Value v) rest e = comes (hears_up w.host queue (upward.Value v)) (upward.Value v) (values.value w h 0 f.clock.loads_before_reset.outbox w.host.machine v (in_mode_of w h f) (begin 0))
  item_slots queue (upward.Reply d g page sense) rest e = Keeps (λ s r n z. (reply_walks w h f h queue d g page sense (begin (smid_in d)) (none_out queue d g page sense rest e) f.handles.waits.handles).slots s r (apart s (sym (reply_of s d g page sense) ∙ n)) z)
    where
      apart : (s : ℕ) → (smid_in d == s) ≡ false → s ≢ smid_in d
      apart s n z = differ (smid_in d) s n (sym z)
  item_slots queue (upward.Mark generation) rest e = comes (hears_up w.host queue (upward.Mark generation)) (upward.Mark generation) (values.mark w h 0 queue (ready_resets_of w h f) f.clock.loads_before_reset.outbox (begin 0))
  item_slots queue upward.Calm rest e = Keeps (λ s r n z. z)

  -- ---- what is asked

  starts : (m : HostState) → walk.Walks w h 0 None (inputs.starts_in w.host m).part
  starts state.Off = values.starts w h 0 (begin 0)
  starts state.Starting = begin 0
  starts state.Up = begin 0
  starts state.Resetting = begin 0

  diag : (m : HostState) → walk.Walks w h 0 None (inputs.diag_resets_in w.host m).part
  diag state.Off = begin 0
  diag state.Starting = values.asks_reset w h 0 stage.DiagnosticReset diagnostic_reset (begin 0)
  diag state.Up = values.asks_reset w h 0 stage.DiagnosticReset diagnostic_reset (begin 0)
  diag state.Resetting = begin 0

  unit : (m : HostState) → walk.Walks w h 0 None (inputs.unit_resets_in w.host m).part
  unit state.Off = begin 0
  unit state.Starting = begin 0
  unit state.Up = values.asks_reset w h 0 stage.UnitReset unit_reset (begin 0)
  unit state.Resetting = begin 0

  submitted : (n a : ℕ) (c : Command) (used up : Bool) (handle : Option ℕ) (fit : Bool) (least : Option ℕ) → ((s : ℕ) → least ≡ Some s → IsLeast class.ScsiIo w.host.pool s) → StaysOpen (submits_by w.host n a c used up handle fit least).part
  submitted n a c true up handle fit least l s r e = e
  submitted n a c false false handle fit least l s r e = e
  submitted n a c false true None fit least l s r e = e
  submitted n a c false true (Some x) false least l s r e = e
  submitted n a c false true (Some x) true None l s r e = e
  submitted n a c false true (Some x) true (Some q) l s r e = by_key (s == q) refl
    where
      i : IsLeast class.ScsiIo w.host.pool q
      i = l q refl

      at : slot_of (submits_by w.host n a c false true (Some x) true (Some q)).part.pool s ≡ cond (s == q) (Open (Rattle.mpt_rules.specs.declared.request.Request.TheVariants.Command n)) (slot w.host s)
      at = let k = i.inside in let t = f.flights.sizes.pool in slot_of-set w.host.pool q s (Open (Rattle.mpt_rules.specs.declared.request.Request.TheVariants.Command n)) (omega (arith, k)) (omega (arith, k, t))

      by_key : (b : Bool) → (s == q) ≡ b → slot_of (submits_by w.host n a c false true (Some x) true (Some q)).part.pool s ≡ Open r
      by_key false t = at ∙ (ap (λ b. cond b (Open (Rattle.mpt_rules.specs.declared.request.Request.TheVariants.Command n)) (slot w.host s)) t ∙ e)
      by_key true t = let z : Free ≡ Open r = sym i.free ∙ (ap (slot_of w.host.pool) (sym (eqb-true s q t)) ∙ e) in absurd (cc)

  pub told_slots : (i : Input) → IsHosts i → StaysOpen (host_told w.host i).part
  told_slots input.Start c = of_walk (inputs.starts_in w.host w.host.mode).part (starts w.host.mode)
  told_slots (input.Submit n a form) c = submitted n a (command_named form) (Rattle.std.specs.FinSet.contains w.host.accepted n) (is_up w.host.mode) (ready_handle w.host.phases a) (fits (command_named form)) (least_free class.ScsiIo w.host.pool) (λ s e. least_is class.ScsiIo w.host.pool s e)
  told_slots (input.Abort n) c =
      of_walk (aborts_by w.host n (is_up w.host.mode) (finmap.get w.host.cmds n) (finmap.get w.host.aborts n) (least_free class.High w.host.pool)).part
      (asked.aborts w h f h n (is_up w.host.mode) (finmap.get w.host.cmds n) (finmap.get w.host.aborts n) (least_free class.High w.host.pool) refl (λ s e. least_is class.High w.host.pool s e) (begin 0))
  told_slots (input.TargetReset address) c =
      of_walk (resets_target_by w.host address (is_up w.host.mode) (ready_handle w.host.phases address) (least_free class.High w.host.pool)).part
      (asked.targets w h f h address (is_up w.host.mode) (ready_handle w.host.phases address) (least_free class.High w.host.pool) refl (λ s e. least_is class.High w.host.pool s e) (begin 0))
  told_slots input.Reset c = of_walk (inputs.diag_resets_in w.host w.host.mode).part (diag w.host.mode)
  told_slots input.UnitReset c = of_walk (inputs.unit_resets_in w.host w.host.mode).part (unit w.host.mode)
  told_slots (input.Plug address expander phy) c = absurd c
  told_slots (input.Unplug address) c = absurd c

  pub look_slots : StaysOpen (Rattle.mpt_rules.specs.Host.Takes.looks w.host)
  look_slots = of_walk (Rattle.mpt_rules.specs.Host.Takes.looks w.host) (values.looks w h 0 (begin 0))

  pub stop_slots : StaysOpen (Rattle.mpt_rules.specs.Host.Takes.stops w.host)
  stop_slots = of_walk (Rattle.mpt_rules.specs.Host.Takes.stops w.host) (values.stops w h 0 (begin 0))
