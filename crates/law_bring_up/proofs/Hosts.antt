-- Each call of the host keeps what stands of the start's two requests.
use Rattle.std.proofs.Common.{◌≡◌, ℕ, zero, suc, ◌+◌, ◌≤◌, ◌==◌, ◌&&◌, ◌||◌, ◌⊎◌, inl, inr, not, if◌then◌else◌, Bool, true, false, List, [], ◌∷◌, ◌++◌, get_or, length, map, replicate, set, take, Option, Some, None, is_some, refl, ap, sym, ◌∙◌, subst, arith, slice_set}
use Rattle.std.specs.Prelude.{All}
use Rattle.std.specs.List.{filter, fold, range_with_len}
use Rattle.std.proofs.lemmas.List.Elements.{All-nil}
use Rattle.smid_pool.specs.Pool.{Free, Open, Parked, Slot, is_taken, least_free, slot_of}
use Rattle.smid_pool.specs.declared.class.Class.TheVariants as class
use Rattle.mpi_doorbell.specs.HostDoor.{HostDoor}
use Rattle.mpi_doorbell.specs.HostSteps.{diagnostic_reset, handshake_of_message, look_at_doorbell, next_step, unit_reset}
use Rattle.mpi_doorbell.specs.declared.registers.TheConstants.{IOC_STATE_FAULT, IOC_STATE_OPERATIONAL, IOC_STATE_READY}
use Rattle.mpi_doorbell.specs.declared.stage.Reading.{Reading}
use Rattle.mpi_doorbell.specs.declared.stage.Stage.{Stage as DoorStage}
use Rattle.mpi_doorbell.specs.declared.stage.Stage.TheVariants as door_stage
use Rattle.mpi_doorbell.specs.declared.step.DoorStep.{DoorStep}
use Rattle.mpi_doorbell.specs.declared.step.DoorStep.TheVariants as step
use Rattle.mpt_messages.specs.FrameBytes.{message_bytes}
use Rattle.mpt_messages.specs.HostFrames.{host_message}
use Rattle.mpt_messages.specs.declared.host_ask.HostAsk.{HostAsk}
use Rattle.mpt_messages.specs.declared.host_ask.HostAsk.TheVariants as ask
use Rattle.mpt_wire.specs.Machine.Causes.{is_resetting, is_up}
use Rattle.mpt_wire.specs.Messages.Fields.{reply_frame_address, smid_in}
use Rattle.mpt_trace.specs.declared.host_state.HostState.{HostState}
use Rattle.mpt_trace.specs.declared.host_state.HostState.TheVariants as state
use Rattle.mpt_trace.specs.declared.input.Input.{Input}
use Rattle.mpt_trace.specs.declared.input.Input.TheVariants as input
use Rattle.mpt_trace.specs.declared.item.Down.{Down}
use Rattle.mpt_trace.specs.declared.item.Down.TheVariants as down
use Rattle.mpt_trace.specs.declared.item.Up.{Up}
use Rattle.mpt_trace.specs.declared.item.Up.TheVariants as upward
use Rattle.mpt_rules.specs.declared.request.Request.{Request}
use Rattle.mpt_rules.specs.declared.request.Request.TheVariants as request
use Rattle.mpt_rules.specs.declared.said.Said.{Said}
use Rattle.mpt_rules.specs.declared.said.Said.TheVariants as said
use Rattle.mpt_rules.specs.declared.stage.Stage.{Stage}
use Rattle.mpt_rules.specs.declared.stage.Stage.TheVariants as stage
use Rattle.mpt_rules.specs.declared.why.Why.TheVariants as why
use Rattle.mpt_rules.specs.Host.Doorbell as door
use Rattle.mpt_rules.specs.Host.Doorbell.{DoorTurn, next_turn, turn_from}
use Rattle.mpt_rules.specs.Host.Handshakes.{door_refused, why_door}
use Rattle.mpt_rules.specs.Host.Inputs as inputs
use Rattle.mpt_rules.specs.Host.Parts.{Host, host_queue_count}
use Rattle.mpt_rules.specs.Host.Posts as asks
use Rattle.mpt_rules.specs.Host.Resets as resets
use Rattle.mpt_rules.specs.Host.Returns as returns
use Rattle.mpt_rules.specs.Host.Strange.{no_read, why_strange, wrong_queue_of_value}
use Rattle.mpt_rules.specs.Host.Takes.{hears_up, is_starting, looks, stops}
use Rattle.mpt_rules.specs.Host.Values as values
use Rattle.mpt_rules.specs.Ioc.Places.{is_reply_of}
use Rattle.mpt_rules.specs.World.Cases.{is_free}
use Rattle.mpt_rules.specs.World.Counts.{how_many, one_if, queued_count, reply_count}
use Rattle.mpt_rules.specs.World.Inputs.{host_told}
use Rattle.mpt_rules.specs.World.Lines.{normal_posts, said_of, said_reply, up_line}
use Rattle.mpt_rules.specs.World.State.{World, up_on}
use Rattle.mpt_rules.proofs.Counts.{queued_count-append, queued_count-nil, reply_count-cons}
use Rattle.mpt_rules.proofs.Lines.{normal_posts-nil}
use Rattle.law_facts.specs.Clock.{is_live}
use Rattle.law_facts.specs.DoorAhead.{IsInMode, ReadsFor, WaitsAt, waits_to_reset}
use Rattle.law_facts.specs.Facts.{Facts}
use Rattle.law_facts.specs.History.{History}
use Rattle.law_facts.specs.Messages.{SaidIs, is_enable_waiting}
use Rattle.law_facts.specs.Words.{is_enable_asked, is_notification_asked, is_reply}
use Rattle.law_flights.proofs.HostTurns.{all_free_at, free_slot}
use Rattle.law_moves.proofs.Counted.{fewer_pass, how_many-cons, how_many-nil}
use Rattle.law_moves.proofs.HostGoes.{none_of_or, value_is_due}
use Rattle.law_moves.proofs.Phases.{and_false}
use Rattle.law_doors.proofs.StageKept.{Begun, begun_diagnostic, begun_look, begun_talk, begun_unit}
use Rattle.law_doors.proofs.Turning.{IsWriteStep, Kind, value_ends}
use Rattle.law_starts.proofs.HostAtDoor.{HasValue, begins_is, over}
use Rattle.law_fresh.specs.Bare.{StartsBare}
use Rattle.law_records.proofs.Strict.{AsksNone}
use Rattle.law_classes.specs.Made.{NotificationsStand}
use Rattle.law_classes.proofs.FirstMoves.{written}
use Rattle.law_bring_up.proofs.Away as away
use Rattle.law_bring_up.proofs.Going as going
use Rattle.law_bring_up.proofs.Going.{Stands}
use Rattle.law_bring_up.proofs.Keys.{One, OneAt, Sound, SoundAt, alike, blank, counts}
use Rattle.law_bring_up.proofs.Opening.{asked_in, no_post, normal_count, normal_count-append, normal_count-is, weight, written_count}

contrary : {T : Type 0} (c : Bool) → c ≡ false → c ≡ true → T
contrary true e f = absurd (cc)
contrary false e f = absurd (cc)

-- ---- turns make no posts

normal_count-nil : (s : ℕ) → normal_count s [] ≡ 0
normal_count-nil s = normal_count-is s [] ∙ (ap (queued_count s) normal_posts-nil ∙ queued_count-nil s)

turn_posts : (s n : ℕ) (d : HostDoor) (x : DoorStep) → normal_count s (turn_from n d x).writes ≡ 0
unfolding turn_from
turn_posts s zero d x = normal_count-nil s
turn_posts s (suc n) d (step.Write reg value) =
    let h = turn_posts s n (next_step d None).door (next_step d None).step in
    let c = normal_count-append s (down.Write reg value ∷ []) (turn_from n (next_step d None).door (next_step d None).step).writes in let o = no_post s (down.Write reg value) tt in
    omega (arith, h, c, o)
turn_posts s (suc n) d (step.Read reg) = normal_count-nil s
turn_posts s (suc n) d (step.Done count bytes) = normal_count-nil s
turn_posts s (suc n) d (step.Refused at value) = normal_count-nil s

-- what isn't a post stays as a reset is asked
no_posts : (s : ℕ) (xs : List Down) → normal_count s (filter resets.is_no_post xs) ≡ 0
no_posts s [] = normal_count-nil s
no_posts s (down.Post d f p ∷ xs) = no_posts s xs
no_posts s (down.Write reg value ∷ xs) = let h = no_posts s xs in let c = normal_count-append s (down.Write reg value ∷ []) (filter resets.is_no_post xs) in let o = no_post s (down.Write reg value) tt in omega (arith, h, c, o)
no_posts s (down.Read reg ∷ xs) = let h = no_posts s xs in let c = normal_count-append s (down.Read reg ∷ []) (filter resets.is_no_post xs) in let o = no_post s (down.Read reg) tt in omega (arith, h, c, o)
no_posts s (down.Return a i ∷ xs) = let h = no_posts s xs in let c = normal_count-append s (down.Return a i ∷ []) (filter resets.is_no_post xs) in let o = no_post s (down.Return a i) tt in omega (arith, h, c, o)
no_posts s (down.Stop ∷ xs) = let h = no_posts s xs in let c = normal_count-append s (down.Stop ∷ []) (filter resets.is_no_post xs) in let o = no_post s down.Stop tt in omega (arith, h, c, o)

-- ---- a table in which nothing is taken

pub none_free : (test : Slot Request → Bool) → test Free ≡ false → (n : ℕ) → how_many test (replicate n free_slot) ≡ 0
none_free test e zero = how_many-nil test
none_free test e (suc n) = let h = none_free test e n in let c = how_many-cons test free_slot (replicate n free_slot) in let o : one_if (test free_slot) ≡ 0 = ap one_if e in omega (arith, h, c, o)

none_taken : (xs : List (Slot Request)) → how_many is_taken xs ≡ 0 → xs ≡ replicate (length xs) free_slot
none_taken [] e = refl
none_taken (Free ∷ xs) e = let c = how_many-cons is_taken free_slot xs in ap (λ ys. free_slot ∷ ys) (none_taken xs (omega (arith, c, e)))
none_taken (Open r ∷ xs) e = let c = how_many-cons is_taken (Open r) xs in absurd (omega (arith, c, e))
none_taken (Parked ∷ xs) e = let p : Slot Request = Parked in let c = how_many-cons is_taken p xs in absurd (omega (arith, c, e))

notice_taken : (y : Slot Request) → is_notification_asked y ≡ true → is_taken y ≡ true
notice_taken (Open r) e = refl
notice_taken Parked e = refl
notice_taken Free e = absurd (cc)

enable_taken : (y : Slot Request) → is_enable_asked y ≡ true → is_taken y ≡ true
enable_taken (Open r) e = refl
enable_taken Parked e = refl
enable_taken Free e = absurd (cc)

reply_is : (s : ℕ) (x : Said) → is_reply_of s x ≡ true → is_reply x ≡ true
reply_is s (said.Success smid page sense) e = refl
reply_is s (said.Framed smid frame page sense) e = refl
reply_is s (said.Value value) e = absurd (cc)
reply_is s (said.Mark g) e = absurd (cc)
reply_is s said.Calm e = absurd (cc)

few_replies : (s : ℕ) (xs : List Said) → reply_count s xs ≤ how_many is_reply xs
unfolding reply_count
few_replies s xs = fewer_pass (is_reply_of s) is_reply (reply_is s) xs

-- ---- modes

not_starting : {T : Type 0} (m c : HostState) → m ≡ c → is_starting c ≡ false → is_starting m ≡ true → T
not_starting m c e n s = contrary (is_starting m) (ap is_starting e ∙ n) s

resetting_starts : (m : HostState) → is_resetting m ≡ true → is_starting m ≡ false
resetting_starts state.Resetting e = refl
resetting_starts state.Off e = absurd (cc)
resetting_starts state.Starting e = absurd (cc)
resetting_starts state.Up e = absurd (cc)

up_starts : (m : HostState) → is_up m ≡ true → is_starting m ≡ false
up_starts state.Up e = refl
up_starts state.Off e = absurd (cc)
up_starts state.Starting e = absurd (cc)
up_starts state.Resetting e = absurd (cc)

module _ (w : World) (h : History) (f : Facts w h) (bare : StartsBare w) (stand : NotificationsStand w) (sound : Sound w) (one : One w) where
  abbrev before_it : ℕ → ℕ
  before_it s = queued_count s w.ioc.normal + normal_count s w.down

  -- a host with this outbox
  abbrev pub Good : Host → Type 0
  Good x = SoundAt (is_live w) w.ioc.enabled w.ioc.through w.ioc.generation (λ s. before_it s + normal_count s x.out) (λ s. reply_count s (up_line w 0)) x.mode x.pool x.wait_internal x.asked

  abbrev pub Whole : Host → Type 0
  Whole x = Good x × OneAt x.mode x.pool x.wait_internal (is_some x.machine)

  -- where a start that is over found the controller OPERATIONAL
  abbrev pub Owed : Host → Type 0
  Owed x = (is_starting x.mode ≡ true → x.machine ≡ None → is_live w ≡ true) → Whole x

  pub line_of : (s : ℕ) (out : List Down) → queued_count s (w.ioc.normal ++ normal_posts (w.down ++ out)) ≡ before_it s + normal_count s out
  line_of s out =
      let a = queued_count-append s w.ioc.normal (normal_posts (w.down ++ out)) in
      let c = sym (normal_count-is s (w.down ++ out)) ∙ normal_count-append s w.down out in
      omega (arith, a, c)

  good : Good w.host
  good = alike (is_live w) w.ioc.enabled w.ioc.through w.ioc.generation (λ s. before_it s + normal_count s w.host.out) (λ s. reply_count s (up_line w 0)) refl refl refl refl (λ l s e. sym (line_of s w.host.out)) (λ l s e. omega arith) sound

  here : Whole w.host
  here = (good, one)

  -- ---- what leaves the two as they are

  record Rests (x k : Host) : Type 0 where
    pool : k.pool ≡ x.pool
    waiting : k.wait_internal ≡ x.wait_internal
    mode : k.mode ≡ x.mode
    asked : k.asked ≡ x.asked
    count : (s : ℕ) → normal_count s k.out ≡ normal_count s x.out

  rested : (x k : Host) → Rests x k → Good x → Good k
  rested x k r a =
      subst (λ (m : HostState). SoundAt (is_live w) w.ioc.enabled w.ioc.through w.ioc.generation (λ s. before_it s + normal_count s k.out) (λ s. reply_count s (up_line w 0)) m k.pool k.wait_internal k.asked) (sym r.mode)
      (subst (λ (p : List (Slot Request)). SoundAt (is_live w) w.ioc.enabled w.ioc.through w.ioc.generation (λ s. before_it s + normal_count s k.out) (λ s. reply_count s (up_line w 0)) x.mode p k.wait_internal k.asked) (sym r.pool)
      (subst (λ (p : List Request). SoundAt (is_live w) w.ioc.enabled w.ioc.through w.ioc.generation (λ s. before_it s + normal_count s k.out) (λ s. reply_count s (up_line w 0)) x.mode x.pool p k.asked) (sym r.waiting)
      (subst (λ (n : ℕ). SoundAt (is_live w) w.ioc.enabled w.ioc.through w.ioc.generation (λ s. before_it s + normal_count s k.out) (λ s. reply_count s (up_line w 0)) x.mode x.pool x.wait_internal n) (sym r.asked)
      (alike (is_live w) w.ioc.enabled w.ioc.through w.ioc.generation (λ s. before_it s + normal_count s k.out) (λ s. reply_count s (up_line w 0)) refl refl refl refl (λ l s e. let c = r.count s in omega (arith, c)) (λ l s e. omega arith) a))))

  asked_rests : (x k : Host) → Rests x k → asked_in k.pool k.wait_internal ≡ asked_in x.pool x.wait_internal
  asked_rests x k r = ap (λ p. asked_in p k.wait_internal) r.pool ∙ ap (λ t. asked_in x.pool t) r.waiting

  itself : (x : Host) → Rests x x
  itself x = record { pool = refl; waiting = refl; mode = refl; asked = refl; count = λ s. refl }

  turned : (x : Host) (t : DoorTurn) → ((s : ℕ) → normal_count s t.writes ≡ 0) → Rests x (door.puts_turn x t)
  turned x t z = by_step t.step
    where
      wrote : (s : ℕ) → normal_count s (x.out ++ t.writes) ≡ normal_count s x.out
      wrote s = let a = normal_count-append s x.out t.writes in let n = z s in omega (arith, a, n)

      read : (reg s : ℕ) → normal_count s ((x.out ++ t.writes) ++ down.Read reg ∷ []) ≡ normal_count s x.out
      read reg s = let a = normal_count-append s (x.out ++ t.writes) (down.Read reg ∷ []) in let n = no_post s (down.Read reg) tt in let g = wrote s in omega (arith, a, n, g)

      by_step : (y : DoorStep) → Rests x (door.puts_step (door.puts_writes x t.writes) t.door y)
      by_step (step.Read reg) = record { pool = refl; waiting = refl; mode = refl; asked = refl; count = read reg }
      by_step (step.Write reg value) = record { pool = refl; waiting = refl; mode = refl; asked = refl; count = wrote }
      by_step (step.Done count bytes) = record { pool = refl; waiting = refl; mode = refl; asked = refl; count = wrote }
      by_step (step.Refused p value) = record { pool = refl; waiting = refl; mode = refl; asked = refl; count = wrote }

  turn_rests : (x : Host) (d : HostDoor) (v : Option ℕ) → Rests x (door.puts_turn x (next_turn d v))
  turn_rests x d v = turned x (next_turn d v) (λ s. turn_posts s door.most_writes (next_step d v).door (next_step d v).step)

  -- a machine begins where neither is open, or no start goes on
  begun : (x : Host) (s : Stage) (d : HostDoor) (k : Kind) → Begun d k → (is_starting x.mode ≡ true → asked_in x.pool x.wait_internal ≡ 0) → Good x → Whole (door.begins x s d)
  begun x s d k b z a =
      let t = turn_rests (record x { stage = s }) d None in
      let r : Rests x (door.begins x s d) = record { pool = t.pool; waiting = t.waiting; mode = t.mode; asked = t.asked; count = t.count } in (
        rested x (door.begins x s d) r a,
        λ e. asked_rests x (door.begins x s d) r ∙ (z (ap is_starting (sym r.mode) ∙ e) ∙ sym (ap (λ (c : Bool). one_if (not c)) (ap (λ (y : Host). is_some y.machine) (begins_is x s d k b)))),
      )

  shaken : (x : Host) (s : Stage) (y : HostAsk) → (is_starting x.mode ≡ true → asked_in x.pool x.wait_internal ≡ 0) → Good x → Whole (door.begins_handshake x s y)
  shaken x s y z a = begun x s (handshake_of_message (message_bytes (host_message y))) _ (begun_talk y) z a

  -- ---- resets

  given_up : (x : Host) (s : Stage) → is_resetting x.mode ≡ false → Good x → Good (resets.gives_up x s)
  given_up x s n a =
      record {
        few = let g = a.few in let z = how_many-nil is_enable_waiting in omega (arith, g, z);
        idle = λ e. how_many-nil is_enable_waiting;
        up = λ e. absurd (never e);
        enabled = λ l q e k. let z = no_posts q x.out in a.enabled l q e (omega (arith, k, z));
        processed = λ m l q e k. absurd (never m);
        before = a.before;
        opened = a.opened;
        answered = a.answered;
        waiting = λ l k. let z = how_many-nil is_enable_waiting in absurd (omega (arith, k, z));
        none = λ b l. a.none (ap (λ c. c && (x.asked == w.ioc.generation)) n) l;
      }
    where
      never : false ≡ true → ⊥
      never e = cc

  reset_asked : (x : Host) (s : Stage) (d : HostDoor) (k : Kind) → Begun d k → is_resetting x.mode ≡ false → Good x → Whole (resets.with_reset_asked x s d)
  reset_asked x s d k b n a = by_read x.reading
    where
      by_read : (c : Bool) → Whole (if c then resets.gives_up x s else door.begins (resets.gives_up x s) s d)
      by_read true = (given_up x s n a, λ e. absurd (cc))
      by_read false = begun (resets.gives_up x s) s d k b (λ e. absurd (cc)) (given_up x s n a)

  renewed : (x : Host) → is_starting x.mode ≡ false → Good x → Good (resets.renewed x)
  renewed x n a =
      let p = none_free is_notification_asked refl 280 in let q = none_free is_enable_asked refl 280 in
      blank (is_live w) w.ioc.enabled w.ioc.through w.ioc.generation (λ s. before_it s + normal_count s x.out) (λ s. reply_count s (up_line w 0)) state.Starting (replicate 280 free_slot) x.wait_internal x.asked (omega (arith, p, q)) (a.idle n)

  over_if : (x : Host) → (x.door_ready ≡ true → is_starting x.mode ≡ false) → Whole x → Whole (resets.ends_reset_if_over x).part
  over_if x n a = by_tests x.door_ready refl (resets.has_all_marks x)
    where
      by_tests : (c : Bool) → x.door_ready ≡ c → (d : Bool) → Whole (if c && d then resets.ends_reset x else record { part = x; entries = [] }).part
      by_tests false e d = a
      by_tests true e false = a
      by_tests true e true =
          let p = none_free is_notification_asked refl 280 in let q = none_free is_enable_asked refl 280 in let t = (a.0).idle (n e) in
          shaken (resets.renewed x) stage.Facts ask.Facts (λ s. omega (arith, p, q, t)) (renewed x (n e) a.0)

  -- ---- a value

  fresh : is_some w.host.machine ≡ true → is_starting w.host.mode ≡ true → asked_in w.host.pool w.host.wait_internal ≡ 0
  fresh m s = one s ∙ ap (λ c. one_if (not c)) m

  module _ (v : ℕ) (rest : List Up) (e : up_on w 0 ≡ upward.Value v ∷ rest) (r : w.host.reading ≡ true) (y : why_strange w.host 0 (upward.Value v) ≡ None) where
    late : w.host.machine ≡ None → Whole (resets.begins_late (record w.host { reading = false }) w.host.stage)
    late n = by_waits (waits_to_reset w) refl
      where
        asked : waits_to_reset w ≡ true → is_starting w.host.mode ≡ false
        asked a = resetting_starts w.host.mode (and_false _ _ (and_false _ _ a).0).0

        by_stage : waits_to_reset w ≡ true → (w.host.stage ≡ stage.DiagnosticReset) ⊎ (w.host.stage ≡ stage.UnitReset) → Whole (resets.begins_late (record w.host { reading = false }) w.host.stage)
        by_stage a (inl s) = subst (λ s. Whole (resets.begins_late (record w.host { reading = false }) s)) (sym s) (begun (record w.host { reading = false }) stage.DiagnosticReset diagnostic_reset _ begun_diagnostic (λ t. contrary (is_starting w.host.mode) (asked a) t) good)
        by_stage a (inr s) = subst (λ s. Whole (resets.begins_late (record w.host { reading = false }) s)) (sym s) (begun (record w.host { reading = false }) stage.UnitReset unit_reset _ begun_unit (λ t. contrary (is_starting w.host.mode) (asked a) t) good)

        by_waits : (c : Bool) → waits_to_reset w ≡ c → Whole (resets.begins_late (record w.host { reading = false }) w.host.stage)
        by_waits true a = by_stage a (f.doorbell.stage.late n a)
        by_waits false a = subst (λ s. Whole (resets.begins_late (record w.host { reading = false }) s)) (sym (f.doorbell.stage.none n a)) here

    module _ (d : HostDoor) (x : Reading) (hv : HasValue w d x v) where
      machine : is_some w.host.machine ≡ true
      machine = ap is_some hv.machine_is

      over_rests : Rests w.host (over w d v)
      over_rests = record { pool = refl; waiting = refl; mode = refl; asked = refl; count = λ s. let a = normal_count-append s w.host.out (next_turn d (Some v)).writes in let n = turn_posts s door.most_writes (next_step d (Some v)).door (next_step d (Some v)).step in omega (arith, a, n) }

      over_good : Good (over w d v)
      over_good = rested w.host (over w d v) over_rests good

      none_open : is_starting w.host.mode ≡ true → asked_in w.host.pool w.host.wait_internal ≡ 0
      none_open s = fresh machine s

      starts_by : (n : ℕ) → Whole (values.starts_by (over w d v) n)
      starts_by n = by_tests (n == IOC_STATE_READY) (n == IOC_STATE_OPERATIONAL) (n == IOC_STATE_FAULT)
        where
          by_tests : (a b c : Bool) → Whole (if a then door.begins_facts (over w d v) else if b then door.begins (over w d v) stage.StartReset unit_reset else if c then door.begins (over w d v) stage.StartReset diagnostic_reset else values.looks_to_start (over w d v))
          by_tests true b c = shaken (over w d v) stage.Facts ask.Facts none_open over_good
          by_tests false true c = begun (over w d v) stage.StartReset unit_reset _ begun_unit none_open over_good
          by_tests false false true = begun (over w d v) stage.StartReset diagnostic_reset _ begun_diagnostic none_open over_good
          by_tests false false false = begun (over w d v) stage.Start look_at_doorbell _ begun_look none_open over_good

      ready : w.host.mode ≡ state.Resetting → Whole (resets.hears_ready (over w d v)).part
      ready m = over_if (record (over w d v) { door_ready = true }) (λ z. ap is_starting m) (over_good, λ s. not_starting w.host.mode state.Resetting m refl s)

      -- the messages begin
      module _ (m : w.host.mode ≡ state.Starting) where
        starting : is_starting w.host.mode ≡ true
        starting = ap is_starting m

        returned : (z : Host) (fs : List ℕ) → Rests z (fold returns.with_return z fs)
        returned z [] = itself z
        returned z (g ∷ fs) =
            let q = returned (returns.with_return z g) fs in
            record { pool = q.pool; waiting = q.waiting; mode = q.mode; asked = q.asked; count = λ s. q.count s ∙ (let y : Down = down.Return (reply_frame_address g) (returns.next_return z) in let a = normal_count-append s z.out (y ∷ []) in let n = no_post s y tt in omega (arith, a, n)) }

        all_rests : Rests (over w d v) (returns.returns_all (over w d v))
        all_rests = returned (over w d v) (range_with_len 0 returns.reply_frame_count)

        machine_stays : (z : Host) (fs : List ℕ) → (fold returns.with_return z fs).machine ≡ z.machine
        machine_stays z [] = refl
        machine_stays z (g ∷ fs) = machine_stays (returns.with_return z g) fs

        bare_now : (is_live w ≡ true → w.ioc.enabled ≡ false) × ((s : ℕ) → reply_count s (up_line w 0) ≡ 0)
        bare_now = let b = bare starting machine in ((λ l. (b.tables).enabled), λ s. let n = b.replies 0 in let k = few_replies s (up_line w 0) in omega (arith, n, k))

        pool_is : w.host.pool ≡ replicate 280 free_slot
        pool_is = let q = f.doorbell.fresh_start.fresh starting machine in none_taken w.host.pool q.pool ∙ ap (λ n. replicate n free_slot) f.flights.sizes.pool

        least : least_free class.Internal (returns.returns_all (over w d v)).pool ≡ Some 265
        least = ap (least_free class.Internal) (all_rests.pool ∙ pool_is)

        module _ (z : Host) (pz : z.pool ≡ w.host.pool) (tz : z.wait_internal ≡ w.host.wait_internal) (mz : z.mode ≡ w.host.mode) (nz : z.machine ≡ None) (lz : is_live w ≡ true) where
          blank_pool : z.pool ≡ replicate 280 free_slot
          blank_pool = pz ∙ pool_is

          zero_asked : asked_in z.pool z.wait_internal ≡ 0
          zero_asked = ap (λ p. asked_in p z.wait_internal) pz ∙ (ap (λ t. asked_in w.host.pool t) tz ∙ none_open starting)

          asked_one : asked_in (set z.pool 264 (Open request.Notification)) z.wait_internal ≡ 1
          asked_one =
              let t : length z.pool ≡ 280 = ap length pz ∙ f.flights.sizes.pool in
              let c = written_count z.pool z.wait_internal 265 (Open request.Notification) (omega arith) (omega (arith, t)) in
              let y : weight (slot_of z.pool 265) ≡ 0 = ap (λ p. weight (slot_of p 265)) blank_pool ∙ ap weight (all_free_at 280 265) in
              let a = zero_asked in
              omega (arith, c, y, a)

          never : {X : Type 0} (s : ℕ) → slot_of (set z.pool 264 (Open request.Notification)) s ≡ Open request.PortEnable → X
          never {X} s g = by_place (written z.pool 264 s (Open request.Notification))
            where
              by_place : (slot_of (set z.pool 264 (Open request.Notification)) s ≡ slot_of z.pool s) ⊎ ((s ≡ 265) × (slot_of (set z.pool 264 (Open request.Notification)) s ≡ Open request.Notification)) → X
              by_place (inl q) = let u : free_slot ≡ Open request.PortEnable = sym (ap (λ p. slot_of p s) blank_pool ∙ all_free_at 280 s) ∙ (sym q ∙ g) in absurd (cc)
              by_place (inr q) = let u : Open request.Notification ≡ Open request.PortEnable = sym q.1 ∙ g in absurd (cc)

          in_start : is_starting z.mode ≡ true
          in_start = ap is_starting mz ∙ starting

          not_up : {X : Type 0} → is_up z.mode ≡ true → X
          not_up u = contrary (is_starting z.mode) (up_starts z.mode u) in_start

          posted : Whole (asks.posts_internal z 265 request.Notification)
          posted = (
            record {
              few = let a = asked_one in omega (arith, a);
              idle = λ g. contrary (is_starting z.mode) g in_start;
              up = λ u. not_up u;
              enabled = λ l s g k. never s g;
              processed = λ k l s g q. never s g;
              before = λ l s g. bare_now.0 l;
              opened = λ l s g. never s g;
              answered = λ l s g k. let q = bare_now.1 s in absurd (omega (arith, q, k));
              waiting = λ l k. let a = zero_asked in absurd (omega (arith, a, k));
              none = λ b l. contrary (is_live w) l lz;
            },
            λ g. asked_one ∙ sym (ap (λ (c : Option HostDoor). one_if (not (is_some c))) nz),
          )

        opened : Owed (values.begins_messages (over w d v))
        opened = subst (λ o. Owed (asks.posts_internal_or_waits (returns.returns_all (over w d v)) request.Notification o)) (sym least) by_post
          where
            by_post : Owed (asks.posts_internal (returns.returns_all (over w d v)) 265 request.Notification)
            by_post l =
                let n = machine_stays (over w d v) (range_with_len 0 returns.reply_frame_count) in
                let q = all_rests in
                posted (returns.returns_all (over w d v)) q.pool q.waiting q.mode n (l (ap is_starting q.mode ∙ starting) n)

      ends : (s : Stage) → w.host.stage ≡ s → ReadsFor s x → IsInMode w s → (count : ℕ) (bytes : List ℕ) → Owed (values.ends_stage (over w d v) s (take count bytes)).part
      ends stage.Idle q g m count bytes l = absurd g
      ends stage.StartReset q g m count bytes l = absurd g
      ends stage.Start q g m count bytes l = starts_by (values.state_read (take count bytes))
      ends stage.Facts q g m count bytes l = shaken (over w d v) stage.PortFacts ask.PortFacts none_open over_good
      ends stage.PortFacts q g m count bytes l = shaken (over w d v) stage.Init (ask.Init (host_queue_count w.host)) none_open over_good
      ends stage.Init q g m count bytes l = opened m l
      ends stage.Look q g m count bytes l = (over_good, λ s. not_starting w.host.mode state.Up m refl s)
      ends stage.DiagnosticReset q g m count bytes l = ready m
      ends stage.UnitReset q g m count bytes l = ready m

      refused : (s : DoorStep) → (next_turn d (Some v)).step ≡ s → door_refused s ≡ None
      refused s u =
          let a = (none_of_or (wrong_queue_of_value 0) _ y).1 in
          let c0 = (none_of_or (no_read w.host) _ a).1 in
          let c = (none_of_or (why_door w.host w.host.machine v) None c0).0 in
          let g : why_door w.host (Some d) v ≡ None = ap (λ o. why_door w.host o v) (sym hv.machine_is) ∙ c in
          sym (ap door_refused u) ∙ (none_of_or (door_refused (next_turn d (Some v)).step) _ g).0

      by_step : (s : DoorStep) → (next_turn d (Some v)).step ≡ s → Owed (values.after_turn (door.puts_turn (record w.host { reading = false }) (next_turn d (Some v))) w.host.stage s).part
      by_step (step.Read reg) u l =
          let t = turn_rests (record w.host { reading = false }) d (Some v) in
          let k = door.puts_turn (record w.host { reading = false }) (next_turn d (Some v)) in
          let b : Rests w.host k = record { pool = t.pool; waiting = t.waiting; mode = t.mode; asked = t.asked; count = t.count } in
          let m : is_some k.machine ≡ true = ap (λ s. is_some (door.puts_step (door.puts_writes (record w.host { reading = false }) (next_turn d (Some v)).writes) (next_turn d (Some v)).door s).machine) u in
          (rested w.host k b good, λ s. asked_rests w.host k b ∙ (none_open (ap is_starting (sym b.mode) ∙ s) ∙ sym (ap (λ (c : Bool). one_if (not c)) m)))
      by_step (step.Write reg value) u l = absurd (value_ends d x v hv.at (subst IsWriteStep (sym u) tt))
      by_step (step.Refused p value) u l = absurd (some_none (refused (step.Refused p value) u))
        where
          some_none : Some (why.DoorRefused p value) ≡ None → ⊥
          some_none z = cc
      by_step (step.Done count bytes) u l =
          let z : door.puts_turn (record w.host { reading = false }) (next_turn d (Some v)) ≡ over w d v = ap (door.puts_step (door.puts_writes (record w.host { reading = false }) (next_turn d (Some v)).writes) (next_turn d (Some v)).door) u in
          subst (λ n. Owed (values.ends_stage n w.host.stage (take count bytes)).part) (sym z) (ends w.host.stage refl hv.reads_for hv.in_mode count bytes) l

    valued : Owed (values.hears_value w.host v).part
    valued = by_machine w.host.machine refl
      where
        by_stage : (d : HostDoor) → w.host.machine ≡ Some d → (s : DoorStage) → d.stage ≡ s → WaitsAt w s → Owed (values.hears_turn (record w.host { reading = false }) (next_turn d (Some v))).part
        by_stage d m (door_stage.Awaits x) at a = by_step d x (record { rest = rest; front = e; reading = r; machine_is = m; at = at; reads_for = a.0; in_mode = a.1 }) (next_turn d (Some v)).step refl
        by_stage d m (door_stage.Reads x) at a = absurd a
        by_stage d m door_stage.Opens at a = absurd a
        by_stage d m (door_stage.WritesKey p) at a = absurd a
        by_stage d m door_stage.Locks at a = absurd a
        by_stage d m door_stage.ResetsUnit at a = absurd a
        by_stage d m door_stage.Finishes at a = absurd a
        by_stage d m door_stage.Ended at a = absurd a

        by_machine : (o : Option HostDoor) → w.host.machine ≡ o → Owed (values.hears_value_at (record w.host { reading = false }) o v).part
        by_machine None n l = late n
        by_machine (Some d) m l = by_stage d m d.stage refl (f.doorbell.stage.machine d m) l

  -- ---- away from the doorbell

  -- a start goes on; and where the controller is live, the port isn't enabled and events are let through
  abbrev May : Type 0
  May = (is_starting w.host.mode ≡ true) × (is_live w ≡ true → (w.ioc.enabled ≡ false) × (w.ioc.through ≡ true))

  waits_in_start : 1 ≤ how_many is_enable_waiting w.host.wait_internal → is_starting w.host.mode ≡ true
  waits_in_start k = by_test (is_starting w.host.mode) refl
    where
      by_test : (c : Bool) → is_starting w.host.mode ≡ c → c ≡ true
      by_test true e = refl
      by_test false e = let z = sound.idle e in absurd (omega (arith, z, k))

  module _ (hand : ℕ) (notice : slot_of w.host.pool hand ≡ Open request.Notification → is_resetting w.host.mode ≡ false → May) where
    abbrev Going : Host → Type 0
    Going x = Stands w.host May hand notice f.flights.sizes.few_queues f.flights.sizes.some_queue sound.few x

    begins : Going w.host
    begins =
        record {
          k = asked_in w.host.pool w.host.wait_internal;
          m = w.host.mode;
          held =
              record {
                table = f.flights.sizes.pool;
                plain = stand.waiting;
                count = refl;
                notified = λ s e. e;
                enabling = λ s e. inl (e, refl);
                waiting = λ k. (waits_in_start k, λ l. sound.waiting l k);
                mode_is = refl;
                machine_is = refl;
                asked_is = refl;
                queues = refl;
              };
          reached = inl (refl, inl refl);
        }

    -- what it says in the end
    whole : (x : Host) → Going x → Whole x
    whole x a = (
      record {
        few = subst (λ n. n ≤ 1) (sym g.count) (at_most a.reached);
        idle = λ e. by_waiting e (how_many is_enable_waiting x.wait_internal) refl;
        up = λ u. g.count ∙ up_now a.reached (ap is_up (sym g.mode_is) ∙ u);
        enabled = λ l s e k. enabled l s e k (g.enabling s e);
        processed = λ n l s e k. processed n l s e k (g.enabling s e);
        before = λ l s e. good.before l s (g.notified s e);
        opened = λ l s e. opens l s (g.enabling s e);
        answered = λ l s e k. good.answered l s (g.notified s e) k;
        waiting = λ l k. (g.waiting k).1 l;
        none = λ b l. none a.reached b l;
      },
      λ s. g.count ∙ one_now a.reached (ap is_starting (sym g.mode_is) ∙ s),
    )
      where
        g : Rattle.law_bring_up.proofs.Opening.Held w.host May a.k a.m x
        g = a.held

        at_most : going.Reached w.host May hand notice f.flights.sizes.few_queues f.flights.sizes.some_queue sound.few a.k a.m → a.k ≤ 1
        at_most (inl (e, inl q)) = let z = sound.few in omega (arith, q, z)
        at_most (inl (e, inr q)) = let z = sound.few in let l = q.1 in omega (arith, l, z)
        at_most (inr q) = let z = q.1 in omega (arith, z)

        up_now : going.Reached w.host May hand notice f.flights.sizes.few_queues f.flights.sizes.some_queue sound.few a.k a.m → is_up a.m ≡ true → a.k ≡ 0
        up_now (inl (e, inl q)) u = q ∙ sound.up (ap is_up (sym e) ∙ u)
        up_now (inl (e, inr q)) u = let z = sound.up (ap is_up (sym e) ∙ u) in let l = q.1 in omega (arith, l, z)
        up_now (inr q) u = q.1

        one_now : going.Reached w.host May hand notice f.flights.sizes.few_queues f.flights.sizes.some_queue sound.few a.k a.m → is_starting a.m ≡ true → a.k ≡ one_if (not (is_some x.machine))
        one_now (inl (e, inl q)) s = q ∙ (one (ap is_starting (sym e) ∙ s) ∙ ap (λ (o : Option HostDoor). one_if (not (is_some o))) (sym g.machine_is))
        one_now (inl (e, inr q)) s = contrary (is_starting w.host.mode) (resetting_starts w.host.mode q.0) (ap is_starting (sym e) ∙ s)
        one_now (inr q) s = not_starting a.m state.Up q.0 refl s

        by_waiting : is_starting x.mode ≡ false → (n : ℕ) → how_many is_enable_waiting x.wait_internal ≡ n → how_many is_enable_waiting x.wait_internal ≡ 0
        by_waiting e zero q = q
        by_waiting e (suc n) q = by_reached a.reached
          where
            may : May
            may = g.waiting (omega (arith, q))

            counted : 1 ≤ a.k
            counted = let c = g.count in omega (arith, c, q)

            by_reached : going.Reached w.host May hand notice f.flights.sizes.few_queues f.flights.sizes.some_queue sound.few a.k a.m → how_many is_enable_waiting x.wait_internal ≡ 0
            by_reached (inl u) = contrary (is_starting x.mode) e (ap is_starting (g.mode_is ∙ u.0) ∙ may.0)
            by_reached (inr u) = let z = u.1 in let c = counted in absurd (omega (arith, z, c))

        enabled : is_live w ≡ true → (s : ℕ) → slot_of x.pool s ≡ Open request.PortEnable → 1 ≤ before_it s + normal_count s x.out → Rattle.law_bring_up.proofs.Opening.Enabling w.host May s x.out → w.ioc.enabled ≡ false
        enabled l s e k (inl q) = let c = q.1 in good.enabled l s q.0 (omega (arith, c, k))
        enabled l s e k (inr q) = ((q.0).1 l).0

        opens : is_live w ≡ true → (s : ℕ) → Rattle.law_bring_up.proofs.Opening.Enabling w.host May s x.out → w.ioc.through ≡ true
        opens l s (inl q) = good.opened l s q.0
        opens l s (inr q) = ((q.0).1 l).1

        processed : (is_starting x.mode || is_up x.mode) ≡ true → is_live w ≡ true → (s : ℕ) → slot_of x.pool s ≡ Open request.PortEnable → before_it s + normal_count s x.out ≡ 0 → Rattle.law_bring_up.proofs.Opening.Enabling w.host May s x.out → w.ioc.enabled ≡ true
        processed n l s e k (inr q) = let c = q.1 in absurd (omega (arith, c, k))
        processed n l s e k (inl q) = by_reached a.reached
          where
            by_reached : going.Reached w.host May hand notice f.flights.sizes.few_queues f.flights.sizes.some_queue sound.few a.k a.m → w.ioc.enabled ≡ true
            by_reached (inl u) = let c = q.1 in good.processed (ap (λ (m : HostState). is_starting m || is_up m) (sym (g.mode_is ∙ u.0)) ∙ n) l s q.0 (omega (arith, c, k))
            by_reached (inr u) = let c = counts is_enable_asked x.pool s request.PortEnable e refl in let z = u.1 in let d = g.count in absurd (omega (arith, c, z, d))

        none : going.Reached w.host May hand notice f.flights.sizes.few_queues f.flights.sizes.some_queue sound.few a.k a.m → (is_resetting x.mode && (x.asked == w.ioc.generation)) ≡ false → is_live w ≡ false → how_many is_notification_asked x.pool + how_many is_enable_asked x.pool ≡ 0
        none (inr u) b l = let z = u.1 in let d = g.count in omega (arith, z, d)
        none (inl u) b l =
            let z = good.none (ap (λ (m : HostState). is_resetting m && (w.host.asked == w.ioc.generation)) (sym (g.mode_is ∙ u.0)) ∙ (ap (λ n. is_resetting x.mode && (n == w.ioc.generation)) (sym g.asked_is) ∙ b)) l in
            by_waits (how_many is_enable_waiting w.host.wait_internal) refl u.1 z
          where
            by_waits : (n : ℕ) → how_many is_enable_waiting w.host.wait_internal ≡ n → (a.k ≡ asked_in w.host.pool w.host.wait_internal) ⊎ ((is_resetting w.host.mode ≡ true) × (a.k ≤ asked_in w.host.pool w.host.wait_internal)) → how_many is_notification_asked w.host.pool + how_many is_enable_asked w.host.pool ≡ 0 → how_many is_notification_asked x.pool + how_many is_enable_asked x.pool ≡ 0
            by_waits zero q (inl c) z = let d = g.count in omega (arith, q, c, z, d)
            by_waits zero q (inr c) z = let d = g.count in let j = c.1 in omega (arith, q, j, z, d)
            by_waits (suc n) q c z = contrary (is_live w) l (starts_live (waits_in_start (omega (arith, q))))
              where
                starts_live : is_starting w.host.mode ≡ true → is_live w ≡ true
                starts_live s = by_machine w.host.machine refl
                  where
                    by_machine : (o : Option HostDoor) → w.host.machine ≡ o → is_live w ≡ true
                    by_machine None m = f.doorbell.rests.started s m
                    by_machine (Some d) m = let y = fresh (ap is_some m) s in absurd (omega (arith, y, q))

  -- nothing is open under 0
  no_notice : slot_of w.host.pool 0 ≡ Open request.Notification → is_resetting w.host.mode ≡ false → May
  no_notice e r = let c : free_slot ≡ Open request.Notification = e in absurd (cc)

  -- ---- a reply

  notice_open : (s : ℕ) → slot_of w.host.pool s ≡ Open request.Notification → 1 ≤ asked_in w.host.pool w.host.wait_internal
  notice_open s e = let c = counts is_notification_asked w.host.pool s request.Notification e refl in omega (arith, c)

  off_asks : w.host.mode ≡ state.Off → (how_many is_notification_asked w.host.pool + how_many is_enable_asked w.host.pool ≡ 0) × (how_many is_enable_waiting w.host.wait_internal ≡ 0)
  off_asks e =
      let q = f.doorbell.fresh_start.off e in let z = q.pool in
      let a = fewer_pass is_notification_asked is_taken notice_taken w.host.pool in let c = fewer_pass is_enable_asked is_taken enable_taken w.host.pool in
      (omega (arith, z, a, c), ap (how_many is_enable_waiting) q.wait_internal ∙ how_many-nil is_enable_waiting)

  starting_now : (s : ℕ) → slot_of w.host.pool s ≡ Open request.Notification → is_resetting w.host.mode ≡ false → is_starting w.host.mode ≡ true
  starting_now s e r = by_mode w.host.mode refl r
    where
      by_mode : (m : HostState) → w.host.mode ≡ m → is_resetting m ≡ false → is_starting m ≡ true
      by_mode state.Starting q r = refl
      by_mode state.Resetting q r = absurd (cc)
      by_mode state.Up q r = let z = sound.up (ap is_up q) in let n = notice_open s e in absurd (omega (arith, z, n))
      by_mode state.Off q r = let z = off_asks q in let c = counts is_notification_asked w.host.pool s request.Notification e refl in let y = z.0 in absurd (omega (arith, y, c))

  -- the reply to the event notification comes on queue 0
  module _ (queue d : ℕ) (g : Option (List ℕ)) (page sense : List ℕ) (rest : List Up) (e : up_on w queue ≡ upward.Reply d g page sense ∷ rest) where
    front : up_line w queue ≡ said_reply (smid_in d) g page sense ∷ (map said_of rest ++ get_or w.ioc.up queue [])
    front = ap (λ xs. map said_of xs ++ get_or w.ioc.up queue []) e

    its : SaidIs w h queue (said_reply (smid_in d) g page sense)
    its = Rattle.std.proofs.lemmas.List.Elements.All-head (SaidIs w h queue) (said_reply (smid_in d) g page sense) (map said_of rest ++ get_or w.ioc.up queue []) (subst (All (SaidIs w h queue)) front (f.messages.said queue))

    first_queue : (s : ℕ) (o : Option (List ℕ)) → slot_of w.host.pool s ≡ Open request.Notification → SaidIs w h queue (said_reply s o page sense) → queue ≡ 0
    first_queue zero o n a = let c : free_slot ≡ Open request.Notification = n in absurd (cc)
    first_queue (suc s) None n a = absurd (subst (Rattle.law_facts.specs.Messages.AnswersBy w h queue (suc s) (said.Success (suc s) page sense)) n a)
    first_queue (suc s) (Some frame) n a = (subst (Rattle.law_facts.specs.Messages.AnswersBy w h queue (suc s) (said.Framed (suc s) frame page sense)) n a).0

    same : (n : ℕ) → (n == n) ≡ true
    same n = grind arith

    replied : (o : Option (List ℕ)) → is_reply_of (smid_in d) (said_reply (smid_in d) o page sense) ≡ true
    replied None = same (smid_in d)
    replied (Some frame) = same (smid_in d)

    noticed : slot_of w.host.pool (smid_in d) ≡ Open request.Notification → is_resetting w.host.mode ≡ false → May
    noticed n r = (
      starting_now (smid_in d) n r,
      λ l. (good.before l (smid_in d) n, good.answered l (smid_in d) n come),
    )
      where
        come : 1 ≤ reply_count (smid_in d) (up_line w 0)
        come =
            let q = first_queue (smid_in d) g n its in
            let a = ap (reply_count (smid_in d)) front in
            let c = reply_count-cons (smid_in d) (said_reply (smid_in d) g page sense) (map said_of rest ++ get_or w.ioc.up queue []) in
            let o : one_if (is_reply_of (smid_in d) (said_reply (smid_in d) g page sense)) ≡ 1 = ap one_if (replied g) in
            subst (λ i. 1 ≤ reply_count (smid_in d) (up_line w i)) q (omega (arith, a, c, o))

    answered : Whole (hears_up w.host queue (upward.Reply d g page sense)).part
    answered =
        whole (smid_in d) noticed (hears_up w.host queue (upward.Reply d g page sense)).part
        (away.reply_kept (Going (smid_in d) noticed) (smid_in d) (going.kept w.host May (smid_in d) noticed f.flights.sizes.few_queues f.flights.sizes.some_queue sound.few) w.host queue d g page sense refl (begins (smid_in d) noticed))

  -- ---- an item

  pub took : (queue : ℕ) (x : Up) (rest : List Up) → up_on w queue ≡ x ∷ rest → why_strange w.host queue x ≡ None → Owed (hears_up w.host queue x).part
  took queue (upward.Value v) rest e y l = let q = value_is_due w queue v y in valued v rest (subst (λ n. up_on w n ≡ upward.Value v ∷ rest) q.0 e) q.1 (subst (λ n. why_strange w.host n (upward.Value v) ≡ None) q.0 y) l
  took queue (upward.Reply d g page sense) rest e y l = answered queue d g page sense rest e
  took queue (upward.Mark generation) rest e y l =
      over_if (record w.host { marks = slice_set w.host.marks queue true })
      (λ z. let k = (f.clock.value_is_last.ready z).linked in resetting_starts w.host.mode (and_false _ _ (and_false _ _ k).0).0) here
  took queue upward.Calm rest e y l = here

  -- ---- inputs

  starts : (m : HostState) → w.host.mode ≡ m → Whole (inputs.starts_in w.host m).part
  starts state.Off e =
      let z = off_asks e in let p = z.0 in let q = z.1 in
      begun (record w.host { mode = state.Starting }) stage.Start look_at_doorbell _ begun_look (λ s. omega (arith, p, q))
      (blank (is_live w) w.ioc.enabled w.ioc.through w.ioc.generation (λ s. before_it s + normal_count s w.host.out) (λ s. reply_count s (up_line w 0)) state.Starting w.host.pool w.host.wait_internal w.host.asked z.0 z.1)
  starts state.Starting e = here
  starts state.Up e = here
  starts state.Resetting e = here

  diagnostic : (m : HostState) → w.host.mode ≡ m → Whole (inputs.diag_resets_in w.host m).part
  diagnostic state.Off e = here
  diagnostic state.Starting e = reset_asked w.host stage.DiagnosticReset diagnostic_reset _ begun_diagnostic (ap is_resetting e) good
  diagnostic state.Up e = reset_asked w.host stage.DiagnosticReset diagnostic_reset _ begun_diagnostic (ap is_resetting e) good
  diagnostic state.Resetting e = here

  unit : (m : HostState) → w.host.mode ≡ m → Whole (inputs.unit_resets_in w.host m).part
  unit state.Off e = here
  unit state.Starting e = here
  unit state.Up e = reset_asked w.host stage.UnitReset unit_reset _ begun_unit (ap is_resetting e) good
  unit state.Resetting e = here

  asked_away : (i : Input) → AsksNone i → Whole (host_told w.host i).part
  asked_away i a = whole 0 no_notice (host_told w.host i).part (away.input_kept (Going 0 no_notice) 0 (going.kept w.host May 0 no_notice f.flights.sizes.few_queues f.flights.sizes.some_queue sound.few) w.host i a (begins 0 no_notice))

  pub told : (i : Input) → Whole (host_told w.host i).part
  told input.Start = starts w.host.mode refl
  told input.Reset = diagnostic w.host.mode refl
  told input.UnitReset = unit w.host.mode refl
  told (input.Submit n address form) = asked_away (input.Submit n address form) tt
  told (input.Abort n) = asked_away (input.Abort n) tt
  told (input.TargetReset address) = asked_away (input.TargetReset address) tt
  told (input.Plug address expander phy) = here
  told (input.Unplug address) = here

  pub looked : is_free w.host ≡ true → Whole (looks w.host)
  looked e = begun w.host stage.Look look_at_doorbell _ begun_look (λ s. contrary (is_starting w.host.mode) (up_starts w.host.mode (and_false _ _ e).0) s) good

  pub stopped : Whole (stops w.host)
  stopped = (
    rested w.host (stops w.host) (record { pool = refl; waiting = refl; mode = refl; asked = refl; count = λ s. let a = normal_count-append s w.host.out (down.Stop ∷ []) in let n = no_post s down.Stop tt in omega (arith, a, n) }) good,
    one,
  )
