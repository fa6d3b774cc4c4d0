-- An event notification is open under the first identifier of its class alone, and none waits: at first, and behind each case.
use Rattle.std.proofs.Common.{◌≡◌, ℕ, ◌&&◌, ◌⊎◌, inl, inr, ◌==◌, if◌then◌else◌, Bool, true, false, List, [], ◌∷◌, length, replicate, set, take, Option, Some, None, is_some, refl, ap, sym, ◌∙◌, subst, arith, slice_set}
use Rattle.std.specs.List.{fold, range_with_len}
use Rattle.std.proofs.lemmas.List.Elements.{All-nil}
use Rattle.smid_pool.specs.Pool.{Free, Open, Parked, Slot, is_taken, least_free, slot_of}
use Rattle.smid_pool.specs.declared.class.Class.TheVariants as class
use Rattle.mpi_doorbell.specs.HostDoor.{HostDoor}
use Rattle.mpi_doorbell.specs.HostSteps.{diagnostic_reset, handshake_of_message, look_at_doorbell, unit_reset}
use Rattle.mpi_doorbell.specs.declared.registers.TheConstants.{IOC_STATE_FAULT, IOC_STATE_OPERATIONAL, IOC_STATE_READY}
use Rattle.mpi_doorbell.specs.declared.stage.Stage.{Stage as DoorStage}
use Rattle.mpi_doorbell.specs.declared.stage.Stage.TheVariants as door_stage
use Rattle.mpi_doorbell.specs.declared.step.DoorStep.{DoorStep}
use Rattle.mpi_doorbell.specs.declared.step.DoorStep.TheVariants as step
use Rattle.mpi_rings.specs.declared.request_descriptor.PostKind.TheVariants as post
use Rattle.mpt_wire.specs.Queues.Identifiers.{first_smid}
use Rattle.mpt_messages.specs.declared.host_ask.HostAsk.{HostAsk}
use Rattle.mpt_messages.specs.declared.host_ask.HostAsk.TheVariants as ask
use Rattle.mpt_messages.specs.FrameBytes.{message_bytes}
use Rattle.mpt_messages.specs.HostFrames.{host_message}
use Rattle.mpt_trace.specs.declared.host_state.HostState.{HostState}
use Rattle.mpt_trace.specs.declared.host_state.HostState.TheVariants as state
use Rattle.mpt_trace.specs.declared.input.Input.{Input}
use Rattle.mpt_trace.specs.declared.input.Input.TheVariants as input
use Rattle.mpt_trace.specs.declared.item.Down.{Down}
use Rattle.mpt_trace.specs.declared.item.Down.TheVariants as down
use Rattle.mpt_trace.specs.declared.item.Up.{Up}
use Rattle.mpt_trace.specs.declared.item.Up.TheVariants as upward
use Rattle.mpt_rules.specs.declared.request.Request.{Request}
use Rattle.mpt_rules.specs.declared.request.Request.TheVariants as request
use Rattle.mpt_rules.specs.declared.stage.Stage.{Stage}
use Rattle.mpt_rules.specs.declared.stage.Stage.TheVariants as stage
use Rattle.mpt_rules.specs.Host.Doorbell as door
use Rattle.mpt_rules.specs.Host.Doorbell.{DoorTurn, next_turn}
use Rattle.mpt_rules.specs.Host.Inputs as inputs
use Rattle.mpt_rules.specs.Host.Parts.{Host, host_queue_count}
use Rattle.mpt_rules.specs.Host.Posts as asks
use Rattle.mpt_rules.specs.Host.Resets as resets
use Rattle.mpt_rules.specs.Host.Returns as returns
use Rattle.mpt_rules.specs.Host.Returns.{after_sent}
use Rattle.mpt_rules.specs.Host.Takes.{hears_up, is_starting}
use Rattle.mpt_rules.specs.Host.Values as values
use Rattle.mpt_rules.specs.Law.{NothingIsStrange}
use Rattle.mpt_rules.specs.World.Cases.{Case, happens}
use Rattle.mpt_rules.specs.World.Counts.{how_many}
use Rattle.mpt_rules.specs.World.Inputs.{host_told}
use Rattle.mpt_rules.specs.World.Settings.{Setting, first_world}
use Rattle.mpt_rules.specs.World.State.{World}
use Rattle.law_facts.specs.DoorAhead.{IsInMode, WaitsAt}
use Rattle.law_facts.specs.Facts.{Facts}
use Rattle.law_facts.specs.History.{History}
use Rattle.law_moves.proofs.Cases.{Owes, kept}
use Rattle.law_moves.proofs.Counted.{how_many-cons}
use Rattle.law_flights.proofs.HostTurns.{all_free_at, free_slot}
use Rattle.law_records.proofs.Strict.{along, AsksNone, input_away, reply_is_strict}
use Rattle.law_first.proofs.ClockFirst.{no_more_than}
use Rattle.law_first.proofs.FlightsFirst.{all_slots_free}
use Rattle.law_classes.proofs.FirstMoves.{IsFirstIn, NoticesFit, move_fits, notified, same, written}
use Rattle.law_classes.specs.Made.{IsNoNotification, NotificationsStand}

-- ---- a pool in which nothing is taken

free_isnt : {T : Type 0} → free_slot ≡ notified → T
free_isnt e = absurd (cc)

all_free_first : IsFirstIn (replicate 280 free_slot)
all_free_first s e = free_isnt (sym (all_free_at 280 s) ∙ e)

none_taken : (xs : List (Slot Request)) → how_many is_taken xs ≡ 0 → xs ≡ replicate (length xs) free_slot
none_taken [] e = refl
none_taken (Free ∷ xs) e = let c = how_many-cons is_taken free_slot xs in ap (λ ys. free_slot ∷ ys) (none_taken xs (omega (arith, c, e)))
none_taken (Open r ∷ xs) e = let c = how_many-cons is_taken (Open r) xs in no_more_than (how_many is_taken (Open r ∷ xs)) (omega (arith, c)) e
none_taken (Parked ∷ xs) e = let p : Slot Request = Parked in let c = how_many-cons is_taken p xs in no_more_than (how_many is_taken (p ∷ xs)) (omega (arith, c)) e

-- the first post of a start
abbrev IsBlank : Host → Type 0
IsBlank h = h.pool ≡ replicate 280 free_slot

opened_first : IsFirstIn (set (replicate 280 free_slot) 264 notified)
opened_first s e = by_place (written (replicate 280 free_slot) 264 s notified)
  where
    by_place : (slot_of (set (replicate 280 free_slot) 264 notified) s ≡ slot_of (replicate 280 free_slot) s) ⊎ ((s ≡ 265) × (slot_of (set (replicate 280 free_slot) 264 notified) s ≡ notified)) → s ≡ first_smid post.Default
    by_place (inl q) = free_isnt (sym (all_free_at 280 s) ∙ (sym q ∙ e))
    by_place (inr q) = q.0

asked_first : (h : Host) → IsBlank h → NoticesFit h → NoticesFit (asks.asks_internal h request.Notification)
asked_first h b z = subst (λ o. NoticesFit (asks.posts_internal_or_waits h request.Notification o)) (sym least) posted
  where
    least : least_free class.Internal h.pool ≡ Some 265
    least = ap (least_free class.Internal) b

    posted : NoticesFit (asks.posts_internal h 265 request.Notification)
    posted = record { first = subst (λ p. IsFirstIn (set p 264 notified)) (sym b) opened_first; waiting = z.waiting }

-- ---- at the doorbell

-- the pool and what waits stay
record Stays (h k : Host) : Type 0 where
  pool : k.pool ≡ h.pool
  waiting : k.wait_internal ≡ h.wait_internal

fits : (h k : Host) → Stays h k → NoticesFit h → NoticesFit k
fits h k s z = same h k s.pool s.waiting z

returned : (h : Host) (fs : List ℕ) → Stays h (fold returns.with_return h fs)
returned h [] = record { pool = refl; waiting = refl }
returned h (f ∷ fs) = let r = returned (returns.with_return h f) fs in record { pool = r.pool; waiting = r.waiting }

turned : (h : Host) (t : DoorTurn) → Stays h (door.puts_turn h t)
turned h t = by_step t.step
  where
    by_step : (s : DoorStep) → Stays h (door.puts_step (door.puts_writes h t.writes) t.door s)
    by_step (step.Read reg) = record { pool = refl; waiting = refl }
    by_step (step.Write reg value) = record { pool = refl; waiting = refl }
    by_step (step.Done count bytes) = record { pool = refl; waiting = refl }
    by_step (step.Refused p value) = record { pool = refl; waiting = refl }

begun : (h : Host) (s : Stage) (d : HostDoor) → NoticesFit h → NoticesFit (door.begins h s d)
begun h s d z = fits h (door.begins h s d) (let t = turned (record h { stage = s }) (next_turn d None) in record { pool = t.pool; waiting = t.waiting }) z

shaken : (h : Host) (s : Stage) (x : HostAsk) → NoticesFit h → NoticesFit (door.begins_handshake h s x)
shaken h s x z = begun h s (handshake_of_message (message_bytes (host_message x))) z

given_up : (h : Host) (s : Stage) → NoticesFit h → NoticesFit (resets.gives_up h s)
given_up h s z = record { first = z.first; waiting = All-nil IsNoNotification }

reset_asked : (h : Host) (s : Stage) (d : HostDoor) → NoticesFit h → NoticesFit (resets.with_reset_asked h s d)
reset_asked h s d z = by_read h.reading
  where
    by_read : (c : Bool) → NoticesFit (if c then resets.gives_up h s else door.begins (resets.gives_up h s) s d)
    by_read true = given_up h s z
    by_read false = begun (resets.gives_up h s) s d (given_up h s z)

over : (h : Host) → NoticesFit h → NoticesFit (resets.ends_reset_if_over h).part
over h z = by_test (h.door_ready && resets.has_all_marks h)
  where
    by_test : (c : Bool) → NoticesFit (if c then resets.ends_reset h else record { part = h; entries = [] }).part
    by_test true = shaken (resets.renewed h) stage.Facts ask.Facts (record { first = all_free_first; waiting = z.waiting })
    by_test false = z

late : (h : Host) (s : Stage) → NoticesFit h → NoticesFit (resets.begins_late h s)
late h stage.DiagnosticReset z = begun h stage.DiagnosticReset diagnostic_reset z
late h stage.UnitReset z = begun h stage.UnitReset unit_reset z
late h stage.Idle z = z
late h stage.Start z = z
late h stage.StartReset z = z
late h stage.Facts z = z
late h stage.PortFacts z = z
late h stage.Init z = z
late h stage.Look z = z

starts_by : (h : Host) (n : ℕ) → NoticesFit h → NoticesFit (values.starts_by h n)
starts_by h n z = by_tests (n == IOC_STATE_READY) (n == IOC_STATE_OPERATIONAL) (n == IOC_STATE_FAULT)
  where
    by_tests : (x y v : Bool) → NoticesFit (if x then door.begins_facts h else if y then door.begins h stage.StartReset unit_reset else if v then door.begins h stage.StartReset diagnostic_reset else values.looks_to_start h)
    by_tests true y v = shaken h stage.Facts ask.Facts z
    by_tests false true v = begun h stage.StartReset unit_reset z
    by_tests false false true = begun h stage.StartReset diagnostic_reset z
    by_tests false false false = begun h stage.Start look_at_doorbell z

ready : (h : Host) → NoticesFit h → NoticesFit (resets.hears_ready h).part
ready h z = over (record h { door_ready = true }) (record { first = z.first; waiting = z.waiting })

ended : (h : Host) (s : Stage) (bytes : List ℕ) → (s ≡ stage.Init → IsBlank h) → NoticesFit h → NoticesFit (values.ends_stage h s bytes).part
ended h stage.Idle bytes b z = z
ended h stage.Start bytes b z = starts_by h (values.state_read bytes) z
ended h stage.StartReset bytes b z = shaken h stage.Facts ask.Facts z
ended h stage.Facts bytes b z = shaken h stage.PortFacts ask.PortFacts z
ended h stage.PortFacts bytes b z = shaken h stage.Init (ask.Init (host_queue_count h)) z
ended h stage.Init bytes b z =
    let r = returned h (range_with_len 0 returns.reply_frame_count) in
    asked_first (returns.returns_all h) (r.pool ∙ b refl) (fits h (returns.returns_all h) r z)
ended h stage.Look bytes b z = z
ended h stage.DiagnosticReset bytes b z = ready h z
ended h stage.UnitReset bytes b z = ready h z

after_turn : (h : Host) (s : Stage) (x : DoorStep) → (s ≡ stage.Init → IsBlank h) → NoticesFit h → NoticesFit (values.after_turn h s x).part
after_turn h s (step.Done count bytes) b z = ended h s (take count bytes) b z
after_turn h s (step.Read reg) b z = z
after_turn h s (step.Write reg value) b z = z
after_turn h s (step.Refused p value) b z = z

valued : (h : Host) (o : Option HostDoor) (v : ℕ) → (is_some o ≡ true → h.stage ≡ stage.Init → IsBlank h) → NoticesFit h → NoticesFit (values.hears_value_at h o v).part
valued h None v b z = late h h.stage z
valued h (Some d) v b z =
    let t = turned h (next_turn d (Some v)) in
    after_turn (door.puts_turn h (next_turn d (Some v))) h.stage (next_turn d (Some v)).step (λ i. t.pool ∙ b refl i) (fits h (door.puts_turn h (next_turn d (Some v))) t z)

-- ---- what leaves the outbox, and what is told

sent : (h : Host) (x : Down) (rest : List Down) → NoticesFit h → NoticesFit (after_sent h x rest)
sent h (down.Return address index) rest z = record { first = z.first; waiting = z.waiting }
sent h (down.Write reg value) rest z = record { first = z.first; waiting = z.waiting }
sent h (down.Read reg) rest z = record { first = z.first; waiting = z.waiting }
sent h (down.Post d f p) rest z = record { first = z.first; waiting = z.waiting }
sent h down.Stop rest z = record { first = z.first; waiting = z.waiting }

starts : (h : Host) (m : HostState) → NoticesFit h → NoticesFit (inputs.starts_in h m).part
starts h state.Off z = begun (record h { mode = state.Starting }) stage.Start look_at_doorbell (record { first = z.first; waiting = z.waiting })
starts h state.Starting z = z
starts h state.Up z = z
starts h state.Resetting z = z

diagnostic : (h : Host) (m : HostState) → NoticesFit h → NoticesFit (inputs.diag_resets_in h m).part
diagnostic h state.Off z = z
diagnostic h state.Starting z = reset_asked h stage.DiagnosticReset diagnostic_reset z
diagnostic h state.Up z = reset_asked h stage.DiagnosticReset diagnostic_reset z
diagnostic h state.Resetting z = z

unit : (h : Host) (m : HostState) → NoticesFit h → NoticesFit (inputs.unit_resets_in h m).part
unit h state.Off z = z
unit h state.Starting z = z
unit h state.Up z = reset_asked h stage.UnitReset unit_reset z
unit h state.Resetting z = z

away : (h : Host) (i : Input) → AsksNone i → NoticesFit h → NoticesFit (host_told h i).part
away h i a z = along NoticesFit false move_fits h (host_told h i).part (input_away false h i a) z

told : (h : Host) (i : Input) → NoticesFit h → NoticesFit (host_told h i).part
told h input.Start z = starts h h.mode z
told h input.Reset z = diagnostic h h.mode z
told h input.UnitReset z = unit h h.mode z
told h (input.Submit n address form) z = away h (input.Submit n address form) tt z
told h (input.Abort n) z = away h (input.Abort n) tt z
told h (input.TargetReset address) z = away h (input.TargetReset address) tt z
told h (input.Plug address expander phy) z = z
told h (input.Unplug address) z = z

module _ (w : World) (h : History) (f : Facts w h) (plain : NothingIsStrange w) (stand : NotificationsStand w) where
  here : NoticesFit w.host
  here = record { first = stand.first; waiting = stand.waiting }

  -- IOC Init goes on in a start, which has opened nothing
  blank : is_some w.host.machine ≡ true → w.host.stage ≡ stage.Init → IsBlank w.host
  blank m i = by_machine w.host.machine refl m
    where
      starting : IsInMode w stage.Init → is_starting w.host.mode ≡ true
      starting e = ap is_starting e

      by_stage : (x : DoorStage) → WaitsAt w x → IsInMode w w.host.stage
      by_stage (door_stage.Awaits r) z = z.1
      by_stage _ z = absurd z

      by_machine : (o : Option HostDoor) → w.host.machine ≡ o → is_some o ≡ true → IsBlank w.host
      by_machine None e n = absurd (cc)
      by_machine (Some d) e n =
          let s = starting (subst (IsInMode w) i (by_stage d.stage (f.doorbell.stage.machine d e))) in
          let fresh = f.doorbell.fresh_start.fresh s m in
          none_taken w.host.pool fresh.pool ∙ ap (λ n. replicate n free_slot) f.flights.sizes.pool

  taken : (queue : ℕ) (x : Up) → NoticesFit (hears_up w.host queue x).part
  taken queue (upward.Reply d g page sense) = along NoticesFit false move_fits w.host (hears_up w.host queue (upward.Reply d g page sense)).part (reply_is_strict false w.host queue d g page sense) here
  taken queue upward.Calm = here
  taken queue (upward.Mark generation) = over (record w.host { marks = slice_set w.host.marks queue true }) (record { first = here.first; waiting = here.waiting })
  taken queue (upward.Value v) = valued (record w.host { reading = false }) w.host.machine v blank (record { first = here.first; waiting = here.waiting })

  owed : Owes (λ v. NoticesFit v.host) w
  owed =
      record {
        host_puts = λ x rest e. sent w.host x rest here;
        host_takes = λ queue x rest e y. taken queue x;
        host_told = λ i g. told w.host i here;
        host_looks = λ e. begun w.host stage.Look look_at_doorbell here;
        host_stops = λ e. record { first = here.first; waiting = here.waiting };
        ioc_takes = λ x rest e. here;
        ioc_high = λ p rest e. here;
        ioc_normal = λ p rest e. here;
        ioc_puts_out = λ x rest e. here;
        ioc_takes_back = λ x rest e. here;
        ioc_puts = λ queue y rest z e u. here;
        fabric_takes = λ x rest e. here;
        fabric_says = λ x rest e. here;
        fabric_puts = λ x rest e. here;
        fabric_runs = λ tag address e. here;
        plugs = λ address expander phy. here;
        unplugs = λ address. here;
        calms = here;
      }

  pub notices_kept : (c : Case) → NotificationsStand (happens w c)
  notices_kept c = let z = kept (λ v. NoticesFit v.host) w plain owed here c in record { first = z.first; waiting = z.waiting }

pub notices_first : (s : Setting) → NotificationsStand (first_world s)
notices_first s = record { first = λ i e. free_isnt (sym (all_slots_free s i) ∙ e); waiting = All-nil IsNoNotification }
