-- Each call of the host keeps where the two ends of the doorbell stand.
use Rattle.std.proofs.Common.{◌≡◌, ℕ, ◌%◌, ◌+◌, ◌^◌, ◌≤◌, ◌==◌, ◌&&◌, ◌||◌, ◌⊎◌, inl, inr, not, Bool, true, false, List, [], ◌∷◌, ◌++◌, append_assoc, length, map, get_or, slice_set, Option, Some, None, is_none, is_some, refl, ap, sym, ◌∙◌, subst, arith}
use Rattle.std.specs.List.{filter}
use Rattle.mpi_doorbell.specs.DoorRegisters.{DoorRegisters, is_fault, register_value}
use Rattle.mpi_doorbell.specs.Handshake.{Idle}
use Rattle.mpi_doorbell.specs.HostDoor.{HostDoor, register_of}
use Rattle.mpi_doorbell.specs.HostSteps.{diagnostic_reset, handshake_of_message, look_at_doorbell, unit_reset}
use Rattle.mpi_doorbell.specs.declared.registers.TheConstants.{DOORBELL, HOST_INTERRUPT_STATUS}
use Rattle.mpi_doorbell.specs.declared.stage.Reading.{Reading}
use Rattle.mpi_doorbell.specs.declared.stage.Reading.TheVariants as reading
use Rattle.mpi_doorbell.specs.declared.stage.ResetKind.TheVariants as kind
use Rattle.mpi_doorbell.specs.declared.stage.Stage.{Stage as DoorStage}
use Rattle.mpi_doorbell.specs.declared.stage.Stage.TheVariants as door_stage
use Rattle.mpi_doorbell.specs.declared.state.IocState.{IocState}
use Rattle.mpi_doorbell.specs.declared.state.IocState.TheVariants as ioc_state
use Rattle.mpi_doorbell.specs.declared.step.DoorStep.{DoorStep}
use Rattle.mpi_doorbell.specs.declared.step.DoorStep.TheVariants as step
use Rattle.mpt_messages.specs.declared.host_ask.HostAsk.{HostAsk}
use Rattle.mpt_messages.specs.declared.host_ask.HostAsk.TheVariants as ask
use Rattle.mpt_wire.specs.Messages.DoorbellWords.{asked_bytes}
use Rattle.mpt_wire.specs.Machine.Causes.{is_resetting}
use Rattle.mpt_trace.specs.declared.host_state.HostState.{HostState}
use Rattle.mpt_trace.specs.declared.host_state.HostState.TheVariants as state
use Rattle.mpt_trace.specs.declared.item.Down.{Down}
use Rattle.mpt_trace.specs.declared.item.Down.TheVariants as down
use Rattle.mpt_trace.specs.declared.item.Up.{Up}
use Rattle.mpt_trace.specs.declared.item.Up.TheVariants as upward
use Rattle.mpt_rules.specs.declared.stage.Stage.{Stage}
use Rattle.mpt_rules.specs.declared.stage.Stage.TheVariants as stage
use Rattle.mpt_rules.specs.Host.Doorbell as door
use Rattle.mpt_rules.specs.Host.Doorbell.{DoorTurn, next_turn, unit_reset_dword}
use Rattle.mpt_rules.specs.Host.Parts.{Host, host_queue_count}
use Rattle.mpt_rules.specs.Host.Resets as resets
use Rattle.mpt_rules.specs.Ioc.Parts.{Ioc, ioc_queue_count, state_of}
use Rattle.mpt_rules.specs.Ioc.Tables.{is_operational, is_ready}
use Rattle.mpt_rules.specs.World.Counts.{how_many, is_register_write, one_if}
use Rattle.mpt_rules.specs.World.Lines.{down_line, up_line}
use Rattle.mpt_rules.specs.World.State.{World, queues_of, up_on}
use Rattle.mpt_rules.specs.World.Weight.{is_said_value}
use Rattle.law_facts.specs.Clock.{Clock, in_begun, is_linked_up, is_live}
use Rattle.law_facts.specs.DoorAhead.{IsInMode, ReadsFor, WaitsAt, door_ahead, is_look, is_unit, rests_at_door, value_coming, waits_to_reset, written_ahead}
use Rattle.law_facts.specs.History.{History}
use Rattle.law_facts.specs.Words.{is_doorbell_write, others}
use Rattle.law_moves.proofs.Counted.{all_pass, fewer_pass}
use Rattle.law_moves.proofs.Hears.{IsOver, is_reset_stage}
use Rattle.law_moves.proofs.Phases.{and_false, not_begun, phased_of}
use Rattle.law_clock.specs.Premises.{Before}
use Rattle.law_clock.proofs.PhaseKept.{level_phase}
use Rattle.law_doors.proofs.Ahead.{ahead-append, ahead-nil, core, quiet_ahead}
use Rattle.law_doors.proofs.StageKept.{Begun}
use Rattle.law_doors.proofs.Turning.{Kind}
use Rattle.law_starts.specs.Starts.{StartsStand}
use Rattle.law_starts.proofs.Alike.{filtered_ahead, plain_alike, read_ahead}
use Rattle.law_starts.proofs.HostAtDoor as at
use Rattle.law_starts.proofs.HostAtDoor.{Asked, AtDoor, Beginning, Begins, Diagnostic, Drops, FactsNext, Free, FromOff, GivesUp, HasValue, InitNext, Keeps, Late, Looked, Marked, MessageUnit, Next, NextShake, Opened, PortFactsNext, Readied, Renewed, Turns, asks_with, base_begun, begins_is, contrary, is_plain, spoken_plain, value_comes}
use Rattle.law_starts.proofs.QueuesTurns.{AsksFor, ForFacts, ForInit, ForPortFacts}
use Rattle.law_starts.proofs.Resetting.{TurnAt, over_linked}
use Rattle.law_steps.proofs.ResetTurns.{unit_turn}
use Rattle.law_locks.specs.Locks.{HandshakesStand, HasAnswered, IsUnasked, ShakesAt, ShakesStand, ask_of_stage}
use Rattle.law_locks.proofs.Locked.{LockHolds, LockOn, lock_alike, manned, rests_of, unasking, unmanned}
use Rattle.law_locks.proofs.Rounds.{Goes, GoesOn, IsOverSo, TurnGoes, ahead_up, turn_goes}
use Rattle.law_locks.proofs.Unbelled.{SameBell, at_look, at_over, at_state, at_unit, at_unlocked, bell_of_doorbell, doorless_ahead, is_bell_write, keys_unbelled, look_unbelled, talk_turn, unbelled_ahead, unit_ahead}

-- what a start asks for is one of three messages
pub asks_for : (q : ℕ) (s : Stage) (a : HostAsk) → ask_of_stage q s ≡ Some a → AsksFor q a
asks_for q s a e = by_stage s e
  where
    is : (c : HostAsk) → AsksFor q c → Some c ≡ Some a → AsksFor q a
    is c g f = let h : c ≡ a = cc in subst (AsksFor q) h g

    by_stage : (s : Stage) → ask_of_stage q s ≡ Some a → AsksFor q a
    by_stage stage.Facts e = is ask.Facts ForFacts e
    by_stage stage.PortFacts e = is ask.PortFacts ForPortFacts e
    by_stage stage.Init e = is (ask.Init q) ForInit e
    by_stage stage.Idle e = absurd (cc)
    by_stage stage.Start e = absurd (cc)
    by_stage stage.StartReset e = absurd (cc)
    by_stage stage.Look e = absurd (cc)
    by_stage stage.DiagnosticReset e = absurd (cc)
    by_stage stage.UnitReset e = absurd (cc)

-- it is asked while starting
pub asked_starting : (w : World) (q : ℕ) (s : Stage) (a : HostAsk) → ask_of_stage q s ≡ Some a → IsInMode w s → w.host.mode ≡ state.Starting
asked_starting w q stage.Facts a e i = i
asked_starting w q stage.PortFacts a e i = i
asked_starting w q stage.Init a e i = i
asked_starting w q stage.Idle a e i = absurd i
asked_starting w q stage.Start a e i = i
asked_starting w q stage.StartReset a e i = absurd i
asked_starting w q stage.Look a e i = absurd (cc)
asked_starting w q stage.DiagnosticReset a e i = absurd (cc)
asked_starting w q stage.UnitReset a e i = absurd (cc)

-- and no door rests meanwhile
asked_unrested : (q : ℕ) (d : HostDoor) (mode : HostState) (s : Stage) (a : HostAsk) (reading : Bool) (asked generation : ℕ) → ask_of_stage q s ≡ Some a → is_resetting mode ≡ false → rests_of (Some d) mode s reading asked generation ≡ false
asked_unrested q d mode s a reading asked generation e m = by_stage s e
  where
    by_stage : (s : Stage) → ask_of_stage q s ≡ Some a → rests_of (Some d) mode s reading asked generation ≡ false
    by_stage stage.Facts e = ap (λ c. (c && (asked == generation)) || false) m
    by_stage stage.PortFacts e = ap (λ c. (c && (asked == generation)) || false) m
    by_stage stage.Init e = ap (λ c. (c && (asked == generation)) || false) m
    by_stage stage.Idle e = absurd (cc)
    by_stage stage.Start e = absurd (cc)
    by_stage stage.StartReset e = absurd (cc)
    by_stage stage.Look e = absurd (cc)
    by_stage stage.DiagnosticReset e = absurd (cc)
    by_stage stage.UnitReset e = absurd (cc)

-- a door without a handshake, and without an interrupt
pub record IsIdleDoor (r : DoorRegisters) : Type 0 where
  pub handshake : r.handshake ≡ Idle
  pub status : r.ioc2sys ≡ false

-- a handshake that was over
pub record IsEndedSo (a : HostAsk) (r : DoorRegisters) : Type 0 where
  pub idle : IsIdleDoor r
  pub answered : HasAnswered a r

or_last : (a c d f : Bool) → f ≡ true → (a || (c || (d || f))) ≡ true
or_last true c d f e = refl
or_last false true d f e = refl
or_last false false true f e = refl
or_last false false false f e = e

or_third : (a c d f : Bool) → d ≡ true → (a || (c || (d || f))) ≡ true
or_third true c d f e = refl
or_third false true d f e = refl
or_third false false true f e = refl
or_third false false false f e = absurd (cc)

or_second : (a c d f : Bool) → c ≡ true → (a || (c || (d || f))) ≡ true
or_second true c d f e = refl
or_second false true d f e = refl
or_second false false d f e = absurd (cc)

or_first : (a c d f : Bool) → a ≡ true → (a || (c || (d || f))) ≡ true
or_first true c d f e = refl
or_first false c d f e = absurd (cc)

module _ (w : World) (h : History) (b : Before w h) (s : StartsStand w) (l : HandshakesStand w) where
  k : Clock w h
  k = b.facts.clock

  abbrev Q : ℕ
  Q = queues_of w

  abbrev A : Ioc
  A = written_ahead w.ioc (down_line w)

  pub counted : host_queue_count w.host ≡ queues_of w
  counted = sym b.facts.flights.sizes.lanes

  pub few : queues_of w ≤ 8
  few = subst (λ n. n ≤ 8) counted b.facts.flights.sizes.few_queues

  pub some : 1 ≤ queues_of w
  some = subst (λ n. 1 ≤ n) counted b.facts.flights.sizes.some_queue

  -- the controller ahead has all reply queues
  all_queues : ioc_queue_count (written_ahead w.ioc (down_line w)) ≡ queues_of w
  all_queues = ap length (ahead_up w.ioc (down_line w)) ∙ (b.facts.flights.sizes.outboxes ∙ counted)

  pub here : LockOn (queues_of w) w.host w.ioc (down_line w) (value_coming w)
  here = record { shakes = l; handshake = b.facts.doorbell.rests.handshake; status = b.facts.doorbell.rests.status }

  -- ---- where the door rests

  abbrev Rests : Type 0
  Rests = IsIdleDoor (written_ahead w.ioc (down_line w)).door

  pub rest : rests_at_door w ≡ true → Rests
  rest e = record { handshake = here.handshake e; status = here.status e }

  pub unread_machine : w.host.reading ≡ false → w.host.machine ≡ None
  unread_machine r = by_machine w.host.machine refl
    where
      by_machine : (o : Option HostDoor) → w.host.machine ≡ o → o ≡ None
      by_machine None e = refl
      by_machine (Some d) e = contrary w.host.reading r (k.one_read.awaited (ap is_some e))

  -- without a machine, but for a reset that waits
  pub rest_unmanned : w.host.machine ≡ None → waits_to_reset w ≡ false → rests_at_door w ≡ true
  rest_unmanned n u =
      or_first (is_none w.host.machine && not (waits_to_reset w)) (is_look w.host.stage) (in_begun w) (is_unit w.host.stage)
      (ap (λ (o : Option HostDoor). is_none o && not (waits_to_reset w)) n ∙ ap not u)

  pub no_waits : is_resetting w.host.mode ≡ false → waits_to_reset w ≡ false
  no_waits m = ap (λ c. (c && not (w.host.asked == w.ioc.generation)) && (w.host.reading && is_none w.host.machine)) m

  pub rest_look : is_look w.host.stage ≡ true → rests_at_door w ≡ true
  rest_look e = or_second (is_none w.host.machine && not (waits_to_reset w)) (is_look w.host.stage) (in_begun w) (is_unit w.host.stage) e

  pub rest_begun : in_begun w ≡ true → rests_at_door w ≡ true
  rest_begun e = or_third (is_none w.host.machine && not (waits_to_reset w)) (is_look w.host.stage) (in_begun w) (is_unit w.host.stage) e

  pub rest_unit : is_unit w.host.stage ≡ true → rests_at_door w ≡ true
  rest_unit e = or_last (is_none w.host.machine && not (waits_to_reset w)) (is_look w.host.stage) (in_begun w) (is_unit w.host.stage) e

  -- a host that is up has no handshake
  pub rest_up : w.host.mode ≡ state.Up → rests_at_door w ≡ true
  rest_up m = by_machine w.host.machine refl
    where
      by_stage : (z : Stage) → w.host.stage ≡ z → IsInMode w z → is_look z ≡ true
      by_stage stage.Look e i = refl
      by_stage stage.Start e i = refl
      by_stage stage.Idle e i = absurd i
      by_stage stage.StartReset e i = absurd i
      by_stage stage.Facts e i = absurd (never (sym m ∙ i))
        where
          never : state.Up ≡ state.Starting → ⊥
          never e = cc
      by_stage stage.PortFacts e i = absurd (never (sym m ∙ i))
        where
          never : state.Up ≡ state.Starting → ⊥
          never e = cc
      by_stage stage.Init e i = absurd (never (sym m ∙ i))
        where
          never : state.Up ≡ state.Starting → ⊥
          never e = cc
      by_stage stage.DiagnosticReset e i = absurd (never (sym m ∙ i))
        where
          never : state.Up ≡ state.Resetting → ⊥
          never e = cc
      by_stage stage.UnitReset e i = absurd (never (sym m ∙ i))
        where
          never : state.Up ≡ state.Resetting → ⊥
          never e = cc

      by_wait : (d : HostDoor) (z : DoorStage) → d.stage ≡ z → WaitsAt w z → rests_at_door w ≡ true
      by_wait d (door_stage.Awaits x) e q = rest_look (by_stage w.host.stage refl q.1)
      by_wait d (door_stage.Reads x) e q = absurd q
      by_wait d door_stage.Opens e q = absurd q
      by_wait d (door_stage.WritesKey place) e q = absurd q
      by_wait d door_stage.Locks e q = absurd q
      by_wait d door_stage.ResetsUnit e q = absurd q
      by_wait d door_stage.Finishes e q = absurd q
      by_wait d door_stage.Ended e q = absurd q

      by_machine : (o : Option HostDoor) → w.host.machine ≡ o → rests_at_door w ≡ true
      by_machine None e = rest_unmanned e (no_waits (ap is_resetting m))
      by_machine (Some d) e = by_wait d d.stage refl (b.facts.doorbell.stage.machine d e)

  -- ---- what goes behind the line

  behind : (xs : List Down) → written_ahead w.ioc (w.down ++ (w.host.out ++ xs)) ≡ written_ahead A xs
  behind xs = ap (written_ahead w.ioc) (sym (append_assoc w.down w.host.out xs)) ∙ ahead-append w.ioc (down_line w) xs

  given_up : written_ahead w.ioc (w.down ++ filter resets.is_no_post w.host.out) ≡ A
  given_up = ahead-append w.ioc w.down (filter resets.is_no_post w.host.out) ∙ (filtered_ahead (written_ahead w.ioc w.down) w.host.out ∙ sym (ahead-append w.ioc w.down w.host.out))

  -- writes, and a read behind them
  read_on : (out ws : List Down) (reg : ℕ) → written_ahead w.ioc (w.down ++ ((out ++ ws) ++ down.Read reg ∷ [])) ≡ written_ahead (written_ahead w.ioc (w.down ++ out)) ws
  read_on out ws reg =
      let a : w.down ++ ((out ++ ws) ++ down.Read reg ∷ []) ≡ ((w.down ++ out) ++ ws) ++ down.Read reg ∷ [] = sym (append_assoc w.down (out ++ ws) (down.Read reg ∷ [])) ∙ ap (λ xs. xs ++ down.Read reg ∷ []) (sym (append_assoc w.down out ws)) in
      ap (written_ahead w.ioc) a ∙ (ahead-append w.ioc ((w.down ++ out) ++ ws) (down.Read reg ∷ []) ∙ (read_ahead (written_ahead w.ioc ((w.down ++ out) ++ ws)) reg ∙ ahead-append w.ioc (w.down ++ out) ws))

  pub level : is_resetting w.host.mode ≡ false → ((w.host.asked + 1) % 2 ^ 32 == w.ioc.generation) ≡ false
  level m =
      let p = phased_of w k.phase_table in
      let lev = level_phase w.host.mode w.host.asked w.ioc.generation (state_of w.ioc) p m in
      not_begun w.host.mode ((w.host.asked + 1) % 2 ^ 32) w.ioc.generation p.generation_fits (ap (λ i. (i + 1) % 2 ^ 32) lev.0)

  -- ---- a turn

  module _ (d : HostDoor) (y : Reading) (v : ℕ) (hv : HasValue w d y v) where
    abbrev T : DoorTurn
    T = next_turn d (Some v)

    -- of a handshake
    pub talks : (a : HostAsk) → ask_of_stage (queues_of w) w.host.stage ≡ Some a → TurnGoes (queues_of w) a A (next_turn d (Some v))
    talks a e =
        let m : w.host.mode ≡ state.Starting = asked_starting w (queues_of w) w.host.stage a e hv.in_mode in
        let val : v ≡ register_value (door_ahead w) (register_of y) = l.value d y v hv.machine_is (ap is_resetting m) hv.at (value_comes w d y v hv) in
        subst (TurnGoes (queues_of w) a A) (sym (ap (TurnAt d v) hv.at)) (turn_goes (queues_of w) few some a (asks_for (queues_of w) w.host.stage a e) A all_queues d v y val (l.stands d a y hv.machine_is e hv.at))

    quiet_at : (z : Reading) → y ≡ z → how_many is_bell_write (TurnAt d v (door_stage.Awaits z)).writes ≡ 0 → how_many is_bell_write (next_turn d (Some v)).writes ≡ 0
    quiet_at z e n = subst (λ q. how_many is_bell_write (TurnAt d v q).writes ≡ 0) (sym (hv.at ∙ ap door_stage.Awaits e)) n

    -- any other turn leaves what the door has of a handshake
    pub quiet : (z : Stage) → ask_of_stage (queues_of w) z ≡ None → ReadsFor z y → how_many is_bell_write (next_turn d (Some v)).writes ≡ 0
    quiet stage.DiagnosticReset n (inl r) = quiet_at reading.Unlocked r (at_unlocked d v)
    quiet stage.DiagnosticReset n (inr (inl r)) = quiet_at reading.ResetOver r (at_over d v)
    quiet stage.DiagnosticReset n (inr (inr r)) = quiet_at (reading.State kind.Diagnostic) r (at_state d v kind.Diagnostic)
    quiet stage.UnitReset n (inl r) = quiet_at reading.UnitReset r (at_unit d v)
    quiet stage.UnitReset n (inr r) = quiet_at (reading.State kind.MessageUnit) r (at_state d v kind.MessageUnit)
    quiet stage.Start n r = quiet_at reading.Doorbell r (at_look d v)
    quiet stage.Look n r = quiet_at reading.Doorbell r (at_look d v)
    quiet stage.Idle n r = absurd r
    quiet stage.StartReset n r = absurd r
    quiet stage.Facts n r = absurd (cc)
    quiet stage.PortFacts n r = absurd (cc)
    quiet stage.Init n r = absurd (cc)

    pub reset_unasked : (z : Stage) → is_reset_stage z ≡ true → ask_of_stage (queues_of w) z ≡ None
    reset_unasked stage.DiagnosticReset e = refl
    reset_unasked stage.UnitReset e = refl
    reset_unasked stage.Idle e = refl
    reset_unasked stage.Start e = refl
    reset_unasked stage.StartReset e = refl
    reset_unasked stage.Look e = refl
    reset_unasked stage.Facts e = absurd (cc)
    reset_unasked stage.PortFacts e = absurd (cc)
    reset_unasked stage.Init e = absurd (cc)

    -- where the door rests, it does so behind such a turn
    pub stays_idle : ask_of_stage (queues_of w) w.host.stage ≡ None → rests_at_door w ≡ true → IsIdleDoor (written_ahead A (next_turn d (Some v)).writes).door
    stays_idle n r =
        let u = unbelled_ahead A (next_turn d (Some v)).writes (quiet w.host.stage n hv.reads_for) in let p = rest r in
        record { handshake = u.handshake ∙ p.handshake; status = u.status ∙ p.status }

    -- a handshake that is over
    pub over_so : (a : HostAsk) → ask_of_stage (queues_of w) w.host.stage ≡ Some a → IsOver (next_turn d (Some v)).step → IsEndedSo a (written_ahead A (next_turn d (Some v)).writes).door
    over_so a e o = by_step (next_turn d (Some v)).step (talks a e) o
      where
        by_step : (t : DoorStep) → Goes (queues_of w) a (next_turn d (Some v)).door (written_ahead A (next_turn d (Some v)).writes).door t → IsOver t → IsEndedSo a (written_ahead A (next_turn d (Some v)).writes).door
        by_step (step.Done count bytes) g o = record { idle = record { handshake = g.handshake; status = g.status }; answered = g.answered }
        by_step (step.Read reg) g o = absurd o
        by_step (step.Write reg value) g o = absurd g
        by_step (step.Refused p value) g o = absurd g

  -- ---- the host

  module _ (coming : Option ℕ) where
    abbrev OnHost : Host → Type 0
    OnHost x = LockOn (queues_of w) x w.ioc (w.down ++ x.out) coming

    -- without a machine, over a door that is idle
    resting : (x : Host) → x.machine ≡ None → IsIdleDoor (written_ahead w.ioc (w.down ++ x.out)).door → OnHost x
    resting x n p = record { shakes = unmanned (queues_of w) x.machine x.mode x.stage (written_ahead w.ioc (w.down ++ x.out)).door coming n; handshake = λ c. p.handshake; status = λ c. p.status }

    idle_as : (i j : Ioc) → i ≡ j → IsIdleDoor j.door → IsIdleDoor i.door
    idle_as i j e p = record { handshake = ap (λ (y : Ioc). y.door.handshake) e ∙ p.handshake; status = ap (λ (y : Ioc). y.door.ioc2sys) e ∙ p.status }

    pub idle_alike : (r t : DoorRegisters) → core r ≡ core t → IsIdleDoor t → IsIdleDoor r
    idle_alike r t e p = record { handshake = ap (λ (c : DoorRegisters). c.handshake) e ∙ p.handshake; status = ap (λ (c : DoorRegisters). c.ioc2sys) e ∙ p.status }

    -- ---- a machine begins

    module _ (none : coming ≡ None) where
      -- with a read alone, but for writes that leave what the door has of a handshake
      begun_quiet : (x base : Host) (z : Stage) (d : HostDoor) (kd : Kind) → Begun d kd → x ≡ door.begins base z d → ask_of_stage (queues_of w) z ≡ None → how_many is_bell_write (next_turn d None).writes ≡ 0 → written_ahead w.ioc (w.down ++ base.out) ≡ A
          → (rests_of (Some (next_turn d None).door) base.mode z true base.asked w.ioc.generation ≡ true → rests_at_door w ≡ true) → OnHost x
      begun_quiet x base z d kd g f n u e r =
          subst OnHost (sym (f ∙ begins_is base z d kd g))
          (record {
            shakes = unasking (queues_of w) (Some (next_turn d None).door) base.mode z (written_ahead w.ioc (w.down ++ ((base.out ++ (next_turn d None).writes) ++ down.Read g.reg ∷ []))).door coming n none;
            handshake = λ c. (idle c).handshake;
            status = λ c. (idle c).status;
          })
        where
          line : written_ahead w.ioc (w.down ++ ((base.out ++ (next_turn d None).writes) ++ down.Read g.reg ∷ [])) ≡ written_ahead A (next_turn d None).writes
          line = read_on base.out (next_turn d None).writes g.reg ∙ ap (λ i. written_ahead i (next_turn d None).writes) e

          idle : rests_of (Some (next_turn d None).door) base.mode z true base.asked w.ioc.generation ≡ true → IsIdleDoor (written_ahead w.ioc (w.down ++ ((base.out ++ (next_turn d None).writes) ++ down.Read g.reg ∷ []))).door
          idle c = let p = rest (r c) in let a = unbelled_ahead A (next_turn d None).writes u in idle_as _ _ line (record { handshake = a.handshake ∙ p.handshake; status = a.status ∙ p.status })

      -- the message unit's reset, to an idle door
      begun_unit : (x base : Host) → x ≡ door.begins base stage.UnitReset unit_reset → written_ahead w.ioc (w.down ++ base.out) ≡ A → rests_at_door w ≡ true → OnHost x
      begun_unit x base f e r =
          subst OnHost (sym (f ∙ ap (door.puts_turn (record base { stage = stage.UnitReset })) unit_turn))
          (record {
            shakes = unasking (queues_of w) (Some (record unit_reset { stage = door_stage.Awaits reading.UnitReset })) base.mode stage.UnitReset (written_ahead w.ioc (w.down ++ ((base.out ++ down.Write DOORBELL unit_reset_dword ∷ []) ++ down.Read HOST_INTERRUPT_STATUS ∷ []))).door coming refl none;
            handshake = λ c. idle.handshake;
            status = λ c. idle.status;
          })
        where
          line : written_ahead w.ioc (w.down ++ ((base.out ++ down.Write DOORBELL unit_reset_dword ∷ []) ++ down.Read HOST_INTERRUPT_STATUS ∷ [])) ≡ A
          line =
              read_on base.out (down.Write DOORBELL unit_reset_dword ∷ []) HOST_INTERRUPT_STATUS
              ∙ (ap (λ i. written_ahead i (down.Write DOORBELL unit_reset_dword ∷ [])) e ∙ unit_ahead A (rest r).handshake b.facts.doorbell.sound.whole)

          idle : IsIdleDoor (written_ahead w.ioc (w.down ++ ((base.out ++ down.Write DOORBELL unit_reset_dword ∷ []) ++ down.Read HOST_INTERRUPT_STATUS ∷ []))).door
          idle = let p = rest r in idle_as _ _ line (record { handshake = p.handshake; status = p.status })

      -- a handshake, with a controller that waits for it
      begun_talk : (x base : Host) (z : Stage) (a : HostAsk) → x ≡ door.begins base z (asks_with a) → ask_of_stage (queues_of w) z ≡ Some a → is_resetting base.mode ≡ false → (i : Ioc) → written_ahead w.ioc (w.down ++ base.out) ≡ i → IsIdleDoor i.door → IsUnasked i.door → OnHost x
      begun_talk x base z a f e m i g p u =
          subst OnHost (sym (f ∙ ap (door.puts_turn (record base { stage = z })) (talk_turn (asked_bytes a))))
          (record {
            shakes = manned (queues_of w) door_at base.mode z ahead.door coming a reading.Used e refl (record { unsent = refl; reply = refl; handshake = ap (λ (y : Ioc). y.door.handshake) line ∙ p.handshake; status = ap (λ (y : Ioc). y.door.ioc2sys) line ∙ p.status; unasked = record { state = ap (λ (y : Ioc). state_of y) line ∙ u.state; who_init = ap (λ (y : Ioc). y.door.who_init) line ∙ u.who_init } }) none;
            handshake = λ c. contrary _ unrested c;
            status = λ c. contrary _ unrested c;
          })
        where
          door_at : HostDoor
          door_at = record { stage = door_stage.Awaits reading.Used; unsent = asked_bytes a; reply = [] }

          ahead : Ioc
          ahead = written_ahead w.ioc (w.down ++ ((base.out ++ []) ++ down.Read DOORBELL ∷ []))

          line : written_ahead w.ioc (w.down ++ ((base.out ++ []) ++ down.Read DOORBELL ∷ [])) ≡ i
          line = read_on base.out [] DOORBELL ∙ (ahead-nil (written_ahead w.ioc (w.down ++ base.out)) ∙ g)

          unrested : rests_of (Some (record { stage = door_stage.Awaits reading.Used; unsent = asked_bytes a; reply = [] })) base.mode z true base.asked w.ioc.generation ≡ false
          unrested = asked_unrested (queues_of w) (record { stage = door_stage.Awaits reading.Used; unsent = asked_bytes a; reply = [] }) base.mode z a true base.asked w.ioc.generation e m

  -- a controller that was linked waits for IOC Init
  linked_unasked : is_linked_up w ≡ true → IsUnasked (written_ahead w.ioc (down_line w)).door
  linked_unasked lk =
      let g = (and_false (in_begun w) (is_ready (state_of w.ioc)) lk).0 in
      let r = ready_state (state_of w.ioc) (and_false (in_begun w) (is_ready (state_of w.ioc)) lk).1 in
      let d = doorless_ahead w.ioc (down_line w) s.nothing_holds.waits (k.one_reset_write.since g) in
      record { state = d.state ∙ r; who_init = d.who_init ∙ s.knows_no_host (ap is_operational r) }
    where
      ready_state : (c : IocState) → is_ready c ≡ true → c ≡ ioc_state.Ready
      ready_state ioc_state.Ready e = refl
      ready_state ioc_state.Reset e = absurd (cc)
      ready_state ioc_state.Operational e = absurd (cc)
      ready_state (ioc_state.Fault code) e = absurd (cc)

  -- and so does one at which a start looks
  look_unasked : w.host.stage ≡ stage.Start → IsUnasked (written_ahead w.ioc (down_line w)).door
  look_unasked e =
      let r = b.facts.doorbell.rests.look e in let q = quiet_ahead w.ioc (down_line w) (s.nothing_is_written.look e) in
      record { state = ap (λ (c : DoorRegisters). c.state) q ∙ r; who_init = ap (λ (c : DoorRegisters). c.who_init) q ∙ s.knows_no_host (ap is_operational r) }

  -- writes of another register leave it so
  unasked_behind : (ws : List Down) → how_many is_bell_write ws ≡ 0 → IsUnasked (written_ahead w.ioc (down_line w)).door → IsUnasked (written_ahead A ws).door
  unasked_behind ws z u =
      let f = fewer_pass is_doorbell_write is_bell_write bell_of_doorbell ws in
      let d = doorless_ahead A ws (Rattle.law_starts.proofs.Unheld.unheld_ahead w.ioc (down_line w) s.nothing_holds.writes (record { hold = s.nothing_holds.hold; waits = s.nothing_holds.waits })).waits (omega (arith, f, z)) in
      record { state = d.state ∙ u.state; who_init = d.who_init ∙ u.who_init }

  pub off_unmanned : w.host.mode ≡ state.Off → w.host.machine ≡ None
  off_unmanned m = unread_machine (off_reading w.host.reading refl)
    where
      off_reading : (c : Bool) → w.host.reading ≡ c → c ≡ false
      off_reading true r = absurd (Rattle.law_clock.proofs.StillKept.not_reading w h b (ap Rattle.law_facts.specs.Words.is_off m) r)
      off_reading false r = refl

  module _ (x : Host) (coming : Option ℕ) (none : coming ≡ None) where
    abbrev Goal : Type 0
    Goal = LockOn (queues_of w) x w.ioc (w.down ++ x.out) coming

    next : (d : HostDoor) (y : Reading) (v : ℕ) (hv : HasValue w d y v) → IsOver (next_turn d (Some v)).step → (p z : Stage) (a : HostAsk) → w.host.stage ≡ p → NextShake w p z a → IsInMode w p → x ≡ door.begins (at.over w d v) z (asks_with a) → Goal
    next d y v hv o _ _ _ e FactsNext i f =
        begun_talk coming none x (at.over w d v) stage.Facts ask.Facts f refl (ap is_resetting i) (written_ahead A (next_turn d (Some v)).writes) (behind (next_turn d (Some v)).writes) (stays_idle d y v hv (ap (ask_of_stage (queues_of w)) e) (rest_look (ap is_look e)))
        (unasked_behind (next_turn d (Some v)).writes (quiet d y v hv w.host.stage (ap (ask_of_stage (queues_of w)) e) hv.reads_for) (look_unasked e))
    next d y v hv o _ _ _ e PortFactsNext i f =
        let g = over_so d y v hv ask.Facts (ap (ask_of_stage (queues_of w)) e) o in
        begun_talk coming none x (at.over w d v) stage.PortFacts ask.PortFacts f refl (ap is_resetting i) (written_ahead A (next_turn d (Some v)).writes) (behind (next_turn d (Some v)).writes) g.idle (record { state = g.answered.state; who_init = g.answered.who_init })
    next d y v hv o _ _ _ e InitNext i f =
        let g = over_so d y v hv ask.PortFacts (ap (ask_of_stage (queues_of w)) e) o in
        begun_talk coming none x (at.over w d v) stage.Init (ask.Init (host_queue_count w.host)) f (ap (λ n. let c : Option HostAsk = Some (ask.Init n) in c) (sym counted)) (ap is_resetting i) (written_ahead A (next_turn d (Some v)).writes) (behind (next_turn d (Some v)).writes) g.idle
        (record { state = g.answered.state; who_init = g.answered.who_init })

    pub begun : (base : Host) (z : Stage) (d : HostDoor) (t : Bool) → Beginning w base z d t → x ≡ door.begins base z d → Goal
    begun _ _ _ _ (FromOff m) f =
        let q : Beginning w (record w.host { mode = state.Starting }) stage.Start look_at_doorbell false = FromOff m in let g = base_begun q in
        begun_quiet coming none x (record w.host { mode = state.Starting }) stage.Start look_at_doorbell g.0 g.1 f refl look_unbelled refl (λ c. rest_unmanned (off_unmanned m) (no_waits (ap is_resetting m)))
    begun _ _ _ _ (Free m r) f =
        let q : Beginning w w.host stage.Look look_at_doorbell false = Free m r in let g = base_begun q in
        begun_quiet coming none x w.host stage.Look look_at_doorbell g.0 g.1 f refl look_unbelled refl (λ c. rest_unmanned (unread_machine r) (no_waits (ap is_resetting m)))
    begun _ _ _ _ (Asked z d Diagnostic m r) f =
        let q : Beginning w (resets.gives_up w.host stage.DiagnosticReset) stage.DiagnosticReset diagnostic_reset false = Asked stage.DiagnosticReset diagnostic_reset Diagnostic m r in let g = base_begun q in
        begun_quiet coming none x (resets.gives_up w.host stage.DiagnosticReset) stage.DiagnosticReset diagnostic_reset g.0 g.1 f refl keys_unbelled given_up (λ c. rest_unmanned (unread_machine r) (no_waits m))
    begun _ _ _ _ (Asked z d MessageUnit m r) f = begun_unit coming none x (resets.gives_up w.host stage.UnitReset) f given_up (rest_unmanned (unread_machine r) (no_waits m))
    begun _ _ _ _ (Late z d Diagnostic e n a v items u r) f =
        let q : Beginning w (record w.host { reading = false }) stage.DiagnosticReset diagnostic_reset true = Late stage.DiagnosticReset diagnostic_reset Diagnostic e n a v items u r in let g = base_begun q in
        begun_quiet coming none x (record w.host { reading = false }) stage.DiagnosticReset diagnostic_reset g.0 g.1 f refl keys_unbelled refl (λ c. rest_begun (first (in_begun w) c))
      where
        first : (c : Bool) → (c || false) ≡ true → c ≡ true
        first true e = refl
        first false e = absurd (cc)
    begun _ _ _ _ (Late z d MessageUnit e n a v items u r) f = begun_unit coming none x (record w.host { reading = false }) f refl (rest_unit (ap is_unit e))
    begun _ _ _ _ (Marked queue m r) f =
        let lk = (k.value_is_last.ready r).linked in
        begun_talk coming none x (resets.renewed (record w.host { marks = slice_set w.host.marks queue true })) stage.Facts ask.Facts f refl refl A refl (rest (rest_begun (and_false (in_begun w) (is_ready (state_of w.ioc)) lk).0)) (linked_unasked lk)
    begun _ _ _ _ (Renewed d y v hv o r) f =
        let lk = over_linked w h b d y v hv o r in
        let n = reset_unasked d y v hv w.host.stage r in
        begun_talk coming none x (resets.renewed (record (at.over w d v) { door_ready = true })) stage.Facts ask.Facts f refl refl (written_ahead A (next_turn d (Some v)).writes) (behind (next_turn d (Some v)).writes)
        (stays_idle d y v hv n (rest_begun (and_false (in_begun w) (is_ready (state_of w.ioc)) lk).0)) (unasked_behind (next_turn d (Some v)).writes (quiet d y v hv w.host.stage n hv.reads_for) (linked_unasked lk))
    begun _ _ _ _ (Next d y v hv o z a q) f = next d y v hv o w.host.stage z a refl q hv.in_mode f

    -- ---- a machine goes on

    pub turned : (d : HostDoor) (y : Reading) (v : ℕ) → HasValue w d y v → (reg : ℕ) → (next_turn d (Some v)).step ≡ step.Read reg → x ≡ door.puts_turn (record w.host { reading = false }) (next_turn d (Some v)) → Goal
    turned d y v hv reg t f =
        subst (λ (z : Host). LockOn (queues_of w) z w.ioc (w.down ++ z.out) coming) (sym (f ∙ ap (door.puts_step (door.puts_writes (record w.host { reading = false }) (next_turn d (Some v)).writes) (next_turn d (Some v)).door) t))
        (by_ask (ask_of_stage (queues_of w) w.host.stage) refl)
      where
        i : Ioc
        i = written_ahead w.ioc (w.down ++ ((w.host.out ++ (next_turn d (Some v)).writes) ++ down.Read reg ∷ []))

        line : written_ahead w.ioc (w.down ++ ((w.host.out ++ (next_turn d (Some v)).writes) ++ down.Read reg ∷ [])) ≡ written_ahead A (next_turn d (Some v)).writes
        line = read_on w.host.out (next_turn d (Some v)).writes reg

        by_ask : (o : Option HostAsk) → ask_of_stage (queues_of w) w.host.stage ≡ o
            → LockHolds (queues_of w) (Some (next_turn d (Some v)).door) w.host.mode w.host.stage (rests_of (Some (next_turn d (Some v)).door) w.host.mode w.host.stage true w.host.asked w.ioc.generation)
            (written_ahead w.ioc (w.down ++ ((w.host.out ++ (next_turn d (Some v)).writes) ++ down.Read reg ∷ []))).door coming
        by_ask (Some a) e =
            let g : GoesOn (queues_of w) a (next_turn d (Some v)).door (written_ahead A (next_turn d (Some v)).writes).door reg =
            subst (Goes (queues_of w) a (next_turn d (Some v)).door (written_ahead A (next_turn d (Some v)).writes).door) t (talks d y v hv a e) in
            let u = asked_unrested (queues_of w) (next_turn d (Some v)).door w.host.mode w.host.stage a true w.host.asked w.ioc.generation e (ap is_resetting (asked_starting w (queues_of w) w.host.stage a e hv.in_mode)) in
            record {
              shakes = manned (queues_of w) (next_turn d (Some v)).door w.host.mode w.host.stage i.door coming a g.x e g.at (subst (λ (j : Ioc). ShakesAt (queues_of w) a (next_turn d (Some v)).door j.door g.x) (sym line) g.shakes) none;
              handshake = λ c. contrary _ u c;
              status = λ c. contrary _ u c;
            }
        by_ask None e =
            record {
              shakes = unasking (queues_of w) (Some (next_turn d (Some v)).door) w.host.mode w.host.stage i.door coming e none;
              handshake = λ c. ap (λ (j : Ioc). j.door.handshake) line ∙ (stays_idle d y v hv e (or_tail c)).handshake;
              status = λ c. ap (λ (j : Ioc). j.door.ioc2sys) line ∙ (stays_idle d y v hv e (or_tail c)).status;
            }
          where
            or_tail : (is_look w.host.stage || (in_begun w || is_unit w.host.stage)) ≡ true → rests_at_door w ≡ true
            or_tail c = tail (is_none w.host.machine && not (waits_to_reset w)) (is_look w.host.stage || (in_begun w || is_unit w.host.stage)) c
              where
                tail : (a c : Bool) → c ≡ true → (a || c) ≡ true
                tail true c e = refl
                tail false c e = e

  -- ---- all calls

  pub host : (x : Host) (t : Bool) (coming : Option ℕ) → AtDoor w x t → (t ≡ false → x.stage ≡ stage.UnitReset → is_resetting w.host.mode ≡ false → w.host.mode ≡ state.Up) → (t ≡ false → coming ≡ value_coming w)
      → (how_many is_said_value (up_line w 0) ≡ one_if t → coming ≡ None) → LockOn (queues_of w) x w.ioc (w.down ++ x.out) coming
  host x t coming (Keeps q) up same none = by_mode q.mode_is
    where
      alike : core (written_ahead w.ioc (w.down ++ x.out)).door ≡ core (written_ahead w.ioc (down_line w)).door
      alike = ap (λ o. core (written_ahead w.ioc (w.down ++ o)).door) q.grows.is ∙ (ap (λ (i : Ioc). core i.door) (behind q.grows.added) ∙ (plain_alike A q.grows.added q.grows.mild).door)

      by_mode : (x.mode ≡ w.host.mode) ⊎ ((is_resetting w.host.mode ≡ false) × (w.host.machine ≡ None) × (x.mode ≡ state.Up)) → LockOn (queues_of w) x w.ioc (w.down ++ x.out) coming
      by_mode (inl m) =
          let a = q.machine_is in let z = q.stage_is in let r = q.reading_is in let n = q.asked_is in let c = same refl in
          lock_alike (queues_of w) x.machine x.mode x.stage (rests_of x.machine x.mode x.stage x.reading x.asked w.ioc.generation) (written_ahead w.ioc (down_line w)).door (written_ahead w.ioc (w.down ++ x.out)).door coming (sym alike) (rw (m, a, z, r, n, c) here)
      by_mode (inr m) = resting coming x (q.machine_is ∙ m.1) (idle_alike coming (written_ahead w.ioc (w.down ++ x.out)).door (written_ahead w.ioc (down_line w)).door alike (let p = rest (rest_unmanned m.1 (no_waits m.0)) in record { handshake = p.handshake; status = p.status }))
  host x t coming (GivesUp z rs m r f) up same none =
      subst (λ (y : Host). LockOn (queues_of w) y w.ioc (w.down ++ y.out) coming) (sym f)
      (record {
        shakes = unmanned (queues_of w) None state.Resetting z (written_ahead w.ioc (w.down ++ filter resets.is_no_post w.host.out)).door coming refl;
        handshake = λ c. ap (λ (j : Ioc). j.door.handshake) given_up ∙ (by_stage z refl rs c).handshake;
        status = λ c. ap (λ (j : Ioc). j.door.ioc2sys) given_up ∙ (by_stage z refl rs c).status;
      })
    where
      by_stage : (y : Stage) → z ≡ y → is_reset_stage y ≡ true → rests_of None state.Resetting y w.host.reading ((w.host.asked + 1) % 2 ^ 32) w.ioc.generation ≡ true → Rests
      by_stage stage.UnitReset e q c = rest (rest_up (up refl (ap (λ (y : Host). y.stage) f ∙ e) m))
      by_stage stage.DiagnosticReset e q c =
          contrary (rests_of None state.Resetting stage.DiagnosticReset w.host.reading ((w.host.asked + 1) % 2 ^ 32) w.ioc.generation)
          (ap (λ g. not (not g && (w.host.reading && true)) || (false || (g || false))) (level m) ∙ ap (λ g. not (true && (g && true)) || (false || (false || false))) r) c
      by_stage stage.Idle e q c = absurd (cc)
      by_stage stage.Start e q c = absurd (cc)
      by_stage stage.StartReset e q c = absurd (cc)
      by_stage stage.Facts e q c = absurd (cc)
      by_stage stage.PortFacts e q c = absurd (cc)
      by_stage stage.Init e q c = absurd (cc)
      by_stage stage.Look e q c = absurd (cc)
  host x t coming (Drops n u v items g r f) up same none =
      subst (λ (y : Host). LockOn (queues_of w) y w.ioc (w.down ++ y.out) coming) (sym f) (resting coming (record w.host { reading = false }) n (let p = rest (rest_unmanned n u) in record { handshake = p.handshake; status = p.status }))
  host x t coming (Begins base z d t2 q f) up same none = begun x coming (none (at.beginning_values w h b q)) base z d t2 q f
  host x t coming (Turns d y v hv reg e f) up same none = turned x coming (none (at.one_value w h b v hv.rest hv.front)) d y v hv reg e f
  host x t coming (Looked d y v hv o e f) up same none =
      subst (λ (z : Host). LockOn (queues_of w) z w.ioc (w.down ++ z.out) coming) (sym f)
      (resting coming (at.over w d v) refl (idle_as coming _ _ (behind (next_turn d (Some v)).writes) (stays_idle d y v hv (ap (ask_of_stage (queues_of w)) e) (rest_look (ap is_look e)))))
  host x t coming (Readied d y v hv o e f) up same none =
      let lk = over_linked w h b d y v hv o e in
      subst (λ (z : Host). LockOn (queues_of w) z w.ioc (w.down ++ z.out) coming) (sym f)
      (resting coming (record (at.over w d v) { door_ready = true }) refl
      (idle_as coming _ _ (behind (next_turn d (Some v)).writes) (stays_idle d y v hv (reset_unasked d y v hv w.host.stage e) (rest_begun (and_false (in_begun w) (is_ready (state_of w.ioc)) lk).0))))
  host x t coming (Opened d y v hv o e q) up same none =
      let g = over_so d y v hv (ask.Init (queues_of w)) (ap (ask_of_stage (queues_of w)) e) o in
      let a : written_ahead w.ioc (w.down ++ x.out) ≡ written_ahead (written_ahead A (next_turn d (Some v)).writes) q.grows.added =
      ap (λ n. written_ahead w.ioc (w.down ++ n)) (q.grows.is ∙ append_assoc w.host.out (next_turn d (Some v)).writes q.grows.added) ∙ (behind ((next_turn d (Some v)).writes ++ q.grows.added) ∙ ahead-append A (next_turn d (Some v)).writes q.grows.added) in
      let c = (plain_alike (written_ahead A (next_turn d (Some v)).writes) q.grows.added (all_pass Rattle.law_moves.proofs.HostSpeaks.is_spoken is_plain spoken_plain q.grows.added q.grows.mild)).door in
      resting coming x q.machine_is
      (idle_as coming (written_ahead w.ioc (w.down ++ x.out)) (written_ahead (written_ahead A (next_turn d (Some v)).writes) q.grows.added) a
      (idle_alike coming (written_ahead (written_ahead A (next_turn d (Some v)).writes) q.grows.added).door (written_ahead A (next_turn d (Some v)).writes).door c g.idle))
