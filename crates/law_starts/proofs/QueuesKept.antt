-- Each case keeps that IOC Init asked for all reply queues.
use Rattle.mpi_doorbell.specs.declared.effect.Effect.{Effect}
use Rattle.std.proofs.Common.{◌≡◌, ℕ, ◌+◌, ◌≤◌, ◌==◌, ◌&&◌, ◌||◌, ◌⊎◌, inl, inr, not, if◌then◌else◌, Bool, true, false, List, [], ◌∷◌, ◌++◌, append_assoc, bit_and, bit_or, get_or, length, length-set, set, take, Option, Some, None, is_none, is_some, refl, ap, sym, ◌∙◌, subst, arith}
use Rattle.std.specs.List.{filter}
use Rattle.mpi_doorbell.specs.Bytes.{has}
use Rattle.mpi_doorbell.specs.DoorRegisters.{DoorRegisters, is_fault, register_written}
use Rattle.mpi_doorbell.specs.Handshake.{Handshake, Asked as AskedBytes, Collects, Idle, Replies, asked_by, dword_taken, is_idle}
use Rattle.mpi_doorbell.specs.HostDoor.{HostDoor}
use Rattle.mpi_doorbell.specs.HostReset.{without}
use Rattle.mpi_doorbell.specs.HostSteps.{diagnostic_reset, hears, look_at_doorbell, unit_reset}
use Rattle.mpi_doorbell.specs.Meeting.{AsksAndEnds, IsDoneWith, LeadsIn}
use Rattle.mpi_doorbell.specs.declared.effect.Effect.TheVariants as effect
use Rattle.mpi_doorbell.specs.declared.registers.TheConstants.{DIAG_HOLD_IOC_RESET, DIAG_RESET_ADAPTER, DIAG_WRITE_ENABLE, DOORBELL, HOST_DIAGNOSTIC, IOC_STATE_FAULT, IOC_STATE_MASK, IOC_STATE_OPERATIONAL, IOC_STATE_READY, SYS2IOC_DB_STATUS}
use Rattle.mpi_doorbell.specs.declared.stage.Reading.{Reading}
use Rattle.mpi_doorbell.specs.declared.stage.Reading.TheVariants as reading
use Rattle.mpi_doorbell.specs.declared.stage.ResetKind.{ResetKind}
use Rattle.mpi_doorbell.specs.declared.stage.ResetKind.TheVariants as kind
use Rattle.mpi_doorbell.specs.declared.stage.Stage.TheVariants as door_stage
use Rattle.mpt_messages.specs.declared.host_ask.HostAsk.{HostAsk}
use Rattle.mpt_messages.specs.declared.host_ask.HostAsk.TheVariants as ask
use Rattle.mpt_wire.specs.Machine.Causes.{is_resetting}
use Rattle.mpt_wire.specs.Messages.DoorbellWords.{asked_bytes, replied_bytes}
use Rattle.mpt_trace.specs.declared.item.Down.{Down}
use Rattle.mpt_trace.specs.declared.item.Down.TheVariants as down
use Rattle.mpt_rules.specs.declared.stage.Stage.{Stage}
use Rattle.mpt_rules.specs.declared.stage.Stage.TheVariants as stage
use Rattle.mpt_rules.specs.World.Counts.{how_many}
use Rattle.mpt_rules.specs.Host.Doorbell as door
use Rattle.mpt_rules.specs.Host.Doorbell.{DoorTurn, next_turn, turn_from, unit_reset_dword}
use Rattle.mpt_rules.specs.Host.Parts.{Host, host_queue_count}
use Rattle.mpt_rules.specs.Host.Resets as resets
use Rattle.mpt_rules.specs.Ioc.Parts.{Ioc}
use Rattle.mpt_rules.specs.Ioc.Tables.{is_operational}
use Rattle.mpt_rules.specs.World.Lines.{down_line}
use Rattle.mpt_rules.specs.World.State.{World, queues_of}
use Rattle.law_facts.specs.Clock.{Clock, in_begun}
use Rattle.law_facts.specs.DoorAhead.{AsksAhead, IsInMode, ReadsFor, ReadsReply, answer_to, asked_in, awaits, door_ahead, is_look, is_unit, rests_at_door, value_at, waits_to_reset, written_ahead}
use Rattle.law_facts.specs.History.{History}
use Rattle.law_facts.specs.Words.{is_doorbell_write, others}
use Rattle.law_moves.proofs.Counted.{all_pass}
use Rattle.law_moves.proofs.Turns.{keys_doorless}
use Rattle.law_clock.specs.Premises.{Before}
use Rattle.law_doors.proofs.Ahead.{ahead-append}
use Rattle.law_starts.specs.Starts.{StartsStand}
use Rattle.law_starts.proofs.Alike.{DoorAlike, filtered_ahead, plain_alike, read_ahead}
use Rattle.law_starts.proofs.HostAtDoor.{Asked, AtDoor, Beginning, Begins, Diagnostic, Drops, Free, FromOff, GivesUp, HasValue, Keeps, Late, Looked, Marked, MessageUnit, Next, Opened, Readied, Renewed, Turns, asks_with, base_begun, begins_is, is_plain, spoken_plain, value_comes}
use Rattle.law_starts.proofs.QueuesTalk.{asks_on, reads_on}
use Rattle.law_starts.proofs.QueuesTurns.{AsksFor, ForFacts, ForInit, ForPortFacts, QueuesIn, doorless, quietly_written}
use Rattle.law_starts.proofs.Resetting.{TurnAt}
use Rattle.law_starts.proofs.Unheld.{unheld_ahead}

-- ---- turns that don't write the Doorbell

module _ (d : HostDoor) (v : ℕ) where
  at_unlocked : how_many is_doorbell_write (TurnAt d v (door_stage.Awaits reading.Unlocked)).writes ≡ 0
  unfolding turn_from how_many
  at_unlocked = by_test (has v DIAG_WRITE_ENABLE)
    where
      by_test : (b : Bool) → how_many is_doorbell_write (turn_from 8 (if b then Rattle.mpi_doorbell.specs.HostDoor.writes d (door_stage.Reads reading.ResetOver) HOST_DIAGNOSTIC (bit_or v DIAG_RESET_ADAPTER) else Rattle.mpi_doorbell.specs.HostDoor.refuses d 21 v).door
          (if b then Rattle.mpi_doorbell.specs.HostDoor.writes d (door_stage.Reads reading.ResetOver) HOST_DIAGNOSTIC (bit_or v DIAG_RESET_ADAPTER) else Rattle.mpi_doorbell.specs.HostDoor.refuses d 21 v).step).writes ≡ 0
      by_test true = refl
      by_test false = refl

  at_over : how_many is_doorbell_write (TurnAt d v (door_stage.Awaits reading.ResetOver)).writes ≡ 0
  unfolding turn_from how_many
  at_over = by_test (has v DIAG_RESET_ADAPTER)
    where
      by_test : (b : Bool) → how_many is_doorbell_write (turn_from 8 (if b then Rattle.mpi_doorbell.specs.HostDoor.reads d reading.ResetOver else Rattle.mpi_doorbell.specs.HostDoor.writes d door_stage.Locks HOST_DIAGNOSTIC (without v DIAG_HOLD_IOC_RESET)).door
          (if b then Rattle.mpi_doorbell.specs.HostDoor.reads d reading.ResetOver else Rattle.mpi_doorbell.specs.HostDoor.writes d door_stage.Locks HOST_DIAGNOSTIC (without v DIAG_HOLD_IOC_RESET)).step).writes ≡ 0
      by_test true = refl
      by_test false = refl

  at_unit : how_many is_doorbell_write (TurnAt d v (door_stage.Awaits reading.UnitReset)).writes ≡ 0
  unfolding turn_from how_many
  at_unit = by_test (has v SYS2IOC_DB_STATUS)
    where
      by_test : (b : Bool) → how_many is_doorbell_write (turn_from 8 (if b then Rattle.mpi_doorbell.specs.HostDoor.reads d reading.UnitReset else Rattle.mpi_doorbell.specs.HostDoor.reads d (reading.State kind.MessageUnit)).door
          (if b then Rattle.mpi_doorbell.specs.HostDoor.reads d reading.UnitReset else Rattle.mpi_doorbell.specs.HostDoor.reads d (reading.State kind.MessageUnit)).step).writes ≡ 0
      by_test true = refl
      by_test false = refl

  at_state : (k : ResetKind) → how_many is_doorbell_write (TurnAt d v (door_stage.Awaits (reading.State k))).writes ≡ 0
  unfolding turn_from how_many
  at_state k = by_tests (bit_and v IOC_STATE_MASK == IOC_STATE_READY) ((bit_and v IOC_STATE_MASK == IOC_STATE_FAULT) || (bit_and v IOC_STATE_MASK == IOC_STATE_OPERATIONAL))
    where
      by_tests : (a b : Bool)
          → how_many is_doorbell_write (turn_from 8 (if a then Rattle.mpi_doorbell.specs.HostDoor.finishes d [] else if b then Rattle.mpi_doorbell.specs.HostDoor.refuses d (Rattle.mpi_doorbell.specs.HostDoor.state_step k) v else Rattle.mpi_doorbell.specs.HostDoor.reads d (reading.State k)).door
          (if a then Rattle.mpi_doorbell.specs.HostDoor.finishes d [] else if b then Rattle.mpi_doorbell.specs.HostDoor.refuses d (Rattle.mpi_doorbell.specs.HostDoor.state_step k) v else Rattle.mpi_doorbell.specs.HostDoor.reads d (reading.State k)).step).writes ≡ 0
      by_tests true b = refl
      by_tests false true = refl
      by_tests false false = refl

  at_look : how_many is_doorbell_write (TurnAt d v (door_stage.Awaits reading.Doorbell)).writes ≡ 0
  unfolding turn_from how_many
  at_look = refl

look_doorless : how_many is_doorbell_write (next_turn look_at_doorbell None).writes ≡ 0
unfolding turn_from how_many
look_doorless = refl

talk_doorless : (message : List ℕ) → how_many is_doorbell_write (next_turn (Rattle.mpi_doorbell.specs.HostSteps.handshake_of_message message) None).writes ≡ 0
unfolding turn_from how_many
talk_doorless message = refl

unit_writes : (next_turn unit_reset None).writes ≡ down.Write DOORBELL unit_reset_dword ∷ []
unfolding turn_from
unit_writes = refl

-- an idle door takes the message unit reset as such, unless it is in FAULT
unit_effect : (r : DoorRegisters) → r.handshake ≡ Idle → ((register_written r DOORBELL unit_reset_dword).effect ≡ effect.UnitReset) ⊎ ((register_written r DOORBELL unit_reset_dword).effect ≡ effect.None)
unit_effect r i = by_tests (is_fault r.state) r.handshake i
  where
    of : Bool → Handshake → Effect
    of a h =
        (if a then Rattle.mpi_doorbell.specs.DoorRegisters.quietly r else (if is_idle h then Rattle.mpi_doorbell.specs.DoorRegisters.function_written r (Rattle.std.proofs.Common.◌/◌ unit_reset_dword (Rattle.std.proofs.Common.◌^◌ 2 24)) (Rattle.std.proofs.Common.◌%◌ (Rattle.std.proofs.Common.◌/◌ unit_reset_dword (Rattle.std.proofs.Common.◌^◌ 2 16)) 256) else record { registers = record r { handshake = dword_taken h unit_reset_dword }; effect = asked_by h unit_reset_dword })).effect

    by_tests : (a : Bool) (h : Handshake) → h ≡ Idle → (of a h ≡ effect.UnitReset) ⊎ (of a h ≡ effect.None)
    by_tests true h i = inr refl
    by_tests false Idle i = inl refl
    by_tests false (Collects missing message) i = absurd (cc)
    by_tests false (AskedBytes message) i = absurd (cc)
    by_tests false (Replies left) i = absurd (cc)

pub alike_queues : (q : ℕ) (i j : Ioc) → DoorAlike i j → QueuesIn q j → QueuesIn q i
alike_queues q i j a p = record { whole = ap (λ (r : DoorRegisters). is_fault r.state) a.door ∙ p.whole; vectors = λ l. a.vectors ∙ p.vectors (sym (ap (λ (r : DoorRegisters). is_operational r.state) a.door) ∙ l); waits = ap (λ (r : DoorRegisters). r.link_waits) a.door ∙ p.waits }

module _ (w : World) (h : History) (b : Before w h) (s : StartsStand w) where
  k : Clock w h
  k = b.facts.clock

  abbrev Q : ℕ
  Q = queues_of w

  counted : host_queue_count w.host ≡ queues_of w
  counted = sym b.facts.flights.sizes.lanes

  pub few : queues_of w ≤ 8
  few = subst (λ n. n ≤ 8) counted b.facts.flights.sizes.few_queues

  -- the controller ahead
  abbrev A : Ioc
  A = written_ahead w.ioc (down_line w)

  pub now : QueuesIn (queues_of w) w.ioc
  now = record { whole = k.phase_table.whole; vectors = s.queues_asked.now; waits = s.nothing_holds.waits }

  pub ahead : QueuesIn (queues_of w) (written_ahead w.ioc (down_line w))
  ahead = record { whole = b.facts.doorbell.sound.whole; vectors = s.queues_asked.ahead; waits = (unheld_ahead w.ioc (down_line w) s.nothing_holds.writes (record { hold = s.nothing_holds.hold; waits = s.nothing_holds.waits })).waits }

  -- ---- what goes behind the line

  behind : (xs : List Down) → written_ahead w.ioc (w.down ++ (w.host.out ++ xs)) ≡ written_ahead A xs
  behind xs = ap (written_ahead w.ioc) (sym (append_assoc w.down w.host.out xs)) ∙ ahead-append w.ioc (down_line w) xs

  given_up : written_ahead w.ioc (w.down ++ filter resets.is_no_post w.host.out) ≡ A
  given_up = ahead-append w.ioc w.down (filter resets.is_no_post w.host.out) ∙ (filtered_ahead (written_ahead w.ioc w.down) w.host.out ∙ sym (ahead-append w.ioc w.down w.host.out))

  -- writes, and a read behind them
  read_on : (out ws : List Down) (reg : ℕ) → written_ahead w.ioc (w.down ++ ((out ++ ws) ++ down.Read reg ∷ [])) ≡ written_ahead (written_ahead w.ioc (w.down ++ out)) ws
  read_on out ws reg =
      let a : w.down ++ ((out ++ ws) ++ down.Read reg ∷ []) ≡ ((w.down ++ out) ++ ws) ++ down.Read reg ∷ [] = sym (append_assoc w.down (out ++ ws) (down.Read reg ∷ [])) ∙ ap (λ xs. xs ++ down.Read reg ∷ []) (sym (append_assoc w.down out ws)) in
      ap (written_ahead w.ioc) a ∙ (ahead-append w.ioc ((w.down ++ out) ++ ws) (down.Read reg ∷ []) ∙ (read_ahead (written_ahead w.ioc ((w.down ++ out) ++ ws)) reg ∙ ahead-append w.ioc (w.down ++ out) ws))

  -- ---- a turn

  module _ (d : HostDoor) (y : Reading) (v : ℕ) (hv : HasValue w d y v) where
    abbrev Turned : Type 0
    Turned = QueuesIn (queues_of w) (written_ahead A (next_turn d (Some v)).writes)

    quiet : (z : Reading) → y ≡ z → how_many is_doorbell_write (TurnAt d v (door_stage.Awaits z)).writes ≡ 0 → Turned
    quiet z e n = doorless (queues_of w) few A (next_turn d (Some v)).writes (subst (λ q. how_many is_doorbell_write (TurnAt d v q).writes ≡ 0) (sym (hv.at ∙ ap door_stage.Awaits e)) n) ahead

    -- a handshake goes on as if the two were alone
    talk : (a : HostAsk) → asked_in w w.host.stage ≡ Some a → AsksFor (queues_of w) a → is_resetting w.host.mode ≡ false → Turned
    talk a e g m = by_half (b.facts.doorbell.lock_step.steps d a hv.machine_is e).leads
      where
        val : v ≡ value_at (door_ahead w) (awaits d.stage)
        val = b.facts.doorbell.lock_step.value d v hv.machine_is m (value_comes w d y v hv)

        by_half : AsksAhead w d a ⊎ ReadsReply w d a → Turned
        by_half (inl z) =
            asks_on (queues_of w) few a g (replied_bytes (answer_to w a)) 8 z.leads.0 d (Some v) A ahead
            (subst (λ n. LeadsIn (AsksAndEnds (asked_bytes a) (replied_bytes (answer_to w a))) z.leads.0 (record { host = d; value = Some n; registers = door_ahead w })) (sym val) z.leads.1)
        by_half (inr z) =
            reads_on (queues_of w) few a g (replied_bytes (answer_to w a)) 8 z.leads.0 d (Some v) A ahead
            (subst (λ n. LeadsIn (IsDoneWith (replied_bytes (answer_to w a))) z.leads.0 (record { host = d; value = Some n; registers = door_ahead w })) (sym val) z.leads.1)

    init_asked : w.host.stage ≡ stage.Init → asked_in w w.host.stage ≡ Some (ask.Init (queues_of w))
    init_asked e = ap (asked_in w) e ∙ ap (λ n. let o : Option HostAsk = Some (ask.Init n) in o) counted

    by_stage : (z : Stage) → w.host.stage ≡ z → ReadsFor z y → IsInMode w z → Turned
    by_stage stage.DiagnosticReset e (inl r) i = quiet reading.Unlocked r (at_unlocked d v)
    by_stage stage.DiagnosticReset e (inr (inl r)) i = quiet reading.ResetOver r (at_over d v)
    by_stage stage.DiagnosticReset e (inr (inr r)) i = quiet (reading.State kind.Diagnostic) r (at_state d v kind.Diagnostic)
    by_stage stage.UnitReset e (inl r) i = quiet reading.UnitReset r (at_unit d v)
    by_stage stage.UnitReset e (inr r) i = quiet (reading.State kind.MessageUnit) r (at_state d v kind.MessageUnit)
    by_stage stage.Start e r i = quiet reading.Doorbell r (at_look d v)
    by_stage stage.Look e r i = quiet reading.Doorbell r (at_look d v)
    by_stage stage.Facts e r i = talk ask.Facts (ap (asked_in w) e) ForFacts (ap is_resetting i)
    by_stage stage.PortFacts e r i = talk ask.PortFacts (ap (asked_in w) e) ForPortFacts (ap is_resetting i)
    by_stage stage.Init e r i = talk (ask.Init (queues_of w)) (init_asked e) ForInit (ap is_resetting i)
    by_stage stage.Idle e r i = absurd r
    by_stage stage.StartReset e r i = absurd r

    pub turned : Turned
    turned = by_stage w.host.stage refl hv.reads_for hv.in_mode

  -- ---- the host

  abbrev OnHost : Host → Type 0
  OnHost x = QueuesIn (queues_of w) (written_ahead w.ioc (w.down ++ x.out))

  of_behind : (o xs : List Down) → o ≡ w.host.out ++ xs → QueuesIn (queues_of w) (written_ahead A xs) → QueuesIn (queues_of w) (written_ahead w.ioc (w.down ++ o))
  of_behind o xs e p = subst (QueuesIn (queues_of w)) (sym (ap (λ y. written_ahead w.ioc (w.down ++ y)) e ∙ behind xs)) p

  -- a door that is idle ahead
  idle : rests_at_door w ≡ true → (written_ahead w.ioc (down_line w)).door.handshake ≡ Idle
  idle r = b.facts.doorbell.rests.handshake r

  unit_ahead : (i : Ioc) → i.door.handshake ≡ Idle → QueuesIn (queues_of w) i → QueuesIn (queues_of w) (written_ahead i (down.Write DOORBELL unit_reset_dword ∷ []))
  unfolding written_ahead
  unit_ahead i z p = quietly_written (queues_of w) few i DOORBELL unit_reset_dword p (λ count bytes e. asks (unit_effect i.door z) count bytes e) (λ code e. faults (unit_effect i.door z) code e)
    where
      asks : ((register_written i.door DOORBELL unit_reset_dword).effect ≡ effect.UnitReset) ⊎ ((register_written i.door DOORBELL unit_reset_dword).effect ≡ effect.None) → (count : ℕ) (bytes : List ℕ) → (register_written i.door DOORBELL unit_reset_dword).effect ≡ effect.Asked count bytes → ⊥
      asks (inl u) count bytes e = let c : effect.UnitReset ≡ effect.Asked count bytes = sym u ∙ e in cc
      asks (inr u) count bytes e = let c : effect.None ≡ effect.Asked count bytes = sym u ∙ e in cc

      faults : ((register_written i.door DOORBELL unit_reset_dword).effect ≡ effect.UnitReset) ⊎ ((register_written i.door DOORBELL unit_reset_dword).effect ≡ effect.None) → (code : ℕ) → (register_written i.door DOORBELL unit_reset_dword).effect ≡ effect.Fault code → ⊥
      faults (inl u) code e = let c : effect.UnitReset ≡ effect.Fault code = sym u ∙ e in cc
      faults (inr u) code e = let c : effect.None ≡ effect.Fault code = sym u ∙ e in cc

  unread_machine : w.host.reading ≡ false → w.host.machine ≡ None
  unread_machine r = by_machine w.host.machine refl
    where
      by_machine : (o : Option HostDoor) → w.host.machine ≡ o → o ≡ None
      by_machine None e = refl
      by_machine (Some d) e = absurd (both w.host.reading r (k.one_read.awaited (ap is_some e)))
        where
          both : (c : Bool) → c ≡ false → c ≡ true → ⊥
          both true e f = cc
          both false e f = cc

  -- the base of a machine that begins
  base_queues : {y : Host} {z : Stage} {d : HostDoor} {t : Bool} → Beginning w y z d t → OnHost y
  base_queues (FromOff m) = ahead
  base_queues (Free m r) = ahead
  base_queues (Asked z d q m r) = subst (QueuesIn (queues_of w)) (sym given_up) ahead
  base_queues (Late z d q e n a v rest u r) = ahead
  base_queues (Marked queue m r) = ahead
  base_queues (Renewed d y v hv o r) = of_behind (w.host.out ++ (next_turn d (Some v)).writes) (next_turn d (Some v)).writes refl (turned d y v hv)
  base_queues (Next d y v hv o z a f) = of_behind (w.host.out ++ (next_turn d (Some v)).writes) (next_turn d (Some v)).writes refl (turned d y v hv)

  idle_now : is_resetting w.host.mode ≡ false → w.host.reading ≡ false → rests_at_door w ≡ true
  idle_now m r =
      ap (λ (o : Option HostDoor). (is_none o && not ((is_resetting w.host.mode && not (w.host.asked == w.ioc.generation)) && (w.host.reading && is_none o))) || (is_look w.host.stage || (in_begun w || is_unit w.host.stage))) (unread_machine r)
      ∙ ap (λ c. not ((c && not (w.host.asked == w.ioc.generation)) && (w.host.reading && true)) || (is_look w.host.stage || (in_begun w || is_unit w.host.stage))) m

  idle_late : w.host.stage ≡ stage.UnitReset → rests_at_door w ≡ true
  idle_late e = last (is_none w.host.machine && not (waits_to_reset w)) (is_look w.host.stage) (in_begun w) (is_unit w.host.stage) (ap is_unit e)
    where
      last : (a c d f : Bool) → f ≡ true → (a || (c || (d || f))) ≡ true
      last true c d f e = refl
      last false true d f e = refl
      last false false true f e = refl
      last false false false f e = e

  -- and its first writes
  begun_queues : {y : Host} {z : Stage} {d : HostDoor} {t : Bool} → Beginning w y z d t → QueuesIn (queues_of w) (written_ahead (written_ahead w.ioc (w.down ++ y.out)) (next_turn d None).writes)
  begun_queues (FromOff m) = doorless (queues_of w) few A (next_turn look_at_doorbell None).writes look_doorless ahead
  begun_queues (Free m r) = doorless (queues_of w) few A (next_turn look_at_doorbell None).writes look_doorless ahead
  begun_queues (Asked z d Diagnostic m r) = doorless (queues_of w) few (written_ahead w.ioc (w.down ++ filter resets.is_no_post w.host.out)) (next_turn diagnostic_reset None).writes keys_doorless (subst (QueuesIn (queues_of w)) (sym given_up) ahead)
  begun_queues (Asked z d MessageUnit m r) =
      subst (λ i. QueuesIn (queues_of w) (written_ahead i (next_turn unit_reset None).writes)) (sym given_up) (subst (λ ws. QueuesIn (queues_of w) (written_ahead A ws)) (sym unit_writes) (unit_ahead A (idle (idle_now m r)) ahead))
  begun_queues (Late z d Diagnostic e n a v rest u r) = doorless (queues_of w) few A (next_turn diagnostic_reset None).writes keys_doorless ahead
  begun_queues (Late z d MessageUnit e n a v rest u r) = subst (λ ws. QueuesIn (queues_of w) (written_ahead A ws)) (sym unit_writes) (unit_ahead A (idle (idle_late e)) ahead)
  begun_queues (Marked queue m r) = doorless (queues_of w) few A (next_turn (asks_with ask.Facts) None).writes (talk_doorless (asked_bytes ask.Facts)) ahead
  begun_queues (Renewed d y v hv o r) =
      doorless (queues_of w) few (written_ahead w.ioc (w.down ++ (w.host.out ++ (next_turn d (Some v)).writes))) (next_turn (asks_with ask.Facts) None).writes (talk_doorless (asked_bytes ask.Facts)) (of_behind (w.host.out ++ (next_turn d (Some v)).writes) (next_turn d (Some v)).writes refl (turned d y v hv))
  begun_queues (Next d y v hv o z a f) =
      doorless (queues_of w) few (written_ahead w.ioc (w.down ++ (w.host.out ++ (next_turn d (Some v)).writes))) (next_turn (asks_with a) None).writes (talk_doorless (asked_bytes a)) (of_behind (w.host.out ++ (next_turn d (Some v)).writes) (next_turn d (Some v)).writes refl (turned d y v hv))

  plain_behind : (i : Ioc) (xs : List Down) → others is_plain xs ≡ 0 → QueuesIn (queues_of w) i → QueuesIn (queues_of w) (written_ahead i xs)
  plain_behind i xs z p = alike_queues (queues_of w) (written_ahead i xs) i (plain_alike i xs z) p

  pub host : (x : Host) (t : Bool) → AtDoor w x t → OnHost x
  host x t (Keeps q) = of_behind x.out q.grows.added q.grows.is (plain_behind A q.grows.added q.grows.mild ahead)
  host x t (GivesUp z r m u f) = subst OnHost (sym f) (subst (QueuesIn (queues_of w)) (sym given_up) ahead)
  host x t (Drops n y v rest g r f) = subst OnHost (sym f) ahead
  host x t (Begins y z d t2 q f) =
      let g = base_begun q in
      subst OnHost (sym (f ∙ begins_is y z d g.0 g.1)) (subst (QueuesIn (queues_of w)) (sym (read_on y.out (next_turn d None).writes g.1.reg)) (begun_queues q))
  host x t (Turns d y v hv reg z f) =
      subst OnHost (sym (f ∙ ap (door.puts_step (door.puts_writes (record w.host { reading = false }) (next_turn d (Some v)).writes) (next_turn d (Some v)).door) z))
      (subst (QueuesIn (queues_of w)) (sym (read_on w.host.out (next_turn d (Some v)).writes reg)) (turned d y v hv))
  host x t (Looked d y v hv o z f) = of_behind x.out (next_turn d (Some v)).writes (ap (λ (q : Host). q.out) f) (turned d y v hv)
  host x t (Readied d y v hv o z f) = of_behind x.out (next_turn d (Some v)).writes (ap (λ (q : Host). q.out) f) (turned d y v hv)
  host x t (Opened d y v hv o z q) =
      of_behind x.out ((next_turn d (Some v)).writes ++ q.grows.added) (q.grows.is ∙ append_assoc w.host.out (next_turn d (Some v)).writes q.grows.added)
      (subst (QueuesIn (queues_of w)) (sym (ahead-append A (next_turn d (Some v)).writes q.grows.added)) (plain_behind (written_ahead A (next_turn d (Some v)).writes) q.grows.added (all_pass Rattle.law_moves.proofs.HostSpeaks.is_spoken is_plain spoken_plain q.grows.added q.grows.mild) (turned d y v hv)))
