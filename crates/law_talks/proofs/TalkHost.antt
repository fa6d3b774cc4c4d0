-- Each call of the host keeps the words of a handshake.
use Rattle.std.proofs.Common.{◌≡◌, ℕ, ◌<◌, ◌≤◌, ◌==◌, ◌&&◌, ◌||◌, ◌⊎◌, inl, inr, not, Bool, true, false, List, [], ◌∷◌, ◌++◌, append_assoc, append-nil, bit_and, bit_or, if◌then◌else◌, length, map, get_or, slice_set, Option, Some, None, is_none, is_some, refl, ap, sym, ◌∙◌, subst, arith}
use Rattle.std.specs.List.{filter}
use Rattle.mpi_doorbell.specs.DoorRegisters.{register_value}
use Rattle.mpi_doorbell.specs.HostDoor.{HostDoor, Stepped, finishes, reads, refuses, register_of, state_step, writes}
use Rattle.mpi_doorbell.specs.Bytes.{has}
use Rattle.mpi_doorbell.specs.HostReset.{without}
use Rattle.mpi_doorbell.specs.HostSteps.{diagnostic_reset, look_at_doorbell, next_step, unit_reset}
use Rattle.mpi_doorbell.specs.declared.registers.TheConstants.{DIAG_HOLD_IOC_RESET, DIAG_RESET_ADAPTER, DIAG_WRITE_ENABLE, DOORBELL, HOST_DIAGNOSTIC, IOC_STATE_FAULT, IOC_STATE_MASK, IOC_STATE_OPERATIONAL, IOC_STATE_READY, SYS2IOC_DB_STATUS, WRITE_SEQUENCE}
use Rattle.mpi_doorbell.specs.declared.stage.ResetKind.{ResetKind}
use Rattle.mpi_doorbell.specs.declared.stage.ResetKind.TheVariants as kind
use Rattle.mpi_doorbell.specs.declared.stage.Reading.{Reading}
use Rattle.mpi_doorbell.specs.declared.stage.Reading.TheVariants as reading
use Rattle.mpi_doorbell.specs.declared.stage.Stage.{Stage as DoorStage}
use Rattle.mpi_doorbell.specs.declared.stage.Stage.TheVariants as door_stage
use Rattle.mpi_doorbell.specs.declared.step.DoorStep.{DoorStep}
use Rattle.mpi_doorbell.specs.declared.step.DoorStep.TheVariants as step
use Rattle.mpt_messages.specs.declared.host_ask.HostAsk.{HostAsk}
use Rattle.mpt_messages.specs.declared.host_ask.HostAsk.TheVariants as ask
use Rattle.mpt_wire.specs.Machine.Causes.{is_resetting}
use Rattle.mpt_wire.specs.Messages.DoorbellWords.{IsTalk, Talk, asked_bytes, is_over, value_heard}
use Rattle.mpt_trace.specs.declared.host_state.HostState.TheVariants as state
use Rattle.mpt_trace.specs.declared.item.Down.{Down}
use Rattle.mpt_trace.specs.declared.item.Down.TheVariants as down
use Rattle.mpt_trace.specs.declared.item.Up.{Up}
use Rattle.mpt_trace.specs.declared.item.Up.TheVariants as upward
use Rattle.mpt_rules.specs.declared.stage.Stage.{Stage}
use Rattle.mpt_rules.specs.declared.stage.Stage.TheVariants as stage
use Rattle.mpt_rules.specs.Host.Doorbell as door
use Rattle.mpt_rules.specs.Host.Doorbell.{DoorTurn, next_turn, turn_from, unit_reset_dword}
use Rattle.mpt_rules.specs.Host.Parts.{Host}
use Rattle.mpt_rules.specs.Host.Resets as resets
use Rattle.mpt_rules.specs.Ioc.Parts.{Ioc, ioc_queue_count, state_of}
use Rattle.mpt_rules.specs.Ioc.Tables.{is_ready}
use Rattle.mpt_rules.specs.World.Counts.{how_many, is_register_write, one_if, read_count, register_write_count, value_count}
use Rattle.mpt_rules.specs.World.Lines.{down_line, said_of}
use Rattle.mpt_rules.specs.World.State.{World, queues_of, up_on}
use Rattle.mpt_rules.specs.World.Weight.{is_read}
use Rattle.mpt_rules.proofs.Counts.{how_many-append}
use Rattle.law_facts.specs.Clock.{Clock, in_begun}
use Rattle.law_facts.specs.DoorAhead.{IsInMode, ReadsFor, WaitsAt, awaits, door_ahead, first_read, first_value, is_diagnostic, value_coming, waits_to_reset, written_ahead}
use Rattle.law_facts.specs.History.{History}
use Rattle.law_facts.specs.Ties.{SaidAt, or_put, register_awaited, talk_with}
use Rattle.law_facts.specs.Words.{is_doorbell_write, is_off}
use Rattle.law_moves.proofs.Counted.{fewer_pass, filter_keeps, grown-count, how_many-cons, none_passes}
use Rattle.law_moves.proofs.Hears.{IsOver, is_reset_stage}
use Rattle.law_moves.proofs.HostSpeaks.{ComesUp, Rises, Speaks, Stays, is_spoken}
use Rattle.law_moves.proofs.Phases.{and_false, off_second}
use Rattle.law_clock.specs.Premises.{Before}
use Rattle.law_clock.proofs.StillKept.{not_reading}
use Rattle.law_doors.proofs.StageKept.{Begun}
use Rattle.law_doors.proofs.Turning.{Kind, StepFits, WaitsFor, first_more, first_of_read, kind_read, value_turn, writes_no_reads}
use Rattle.law_doors.proofs.Ahead.{ahead-append, core}
use Rattle.law_starts.proofs.Alike.{filtered_ahead, plain_alike}
use Rattle.law_starts.specs.Starts.{StartsStand}
use Rattle.law_starts.proofs.HostAtDoor as at
use Rattle.law_starts.proofs.HostAtDoor.{Asked, AtDoor, Beginning, Begins, Diagnostic, Drops, Free, FromOff, GivesUp, HasValue, Keeps, Late, Looked, Marked, MessageUnit, Next, NextShake, Opened, Readied, Renewed, Turns, asks_with, base_begun, begins_is, contrary, is_plain, spoken_plain, value_comes}
use Rattle.law_starts.proofs.Resetting.{TurnAt}
use Rattle.law_locks.specs.Locks.{HandshakesStand, ShakesAt, ask_of_stage}
use Rattle.law_locks.proofs.LocksHost as by_host
use Rattle.law_locks.proofs.LocksHost.{asked_starting, asks_for}
use Rattle.law_locks.proofs.Rounds.{ahead_up}
use Rattle.law_locks.proofs.Unbelled.{bell_of_doorbell, is_bell_write, talk_turn}
use Rattle.law_talks.specs.Talking.{TalkGoesOn}
use Rattle.law_talks.proofs.Holding.{TalkHolds, TalkOn, begun_of, given, waits_of}
use Rattle.law_talks.proofs.Talking.{goes-append, goes-cut, goes-filter, goes-more, goes-over, goes-quiet, goes-unit, heard-over, talk-append, talk-filter, talk-quiet, talks-on}
use Rattle.law_talks.proofs.TurnTalks.{Says, TurnSays, turn_says}

-- ---- reads

pub no_read_first : (xs : List Down) → how_many is_read xs ≡ 0 → first_read xs ≡ None
unfolding first_read
no_read_first [] z = refl
no_read_first (down.Write reg value ∷ xs) z = let c = how_many-cons is_read (down.Write reg value) xs in no_read_first xs (omega (arith, c, z))
no_read_first (down.Read reg ∷ xs) z = let c = how_many-cons is_read (down.Read reg) xs in absurd (omega (arith, c, z))
no_read_first (down.Post d f p ∷ xs) z = let c = how_many-cons is_read (down.Post d f p) xs in no_read_first xs (omega (arith, c, z))
no_read_first (down.Return a i ∷ xs) z = let c = how_many-cons is_read (down.Return a i) xs in no_read_first xs (omega (arith, c, z))
no_read_first (down.Stop ∷ xs) z = let c = how_many-cons is_read down.Stop xs in no_read_first xs (omega (arith, c, z))

first_filter : (xs : List Down) → first_read (filter resets.is_no_post xs) ≡ first_read xs
unfolding first_read
first_filter [] = refl
first_filter (down.Write reg value ∷ xs) = first_filter xs
first_filter (down.Read reg ∷ xs) = refl
first_filter (down.Post d f p ∷ xs) = first_filter xs
first_filter (down.Return a i ∷ xs) = first_filter xs
first_filter (down.Stop ∷ xs) = first_filter xs

read_no_post : (x : Down) → is_read x ≡ true → resets.is_no_post x ≡ true
read_no_post (down.Write reg value) e = refl
read_no_post (down.Read reg) e = refl
read_no_post (down.Post d f p) e = absurd (cc)
read_no_post (down.Return a i) e = refl
read_no_post down.Stop e = refl

plain_unread : (x : Down) → is_plain x ≡ true → is_read x ≡ false
plain_unread (down.Write reg value) e = refl
plain_unread (down.Read reg) e = absurd (cc)
plain_unread (down.Post d f p) e = refl
plain_unread (down.Return a i) e = refl
plain_unread down.Stop e = refl

plain_quiet : (x : Down) → is_plain x ≡ true → is_register_write x ≡ false
plain_quiet (down.Write reg value) e = ap not e
plain_quiet (down.Read reg) e = absurd (cc)
plain_quiet (down.Post d f p) e = refl
plain_quiet (down.Return a i) e = refl
plain_quiet down.Stop e = refl

count_read : (xs : List Down) → read_count xs ≡ how_many is_read xs
unfolding read_count
count_read xs = refl

read_one : (xs : List Down) (reg : ℕ) → read_count (xs ++ down.Read reg ∷ []) ≡ 0 → ⊥
read_one xs reg z =
    let a = how_many-append is_read xs (down.Read reg ∷ []) in let c = how_many-cons is_read (down.Read reg) [] in let n = count_read (xs ++ down.Read reg ∷ []) in
    omega (arith, a, c, n, z)

read_silent : (t : Talk) (reg : ℕ) → talk_with t (down.Read reg ∷ []) ≡ t
unfolding talk_with
read_silent t reg = refl

talk_read : (t : Talk) (xs : List Down) (reg : ℕ) → talk_with t (xs ++ down.Read reg ∷ []) ≡ talk_with t xs
talk_read t xs reg = talk-append t xs (down.Read reg ∷ []) ∙ read_silent (talk_with t xs) reg

-- ---- the keys of a reset

record IsKeyed (xs : List Down) : Type 0 where
  value : ℕ
  rest : List Down
  is : xs ≡ down.Write WRITE_SEQUENCE value ∷ rest
  doorless : how_many is_doorbell_write rest ≡ 0

keyed : IsKeyed (next_turn diagnostic_reset None).writes
unfolding turn_from how_many
keyed = record { value = 0; rest = _; is = refl; doorless = refl }

unit_is : (next_turn unit_reset None).writes ≡ down.Write DOORBELL unit_reset_dword ∷ []
unfolding turn_from
unit_is = refl

look_doorless : how_many is_doorbell_write (next_turn look_at_doorbell None).writes ≡ 0
unfolding turn_from how_many
look_doorless = refl

keys_doorless : how_many is_doorbell_write (next_turn diagnostic_reset None).writes ≡ 0
unfolding turn_from how_many
keys_doorless = refl

-- ---- turns of a reset's machine: only the last ends it, and writes nothing

module _ (d : HostDoor) (v : ℕ) where
  abbrev Made : Stepped → DoorTurn
  Made u = turn_from 8 u.door u.step

  unlocked_goes : IsOver (TurnAt d v (door_stage.Awaits reading.Unlocked)).step → ⊥
  unfolding turn_from
  unlocked_goes = by_test (has v DIAG_WRITE_ENABLE)
    where
      by_test : (c : Bool) → IsOver (Made (if c then writes d (door_stage.Reads reading.ResetOver) HOST_DIAGNOSTIC (bit_or v DIAG_RESET_ADAPTER) else refuses d 21 v)).step → ⊥
      by_test true o = o
      by_test false o = o

  over_goes : IsOver (TurnAt d v (door_stage.Awaits reading.ResetOver)).step → ⊥
  unfolding turn_from
  over_goes = by_test (has v DIAG_RESET_ADAPTER)
    where
      by_test : (c : Bool) → IsOver (Made (if c then reads d reading.ResetOver else writes d door_stage.Locks HOST_DIAGNOSTIC (without v DIAG_HOLD_IOC_RESET))).step → ⊥
      by_test true o = o
      by_test false o = o

  unit_goes : IsOver (TurnAt d v (door_stage.Awaits reading.UnitReset)).step → ⊥
  unfolding turn_from
  unit_goes = by_test (has v SYS2IOC_DB_STATUS)
    where
      by_test : (c : Bool) → IsOver (Made (if c then reads d reading.UnitReset else reads d (reading.State kind.MessageUnit))).step → ⊥
      by_test true o = o
      by_test false o = o

  state_unwritten : (c : ResetKind) → how_many is_register_write (TurnAt d v (door_stage.Awaits (reading.State c))).writes ≡ 0
  unfolding turn_from how_many
  state_unwritten c = by_tests (bit_and v IOC_STATE_MASK == IOC_STATE_READY) ((bit_and v IOC_STATE_MASK == IOC_STATE_FAULT) || (bit_and v IOC_STATE_MASK == IOC_STATE_OPERATIONAL))
    where
      by_tests : (a e : Bool) → how_many is_register_write (Made (if a then finishes d [] else if e then refuses d (state_step c) v else reads d (reading.State c))).writes ≡ 0
      by_tests true e = refl
      by_tests false true = refl
      by_tests false false = refl

some_door : (c d : HostDoor) → Some c ≡ Some d → c ≡ d
some_door c d e = cc

no_door : {T : Type 0} (d : HostDoor) → None ≡ Some d → T
no_door d e = absurd (cc)

door_none : {T : Type 0} (d : HostDoor) → Some d ≡ None → T
door_none d e = absurd (cc)

no_ask : {T : Type 0} (a : HostAsk) → None ≡ Some a → T
no_ask a e = absurd (cc)

ask_none : {T : Type 0} (a : HostAsk) → Some a ≡ None → T
ask_none a e = absurd (cc)

-- a machine waits for no older value
pub unwaited : (x : Host) (g : ℕ) (d : HostDoor) → x.machine ≡ Some d → waits_of x g ≡ false
unwaited x g d e = ap (λ (o : Option HostDoor). (is_resetting x.mode && not (x.asked == g)) && (x.reading && is_none o)) e ∙ off_second _ (x.reading && false) (off_second x.reading false refl)

unread_unwaited : (x : Host) (g : ℕ) → x.reading ≡ false → waits_of x g ≡ false
unread_unwaited x g e = ap (λ c. (is_resetting x.mode && not (x.asked == g)) && (c && is_none x.machine)) e ∙ off_second _ false refl

unreset_unwaited : (x : Host) (g : ℕ) → is_resetting x.mode ≡ false → waits_of x g ≡ false
unreset_unwaited x g e = ap (λ c. (c && not (x.asked == g)) && (x.reading && is_none x.machine)) e

begun_unwaited : (x : Host) (g : ℕ) → begun_of x g ≡ true → waits_of x g ≡ false
begun_unwaited x g e = by_both (is_resetting x.mode) (x.asked == g) (x.reading && is_none x.machine) e
  where
    by_both : (a c d : Bool) → (a && c) ≡ true → ((a && not c) && d) ≡ false
    by_both true true d e = refl
    by_both true false d e = absurd (cc)
    by_both false c d e = absurd (cc)

module _ (w : World) (h : History) (b : Before w h) (s : StartsStand w) (l : HandshakesStand w) (t : TalkOn (queues_of w) w h.door.talk h.door.reading h.door.asked) where
  k : Clock w h
  k = b.facts.clock

  abbrev A : Ioc
  A = written_ahead w.ioc (down_line w)

  all_queues : ioc_queue_count (written_ahead w.ioc (down_line w)) ≡ queues_of w
  all_queues = ap length (ahead_up w.ioc (down_line w)) ∙ (b.facts.flights.sizes.outboxes ∙ by_host.counted w h b s l)

  talks : IsTalk (queues_of w) (talk_with h.door.talk w.host.out)
  talks = talks-on (queues_of w) h.door.asked h.door.talk w.host.out t.go_on t.begun

  -- without a machine it is over, but where a reset waits
  pub idle_over : w.host.machine ≡ None → waits_to_reset w ≡ false → is_over (talk_with h.door.talk w.host.out) ≡ true
  idle_over n u = t.over (ap (ask_of_stage (queues_of w)) (b.facts.doorbell.stage.none n u)) u

  no_reads : w.host.reading ≡ false → how_many is_read w.host.out ≡ 0
  unfolding read_count value_count
  no_reads r = let o = k.one_read.one in let z : one_if w.host.reading ≡ 0 = ap one_if r in let a = how_many-append is_read w.down w.host.out in omega (arith, o, z, a)

  -- ---- a value is taken

  module _ (v : ℕ) (rest : List Up) (front : up_on w 0 ≡ upward.Value v ∷ rest) where
    reading_now : w.host.reading ≡ true
    unfolding read_count value_count
    reading_now = by_reading w.host.reading refl
      where
        by_reading : (c : Bool) → w.host.reading ≡ c → c ≡ true
        by_reading true r = refl
        by_reading false r = let o = k.one_read.one in let z : one_if w.host.reading ≡ 0 = ap one_if r in let n = at.one_value w h b v rest front in absurd (omega (arith, o, z, n))

    line_unread : how_many is_read (down_line w) ≡ 0
    unfolding read_count value_count
    line_unread = let o = k.one_read.one in let z : one_if w.host.reading ≡ 1 = ap one_if reading_now in let n = at.one_value w h b v rest front in omega (arith, o, z, n)

    line_quiet : how_many is_register_write (down_line w) ≡ 0
    unfolding read_count register_write_count
    line_quiet = k.writes_before_read.gone reading_now line_unread

    pub out_quiet : how_many is_register_write w.host.out ≡ 0
    out_quiet = let z = line_quiet in let a = how_many-append is_register_write w.down w.host.out in omega (arith, z, a)

    pub out_unread : how_many is_read w.host.out ≡ 0
    out_unread = let z = line_unread in let a = how_many-append is_read w.down w.host.out in omega (arith, z, a)

    -- the rule's talk is the host's
    pub still : (c : Talk) → talk_with c w.host.out ≡ c
    still c = talk-quiet c w.host.out out_quiet

    awaited : or_put (first_read w.host.out) h.door.reading ≡ h.door.reading
    awaited = ap (λ o. or_put o h.door.reading) (no_read_first w.host.out out_unread)

    -- out of which a reset that waited goes on
    pub late_talk : waits_to_reset w ≡ true → IsTalk (queues_of w) (value_heard h.door.talk h.door.reading v)
    unfolding first_value
    late_talk n =
        subst (λ c. IsTalk (queues_of w) (value_heard c h.door.reading v)) (still h.door.talk)
        (subst (λ r. IsTalk (queues_of w) (value_heard (talk_with h.door.talk w.host.out) r v)) awaited
        (subst (λ o. IsTalk (queues_of w) (value_heard (talk_with h.door.talk w.host.out) (or_put (first_read w.host.out) h.door.reading) (given o (door_ahead w)))) coming (t.late n)))
      where
        coming : value_coming w ≡ Some v
        coming = ap (λ xs. first_value (map said_of xs ++ get_or w.ioc.up 0 [])) front

  -- ---- a turn

  pub record TurnTalks (d : HostDoor) (v : ℕ) : Type 0 where
    pub talk : IsTalk (queues_of w) (value_heard h.door.talk h.door.reading v)
    pub goes : (m : ℕ) → TalkGoesOn (queues_of w) m (value_heard h.door.talk h.door.reading v) (next_turn d (Some v)).writes
    pub said : (reg : ℕ) → (next_turn d (Some v)).step ≡ step.Read reg → (a : HostAsk) → ask_of_stage (queues_of w) w.host.stage ≡ Some a → SaidAt a (next_turn d (Some v)).door (talk_with (value_heard h.door.talk h.door.reading v) (next_turn d (Some v)).writes) (awaits (next_turn d (Some v)).door.stage)
    pub over : ask_of_stage (queues_of w) w.host.stage ≡ None → is_over (talk_with (value_heard h.door.talk h.door.reading v) (next_turn d (Some v)).writes) ≡ true
    pub ended : IsOver (next_turn d (Some v)).step → is_over (talk_with (value_heard h.door.talk h.door.reading v) (next_turn d (Some v)).writes) ≡ true

  module _ (d : HostDoor) (y : Reading) (v : ℕ) (hv : HasValue w d y v) where
    register_is : h.door.reading ≡ Some (register_of y)
    register_is = sym (awaited v hv.rest hv.front) ∙ (t.register d hv.machine_is ∙ ap (λ z. register_awaited (awaits z)) hv.at)

    now : talk_with h.door.talk w.host.out ≡ h.door.talk
    now = still v hv.rest hv.front h.door.talk

    unasked : ask_of_stage (queues_of w) w.host.stage ≡ None → TurnTalks d v
    unasked e =
        let o = sym (ap is_over now) ∙ t.over e (unwaited w.host w.ioc.generation d hv.machine_is) in
        let same = heard-over h.door.talk h.door.reading v o in
        let f = fewer_pass is_doorbell_write is_bell_write bell_of_doorbell (next_turn d (Some v)).writes in
        let z = by_host.quiet w h b s l d y v hv w.host.stage e hv.reads_for in
        let g = λ (m : ℕ). goes-over (queues_of w) m (value_heard h.door.talk h.door.reading v) (next_turn d (Some v)).writes (omega (arith, f, z)) (ap is_over same ∙ o) (subst (IsTalk (queues_of w)) (sym same) t.begun) in
        record {
          talk = subst (IsTalk (queues_of w)) (sym same) t.begun;
          goes = λ m. (g m).0;
          said = λ reg r a c. no_ask a (sym e ∙ c);
          over = λ c. (g 0).1;
          ended = λ c. (g 0).1;
        }

    asked : (a : HostAsk) → ask_of_stage (queues_of w) w.host.stage ≡ Some a → TurnTalks d v
    asked a e = from_says says
      where
        starting : w.host.mode ≡ state.Starting
        starting = asked_starting w (queues_of w) w.host.stage a e hv.in_mode

        value_is : v ≡ register_value (door_ahead w) (register_of y)
        value_is = l.value d y v hv.machine_is (ap is_resetting starting) hv.at (value_comes w d y v hv)

        said_now : SaidAt a d h.door.talk (Some y)
        said_now = subst (λ z. SaidAt a d h.door.talk (awaits z)) hv.at (subst (λ c. SaidAt a d c (awaits d.stage)) now (t.said d a hv.machine_is e))

        says : TurnSays (queues_of w) a (value_heard h.door.talk h.door.reading v) (next_turn d (Some v))
        says =
            subst (λ r. TurnSays (queues_of w) a (value_heard h.door.talk r v) (next_turn d (Some v))) (sym register_is)
            (subst (TurnSays (queues_of w) a (value_heard h.door.talk (Some (register_of y)) v)) (sym (ap (TurnAt d v) hv.at))
            (turn_says (queues_of w) (by_host.few w h b s l) (by_host.some w h b s l) a (asks_for (queues_of w) w.host.stage a e) (written_ahead w.ioc (down_line w)) all_queues d v h.door.talk t.begun y value_is (l.stands d a y hv.machine_is e hv.at) said_now))

        same_ask : (c : HostAsk) → Some a ≡ Some c → a ≡ c
        same_ask c e = cc

        over_at : (z : DoorStep) → IsOver z → Says a (value_heard h.door.talk h.door.reading v) (next_turn d (Some v)) z → is_over (talk_with (value_heard h.door.talk h.door.reading v) (next_turn d (Some v)).writes) ≡ true
        over_at (step.Done count bytes) o p = p
        over_at (step.Read reg) o p = absurd o
        over_at (step.Write reg value) o p = absurd o
        over_at (step.Refused x value) o p = absurd o

        from_says : TurnSays (queues_of w) a (value_heard h.door.talk h.door.reading v) (next_turn d (Some v)) → TurnTalks d v
        from_says p =
            record {
              talk = p.talk;
              goes = p.goes;
              said = λ reg r c f.
                  subst (λ x. SaidAt x (next_turn d (Some v)).door (talk_with (value_heard h.door.talk h.door.reading v) (next_turn d (Some v)).writes) (awaits (next_turn d (Some v)).door.stage)) (same_ask c (sym e ∙ f))
                  (subst (Says a (value_heard h.door.talk h.door.reading v) (next_turn d (Some v))) r p.says);
              over = λ c. ask_none a (sym e ∙ c);
              ended = λ o. over_at (next_turn d (Some v)).step o p.says;
            }

    pub turn_talks : TurnTalks d v
    turn_talks = by_ask (ask_of_stage (queues_of w) w.host.stage) refl
      where
        by_ask : (o : Option HostAsk) → ask_of_stage (queues_of w) w.host.stage ≡ o → TurnTalks d v
        by_ask None e = unasked e
        by_ask (Some a) e = asked a e

  -- ---- the host behind a call, with the rule's state

  module _ (m : ℕ) where
    abbrev Goal : Host → ℕ → Talk → Option ℕ → Type 0
    Goal x v c r = TalkHolds (queues_of w) x w.ioc.generation v c r m

    abbrev pub Counts : Host → Type 0
    Counts x = (is_resetting x.mode ≡ true → 1 ≤ m) × (is_resetting x.mode ≡ false → m ≡ 0)

    -- a machine that reads
    manned : (x : Host) (d : HostDoor) (reg : ℕ) (out : List Down) (v : ℕ) (c : Talk) (r : Option ℕ) → x.machine ≡ Some d → x.out ≡ out ++ down.Read reg ∷ [] → register_awaited (awaits d.stage) ≡ Some reg → how_many is_read out ≡ 0
        → IsTalk (queues_of w) c → TalkGoesOn (queues_of w) m c out → ((a : HostAsk) → ask_of_stage (queues_of w) x.stage ≡ Some a → SaidAt a d (talk_with c out) (awaits d.stage)) → (ask_of_stage (queues_of w) x.stage ≡ None → is_over (talk_with c out) ≡ true) → Counts x → Goal x v c r
    manned x d reg out v c r mach is reg_is unread talk goes said over counts =
        record {
          reads = λ y z. absurd (read_one out reg (subst (λ xs. read_count xs ≡ 0) is z));
          register = λ e n.
              ap (λ xs. or_put (first_read xs) r) is ∙ (ap (λ o. or_put o r) (first_of_read out reg unread) ∙ (sym reg_is ∙ ap (λ (z : HostDoor). register_awaited (awaits z.stage)) (some_door d e (sym mach ∙ n))));
          begun = talk;
          said = λ e a n f.
              let q = some_door d e (sym mach ∙ n) in
              subst (λ (z : HostDoor). SaidAt a z (talk_with c x.out) (awaits z.stage)) q (subst (λ u. SaidAt a d u (awaits d.stage)) (sym same) (said a f));
          over = λ f u. ap is_over same ∙ over f;
          late = λ u. contrary _ (unwaited x w.ioc.generation d mach) u;
          unit = λ u z. contrary _ (unwaited x w.ioc.generation d mach) u;
          asked = counts.0;
          none_asked = counts.1;
          go_on = subst (TalkGoesOn (queues_of w) m c) (sym is) (goes-append (queues_of w) m c out (down.Read reg ∷ []) goes tt);
          quiet = λ n u. door_none d (sym mach ∙ n);
        }
      where
        same : talk_with c x.out ≡ talk_with c out
        same = ap (talk_with c) is ∙ talk_read c out reg

    -- none, and none is waited for
    unmanned : (x : Host) (v : ℕ) (c : Talk) (r : Option ℕ) → x.machine ≡ None → waits_of x w.ioc.generation ≡ false → (x.reading ≡ true → read_count x.out ≡ 0 → is_some r ≡ true) → IsTalk (queues_of w) c → TalkGoesOn (queues_of w) m c x.out
        → is_over (talk_with c x.out) ≡ true → (begun_of x w.ioc.generation ≡ true → how_many is_register_write x.out ≡ 0) → Counts x → Goal x v c r
    unmanned x v c r none u reads talk goes over quiet counts =
        record {
          reads = reads;
          register = λ e n. no_door e (sym none ∙ n);
          begun = talk;
          said = λ e a n f. no_door e (sym none ∙ n);
          over = λ f z. over;
          late = λ z. contrary _ u z;
          unit = λ z y. contrary _ u z;
          asked = counts.0;
          none_asked = counts.1;
          go_on = goes;
          quiet = λ n z. quiet z;
        }

    -- ---- a machine begins

    begun : (x base : Host) (z : Stage) (d : HostDoor) (kd : Kind) (g : Begun d kd) (v : ℕ) (c : Talk) (r : Option ℕ) → x ≡ door.begins base z d → how_many is_read base.out ≡ 0 → IsTalk (queues_of w) c → TalkGoesOn (queues_of w) m c (base.out ++ (next_turn d None).writes)
        → ((a : HostAsk) → ask_of_stage (queues_of w) z ≡ Some a → SaidAt a (next_turn d None).door (talk_with c (base.out ++ (next_turn d None).writes)) (awaits (next_turn d None).door.stage))
        → (ask_of_stage (queues_of w) z ≡ None → is_over (talk_with c (base.out ++ (next_turn d None).writes)) ≡ true) → Counts base → Goal x v c r
    begun x base z d kd g v c r f unread talk goes said over counts =
        subst (λ (y : Host). Goal y v c r) (sym (f ∙ begins_is base z d kd g))
        (manned (door.puts_read (door.puts_writes (record base { stage = z }) (next_turn d None).writes) (next_turn d None).door g.reg) (next_turn d None).door g.reg (base.out ++ (next_turn d None).writes) v c r refl refl
        (ap (λ s. register_awaited (awaits s)) fits.at ∙ ap (λ n. let o : Option ℕ = Some n in o) fits.register)
        (let a = how_many-append is_read base.out (next_turn d None).writes in let n = writes_no_reads 8 (next_step d None).door (next_step d None).step in omega (arith, a, n, unread))
        talk goes said over counts)
      where
        fits : WaitsFor kd (next_turn d None).door.stage g.reg
        fits = subst (StepFits kd (next_turn d None).door.stage) g.step_is g.fits

    -- with keys, where the talk is over or a reset was asked
    begun_over : (x base : Host) (z : Stage) (d : HostDoor) (kd : Kind) (g : Begun d kd) (v : ℕ) (c : Talk) (r : Option ℕ) → x ≡ door.begins base z d → how_many is_read base.out ≡ 0 → IsTalk (queues_of w) c → TalkGoesOn (queues_of w) m c base.out
        → how_many is_doorbell_write (next_turn d None).writes ≡ 0 → is_over (talk_with c base.out) ≡ true → ask_of_stage (queues_of w) z ≡ None → Counts base → Goal x v c r
    begun_over x base z d kd g v c r f unread talk goes none over unasked counts =
        let p = goes-over (queues_of w) m (talk_with c base.out) (next_turn d None).writes none over (talks-on (queues_of w) m c base.out goes talk) in
        begun x base z d kd g v c r f unread talk (goes-append (queues_of w) m c base.out (next_turn d None).writes goes p.0) (λ a e. no_ask a (sym unasked ∙ e))
        (λ e. ap is_over (talk-append c base.out (next_turn d None).writes) ∙ p.1) counts

    begun_unit : (x base : Host) (kd : Kind) (g : Begun unit_reset kd) (v : ℕ) (c : Talk) (r : Option ℕ) → x ≡ door.begins base stage.UnitReset unit_reset → how_many is_read base.out ≡ 0 → IsTalk (queues_of w) c → TalkGoesOn (queues_of w) m c base.out → is_over (talk_with c base.out) ≡ true → Counts base → Goal x v c r
    begun_unit x base kd g v c r f unread talk goes over counts =
        let p = goes-unit (queues_of w) m (talk_with c base.out) over in
        begun x base stage.UnitReset unit_reset kd g v c r f unread talk (subst (λ ws. TalkGoesOn (queues_of w) m c (base.out ++ ws)) (sym unit_is) (goes-append (queues_of w) m c base.out (down.Write DOORBELL unit_reset_dword ∷ []) goes p.0)) (λ a e. absurd (cc))
        (λ e. ap (λ ws. is_over (talk_with c (base.out ++ ws))) unit_is ∙ (ap is_over (talk-append c base.out (down.Write DOORBELL unit_reset_dword ∷ [])) ∙ p.1)) counts

    begun_talk : (x base : Host) (z : Stage) (a : HostAsk) (kd : Kind) (g : Begun (asks_with a) kd) (v : ℕ) (c : Talk) (r : Option ℕ) → x ≡ door.begins base z (asks_with a) → how_many is_read base.out ≡ 0 → IsTalk (queues_of w) c → TalkGoesOn (queues_of w) m c base.out → is_over (talk_with c base.out) ≡ true → Counts base → Goal x v c r
    begun_talk x base z a kd g v c r f unread talk goes over counts =
        begun x base z (asks_with a) kd g v c r f unread talk (subst (TalkGoesOn (queues_of w) m c) (sym same) goes)
        (λ e n. subst (λ (u : DoorTurn). SaidAt e u.door (talk_with c (base.out ++ (next_turn (asks_with a) None).writes)) (awaits u.door.stage)) (sym (talk_turn (asked_bytes a))) (ap (λ xs. is_over (talk_with c xs)) same ∙ over))
        (λ e. ap (λ xs. is_over (talk_with c xs)) same ∙ over) counts
      where
        same : base.out ++ (next_turn (asks_with a) None).writes ≡ base.out
        same = ap (λ (u : DoorTurn). base.out ++ u.writes) (talk_turn (asked_bytes a)) ∙ append-nil base.out

    -- ---- the outbox behind a turn

    module _ (d : HostDoor) (y : Reading) (v : ℕ) (hv : HasValue w d y v) where
      out_goes : TalkGoesOn (queues_of w) m (value_heard h.door.talk h.door.reading v) (w.host.out ++ (next_turn d (Some v)).writes)
      out_goes =
          let p = turn_talks d y v hv in
          goes-append (queues_of w) m (value_heard h.door.talk h.door.reading v) w.host.out (next_turn d (Some v)).writes (goes-quiet (queues_of w) m (value_heard h.door.talk h.door.reading v) w.host.out (out_quiet v hv.rest hv.front) p.talk)
          (subst (λ c. TalkGoesOn (queues_of w) m c (next_turn d (Some v)).writes) (sym (still v hv.rest hv.front (value_heard h.door.talk h.door.reading v))) (p.goes m))

      out_talk : talk_with (value_heard h.door.talk h.door.reading v) (w.host.out ++ (next_turn d (Some v)).writes) ≡ talk_with (value_heard h.door.talk h.door.reading v) (next_turn d (Some v)).writes
      out_talk = talk-append (value_heard h.door.talk h.door.reading v) w.host.out (next_turn d (Some v)).writes ∙ ap (λ c. talk_with c (next_turn d (Some v)).writes) (still v hv.rest hv.front (value_heard h.door.talk h.door.reading v))

      out_reads : how_many is_read (w.host.out ++ (next_turn d (Some v)).writes) ≡ 0
      out_reads =
          let a = how_many-append is_read w.host.out (next_turn d (Some v)).writes in let z = out_unread v hv.rest hv.front in
          let n = writes_no_reads 8 (next_step d (Some v)).door (next_step d (Some v)).step in omega (arith, a, z, n)

    -- what a call leaves that doesn't end a reset
    more_of : (x : Host) → (is_resetting w.host.mode ≡ true → is_resetting x.mode ≡ true) → Counts x → 0 < h.door.asked → 0 < m
    more_of x f counts l = by_mode (is_resetting w.host.mode) refl
      where
        by_mode : (c : Bool) → is_resetting w.host.mode ≡ c → 0 < m
        by_mode true e = counts.0 (f e)
        by_mode false e = let z = t.none_asked e in absurd (omega (arith, z, l))

    goes_still : (x : Host) → (is_resetting w.host.mode ≡ true → is_resetting x.mode ≡ true) → Counts x → TalkGoesOn (queues_of w) m h.door.talk w.host.out
    goes_still x f counts = goes-more (queues_of w) h.door.asked m (more_of x f counts) h.door.talk w.host.out t.go_on

    -- ---- each beginning

    begins : (x base : Host) (z : Stage) (d : HostDoor) (tk : Bool) (q : Beginning w base z d tk) → x ≡ door.begins base z d → (v u : ℕ) → Counts base
        → (tk ≡ false → Goal x v h.door.talk h.door.reading) × (tk ≡ true → (rest : List Up) → up_on w 0 ≡ upward.Value u ∷ rest → Goal x v (value_heard h.door.talk h.door.reading u) None)
    begins x base z d tk q f v u counts = (λ e. plainly base z d tk q e f counts, λ e rest front. valued base z d tk q e rest front f counts)
      where
        same_value : (a c : ℕ) (xs ys : List Up) → upward.Value a ∷ xs ≡ upward.Value c ∷ ys → a ≡ c
        same_value a c xs ys e = cc

        plainly : (base : Host) (z : Stage) (d : HostDoor) (tk : Bool) (q : Beginning w base z d tk) → tk ≡ false → x ≡ door.begins base z d → Counts base → Goal x v h.door.talk h.door.reading
        plainly _ _ _ _ (FromOff p) e f counts =
            let q : Beginning w (record w.host { mode = state.Starting }) stage.Start look_at_doorbell false = FromOff p in let g = base_begun q in
            let n = by_host.off_unmanned w h b s l p in let wt = by_host.no_waits w h b s l (ap is_resetting p) in
            begun_over x (record w.host { mode = state.Starting }) stage.Start look_at_doorbell g.0 g.1 v h.door.talk h.door.reading f (no_reads (off_unread w.host.reading refl p)) t.begun
            (goes_still (record w.host { mode = state.Starting }) (λ r. absurd (contrary (is_resetting w.host.mode) (ap is_resetting p) r)) counts) look_doorless (idle_over n wt) refl counts
          where
            off_unread : (c : Bool) → w.host.reading ≡ c → w.host.mode ≡ state.Off → c ≡ false
            off_unread true r p = absurd (not_reading w h b (ap is_off p) r)
            off_unread false r p = refl
        plainly _ _ _ _ (Free p r) e f counts =
            let q : Beginning w w.host stage.Look look_at_doorbell false = Free p r in let g = base_begun q in
            begun_over x w.host stage.Look look_at_doorbell g.0 g.1 v h.door.talk h.door.reading f (no_reads r) t.begun (goes_still w.host (λ y. y) counts) look_doorless
            (idle_over (by_host.unread_machine w h b s l r) (by_host.no_waits w h b s l (ap is_resetting p))) refl counts
        plainly _ _ _ _ (Asked z d Diagnostic p r) e f counts =
            let q : Beginning w (resets.gives_up w.host stage.DiagnosticReset) stage.DiagnosticReset diagnostic_reset false = Asked stage.DiagnosticReset diagnostic_reset Diagnostic p r in let g = base_begun q in
            begun_over x (resets.gives_up w.host stage.DiagnosticReset) stage.DiagnosticReset diagnostic_reset g.0 g.1 v h.door.talk h.door.reading f (filter_keeps is_read resets.is_no_post read_no_post w.host.out ∙ no_reads r) t.begun
            (goes-filter (queues_of w) m h.door.talk w.host.out (goes_still (resets.gives_up w.host stage.DiagnosticReset) (λ y. refl) counts)) keys_doorless
            (ap is_over (talk-filter h.door.talk w.host.out) ∙ idle_over (by_host.unread_machine w h b s l r) (by_host.no_waits w h b s l p)) refl counts
        plainly _ _ _ _ (Asked z d MessageUnit p r) e f counts =
            let q : Beginning w (resets.gives_up w.host stage.UnitReset) stage.UnitReset unit_reset false = Asked stage.UnitReset unit_reset MessageUnit p r in let g = base_begun q in
            begun_unit x (resets.gives_up w.host stage.UnitReset) g.0 g.1 v h.door.talk h.door.reading f (filter_keeps is_read resets.is_no_post read_no_post w.host.out ∙ no_reads r) t.begun
            (goes-filter (queues_of w) m h.door.talk w.host.out (goes_still (resets.gives_up w.host stage.UnitReset) (λ y. refl) counts))
            (ap is_over (talk-filter h.door.talk w.host.out) ∙ idle_over (by_host.unread_machine w h b s l r) (by_host.no_waits w h b s l p)) counts
        plainly _ _ _ _ (Late z d c a n y i items fr r) e f counts = absurd (cc)
        plainly _ _ _ _ (Marked queue p r) e f counts =
            let q : Beginning w (resets.renewed (record w.host { marks = slice_set w.host.marks queue true })) stage.Facts (asks_with ask.Facts) false = Marked queue p r in let g = base_begun q in
            let rd = k.value_is_last.ready r in let bg = (and_false (in_begun w) (is_ready (state_of w.ioc)) rd.linked).0 in let n = b.facts.doorbell.stage.off r in
            begun_talk x (resets.renewed (record w.host { marks = slice_set w.host.marks queue true })) stage.Facts ask.Facts g.0 g.1 v h.door.talk h.door.reading f (no_reads rd.reading) t.begun
            (goes-quiet (queues_of w) m h.door.talk w.host.out (t.quiet n bg) t.begun) (idle_over n (begun_unwaited w.host w.ioc.generation bg)) counts
        plainly _ _ _ _ (Renewed d y i hv c a) e f counts = absurd (cc)
        plainly _ _ _ _ (Next d y i hv c z a g) e f counts = absurd (cc)

        valued : (base : Host) (z : Stage) (d : HostDoor) (tk : Bool) (q : Beginning w base z d tk) → tk ≡ true → (rest : List Up) → up_on w 0 ≡ upward.Value u ∷ rest → x ≡ door.begins base z d → Counts base → Goal x v (value_heard h.door.talk h.door.reading u) None
        valued _ _ _ _ (FromOff p) e rest front f counts = absurd (cc)
        valued _ _ _ _ (Free p r) e rest front f counts = absurd (cc)
        valued _ _ _ _ (Asked z d c p r) e rest front f counts = absurd (cc)
        valued _ _ _ _ (Marked queue p r) e rest front f counts = absurd (cc)
        valued _ _ _ _ (Late z d Diagnostic a n y i items fr r) e rest front f counts =
            let q : Beginning w (record w.host { reading = false }) stage.DiagnosticReset diagnostic_reset true = Late stage.DiagnosticReset diagnostic_reset Diagnostic a n y i items fr r in let g = base_begun q in
            let talk = late_talk u rest front y in
            let kw = keyed in
            let c : Talk = value_heard h.door.talk h.door.reading u in
            let on : TalkGoesOn (queues_of w) m c w.host.out = goes-quiet (queues_of w) m c w.host.out (out_quiet u rest front) talk in
            let p = goes-cut (queues_of w) m (talk_with c w.host.out) kw.value kw.rest (counts.0 (resetting y)) kw.doorless in
            begun x (record w.host { reading = false }) stage.DiagnosticReset diagnostic_reset g.0 g.1 v c None f (out_unread u rest front) talk
            (goes-append (queues_of w) m c w.host.out (next_turn diagnostic_reset None).writes on (subst (TalkGoesOn (queues_of w) m (talk_with c w.host.out)) (sym kw.is) p.0)) (λ o j. absurd (cc))
            (λ j. ap is_over (talk-append c w.host.out (next_turn diagnostic_reset None).writes) ∙ (ap (λ ws. is_over (talk_with (talk_with c w.host.out) ws)) kw.is ∙ p.1)) counts
          where
            resetting : waits_to_reset w ≡ true → is_resetting w.host.mode ≡ true
            resetting y = (and_false _ _ (and_false _ _ y).0).0
        valued _ _ _ _ (Late z d MessageUnit a n y i items fr r) e rest front f counts =
            let q : Beginning w (record w.host { reading = false }) stage.UnitReset unit_reset true = Late stage.UnitReset unit_reset MessageUnit a n y i items fr r in let g = base_begun q in
            let talk = late_talk u rest front y in
            let c : Talk = value_heard h.door.talk h.door.reading u in
            let over = sym (ap is_over (still u rest front h.door.talk)) ∙ t.unit y (ap is_diagnostic a) in
            begun_unit x (record w.host { reading = false }) g.0 g.1 v c None f (out_unread u rest front) talk (goes-quiet (queues_of w) m c w.host.out (out_quiet u rest front) talk)
            (ap is_over (still u rest front c ∙ heard-over h.door.talk h.door.reading u over) ∙ over) counts
        valued _ _ _ _ (Renewed d y i hv c a) e rest front f counts =
            let q : Beginning w (resets.renewed (record (at.over w d i) { door_ready = true })) stage.Facts (asks_with ask.Facts) true = Renewed d y i hv c a in let g = base_begun q in
            let p = turn_talks d y i hv in
            subst (λ n. Goal x v (value_heard h.door.talk h.door.reading n) None) (same_value i u hv.rest rest (sym hv.front ∙ front))
            (begun_talk x (resets.renewed (record (at.over w d i) { door_ready = true })) stage.Facts ask.Facts g.0 g.1 v (value_heard h.door.talk h.door.reading i) None f (out_reads d y i hv) p.talk (out_goes d y i hv) (ap is_over (out_talk d y i hv) ∙ p.ended c) counts)
        valued _ _ _ _ (Next d y i hv c z a j) e rest front f counts =
            let q : Beginning w (at.over w d i) z (asks_with a) true = Next d y i hv c z a j in let g = base_begun q in
            let p = turn_talks d y i hv in
            subst (λ n. Goal x v (value_heard h.door.talk h.door.reading n) None) (same_value i u hv.rest rest (sym hv.front ∙ front))
            (begun_talk x (at.over w d i) z a g.0 g.1 v (value_heard h.door.talk h.door.reading i) None f (out_reads d y i hv) p.talk (out_goes d y i hv) (ap is_over (out_talk d y i hv) ∙ p.ended c) counts)

    -- ---- a reset is asked while a value is awaited

    module _ (z : Stage) (rs : is_reset_stage z ≡ true) (r : is_resetting w.host.mode ≡ false) (reading_is : w.host.reading ≡ true) (up : z ≡ stage.UnitReset → w.host.mode ≡ state.Up) (v : ℕ) (bell : v ≡ given (value_coming w) (door_ahead w)) where
      given_over : is_over (talk_with h.door.talk w.host.out) ≡ true → IsTalk (queues_of w) (value_heard (talk_with h.door.talk w.host.out) (or_put (first_read w.host.out) h.door.reading) v)
      given_over o = subst (IsTalk (queues_of w)) (sym (heard-over (talk_with h.door.talk w.host.out) (or_put (first_read w.host.out) h.door.reading) v o)) talks

      by_said : (d : HostDoor) (a : HostAsk) (y : Reading) → w.host.machine ≡ Some d → ask_of_stage (queues_of w) w.host.stage ≡ Some a → d.stage ≡ door_stage.Awaits y → SaidAt a d (talk_with h.door.talk w.host.out) (Some y) → ShakesAt (queues_of w) a d (door_ahead w) y
          → IsTalk (queues_of w) (value_heard (talk_with h.door.talk w.host.out) (Some (register_of y)) v)
      by_said d a reading.Used mach e at p sh = subst (IsTalk (queues_of w)) (sym (heard-over (talk_with h.door.talk w.host.out) (Some DOORBELL) v p)) talks
      by_said d a reading.LeftOver mach e at p sh = talks
      by_said d a reading.Opened mach e at p sh = talks
      by_said d a reading.Taken mach e at p sh = talks
      by_said d a reading.News mach e at p sh = talks
      by_said d a reading.Word mach e at p sh =
          (turn_says (queues_of w) (by_host.few w h b s l) (by_host.some w h b s l) a (asks_for (queues_of w) w.host.stage a e) (written_ahead w.ioc (down_line w)) all_queues d v (talk_with h.door.talk w.host.out) talks reading.Word (bell ∙ reads (value_coming w) refl) sh p).talk
        where
          reads : (o : Option ℕ) → value_coming w ≡ o → given o (door_ahead w) ≡ register_value (door_ahead w) DOORBELL
          reads None c = refl
          reads (Some u) c = l.value d reading.Word u mach r at c
      by_said d a reading.Unlocked mach e at p sh = absurd sh
      by_said d a reading.ResetOver mach e at p sh = absurd sh
      by_said d a (reading.State c) mach e at p sh = absurd sh
      by_said d a reading.UnitReset mach e at p sh = absurd sh
      by_said d a reading.Doorbell mach e at p sh = absurd sh

      by_ask : (d : HostDoor) (y : Reading) → w.host.machine ≡ Some d → d.stage ≡ door_stage.Awaits y → (o : Option HostAsk) → ask_of_stage (queues_of w) w.host.stage ≡ o → IsTalk (queues_of w) (value_heard (talk_with h.door.talk w.host.out) (or_put (first_read w.host.out) h.door.reading) v)
      by_ask d y mach at None e = given_over (t.over e (unwaited w.host w.ioc.generation d mach))
      by_ask d y mach at (Some a) e =
          subst (λ q. IsTalk (queues_of w) (value_heard (talk_with h.door.talk w.host.out) q v)) (sym (t.register d mach ∙ ap (λ q. register_awaited (awaits q)) at))
          (by_said d a y mach e at (subst (λ q. SaidAt a d (talk_with h.door.talk w.host.out) (awaits q)) at (t.said d a mach e)) (l.stands d a y mach e at))

      by_wait : (d : HostDoor) → w.host.machine ≡ Some d → (q : DoorStage) → d.stage ≡ q → WaitsAt w q → IsTalk (queues_of w) (value_heard (talk_with h.door.talk w.host.out) (or_put (first_read w.host.out) h.door.reading) v)
      by_wait d mach (door_stage.Awaits y) at a = by_ask d y mach at (ask_of_stage (queues_of w) w.host.stage) refl
      by_wait d mach (door_stage.Reads y) at a = absurd a
      by_wait d mach door_stage.Opens at a = absurd a
      by_wait d mach (door_stage.WritesKey y) at a = absurd a
      by_wait d mach door_stage.Locks at a = absurd a
      by_wait d mach door_stage.ResetsUnit at a = absurd a
      by_wait d mach door_stage.Finishes at a = absurd a
      by_wait d mach door_stage.Ended at a = absurd a

      unreset : waits_to_reset w ≡ false
      unreset = by_host.no_waits w h b s l r

      given_late : IsTalk (queues_of w) (value_heard (talk_with h.door.talk w.host.out) (or_put (first_read w.host.out) h.door.reading) v)
      given_late = by_machine w.host.machine refl
        where
          by_machine : (o : Option HostDoor) → w.host.machine ≡ o → IsTalk (queues_of w) (value_heard (talk_with h.door.talk w.host.out) (or_put (first_read w.host.out) h.door.reading) v)
          by_machine None e = given_over (idle_over e unreset)
          by_machine (Some d) e = by_wait d e d.stage refl (b.facts.doorbell.stage.machine d e)

      -- a host that is up has no handshake
      up_over : w.host.mode ≡ state.Up → is_over (talk_with h.door.talk w.host.out) ≡ true
      up_over e = t.over (by_none w.host.machine refl) unreset
        where
          never : {T : Type 0} → state.Up ≡ state.Starting → T
          never e = absurd (cc)

          not_starting : (q : Stage) (c : HostAsk) → ask_of_stage (queues_of w) q ≡ Some c → IsInMode w q → ⊥
          not_starting q c f i = never (sym e ∙ asked_starting w (queues_of w) q c f i)

          in_mode : (q : DoorStage) → WaitsAt w q → IsInMode w w.host.stage
          in_mode (door_stage.Awaits y) a = a.1
          in_mode (door_stage.Reads y) a = absurd a
          in_mode door_stage.Opens a = absurd a
          in_mode (door_stage.WritesKey y) a = absurd a
          in_mode door_stage.Locks a = absurd a
          in_mode door_stage.ResetsUnit a = absurd a
          in_mode door_stage.Finishes a = absurd a
          in_mode door_stage.Ended a = absurd a

          no_ask_up : (d : HostDoor) → w.host.machine ≡ Some d → (o : Option HostAsk) → ask_of_stage (queues_of w) w.host.stage ≡ o → o ≡ None
          no_ask_up d mach None f = refl
          no_ask_up d mach (Some c) f = absurd (not_starting w.host.stage c f (in_mode d.stage (b.facts.doorbell.stage.machine d mach)))

          by_none : (o : Option HostDoor) → w.host.machine ≡ o → ask_of_stage (queues_of w) w.host.stage ≡ None
          by_none None f = ap (ask_of_stage (queues_of w)) (b.facts.doorbell.stage.none f unreset)
          by_none (Some d) f = no_ask_up d f (ask_of_stage (queues_of w) w.host.stage) refl

      gives_up : Counts (resets.gives_up w.host z) → Goal (resets.gives_up w.host z) v h.door.talk h.door.reading
      gives_up counts =
          record {
            reads = λ e n. t.reads reading_is (let a = count_read w.host.out in let c = count_read (filter resets.is_no_post w.host.out) in let f = filter_keeps is_read resets.is_no_post read_no_post w.host.out in omega (arith, a, c, f, n));
            register = λ d e. no_door d e;
            begun = t.begun;
            said = λ d a e f. no_door d e;
            over = λ e u. contrary _ u waits;
            late = λ u.
                subst (λ c. IsTalk (queues_of w) (value_heard c (or_put (first_read (filter resets.is_no_post w.host.out)) h.door.reading) v)) (sym (talk-filter h.door.talk w.host.out))
                (subst (λ o. IsTalk (queues_of w) (value_heard (talk_with h.door.talk w.host.out) (or_put o h.door.reading) v)) (sym (first_filter w.host.out)) given_late);
            unit = λ u n. ap is_over (talk-filter h.door.talk w.host.out) ∙ up_over (up (is_unit_stage z rs n));
            asked = counts.0;
            none_asked = counts.1;
            go_on = goes-filter (queues_of w) m h.door.talk w.host.out (goes_still (resets.gives_up w.host z) (λ e. refl) counts);
            quiet = λ e u. contrary _ (by_host.level w h b s l r) u;
          }
        where
          waits : waits_of (resets.gives_up w.host z) w.ioc.generation ≡ true
          waits = ap (λ c. (true && not c) && (w.host.reading && true)) (by_host.level w h b s l r) ∙ ap (λ c. c && true) reading_is

          is_unit_stage : (q : Stage) → is_reset_stage q ≡ true → is_diagnostic q ≡ false → q ≡ stage.UnitReset
          is_unit_stage stage.UnitReset e n = refl
          is_unit_stage stage.DiagnosticReset e n = absurd (cc)
          is_unit_stage stage.Idle e n = absurd (cc)
          is_unit_stage stage.Start e n = absurd (cc)
          is_unit_stage stage.StartReset e n = absurd (cc)
          is_unit_stage stage.Facts e n = absurd (cc)
          is_unit_stage stage.PortFacts e n = absurd (cc)
          is_unit_stage stage.Init e n = absurd (cc)
          is_unit_stage stage.Look e n = absurd (cc)

    -- ---- nothing of the machine moves

    keeps : (x : Host) → at.KeepsDoor w x → (v : ℕ) → v ≡ given (value_coming w) (door_ahead w) → Counts x → Goal x v h.door.talk h.door.reading
    keeps x q v bell counts =
        record {
          reads = λ e z. t.reads (sym q.reading_is ∙ e) (let a = count_read w.host.out in let c = count_read x.out in let f = grown-count is_plain is_read w.host.out x.out plain_unread q.grows in omega (arith, a, c, f, z));
          register = λ d e. ap (λ o. or_put o h.door.reading) first ∙ t.register d (sym q.machine_is ∙ e);
          begun = t.begun;
          said = λ d a e f. subst (λ c. SaidAt a d c (awaits d.stage)) (sym same) (t.said d a (sym q.machine_is ∙ e) (ap (ask_of_stage (queues_of w)) (sym q.stage_is) ∙ f));
          over = λ e u. ap is_over same ∙ t.over (ap (ask_of_stage (queues_of w)) (sym q.stage_is) ∙ e) (sym (waits q.mode_is) ∙ u);
          late = λ u.
              subst (λ n. IsTalk (queues_of w) (value_heard (talk_with h.door.talk x.out) (or_put (first_read x.out) h.door.reading) n)) (sym bell)
              (subst (λ c. IsTalk (queues_of w) (value_heard c (or_put (first_read x.out) h.door.reading) (given (value_coming w) (door_ahead w)))) (sym same)
              (subst (λ o. IsTalk (queues_of w) (value_heard (talk_with h.door.talk w.host.out) (or_put o h.door.reading) (given (value_coming w) (door_ahead w)))) (sym first) (t.late (sym (waits q.mode_is) ∙ u))));
          unit = λ u n. ap is_over same ∙ t.unit (sym (waits q.mode_is) ∙ u) (ap is_diagnostic (sym q.stage_is) ∙ n);
          asked = counts.0;
          none_asked = counts.1;
          go_on = subst (TalkGoesOn (queues_of w) m h.door.talk) (sym q.grows.is) (goes-append (queues_of w) m h.door.talk w.host.out q.grows.added on (goes-quiet (queues_of w) m (talk_with h.door.talk w.host.out) q.grows.added added_quiet (talks-on (queues_of w) m h.door.talk w.host.out on t.begun)));
          quiet = λ e u. grown-count is_plain is_register_write w.host.out x.out plain_quiet q.grows ∙ t.quiet (sym q.machine_is ∙ e) (begun_too q.mode_is u);
        }
      where
        resets_on : (x.mode ≡ w.host.mode) ⊎ ((is_resetting w.host.mode ≡ false) × (w.host.machine ≡ None) × (x.mode ≡ state.Up)) → is_resetting w.host.mode ≡ true → is_resetting x.mode ≡ true
        resets_on (inl e) r = ap is_resetting e ∙ r
        resets_on (inr e) r = contrary (is_resetting w.host.mode) e.0 r

        on : TalkGoesOn (queues_of w) m h.door.talk w.host.out
        on = goes_still x (resets_on q.mode_is) counts

        added_quiet : how_many is_register_write q.grows.added ≡ 0
        added_quiet = none_passes is_plain is_register_write plain_quiet q.grows.added q.grows.mild

        same : talk_with h.door.talk x.out ≡ talk_with h.door.talk w.host.out
        same = ap (talk_with h.door.talk) q.grows.is ∙ (talk-append h.door.talk w.host.out q.grows.added ∙ talk-quiet (talk_with h.door.talk w.host.out) q.grows.added added_quiet)

        first : first_read x.out ≡ first_read w.host.out
        first = ap first_read q.grows.is ∙ first_more w.host.out q.grows.added (none_passes is_plain is_read plain_unread q.grows.added q.grows.mild)

        waits : (x.mode ≡ w.host.mode) ⊎ ((is_resetting w.host.mode ≡ false) × (w.host.machine ≡ None) × (x.mode ≡ state.Up)) → waits_of x w.ioc.generation ≡ waits_to_reset w
        waits (inl e) =
            ap (λ c. (is_resetting c && not (x.asked == w.ioc.generation)) && (x.reading && is_none x.machine)) e
            ∙ (ap (λ n. (is_resetting w.host.mode && not (n == w.ioc.generation)) && (x.reading && is_none x.machine)) q.asked_is
            ∙ (ap (λ c. (is_resetting w.host.mode && not (w.host.asked == w.ioc.generation)) && (c && is_none x.machine)) q.reading_is
            ∙ ap (λ (o : Option HostDoor). (is_resetting w.host.mode && not (w.host.asked == w.ioc.generation)) && (w.host.reading && is_none o)) q.machine_is))
        waits (inr e) = unreset_unwaited x w.ioc.generation (ap is_resetting e.2) ∙ sym (by_host.no_waits w h b s l e.0)

        begun_too : (x.mode ≡ w.host.mode) ⊎ ((is_resetting w.host.mode ≡ false) × (w.host.machine ≡ None) × (x.mode ≡ state.Up)) → begun_of x w.ioc.generation ≡ true → in_begun w ≡ true
        begun_too (inl e) u = sym (ap (λ c. is_resetting c && (x.asked == w.ioc.generation)) e ∙ ap (λ n. is_resetting w.host.mode && (n == w.ioc.generation)) q.asked_is) ∙ u
        begun_too (inr e) u = contrary (is_resetting x.mode) (ap is_resetting e.2) (and_false _ _ u).0

    begin_counts : (x base : Host) (z : Stage) (d : HostDoor) (tk : Bool) → Beginning w base z d tk → x ≡ door.begins base z d → Counts x → Counts base
    begin_counts x base z d tk q f counts =
        let g = base_begun q in
        let e : x.mode ≡ base.mode = ap (λ (y : Host). y.mode) (f ∙ begins_is base z d g.0 g.1) in
        (λ r. counts.0 (ap is_resetting e ∙ r), λ r. counts.1 (ap is_resetting e ∙ r))

    -- ---- all calls

    same_front : (u v : ℕ) (xs ys : List Up) → upward.Value v ∷ xs ≡ upward.Value u ∷ ys → v ≡ u
    same_front u v xs ys e = cc

    -- with the value that was taken
    module _ (x : Host) (v u : ℕ) (rest : List Up) (front : up_on w 0 ≡ upward.Value u ∷ rest) (counts : Counts x) where
      abbrev Heard : Host → ℕ → Type 0
      Heard y n = Goal y v (value_heard h.door.talk h.door.reading n) None

      drops : w.host.machine ≡ None → waits_to_reset w ≡ false → x ≡ record w.host { reading = false } → Heard x u
      drops n a f = subst (λ (y : Host). Heard y u) (sym f) (unmanned (record w.host { reading = false }) v (value_heard h.door.talk h.door.reading u) None n (unread_unwaited (record w.host { reading = false }) w.ioc.generation refl) (λ e. absurd (cc)) talk (goes-quiet (queues_of w) m (value_heard h.door.talk h.door.reading u) w.host.out (out_quiet u rest front) talk)
          (ap is_over (still u rest front (value_heard h.door.talk h.door.reading u) ∙ same) ∙ over) (λ e. out_quiet u rest front) (subst Counts f counts))
        where
          over : is_over h.door.talk ≡ true
          over = sym (ap is_over (still u rest front h.door.talk)) ∙ idle_over n a

          same : value_heard h.door.talk h.door.reading u ≡ h.door.talk
          same = heard-over h.door.talk h.door.reading u over

          talk : IsTalk (queues_of w) (value_heard h.door.talk h.door.reading u)
          talk = subst (IsTalk (queues_of w)) (sym same) t.begun

      module _ (d : HostDoor) (y : Reading) (n : ℕ) (hv : HasValue w d y n) where
        is_value : n ≡ u
        is_value = same_front u n hv.rest rest (sym hv.front ∙ front)

        turned : (reg : ℕ) → (next_turn d (Some n)).step ≡ step.Read reg → x ≡ door.puts_turn (record w.host { reading = false }) (next_turn d (Some n)) → Heard x u
        turned reg e f =
            subst (Heard x) is_value
            (subst (λ (z : Host). Heard z n) (sym is)
            (manned (door.puts_read (door.puts_writes (record w.host { reading = false }) (next_turn d (Some n)).writes) (next_turn d (Some n)).door reg) (next_turn d (Some n)).door reg (w.host.out ++ (next_turn d (Some n)).writes) v (value_heard h.door.talk h.door.reading n) None refl refl awaited_is (out_reads d y n hv) p.talk (out_goes d y n hv)
            (λ a q. subst (λ c. SaidAt a (next_turn d (Some n)).door c (awaits (next_turn d (Some n)).door.stage)) (sym (out_talk d y n hv)) (p.said reg e a q))
            (λ q. ap is_over (out_talk d y n hv) ∙ p.over q) (subst Counts is counts)))
          where
            p : TurnTalks d n
            p = turn_talks d y n hv

            is : x ≡ door.puts_read (door.puts_writes (record w.host { reading = false }) (next_turn d (Some n)).writes) (next_turn d (Some n)).door reg
            is = f ∙ ap (door.puts_step (door.puts_writes (record w.host { reading = false }) (next_turn d (Some n)).writes) (next_turn d (Some n)).door) e

            fits : WaitsFor (kind_read y) (next_turn d (Some n)).door.stage reg
            fits = subst (StepFits (kind_read y) (next_turn d (Some n)).door.stage) e (value_turn d y n hv.at)

            awaited_is : register_awaited (awaits (next_turn d (Some n)).door.stage) ≡ Some reg
            awaited_is = ap (λ q. register_awaited (awaits q)) fits.at ∙ ap (λ q. let o : Option ℕ = Some q in o) fits.register

        -- the machine is over
        ended : (z : Host) → x ≡ z → z.machine ≡ None → z.reading ≡ false → z.out ≡ w.host.out ++ (next_turn d (Some n)).writes → IsOver (next_turn d (Some n)).step → (begun_of z w.ioc.generation ≡ true → how_many is_register_write (next_turn d (Some n)).writes ≡ 0) → Heard x u
        ended z f none unread is o quiet =
            subst (Heard x) is_value
            (subst (λ (y : Host). Heard y n) (sym f)
            (unmanned z v (value_heard h.door.talk h.door.reading n) None none (unread_unwaited z w.ioc.generation unread) (λ e. contrary z.reading unread e) p.talk (subst (TalkGoesOn (queues_of w) m (value_heard h.door.talk h.door.reading n)) (sym is) (out_goes d y n hv))
            (ap (λ xs. is_over (talk_with (value_heard h.door.talk h.door.reading n) xs)) is ∙ (ap is_over (out_talk d y n hv) ∙ p.ended o))
            (λ e. let a = how_many-append is_register_write w.host.out (next_turn d (Some n)).writes in let c = out_quiet n hv.rest hv.front in let g = quiet e in let q = ap (how_many is_register_write) is in omega (arith, a, c, g, q)) (subst Counts f counts)))
          where
            p : TurnTalks d n
            p = turn_talks d y n hv

        looked : w.host.stage ≡ stage.Look → IsOver (next_turn d (Some n)).step → x ≡ at.over w d n → Heard x u
        looked e o f = ended (at.over w d n) f refl refl refl o (λ g. contrary (is_resetting w.host.mode) (ap is_resetting (subst (IsInMode w) e hv.in_mode)) (and_false _ _ g).0)

        readied : is_reset_stage w.host.stage ≡ true → IsOver (next_turn d (Some n)).step → x ≡ record (at.over w d n) { door_ready = true } → Heard x u
        readied e o f = ended (record (at.over w d n) { door_ready = true }) f refl refl refl o (λ g. reset_over)
          where
            turn_is : (r : Reading) → y ≡ r → TurnAt d n (door_stage.Awaits r) ≡ next_turn d (Some n)
            turn_is r q = sym (ap (TurnAt d n) (hv.at ∙ ap door_stage.Awaits q))

            over_at : (r : Reading) → y ≡ r → IsOver (TurnAt d n (door_stage.Awaits r)).step
            over_at r q = subst (λ (c : DoorTurn). IsOver c.step) (sym (turn_is r q)) o

            state_at : (c : ResetKind) → y ≡ reading.State c → how_many is_register_write (next_turn d (Some n)).writes ≡ 0
            state_at c q = subst (λ (g : DoorTurn). how_many is_register_write g.writes ≡ 0) (turn_is (reading.State c) q) (state_unwritten d n c)

            by_stage : (z : Stage) → is_reset_stage z ≡ true → ReadsFor z y → how_many is_register_write (next_turn d (Some n)).writes ≡ 0
            by_stage stage.DiagnosticReset e (inl q) = absurd (unlocked_goes d n (over_at reading.Unlocked q))
            by_stage stage.DiagnosticReset e (inr (inl q)) = absurd (over_goes d n (over_at reading.ResetOver q))
            by_stage stage.DiagnosticReset e (inr (inr q)) = state_at _ q
            by_stage stage.UnitReset e (inl q) = absurd (unit_goes d n (over_at reading.UnitReset q))
            by_stage stage.UnitReset e (inr q) = state_at _ q
            by_stage stage.Idle e q = absurd q
            by_stage stage.StartReset e q = absurd q
            by_stage stage.Start e q = absurd (cc)
            by_stage stage.Look e q = absurd (cc)
            by_stage stage.Facts e q = absurd (cc)
            by_stage stage.PortFacts e q = absurd (cc)
            by_stage stage.Init e q = absurd (cc)

            reset_over : how_many is_register_write (next_turn d (Some n)).writes ≡ 0
            reset_over = by_stage w.host.stage e hv.reads_for

        -- behind IOC Init messages begin
        opened : w.host.stage ≡ stage.Init → IsOver (next_turn d (Some n)).step → Speaks is_spoken false (at.over w d n) x → Heard x u
        opened e o q =
            subst (Heard x) is_value
            (unmanned x v (value_heard h.door.talk h.door.reading n) None q.machine_is (unread_unwaited x w.ioc.generation q.reading_is) (λ z. contrary x.reading q.reading_is z) p.talk
            (subst (TalkGoesOn (queues_of w) m (value_heard h.door.talk h.door.reading n)) (sym q.grows.is)
            (goes-append (queues_of w) m (value_heard h.door.talk h.door.reading n) (w.host.out ++ (next_turn d (Some n)).writes) q.grows.added (out_goes d y n hv)
            (goes-quiet (queues_of w) m (talk_with (value_heard h.door.talk h.door.reading n) (w.host.out ++ (next_turn d (Some n)).writes)) q.grows.added added_quiet (talks-on (queues_of w) m (value_heard h.door.talk h.door.reading n) (w.host.out ++ (next_turn d (Some n)).writes) (out_goes d y n hv) p.talk))))
            (ap is_over same ∙ (ap is_over (out_talk d y n hv) ∙ p.ended o)) (λ z. contrary (is_resetting x.mode) (by_rise q.rises) (and_false _ _ z).0) counts)
          where
            p : TurnTalks d n
            p = turn_talks d y n hv

            added_quiet : how_many is_register_write q.grows.added ≡ 0
            added_quiet = none_passes is_spoken is_register_write (λ c z. plain_quiet c (spoken_plain c z)) q.grows.added q.grows.mild

            same : talk_with (value_heard h.door.talk h.door.reading n) x.out ≡ talk_with (value_heard h.door.talk h.door.reading n) (w.host.out ++ (next_turn d (Some n)).writes)
            same =
                ap (talk_with (value_heard h.door.talk h.door.reading n)) q.grows.is
                ∙ (talk-append (value_heard h.door.talk h.door.reading n) (w.host.out ++ (next_turn d (Some n)).writes) q.grows.added
                ∙ talk-quiet (talk_with (value_heard h.door.talk h.door.reading n) (w.host.out ++ (next_turn d (Some n)).writes)) q.grows.added added_quiet)

            by_rise : Rises false w.host.mode x.mode → is_resetting x.mode ≡ false
            by_rise (Stays c) = ap is_resetting (c ∙ subst (IsInMode w) e hv.in_mode)
            by_rise (ComesUp a c f) = absurd (cc)

    -- no value is taken
    pub plainly : (x : Host) (tk : Bool) → AtDoor w x tk → tk ≡ false → (v : ℕ) → (core (written_ahead w.ioc (w.down ++ x.out)).door ≡ core (door_ahead w) → v ≡ given (value_coming w) (door_ahead w)) → (x.stage ≡ stage.UnitReset → is_resetting w.host.mode ≡ false → w.host.mode ≡ state.Up) → Counts x → Goal x v h.door.talk h.door.reading
    plainly x tk (Keeps q) e v bell up counts = keeps x q v (bell alike) counts
      where
        alike : core (written_ahead w.ioc (w.down ++ x.out)).door ≡ core (written_ahead w.ioc (down_line w)).door
        alike =
            ap (λ o. core (written_ahead w.ioc (w.down ++ o)).door) q.grows.is
            ∙ (ap (λ xs. core (written_ahead w.ioc xs).door) (sym (append_assoc w.down w.host.out q.grows.added)) ∙ (ap (λ (i : Ioc). core i.door) (ahead-append w.ioc (down_line w) q.grows.added) ∙ (plain_alike A q.grows.added q.grows.mild).door))
    plainly x tk (GivesUp z rs r g f) e v bell up counts =
        subst (λ (y : Host). Goal y v h.door.talk h.door.reading) (sym f) (gives_up z rs r g (λ q. up (ap (λ (y : Host). y.stage) f ∙ q) r) v (bell alike) (subst Counts f counts))
      where
        given_up : written_ahead w.ioc (w.down ++ filter resets.is_no_post w.host.out) ≡ A
        given_up = ahead-append w.ioc w.down (filter resets.is_no_post w.host.out) ∙ (filtered_ahead (written_ahead w.ioc w.down) w.host.out ∙ sym (ahead-append w.ioc w.down w.host.out))

        alike : core (written_ahead w.ioc (w.down ++ x.out)).door ≡ core (written_ahead w.ioc (down_line w)).door
        alike = ap (λ (y : Host). core (written_ahead w.ioc (w.down ++ y.out)).door) f ∙ ap (λ (i : Ioc). core i.door) given_up
    plainly x tk (Drops n u i items g r f) e v bell up counts = absurd (cc)
    plainly x tk (Begins base z d t2 q f) e v bell up counts = (begins x base z d t2 q f v 0 (begin_counts x base z d t2 q f counts)).0 e
    plainly x tk (Turns d y n hv reg q f) e v bell up counts = absurd (cc)
    plainly x tk (Looked d y n hv o q f) e v bell up counts = absurd (cc)
    plainly x tk (Readied d y n hv o q f) e v bell up counts = absurd (cc)
    plainly x tk (Opened d y n hv o q f) e v bell up counts = absurd (cc)

    -- one is taken
    pub valued : (x : Host) (tk : Bool) → AtDoor w x tk → tk ≡ true → (v u : ℕ) (rest : List Up) → up_on w 0 ≡ upward.Value u ∷ rest → Counts x → Goal x v (value_heard h.door.talk h.door.reading u) None
    valued x tk (Keeps q) e v u rest front counts = absurd (cc)
    valued x tk (GivesUp z rs r g f) e v u rest front counts = absurd (cc)
    valued x tk (Drops n a i items g r f) e v u rest front counts = drops x v u rest front counts n a f
    valued x tk (Begins base z d t2 q f) e v u rest front counts = (begins x base z d t2 q f v u (begin_counts x base z d t2 q f counts)).1 e rest front
    valued x tk (Turns d y n hv reg q f) e v u rest front counts = turned x v u rest front counts d y n hv reg q f
    valued x tk (Looked d y n hv o q f) e v u rest front counts = looked x v u rest front counts d y n hv q o f
    valued x tk (Readied d y n hv o q f) e v u rest front counts = readied x v u rest front counts d y n hv q o f
    valued x tk (Opened d y n hv o q f) e v u rest front counts = opened x v u rest front counts d y n hv q o f
