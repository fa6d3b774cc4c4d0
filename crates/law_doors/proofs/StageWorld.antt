-- Each case keeps that the host's machine, what it is for, its mode and the read on its way go together: over the world.
use Rattle.std.proofs.Common.{◌≡◌, ℕ, zero, suc, ◌+◌, ◌*◌, ◌%◌, ◌^◌, ◌≤◌, ◌==◌, ◌&&◌, ◌||◌, ◌⊎◌, inl, inr, not, nat_lt, Bool, true, false, if◌then◌else◌, List, [], ◌∷◌, ◌++◌, append-nil, append_assoc, bit_and, get_or, length, map, set, slice_set, take, Option, Some, None, slice_index_or, is_none, is_some, refl, ap, sym, ◌∙◌, subst, arith}
use Rattle.std.specs.FinMap as finmap
use Rattle.std.specs.FinSet as finset
use Rattle.std.specs.List.{filter}
use Rattle.std.proofs.lemmas.Bool.{eqb-true}
use Rattle.byteorder.specs.Endian.{little_bytes, little_number}
use Rattle.mpi_doorbell.specs.Bytes.{padded}
use Rattle.mpi_doorbell.specs.DoorRegisters.{DoorRegisters, bits_if, data_word, is_fault, register_value}
use Rattle.mpi_doorbell.specs.Handshake.{Idle, is_idle}
use Rattle.mpi_doorbell.specs.State.{state_bits}
use Rattle.mpi_doorbell.specs.declared.state.IocState.TheVariants as ioc_state
use Rattle.mpi_doorbell.specs.HostDoor.{HostDoor, register_of}
use Rattle.mpi_doorbell.specs.HostSteps.{diagnostic_reset, handshake_of_message, hears, look_at_doorbell, next_step, unit_reset}
use Rattle.mpi_doorbell.specs.declared.registers.TheConstants.{DOORBELL, DOORBELL_USED, DOORBELL_WHO_INIT_SHIFT, IOC_STATE_FAULT, IOC_STATE_OPERATIONAL, IOC_STATE_READY}
use Rattle.mpi_doorbell.specs.declared.stage.Reading.{Reading}
use Rattle.mpi_doorbell.specs.declared.stage.Reading.TheVariants as reading
use Rattle.mpi_doorbell.specs.declared.stage.Stage.{Stage as DoorStage}
use Rattle.mpi_doorbell.specs.declared.stage.Stage.TheVariants as door_stage
use Rattle.mpi_doorbell.specs.declared.step.DoorStep.{DoorStep}
use Rattle.mpi_doorbell.specs.declared.step.DoorStep.TheVariants as step
use Rattle.mpt_messages.specs.FrameBytes.{message_bytes}
use Rattle.mpt_messages.specs.HostFrames.{host_message}
use Rattle.mpt_messages.specs.declared.host_ask.HostAsk.{HostAsk}
use Rattle.mpt_messages.specs.declared.host_ask.HostAsk.TheVariants as ask
use Rattle.scsi_disk.specs.Command.{fits}
use Rattle.scsi_disk.specs.declared.command.Command.{Command}
use Rattle.smid_pool.specs.Pool.{Free, Open, Parked, Slot, is_taken, least_free, record_of}
use Rattle.smid_pool.specs.declared.class.Class.TheVariants as class
use Rattle.removal.specs.Handles.{ready_handle}
use Rattle.mpt_trace.specs.Command.{command_named}
use Rattle.mpt_wire.specs.Messages.Fields.{smid_in}
use Rattle.mpt_trace.specs.declared.host_state.HostState.{HostState}
use Rattle.mpt_trace.specs.declared.host_state.HostState.TheVariants as state
use Rattle.mpt_trace.specs.declared.input.Input.{Input}
use Rattle.mpt_trace.specs.declared.input.Input.TheVariants as input
use Rattle.mpt_trace.specs.declared.item.Back.{Back}
use Rattle.mpt_trace.specs.declared.item.Down.{Down}
use Rattle.mpt_trace.specs.declared.item.Down.TheVariants as down
use Rattle.mpt_trace.specs.declared.item.Up.{Up}
use Rattle.mpt_trace.specs.declared.item.Up.TheVariants as upward
use Rattle.mpt_rules.specs.declared.said.Said.TheVariants as said
use Rattle.mpt_rules.specs.declared.request.Request.{Request}
use Rattle.mpt_rules.specs.declared.request.Request.TheVariants as request
use Rattle.mpt_rules.specs.declared.stage.Stage.{Stage}
use Rattle.mpt_rules.specs.declared.stage.Stage.TheVariants as stage
use Rattle.mpt_rules.specs.World.Cases.{Case, happens, is_free}
use Rattle.mpt_rules.specs.World.Counts.{how_many, one_if, read_count, value_count}
use Rattle.mpt_rules.specs.Host.Takes.{hears_up, looks, stops}
use Rattle.mpt_rules.specs.Host.Doorbell as door
use Rattle.mpt_rules.specs.Host.Doorbell.{DoorTurn, is_reset_item, turn_from, next_turn}
use Rattle.mpt_rules.specs.Host.Inputs as inputs
use Rattle.mpt_rules.specs.Host.Parts.{Host, host_queue_count}
use Rattle.mpt_rules.specs.Host.Replies.{request_of}
use Rattle.mpt_rules.specs.Host.Resets as resets
use Rattle.mpt_rules.specs.Host.Returns.{after_sent}
use Rattle.mpt_rules.specs.Host.Strange.{why_strange}
use Rattle.mpt_rules.specs.Host.Values as values_of
use Rattle.mpt_rules.specs.World.Inputs.{host_told}
use Rattle.mpt_rules.specs.Ioc.Takes as adapter
use Rattle.mpt_rules.specs.Ioc.Parts.{Ioc, state_of}
use Rattle.mpt_rules.specs.Ioc.Steps as ioc_step
use Rattle.mpt_rules.specs.Law.{NothingIsStrange}
use Rattle.mpt_rules.specs.World.Lines.{down_line, said_of, up_line}
use Rattle.mpt_rules.specs.Outcome.{Happening}
use Rattle.mpt_rules.specs.World.Weight.{is_read, is_said_value}
use Rattle.mpt_rules.specs.World.State.{World, up_on, with_up}
use Rattle.mpt_rules.proofs.Counts.{how_many-append}
use Rattle.law_facts.specs.Clock.{Clock, in_asked, in_begun, in_normal, is_live}
use Rattle.law_facts.specs.DoorAhead.{Doorbell, IsInMode, ReadsFor, StageFits, WaitsAt, awaits, door_ahead, first_read, first_value, is_look, is_unit, rests_at_door, value_at, value_coming, waits_to_reset}
use Rattle.law_facts.specs.Facts.{Facts}
use Rattle.law_facts.specs.History.{History}
use Rattle.law_facts.specs.Words.{is_enable_asked, is_off}
use Rattle.law_flights.proofs.WorkLeaves.{works_leaf}
use Rattle.law_moves.proofs.Cases.{IsHosts, Owes, kept}
use Rattle.law_moves.proofs.Counted.{filter_keeps, how_many-cons, how_many-nil, none_passes}
use Rattle.law_moves.proofs.HostGoes.{value_is_due, none_of_or, no_where}
use Rattle.law_moves.proofs.HostSpeaks as speaks
use Rattle.law_moves.proofs.HostSpeaks.{Rises, Stays, ComesUp, Speaks, is_enable, is_handed_back, is_spoken}
use Rattle.law_moves.proofs.IocSpeaks.{CalmTold, LinkedUp, News, Speaks as SpeaksBack, Unlinked, ioc_quiet, is_asked_out, never_out, news, works}
use Rattle.law_moves.proofs.IocTakes as leaf
use Rattle.law_moves.proofs.IocTakes.{Takes}
use Rattle.law_moves.proofs.Phases.{and_false, not_begun, off_second, phased_of}
use Rattle.law_clock.specs.Premises.{Before}
use Rattle.law_clock.proofs.PhaseKept.{asked_now, asked_phase, level_phase}
use Rattle.law_doors.proofs.Ahead.{quiet_ahead}
use Rattle.law_doors.proofs.Whole.{whole_kept}
use Rattle.law_doors.proofs.StageKept.{as_was, begins, begun_diagnostic, begun_look, begun_talk, begun_unit, false_true, reads_on, rested, waiting, waits_at}
use Rattle.law_doors.proofs.Turning.{ForDiagnostic, ForFacts, ForInit, ForLook, ForPortFacts, ForStart, ForUnit, Kind, Diagnoses, IsWriteStep, Looks, Shakes, StageKind, StepFits, Units, first_more, first_passed, kind_read, stage_kind, value_ends, value_turn, writes_no_reads}
use Rattle.mpt_wire.specs.Machine.Causes.{is_up, is_resetting}

empty_none : (test : Down → Bool) (xs : List Down) → length xs ≡ 0 → how_many test xs ≡ 0
empty_none test [] e = how_many-nil test
empty_none test (x ∷ xs) e = absurd (omega (arith, e))

spoken_no_read : (x : Down) → is_spoken x ≡ true → is_read x ≡ false
spoken_no_read (down.Write reg value) e = refl
spoken_no_read (down.Read reg) e = absurd (cc)
spoken_no_read (down.Post d f p) e = refl
spoken_no_read (down.Return a i) e = refl
spoken_no_read down.Stop e = refl

handed_no_read : (x : Down) → is_handed_back x ≡ true → is_read x ≡ false
handed_no_read (down.Write reg value) e = refl
handed_no_read (down.Read reg) e = absurd (cc)
handed_no_read (down.Post d f p) e = absurd (cc)
handed_no_read (down.Return a i) e = refl
handed_no_read down.Stop e = refl

read_no_post : (x : Down) → is_read x ≡ true → resets.is_no_post x ≡ true
read_no_post (down.Write reg value) e = absurd (cc)
read_no_post (down.Read reg) e = refl
read_no_post (down.Post d f p) e = absurd (cc)
read_no_post (down.Return a i) e = refl
read_no_post down.Stop e = refl

module _ (w : World) (h : History) (b : Before w h) where
  f : Facts w h
  f = b.facts

  k : Clock w h
  k = f.clock

  st : StageFits w
  st = f.doorbell.stage

  -- nothing is read while the host doesn't wait
  unread : w.host.reading ≡ false → how_many is_read (down_line w) ≡ 0
  unfolding read_count value_count
  unread r = let o = k.one_read.one in let z : one_if w.host.reading ≡ 0 = ap one_if r in omega (arith, o, z)

  few : how_many is_read (down_line w) ≤ 1
  unfolding read_count value_count
  few = let o = k.one_read.one in let z = le_one w.host.reading in omega (arith, o, z)
    where
      le_one : (c : Bool) → one_if c ≤ 1
      le_one true = omega arith
      le_one false = omega arith

  not_ready : is_resetting w.host.mode ≡ false → w.host.door_ready ≡ false
  not_ready m = by_test w.host.door_ready refl
    where
      by_test : (c : Bool) → w.host.door_ready ≡ c → c ≡ false
      by_test true e = absurd (false_true (is_resetting w.host.mode) m (and_false _ _ (and_false _ _ (k.value_is_last.ready e).linked).0).0)
      by_test false e = refl

  with_machine : (d : HostDoor) → w.host.machine ≡ Some d → w.host.door_ready ≡ false
  with_machine d e = by_test w.host.door_ready refl
    where
      none_some : None ≡ Some d → ⊥
      none_some z = cc

      by_test : (c : Bool) → w.host.door_ready ≡ c → c ≡ false
      by_test true y = absurd (none_some (sym (st.off y) ∙ e))
      by_test false y = refl

  -- more on the line that isn't read
  more_line : (v : World) (xs : List Down) → down_line v ≡ down_line w ++ xs → how_many is_read xs ≡ 0 → (r : ℕ) → (1 ≤ read_count (down_line w) → first_read (down_line w) ≡ Some r) → 1 ≤ read_count (down_line v) → first_read (down_line v) ≡ Some r
  unfolding read_count
  more_line v xs e z r g l =
      let a = ap (how_many is_read) e in let c = how_many-append is_read (down_line w) xs in
      ap first_read e ∙ (first_more (down_line w) xs z ∙ g (omega (arith, l, a, c, z)))

  same_line : (v : World) → down_line v ≡ down_line w → (r : ℕ) → (1 ≤ read_count (down_line w) → first_read (down_line w) ≡ Some r) → 1 ≤ read_count (down_line v) → first_read (down_line v) ≡ Some r
  same_line v e r g l = ap first_read e ∙ g (subst (λ n. 1 ≤ n) (ap read_count e) l)

  -- a host that speaks
  spoke : (v : World) (x : Host) (test : Down → Bool) → v.host ≡ x → v.down ≡ w.down → v.ioc.generation ≡ w.ioc.generation → (y : Speaks test false w.host x) → ((z : Down) → test z ≡ true → is_read z ≡ false) → StageFits v
  spoke v x test e d g y n =
      let md = stays y.rises in
      let a = y.asked_is in
      let l : down_line v ≡ down_line w ++ y.grows.added = ap (λ xs. xs ++ v.host.out) d ∙ (ap (λ (z : Host). w.down ++ z.out) e ∙ (ap (λ o. w.down ++ o) y.grows.is ∙ sym (append_assoc w.down w.host.out y.grows.added))) in
      as_was w v (ap (λ (z : Host). z.machine) e ∙ y.machine_is) (ap (λ (z : Host). z.stage) e ∙ y.stage_is) (ap (λ (z : Host). z.reading) e ∙ y.reading_is) (ap (λ (z : Host). z.door_ready) e ∙ y.ready_is) (ap (λ (z : Host). z.mode) e ∙ md)
      (asked_same (ap (λ (z : Host). z.mode) e ∙ md) (ap (λ (z : Host). z.asked) e ∙ a)) (more_line v y.grows.added l (none_passes test is_read n y.grows.added y.grows.mild)) st
    where
      stays : Rises false w.host.mode x.mode → x.mode ≡ w.host.mode
      stays (Stays e) = e
      stays (ComesUp u r e) = absurd (cc)

      asked_same : v.host.mode ≡ w.host.mode → v.host.asked ≡ w.host.asked → in_asked v ≡ in_asked w
      asked_same m a = ap (λ y. is_resetting y && not (v.host.asked == v.ioc.generation)) m ∙ (ap (λ y. is_resetting w.host.mode && not (y == v.ioc.generation)) a ∙ ap (λ y. is_resetting w.host.mode && not (w.host.asked == y)) g)

  -- an input that is refused, or the calls of a session: nothing of the machine
  still : (v : World) → v.host ≡ w.host → v.down ≡ w.down → v.ioc.generation ≡ w.ioc.generation → StageFits v
  still v e d g =
      as_was w v (ap (λ (z : Host). z.machine) e) (ap (λ (z : Host). z.stage) e) (ap (λ (z : Host). z.reading) e) (ap (λ (z : Host). z.door_ready) e) (ap (λ (z : Host). z.mode) e)
      (ap (λ (z : Host). is_resetting z.mode && not (z.asked == v.ioc.generation)) e ∙ ap (λ n. is_resetting w.host.mode && not (w.host.asked == n)) g)
      (same_line v (ap (λ xs. xs ++ v.host.out) d ∙ ap (λ (z : Host). w.down ++ z.out) e)) st

  -- ---- a reset is asked

  level : is_resetting w.host.mode ≡ false → ((w.host.asked + 1) % 2 ^ 32 == w.ioc.generation) ≡ false
  level m =
      let p = phased_of w k.phase_table in
      let lev = level_phase w.host.mode w.host.asked w.ioc.generation (state_of w.ioc) p m in
      not_begun w.host.mode ((w.host.asked + 1) % 2 ^ 32) w.ioc.generation p.generation_fits (ap (λ i. (i + 1) % 2 ^ 32) lev.0)

  asks : (s : Stage) (kd : Kind) (d : HostDoor) → StageKind s kd → Rattle.law_doors.proofs.StageKept.Begun d kd → (s ≡ stage.DiagnosticReset) ⊎ (s ≡ stage.UnitReset) → IsInMode (record w { host = resets.with_reset_asked w.host s d }) s → is_resetting w.host.mode ≡ false → StageFits (record w { host = resets.with_reset_asked w.host s d })
  asks s kd d sk bg which im m = by_read w.host.reading refl im
    where
      left : how_many is_read (w.down ++ filter resets.is_no_post w.host.out) ≡ how_many is_read (down_line w)
      left = let a = how_many-append is_read w.down w.host.out in let c = how_many-append is_read w.down (filter resets.is_no_post w.host.out) in let g = filter_keeps is_read resets.is_no_post read_no_post w.host.out in omega (arith, a, c, g)

      waits : (c : Bool) → w.host.reading ≡ c → c ≡ true → waits_to_reset (record w { host = resets.gives_up w.host s }) ≡ true
      waits true e q = ap (λ y. not y && (w.host.reading && true)) (level m) ∙ ap (λ y. y && true) e
      waits false e q = absurd (cc)

      given : w.host.reading ≡ true → StageFits (record w { host = resets.gives_up w.host s })
      given r =
          let y = waits w.host.reading refl r in
          record {
            machine = λ e q. absurd (none_some e q);
            late = λ n z. which;
            none = λ n z. absurd (false_true (waits_to_reset (record w { host = resets.gives_up w.host s })) z y);
            goes_on = λ q n z. absurd (false_true (waits_to_reset (record w { host = resets.gives_up w.host s })) z y);
            off = λ z. refl;
          }
        where
          none_some : (e : HostDoor) → None ≡ Some e → ⊥
          none_some e z = cc

      by_read : (c : Bool) → w.host.reading ≡ c → IsInMode (record w { host = (if c then resets.gives_up w.host s else door.begins (resets.gives_up w.host s) s d) }) s → StageFits (record w { host = (if c then resets.gives_up w.host s else door.begins (resets.gives_up w.host s) s d) })
      by_read true r im = given r
      by_read false r im = let z = unread r in let l = left in begins (record w { host = door.begins (resets.gives_up w.host s) s d }) (resets.gives_up w.host s) s kd d refl bg sk im refl (omega (arith, z, l))

  turn_mode : (x : Host) (t : DoorTurn) → (door.puts_turn x t).mode ≡ x.mode
  turn_mode x t = by_step t.step
    where
      by_step : (s : DoorStep) → (door.puts_step (door.puts_writes x t.writes) t.door s).mode ≡ x.mode
      by_step (step.Read reg) = refl
      by_step (step.Write reg value) = refl
      by_step (step.Done count bytes) = refl
      by_step (step.Refused at value) = refl

  begins_mode : (x : Host) (s : Stage) (d : HostDoor) → (door.begins x s d).mode ≡ x.mode
  begins_mode x s d = turn_mode (record x { stage = s }) (next_turn d None)

  asked_mode : (c : Bool) (s : Stage) (d : HostDoor) → (if c then resets.gives_up w.host s else door.begins (resets.gives_up w.host s) s d).mode ≡ state.Resetting
  asked_mode true s d = refl
  asked_mode false s d = begins_mode (resets.gives_up w.host s) s d

  diag : (m : HostState) → w.host.mode ≡ m → StageFits (record w { host = (inputs.diag_resets_in w.host m).part })
  diag state.Off e = still w refl refl refl
  diag state.Starting e = asks stage.DiagnosticReset Diagnoses diagnostic_reset ForDiagnostic begun_diagnostic (inl refl) (asked_mode w.host.reading stage.DiagnosticReset diagnostic_reset) (ap is_resetting e)
  diag state.Up e = asks stage.DiagnosticReset Diagnoses diagnostic_reset ForDiagnostic begun_diagnostic (inl refl) (asked_mode w.host.reading stage.DiagnosticReset diagnostic_reset) (ap is_resetting e)
  diag state.Resetting e = still w refl refl refl

  unit : (m : HostState) → w.host.mode ≡ m → StageFits (record w { host = (inputs.unit_resets_in w.host m).part })
  unit state.Off e = still w refl refl refl
  unit state.Starting e = still w refl refl refl
  unit state.Up e = asks stage.UnitReset Units unit_reset ForUnit begun_unit (inr refl) (asked_mode w.host.reading stage.UnitReset unit_reset) (ap is_resetting e)
  unit state.Resetting e = still w refl refl refl

  -- ---- inputs

  starts : (m : HostState) → w.host.mode ≡ m → StageFits (record w { host = (inputs.starts_in w.host m).part })
  starts state.Off e =
      let z = empty_none is_read (down_line w) (k.phase_table.off (ap is_off e)).down in
      begins (record w { host = (inputs.starts_in w.host state.Off).part }) (record w.host { mode = state.Starting }) stage.Start Looks look_at_doorbell refl begun_look ForStart (begins_mode (record w.host { mode = state.Starting }) stage.Start look_at_doorbell) (not_ready (ap is_resetting e)) z
  starts state.Starting e = still w refl refl refl
  starts state.Up e = still w refl refl refl
  starts state.Resetting e = still w refl refl refl

  told : (i : Input) → IsHosts i → StageFits (record w { host = (host_told w.host i).part })
  told input.Start t = starts w.host.mode refl
  told (input.Submit n address form) t =
      spoke (record w { host = (host_told w.host (input.Submit n address form)).part }) _ is_spoken refl refl refl
      (speaks.submits false w.host n address (command_named form) (finset.contains w.host.accepted n) (is_up w.host.mode) (ready_handle w.host.phases address) (fits (command_named form)) (least_free class.ScsiIo w.host.pool)) spoken_no_read
  told (input.Abort n) t =
      spoke (record w { host = (host_told w.host (input.Abort n)).part }) _ is_spoken refl refl refl
      (speaks.aborts false w.host n (is_up w.host.mode) (finmap.get w.host.cmds n) (finmap.get w.host.aborts n) (least_free class.High w.host.pool)) spoken_no_read
  told (input.TargetReset address) t =
      spoke (record w { host = (host_told w.host (input.TargetReset address)).part }) _ is_spoken refl refl refl
      (speaks.targets false w.host address (is_up w.host.mode) (ready_handle w.host.phases address) (least_free class.High w.host.pool)) spoken_no_read
  told input.Reset t = diag w.host.mode refl
  told input.UnitReset t = unit w.host.mode refl
  told (input.Plug address expander phy) t = still w refl refl refl
  told (input.Unplug address) t = still w refl refl refl

  -- ---- a session

  free_is : is_free w.host ≡ true → (w.host.mode ≡ state.Up) × (w.host.reading ≡ false)
  free_is e = let a = and_false _ _ e in (up_is w.host.mode a.0, first w.host.reading _ a.1)
    where
      first : (b c : Bool) → not (b || c) ≡ true → b ≡ false
      first true c e = absurd (cc)
      first false c e = refl

      up_is : (m : HostState) → is_up m ≡ true → m ≡ state.Up
      up_is state.Up e = refl
      up_is state.Off e = absurd (cc)
      up_is state.Starting e = absurd (cc)
      up_is state.Resetting e = absurd (cc)

  looked : is_free w.host ≡ true → StageFits (record w { host = looks w.host })
  looked e =
      let p = free_is e in
      begins (record w { host = looks w.host }) w.host stage.Look Looks look_at_doorbell refl begun_look ForLook (begins_mode w.host stage.Look look_at_doorbell ∙ p.0) (not_ready (ap is_resetting p.0)) (unread p.1)

  stopped : StageFits (record w { host = stops w.host })
  stopped =
      let c = how_many-cons is_read down.Stop [] in let n = how_many-nil {X = Down} is_read in
      as_was w (record w { host = stops w.host }) refl refl refl refl refl refl (more_line (record w { host = stops w.host }) (down.Stop ∷ []) (sym (append_assoc w.down w.host.out (down.Stop ∷ []))) (omega (arith, c, n))) st

  -- ---- the controller takes an item of the host

  -- the line without its front
  shorter : (x : Down) (rest : List Down) → w.down ≡ x ∷ rest → (r : ℕ) → (1 ≤ read_count (down_line w) → first_read (down_line w) ≡ Some r) → 1 ≤ read_count (rest ++ w.host.out) → first_read (rest ++ w.host.out) ≡ Some r
  unfolding read_count
  shorter x rest e r y l =
      let q : down_line w ≡ x ∷ (rest ++ w.host.out) = ap (λ xs. xs ++ w.host.out) e in
      let a = ap (how_many is_read) q in let c = how_many-cons is_read x (rest ++ w.host.out) in let fw = few in
      sym (first_passed x (rest ++ w.host.out) (off_by_count (is_read x) (omega (arith, a, c, fw, l)))) ∙ (sym (ap first_read q) ∙ y (omega (arith, a, c, l)))
    where
      off_by_count : (b : Bool) → one_if b ≤ 0 → b ≡ false
      off_by_count true e = absurd (omega (arith, e))
      off_by_count false e = refl

  passed : (i : Ioc) (x : Down) (rest : List Down) → w.down ≡ x ∷ rest → i.generation ≡ w.ioc.generation → StageFits (record w { ioc = i; down = rest })
  passed i x rest e g = as_was w (record w { ioc = i; down = rest }) refl refl refl refl refl (ap (λ n. is_resetting w.host.mode && not (w.host.asked == n)) g) (shorter x rest e) st

  no_wait : (x : Down) (rest : List Down) → w.down ≡ x ∷ rest → (is_reset_item x || Rattle.law_facts.specs.Words.is_stray_reset x) ≡ true → waits_to_reset w ≡ false
  no_wait x rest e r = by_wait (waits_to_reset w) refl
    where
      opposite : (c : Bool) → not c ≡ true → c ≡ true → ⊥
      opposite true g y = cc
      opposite false g y = cc

      by_wait : (c : Bool) → waits_to_reset w ≡ c → c ≡ false
      by_wait true y = absurd (opposite w.host.returning (and_false _ _ (asked_now w h b x rest e r)).1 (f.doorbell.reset_steps.late y))
      by_wait false y = refl

  -- a reset is taken: no reset waits for an older value, as its write was made
  forgotten : (d : Rattle.mpi_doorbell.specs.DoorRegisters.DoorRegisters) (x : Down) (rest : List Down) → w.down ≡ x ∷ rest → (is_reset_item x || Rattle.law_facts.specs.Words.is_stray_reset x) ≡ true → StageFits (record w { ioc = Rattle.mpt_rules.specs.Ioc.Resets.forgets (record w.ioc { door = d }); down = rest })
  forgotten d x rest e r =
      let v : World = record w { ioc = Rattle.mpt_rules.specs.Ioc.Resets.forgets (record w.ioc { door = d }); down = rest } in
      let n0 = no_wait x rest e r in
      let p = asked_phase w.host.mode w.host.asked w.ioc.generation (state_of w.ioc) (phased_of w k.phase_table) (and_false _ _ (asked_now w h b x rest e r)).0 in
      let same : (w.host.asked == (w.ioc.generation + 1) % 2 ^ 32) ≡ true = ap (λ m. m == (w.ioc.generation + 1) % 2 ^ 32) p.1 ∙ Rattle.law_moves.proofs.Phases.same_is ((w.ioc.generation + 1) % 2 ^ 32) in
      let na : (is_resetting w.host.mode && not (w.host.asked == (w.ioc.generation + 1) % 2 ^ 32)) ≡ false = off_second (is_resetting w.host.mode) (not (w.host.asked == (w.ioc.generation + 1) % 2 ^ 32)) (ap not same) in
      record {
        machine = λ y q. waits_at w (record w { ioc = Rattle.mpt_rules.specs.Ioc.Resets.forgets (record w.ioc { door = d }); down = rest }) refl refl (shorter x rest e) y.stage (st.machine y q);
        late = λ n y. absurd (false_true _ na (and_false (is_resetting w.host.mode && not (w.host.asked == (w.ioc.generation + 1) % 2 ^ 32)) (w.host.reading && is_none w.host.machine) y).0);
        none = λ n y. st.none n n0;
        goes_on = λ q n y. st.goes_on q n n0;
        off = st.off;
      }

  taken : (i : Ioc) (x : Down) (rest : List Down) → w.down ≡ x ∷ rest → Takes w.ioc x i → Rattle.mpi_doorbell.specs.DoorRegisters.is_fault (state_of i) ≡ false → StageFits (record w { ioc = i; down = rest })
  taken i x rest e (leaf.Faults y j g) n = absurd (false_true _ n g)
  taken i x rest e (leaf.Written reg value j nr s sa) n = passed i (down.Write reg value) rest e (ap (λ (y : Ioc). y.generation) sa)
  taken i x rest e (leaf.Operates value j nr r s sa) n = passed i (down.Write _ value) rest e (ap (λ (y : Ioc). y.generation) sa)
  taken i x rest e (leaf.Forgets reg value d r) n = forgotten d (down.Write reg value) rest e r
  taken i x rest e (leaf.Reads reg value) n = passed i (down.Read reg) rest e refl
  taken i x rest e (leaf.Posts d g p j o sa) n = passed i (down.Post d g p) rest e (ap (λ (y : Ioc). y.generation) sa)
  taken i x rest e (leaf.DropsPost d g p o) n = passed i (down.Post d g p) rest e refl
  taken i x rest e (leaf.Returns address index j o sa) n = passed i (down.Return address index) rest e (ap (λ (y : Ioc). y.generation) sa)
  taken i x rest e (leaf.DropsReturn address index o) n = passed i (down.Return address index) rest e refl
  taken i x rest e leaf.Stops n = passed i down.Stop rest e refl

  -- ---- the host takes a value

  -- nothing else is read, and no register is written
  pub alone : (v : ℕ) (rest : List Up) → up_on w 0 ≡ upward.Value v ∷ rest → w.host.reading ≡ true → (how_many is_read (down_line w) ≡ 0) × (how_many Rattle.mpt_rules.specs.World.Counts.is_register_write (down_line w) ≡ 0)
  unfolding read_count value_count Rattle.mpt_rules.specs.World.Counts.register_write_count
  alone v rest e r =
      let o = k.one_read.one in let one : one_if w.host.reading ≡ 1 = ap one_if r in
      let g : up_line w 0 ≡ said.Value v ∷ (map said_of rest ++ get_or w.ioc.up 0 []) = ap (λ xs. map said_of xs ++ get_or w.ioc.up 0 []) e in
      let c = ap (how_many is_said_value) g in let d = how_many-cons is_said_value (said.Value v) (map said_of rest ++ get_or w.ioc.up 0 []) in
      let z : how_many is_read (down_line w) ≡ 0 = omega (arith, o, one, c, d) in
      (z, k.writes_before_read.gone r z)

  resetting_is : (m : HostState) → is_resetting m ≡ true → m ≡ state.Resetting
  resetting_is state.Resetting e = refl
  resetting_is state.Off e = absurd (cc)
  resetting_is state.Starting e = absurd (cc)
  resetting_is state.Up e = absurd (cc)

  heard : Host
  heard = record w.host { reading = false }

  module _ (v : ℕ) (rest : List Up) (e : up_on w 0 ≡ upward.Value v ∷ rest) (r : w.host.reading ≡ true) (why : why_strange w.host 0 (upward.Value v) ≡ None) where
    abbrev After : Host → World
    After x = record (with_up w 0 rest) { host = x }

    none_read : how_many is_read (w.down ++ w.host.out) ≡ 0
    none_read = (alone v rest e r).0

    asked_unready : in_asked w ≡ true → w.host.door_ready ≡ false
    asked_unready a = by_test w.host.door_ready refl
      where
        both : (c : Bool) → not c ≡ true → c ≡ true → ⊥
        both true g y = cc
        both false g y = cc

        by_test : (c : Bool) → w.host.door_ready ≡ c → c ≡ false
        by_test true y = absurd (both (w.host.asked == w.ioc.generation) (and_false _ _ a).1 (and_false _ _ (and_false _ _ (k.value_is_last.ready y).linked).0).1)
        by_test false y = refl

    late : w.host.machine ≡ None → StageFits (After (resets.begins_late (record w.host { reading = false }) w.host.stage))
    late n = by_waits (waits_to_reset w) refl
      where
        begun : (w.host.stage ≡ stage.DiagnosticReset) ⊎ (w.host.stage ≡ stage.UnitReset) → waits_to_reset w ≡ true → StageFits (After (resets.begins_late (record w.host { reading = false }) w.host.stage))
        begun (inl s) a =
            subst (λ s. StageFits (After (resets.begins_late (record w.host { reading = false }) s))) (sym s)
            (begins (After (door.begins (record w.host { reading = false }) stage.DiagnosticReset diagnostic_reset)) (record w.host { reading = false }) stage.DiagnosticReset Diagnoses diagnostic_reset refl begun_diagnostic ForDiagnostic
            (begins_mode (record w.host { reading = false }) stage.DiagnosticReset diagnostic_reset ∙ resetting_is w.host.mode (and_false _ _ (and_false _ _ a).0).0) (asked_unready (and_false _ _ a).0) none_read)
        begun (inr s) a =
            subst (λ s. StageFits (After (resets.begins_late (record w.host { reading = false }) s))) (sym s)
            (begins (After (door.begins (record w.host { reading = false }) stage.UnitReset unit_reset)) (record w.host { reading = false }) stage.UnitReset Units unit_reset refl begun_unit ForUnit
            (begins_mode (record w.host { reading = false }) stage.UnitReset unit_reset ∙ resetting_is w.host.mode (and_false _ _ (and_false _ _ a).0).0) (asked_unready (and_false _ _ a).0) none_read)

        by_waits : (c : Bool) → waits_to_reset w ≡ c → StageFits (After (resets.begins_late (record w.host { reading = false }) w.host.stage))
        by_waits true a = begun (st.late n a) a
        by_waits false a =
            subst (λ s. StageFits (After (resets.begins_late (record w.host { reading = false }) s))) (sym (st.none n a))
            (rested (After (record w.host { reading = false })) n refl (st.none n a) (λ q. st.goes_on q n a))

    module _ (d : HostDoor) (is : w.host.machine ≡ Some d) (x : Reading) (at : d.stage ≡ door_stage.Awaits x) (rf : ReadsFor w.host.stage x) (im : IsInMode w w.host.stage) where
      t : DoorTurn
      t = next_turn d (Some v)

      wrote : how_many is_read (w.down ++ (w.host.out ++ (next_turn d (Some v)).writes)) ≡ 0
      wrote =
          let n = writes_no_reads 8 (next_step d (Some v)).door (next_step d (Some v)).step in let z = none_read in
          let a = how_many-append is_read w.down w.host.out in let c = how_many-append is_read w.down (w.host.out ++ (next_turn d (Some v)).writes) in let g = how_many-append is_read w.host.out (next_turn d (Some v)).writes in
          omega (arith, n, z, a, c, g)

      -- the machine is over
      m : Host
      m = door.rests (door.puts_writes (record w.host { reading = false }) (next_turn d (Some v)).writes)

      shakes : (s : Stage) (a : HostAsk) → StageKind s Shakes → IsInMode (After (door.begins_handshake (door.rests (door.puts_writes (record w.host { reading = false }) (next_turn d (Some v)).writes)) s a)) s → StageFits (After (door.begins_handshake (door.rests (door.puts_writes (record w.host { reading = false }) (next_turn d (Some v)).writes)) s a))
      shakes s a sk i =
          begins (After (door.begins_handshake (door.rests (door.puts_writes (record w.host { reading = false }) (next_turn d (Some v)).writes)) s a)) (door.rests (door.puts_writes (record w.host { reading = false }) (next_turn d (Some v)).writes)) s Shakes (handshake_of_message (message_bytes (host_message a))) refl (begun_talk a) sk i (with_machine d is) wrote

      handshake_mode : (s : Stage) (a : HostAsk) → (door.begins_handshake (door.rests (door.puts_writes (record w.host { reading = false }) (next_turn d (Some v)).writes)) s a).mode ≡ w.host.mode
      handshake_mode s a = begins_mode (door.rests (door.puts_writes (record w.host { reading = false }) (next_turn d (Some v)).writes)) s (handshake_of_message (message_bytes (host_message a)))

      ready : StageFits (After (resets.hears_ready (door.rests (door.puts_writes (record w.host { reading = false }) (next_turn d (Some v)).writes))).part)
      ready = by_marks (resets.has_all_marks (door.rests (door.puts_writes (record w.host { reading = false }) (next_turn d (Some v)).writes)))
        where
          n : Host
          n = record (door.rests (door.puts_writes (record w.host { reading = false }) (next_turn d (Some v)).writes)) { door_ready = true }

          by_marks : (c : Bool) → StageFits (After (if c then resets.ends_reset n else record { part = n; entries = [] }).part)
          by_marks true =
              begins (After (door.begins_facts (resets.renewed n))) (resets.renewed n) stage.Facts Shakes (handshake_of_message (message_bytes (host_message ask.Facts))) refl (begun_talk ask.Facts) ForFacts
              (begins_mode (resets.renewed n) stage.Facts (handshake_of_message (message_bytes (host_message ask.Facts)))) refl wrote
          by_marks false = rested (After n) refl refl refl (λ q. refl)

      -- messages begin
      messages : w.host.mode ≡ state.Starting → StageFits (After (values_of.begins_messages (door.rests (door.puts_writes (record w.host { reading = false }) (next_turn d (Some v)).writes))))
      messages sm =
          let q = speaks.begins_messages false (door.rests (door.puts_writes (record w.host { reading = false }) (next_turn d (Some v)).writes)) in
          rested (After (values_of.begins_messages (door.rests (door.puts_writes (record w.host { reading = false }) (next_turn d (Some v)).writes)))) q.machine_is q.reading_is q.stage_is
          (λ y. absurd (false_true _ (ap is_resetting (stays q.rises ∙ sm)) y))
        where
          stays : {c : HostState} → Rises false w.host.mode c → c ≡ w.host.mode
          stays (Stays e) = e
          stays (ComesUp u r e) = absurd (cc)

      -- a start: the state is READY, as none but this host resets the controller
      module _ (is_ready : w.host.stage ≡ stage.Start → (count : ℕ) (bytes : List ℕ) → (next_turn d (Some v)).step ≡ step.Done count bytes → values_of.state_read (take count bytes) ≡ IOC_STATE_READY) where
        starts_by : (n : ℕ) → n ≡ IOC_STATE_READY → w.host.mode ≡ state.Starting → StageFits (After (values_of.starts_by (door.rests (door.puts_writes (record w.host { reading = false }) (next_turn d (Some v)).writes)) n))
        starts_by n q sm = subst (λ y. StageFits (After (values_of.starts_by (door.rests (door.puts_writes (record w.host { reading = false }) (next_turn d (Some v)).writes)) y))) (sym q) (shakes stage.Facts ask.Facts ForFacts (handshake_mode stage.Facts ask.Facts ∙ sm))

        ends : (s : Stage) → w.host.stage ≡ s → ReadsFor s x → IsInMode w s → (count : ℕ) (bytes : List ℕ) → (next_turn d (Some v)).step ≡ step.Done count bytes → StageFits (After (values_of.ends_stage (door.rests (door.puts_writes (record w.host { reading = false }) (next_turn d (Some v)).writes)) s (take count bytes)).part)
        ends stage.Idle q g i count bytes y = absurd g
        ends stage.StartReset q g i count bytes y = absurd g
        ends stage.Start q g i count bytes y = starts_by (values_of.state_read (take count bytes)) (is_ready q count bytes y) i
        ends stage.Facts q g i count bytes y = shakes stage.PortFacts ask.PortFacts ForPortFacts (handshake_mode stage.PortFacts ask.PortFacts ∙ i)
        ends stage.PortFacts q g i count bytes y = shakes stage.Init (ask.Init (host_queue_count w.host)) ForInit (handshake_mode stage.Init (ask.Init (host_queue_count w.host)) ∙ i)
        ends stage.Init q g i count bytes y = messages i
        ends stage.Look q g i count bytes y = rested (After (door.rests (door.puts_writes (record w.host { reading = false }) (next_turn d (Some v)).writes))) refl refl refl (λ z. absurd (false_true (is_resetting w.host.mode) (ap is_resetting i) z))
        ends stage.DiagnosticReset q g i count bytes y = ready
        ends stage.UnitReset q g i count bytes y = ready

        refused : (s : DoorStep) → (next_turn d (Some v)).step ≡ s → Rattle.mpt_rules.specs.Host.Handshakes.door_refused s ≡ None
        refused s y =
            let a = (none_of_or (Rattle.mpt_rules.specs.Host.Strange.wrong_queue_of_value 0) _ why).1 in
            let c0 = (none_of_or (Rattle.mpt_rules.specs.Host.Strange.no_read w.host) _ a).1 in
            let c = (none_of_or (Rattle.mpt_rules.specs.Host.Handshakes.why_door w.host w.host.machine v) None c0).0 in
            let g : Rattle.mpt_rules.specs.Host.Handshakes.why_door w.host (Some d) v ≡ None = ap (λ o. Rattle.mpt_rules.specs.Host.Handshakes.why_door w.host o v) (sym is) ∙ c in
            sym (ap Rattle.mpt_rules.specs.Host.Handshakes.door_refused y) ∙ (none_of_or (Rattle.mpt_rules.specs.Host.Handshakes.door_refused (next_turn d (Some v)).step) _ g).0

        by_step : (s : DoorStep) → (next_turn d (Some v)).step ≡ s → StageFits (After (values_of.after_turn (door.puts_turn (record w.host { reading = false }) (next_turn d (Some v))) w.host.stage s).part)
        by_step (step.Read reg) y =
            reads_on (After (door.puts_turn (record w.host { reading = false }) (next_turn d (Some v)))) (record w.host { reading = false }) (next_turn d (Some v)) w.host.stage (kind_read x) refl (value_turn d x v at) (stage_kind w.host.stage x rf) refl
            (Rattle.law_doors.proofs.StageKept.in_mode w (After (door.puts_turn (record w.host { reading = false }) (next_turn d (Some v)))) w.host.stage (turn_mode (record w.host { reading = false }) (next_turn d (Some v))) im) (with_machine d is) wrote reg y
        by_step (step.Write reg value) y = absurd (value_ends d x v at (subst IsWriteStep (sym y) tt))
        by_step (step.Refused p value) y = absurd (some_none (refused (step.Refused p value) y))
          where
            some_none : Some (Rattle.mpt_rules.specs.declared.why.Why.TheVariants.DoorRefused p value) ≡ None → ⊥
            some_none z = cc
        by_step (step.Done count bytes) y =
            let z : door.puts_turn (record w.host { reading = false }) (next_turn d (Some v)) ≡ door.rests (door.puts_writes (record w.host { reading = false }) (next_turn d (Some v)).writes) = ap (door.puts_step (door.puts_writes (record w.host { reading = false }) (next_turn d (Some v)).writes) (next_turn d (Some v)).door) y in
            subst (λ n. StageFits (After (values_of.ends_stage n w.host.stage (take count bytes)).part)) (sym z) (ends w.host.stage refl rf im count bytes y)

    -- ---- a start reads READY

    ready_value : (y : DoorRegisters) → y.state ≡ ioc_state.Ready → y.handshake ≡ Idle → y.who_init ≡ 0 → register_value y DOORBELL ≡ IOC_STATE_READY
    ready_value y s g n =
        ap (λ c. state_bits c + bits_if (not (is_idle y.handshake)) DOORBELL_USED + y.who_init * 2 ^ DOORBELL_WHO_INIT_SHIFT + data_word c y.handshake) s
        ∙ (ap (λ c. state_bits ioc_state.Ready + bits_if (not (is_idle c)) DOORBELL_USED + y.who_init * 2 ^ DOORBELL_WHO_INIT_SHIFT + data_word ioc_state.Ready c) g
        ∙ ap (λ c. state_bits ioc_state.Ready + bits_if false DOORBELL_USED + c * 2 ^ DOORBELL_WHO_INIT_SHIFT + 0) n)

    look_turn : (d : HostDoor) (u : ℕ) → d.stage ≡ door_stage.Awaits reading.Doorbell → (next_turn d (Some u)).step ≡ step.Done (length (little_bytes 4 u)) (padded (little_bytes 4 u))
    unfolding turn_from
    look_turn d u at = ap (λ s. (turn_from 8 (hears d s u).door (hears d s u).step).step) at

    is_done : (a c : ℕ) (xs ys : List ℕ) → step.Done a xs ≡ step.Done c ys → values_of.state_read (take a xs) ≡ values_of.state_read (take c ys)
    is_done a c xs ys e = ap of_step e
      where
        of_step : DoorStep → ℕ
        of_step (step.Done n zs) = values_of.state_read (take n zs)
        of_step (step.Read reg) = 0
        of_step (step.Write reg value) = 0
        of_step (step.Refused p value) = 0

    pub coming : value_coming w ≡ Some v
    unfolding first_value
    coming = ap (λ xs. first_value (map said_of xs ++ get_or w.ioc.up 0 [])) e

    pub reads_ready : (d : HostDoor) (x : Reading) → w.host.machine ≡ Some d → d.stage ≡ door_stage.Awaits x → ReadsFor w.host.stage x → IsInMode w w.host.stage → w.host.stage ≡ stage.Start → (count : ℕ) (bytes : List ℕ) → (next_turn d (Some v)).step ≡ step.Done count bytes → values_of.state_read (take count bytes) ≡ IOC_STATE_READY
    reads_ready d x m at rf im s count bytes y =
        let xd : x ≡ reading.Doorbell = subst (λ z. ReadsFor z x) s rf in
        let a1 : d.stage ≡ door_stage.Awaits reading.Doorbell = at ∙ ap door_stage.Awaits xd in
        let md : w.host.mode ≡ state.Starting = subst (IsInMode w) s im in
        let sr : w.ioc.door.state ≡ ioc_state.Ready = f.doorbell.rests.look s in
        let q = quiet_ahead w.ioc (down_line w) (alone v rest e r).1 in
        let ra : rests_at_door w ≡ true = or_true (is_none w.host.machine && not (waits_to_reset w)) (ap (λ z. is_look z || (in_begun w || is_unit w.host.stage)) s) in
        let nl : is_live w ≡ false = ap Rattle.mpt_rules.specs.Ioc.Tables.is_operational sr in
        let nm : in_normal w ≡ true = ap (λ z. Rattle.mpt_rules.specs.Host.Takes.is_starting z || is_up z) md in
        let val : v ≡ value_at (door_ahead w) (awaits d.stage) = f.doorbell.lock_step.value d v m (ap is_resetting md) coming in
        let val2 : v ≡ register_value (door_ahead w) DOORBELL = val ∙ ap (λ z. value_at (door_ahead w) (awaits z)) a1 in
        let rv = ready_value (door_ahead w) (ap (λ z. z.state) q ∙ sr) (f.doorbell.rests.handshake ra) (ap (λ z. z.who_init) q ∙ f.doorbell.lock_step.who_init nm nl) in
        is_done count (length (little_bytes 4 v)) bytes (padded (little_bytes 4 v)) (sym y ∙ look_turn d v a1) ∙ (ap (λ n. values_of.state_read (take (length (little_bytes 4 n)) (padded (little_bytes 4 n)))) (val2 ∙ rv) ∙ shown)
      where
        or_true : (a : Bool) {c : Bool} → c ≡ true → (a || c) ≡ true
        or_true true g = refl
        or_true false g = g

        shown : values_of.state_read (take (length (little_bytes 4 IOC_STATE_READY)) (padded (little_bytes 4 IOC_STATE_READY))) ≡ IOC_STATE_READY
        shown = refl

    -- by the machine
    valued : StageFits (After (values_of.hears_value w.host v).part)
    valued = by_machine w.host.machine refl
      where
        by_stage : (d : HostDoor) → w.host.machine ≡ Some d → (s : DoorStage) → d.stage ≡ s → WaitsAt w s → StageFits (After (values_of.hears_turn (record w.host { reading = false }) (next_turn d (Some v))).part)
        by_stage d m (door_stage.Awaits x) at a = by_step d m x at a.0 a.1 (reads_ready d x m at a.0 a.1) (next_turn d (Some v)).step refl
        by_stage d m (door_stage.Reads x) at a = absurd a
        by_stage d m door_stage.Opens at a = absurd a
        by_stage d m (door_stage.WritesKey p) at a = absurd a
        by_stage d m door_stage.Locks at a = absurd a
        by_stage d m door_stage.ResetsUnit at a = absurd a
        by_stage d m door_stage.Finishes at a = absurd a
        by_stage d m door_stage.Ended at a = absurd a

        by_machine : (o : Option HostDoor) → w.host.machine ≡ o → StageFits (After (values_of.hears_value_at (record w.host { reading = false }) o v).part)
        by_machine None n = late n
        by_machine (Some d) m = by_stage d m d.stage refl (st.machine d m)

  -- ---- the host takes another item

  abbrev Took : ℕ → List Up → Host → World
  Took queue rest x = record (with_up w queue rest) { host = x }

  -- it comes up with the answer to its port enable: no machine is at work
  rose : (v : World) (x : Host) → v.host ≡ x → v.down ≡ w.down → v.ioc.generation ≡ w.ioc.generation → (en : Bool) → Speaks is_spoken en w.host x → (en ≡ true → w.host.machine ≡ None) → StageFits v
  rose v x e d g en y nm = by_rise y.rises
    where
      l : down_line v ≡ down_line w ++ y.grows.added
      l = ap (λ xs. xs ++ v.host.out) d ∙ (ap (λ (z : Host). w.down ++ z.out) e ∙ (ap (λ o. w.down ++ o) y.grows.is ∙ sym (append_assoc w.down w.host.out y.grows.added)))

      more : (r : ℕ) → (1 ≤ read_count (down_line w) → first_read (down_line w) ≡ Some r) → 1 ≤ read_count (down_line v) → first_read (down_line v) ≡ Some r
      more = more_line v y.grows.added l (none_passes is_spoken is_read spoken_no_read y.grows.added y.grows.mild)

      by_rise : Rises en w.host.mode x.mode → StageFits v
      by_rise (Stays q) =
          let md : v.host.mode ≡ w.host.mode = ap (λ (z : Host). z.mode) e ∙ q in
          let a : v.host.asked ≡ w.host.asked = ap (λ (z : Host). z.asked) e ∙ y.asked_is in
          as_was w v (ap (λ (z : Host). z.machine) e ∙ y.machine_is) (ap (λ (z : Host). z.stage) e ∙ y.stage_is) (ap (λ (z : Host). z.reading) e ∙ y.reading_is) (ap (λ (z : Host). z.door_ready) e ∙ y.ready_is) md
          (ap (λ c. is_resetting c && not (v.host.asked == v.ioc.generation)) md ∙ (ap (λ n. is_resetting w.host.mode && not (n == v.ioc.generation)) a ∙ ap (λ n. is_resetting w.host.mode && not (w.host.asked == n)) g)) more st
      by_rise (ComesUp u n q) =
          let m : v.host.machine ≡ None = ap (λ (z : Host). z.machine) e ∙ (y.machine_is ∙ nm u) in
          let up : is_resetting v.host.mode ≡ false = ap (λ (z : Host). is_resetting z.mode) e ∙ ap is_resetting q in
          let nw : waits_to_reset w ≡ false = ap (λ c. (c && not (w.host.asked == w.ioc.generation)) && (w.host.reading && is_none w.host.machine)) n in
          let na : waits_to_reset v ≡ false = ap (λ c. (c && not (v.host.asked == v.ioc.generation)) && (v.host.reading && is_none v.host.machine)) up in
          let i : v.host.stage ≡ stage.Idle = ap (λ (z : Host). z.stage) e ∙ (y.stage_is ∙ st.none (nm u) nw) in
          record {
            machine = λ d2 z. absurd (none_some d2 (sym m ∙ z));
            late = λ z c. absurd (false_true (waits_to_reset v) na c);
            none = λ z c. i;
            goes_on = λ z a c. absurd (false_true (is_resetting v.host.mode) up z);
            off = λ z. m;
          }
        where
          none_some : (d : HostDoor) → None ≡ Some d → ⊥
          none_some d z = cc

  -- the answer to a port enable: the start goes on, and no machine is at work
  asked_at : (p : Slot Request → Bool) → ((x : Slot Request) → is_enable (record_of x) ≡ true → p x ≡ true) → (xs : List (Slot Request)) (place : ℕ) → is_enable (record_of (slice_index_or xs place Free)) ≡ true → 1 ≤ how_many p xs
  asked_at p g [] zero e = absurd (cc)
  asked_at p g [] (suc n) e = absurd (cc)
  asked_at p g (x ∷ xs) zero e = let c = how_many-cons p x xs in let o : one_if (p x) ≡ 1 = ap one_if (g x e) in omega (arith, c, o)
  asked_at p g (x ∷ xs) (suc n) e = let c = how_many-cons p x xs in let o = asked_at p g xs n e in omega (arith, c, o)

  of_slot : (x : Slot Request) → is_enable (record_of x) ≡ true → (is_enable_asked x ≡ true) × (is_taken x ≡ true)
  of_slot Free e = absurd (cc)
  of_slot Parked e = absurd (cc)
  of_slot (Open request.PortEnable) e = (refl, refl)
  of_slot (Open (request.Command n)) e = absurd (cc)
  of_slot (Open (request.Abort n task)) e = absurd (cc)
  of_slot (Open (request.TargetReset address)) e = absurd (cc)
  of_slot (Open (request.Leave handle)) e = absurd (cc)
  of_slot (Open (request.Page handle)) e = absurd (cc)
  of_slot (Open (request.Remove handle)) e = absurd (cc)
  of_slot (Open (request.Ack ev context)) e = absurd (cc)
  of_slot (Open request.Notification) e = absurd (cc)

  enable_asked : (p : Slot Request → Bool) → ((x : Slot Request) → is_enable (record_of x) ≡ true → p x ≡ true) → (s : ℕ) → is_enable (request_of w.host s) ≡ true → 1 ≤ how_many p w.host.pool
  enable_asked p g zero e = absurd (cc)
  enable_asked p g (suc n) e = asked_at p g w.host.pool n e

  pub enabling : (s : ℕ) → is_resetting w.host.mode ≡ false → is_enable (request_of w.host s) ≡ true → w.host.machine ≡ None
  enabling s m e = by_mode w.host.mode refl
    where
      a : 1 ≤ how_many is_enable_asked w.host.pool
      a = enable_asked is_enable_asked (λ x q. (of_slot x q).0) s e

      idle : (c : Option HostDoor) → 1 ≤ one_if (not (is_some c)) → c ≡ None
      idle None z = refl
      idle (Some d) z = absurd (omega (arith, z))

      by_mode : (c : HostState) → w.host.mode ≡ c → w.host.machine ≡ None
      by_mode state.Off q = let z = (k.phase_table.off (ap is_off q)).pool in let t = enable_asked is_taken (λ x y. (of_slot x y).1) s e in absurd (omega (arith, t, z))
      by_mode state.Resetting q = absurd (false_true _ m (ap is_resetting q))
      by_mode state.Up q = let z = f.messages.bring_up.up (ap is_up q) in absurd (omega (arith, a, z))
      by_mode state.Starting q = let z = f.messages.bring_up.one (ap Rattle.mpt_rules.specs.Host.Takes.is_starting q) in idle w.host.machine (omega (arith, a, z))

  handed : (v : World) (x : Host) → v.host ≡ x → v.down ≡ w.down → v.ioc.generation ≡ w.ioc.generation → Speaks is_handed_back false w.host x → StageFits v
  handed v x e d g y = spoke v x is_handed_back e d g y handed_no_read

  took : (queue : ℕ) (x : Up) (rest : List Up) → up_on w queue ≡ x ∷ rest → why_strange w.host queue x ≡ None → StageFits (Took queue rest (hears_up w.host queue x).part)
  took queue (upward.Value v) rest e why =
      let d = value_is_due w queue v why in
      subst (λ n. StageFits (Took n rest (values_of.hears_value w.host v).part)) (sym d.0)
      (valued v rest (subst (λ n. up_on w n ≡ upward.Value v ∷ rest) d.0 e) d.1 (subst (λ n. why_strange w.host n (upward.Value v) ≡ None) d.0 why))
  took queue (upward.Reply d g page sense) rest e why = by_mode (is_resetting w.host.mode) refl
    where
      by_mode : (c : Bool) → is_resetting w.host.mode ≡ c → StageFits (Took queue rest (hears_up w.host queue (upward.Reply d g page sense)).part)
      by_mode true m =
          handed (Took queue rest (hears_up w.host queue (upward.Reply d g page sense)).part) (hears_up w.host queue (upward.Reply d g page sense)).part refl refl refl
          (speaks.hands_back w.host m (f.doorbell.fresh_start.given_up m).0 is_handed_back (λ v. refl) (λ e a i. refl) queue d g page sense)
      by_mode false m =
          let n = is_enable (request_of w.host (smid_in d)) in
          rose (Took queue rest (hears_up w.host queue (upward.Reply d g page sense)).part) (hears_up w.host queue (upward.Reply d g page sense)).part refl refl refl n
          (speaks.says_back n w.host m queue d g page sense refl) (enabling (smid_in d) m)
  took queue (upward.Mark generation) rest e why = marked
    where
      n : Host
      n = record w.host { marks = slice_set w.host.marks queue true }

      by_all : (a c : Bool) → w.host.door_ready ≡ a → (a && c) ≡ true → StageFits (Took queue rest (door.begins_facts (resets.renewed n)))
      by_all a c r y =
          let dr : w.host.door_ready ≡ true = r ∙ (and_false a c y).0 in
          let ur = (k.value_is_last.ready dr).reading in
          begins (Took queue rest (door.begins_facts (resets.renewed n))) (resets.renewed n) stage.Facts Shakes (handshake_of_message (message_bytes (host_message ask.Facts))) refl (begun_talk ask.Facts) ForFacts
          (begins_mode (resets.renewed n) stage.Facts (handshake_of_message (message_bytes (host_message ask.Facts)))) refl (unread ur)

      by_over : (c : Bool) → (w.host.door_ready && resets.has_all_marks n) ≡ c → StageFits (Took queue rest (if c then resets.ends_reset n else record { part = n; entries = [] }).part)
      by_over true y = by_all w.host.door_ready (resets.has_all_marks n) refl y
      by_over false y = as_was w (Took queue rest n) refl refl refl refl refl refl (same_line (Took queue rest n) refl) st

      marked : StageFits (Took queue rest (resets.hears_mark w.host queue).part)
      marked = by_over (w.host.door_ready && resets.has_all_marks n) refl
  took queue upward.Calm rest e why = as_was w (Took queue rest w.host) refl refl refl refl refl refl (same_line (Took queue rest w.host) refl) st

  -- ---- the controller at work: the host and its line are as they were
  of_ioc : (v : World) → v.host ≡ w.host → v.down ≡ w.down → v.ioc.generation ≡ w.ioc.generation → StageFits v
  of_ioc = still

  put : (x : Down) (rest : List Down) → w.host.out ≡ x ∷ rest → StageFits (record w { host = after_sent w.host x rest; down = w.down ++ x ∷ [] })
  put x rest e = by_item x rest e
    where
      line : (x : Down) (rest : List Down) → w.host.out ≡ x ∷ rest → (w.down ++ x ∷ []) ++ rest ≡ down_line w
      line x rest e = append_assoc w.down (x ∷ []) rest ∙ ap (λ o. w.down ++ o) (sym e)

      by_item : (x : Down) (rest : List Down) → w.host.out ≡ x ∷ rest → StageFits (record w { host = after_sent w.host x rest; down = w.down ++ x ∷ [] })
      by_item (down.Return address index) rest e = as_was w (record w { host = after_sent w.host (down.Return address index) rest; down = w.down ++ down.Return address index ∷ [] }) refl refl refl refl refl refl (same_line (record w { host = after_sent w.host (down.Return address index) rest; down = w.down ++ down.Return address index ∷ [] }) (line (down.Return address index) rest e)) st
      by_item (down.Write reg value) rest e = as_was w (record w { host = after_sent w.host (down.Write reg value) rest; down = w.down ++ down.Write reg value ∷ [] }) refl refl refl refl refl refl (same_line (record w { host = after_sent w.host (down.Write reg value) rest; down = w.down ++ down.Write reg value ∷ [] }) (line (down.Write reg value) rest e)) st
      by_item (down.Read reg) rest e = as_was w (record w { host = after_sent w.host (down.Read reg) rest; down = w.down ++ down.Read reg ∷ [] }) refl refl refl refl refl refl (same_line (record w { host = after_sent w.host (down.Read reg) rest; down = w.down ++ down.Read reg ∷ [] }) (line (down.Read reg) rest e)) st
      by_item (down.Post d g p) rest e = as_was w (record w { host = after_sent w.host (down.Post d g p) rest; down = w.down ++ down.Post d g p ∷ [] }) refl refl refl refl refl refl (same_line (record w { host = after_sent w.host (down.Post d g p) rest; down = w.down ++ down.Post d g p ∷ [] }) (line (down.Post d g p) rest e)) st
      by_item down.Stop rest e = as_was w (record w { host = after_sent w.host down.Stop rest; down = w.down ++ down.Stop ∷ [] }) refl refl refl refl refl refl (same_line (record w { host = after_sent w.host down.Stop rest; down = w.down ++ down.Stop ∷ [] }) (line down.Stop rest e)) st

  told_back : (x : Back) → (adapter.takes_back w.ioc x).part.generation ≡ w.ioc.generation
  told_back x = Rattle.law_clock.proofs.NoReplyKept.generation_is w h b x (adapter.takes_back w.ioc x) (news never_out w.ioc x)

  abbrev Kept : World → Type 0
  Kept v = is_fault (state_of v.ioc) ≡ false → StageFits v

  owes : Owes Kept w
  owes =
      record {
        host_puts = λ x rest e v. put x rest e;
        host_takes = λ queue x rest e y v. took queue x rest e y;
        host_told = λ i t v. told i t;
        host_looks = λ e v. looked e;
        host_stops = λ e v. stopped;
        ioc_takes = λ x rest e v. taken (adapter.takes_down w.ioc x).part x rest e (leaf.takes w.ioc f.doorbell.sound.waits k.phase_table.whole x) v;
        ioc_high = λ p rest e v. of_ioc (record w { ioc = (ioc_step.works_on (record w.ioc { high = rest }) p).part }) refl refl (Rattle.law_clock.proofs.PhaseKept.high_words w h b p rest).generation_is;
        ioc_normal = λ p rest e v. of_ioc (record w { ioc = (ioc_step.works_on (record w.ioc { normal = rest }) p).part }) refl refl (Rattle.law_clock.proofs.PhaseKept.normal_words w h b p rest).generation_is;
        ioc_puts_out = λ x rest e v. of_ioc (record w { ioc = record w.ioc { out = rest }; out = w.out ++ x ∷ [] }) refl refl refl;
        ioc_takes_back = λ x rest e v. of_ioc (record w { ioc = (adapter.takes_back w.ioc x).part; back = rest }) refl refl (told_back x);
        ioc_puts = λ queue y rest z e u v. of_ioc (with_up (record w { ioc = Rattle.mpt_rules.specs.Ioc.Sending.up_sent_on w.ioc queue }) queue (up_on w queue ++ z ∷ [])) refl refl refl;
        fabric_takes = λ x rest e v. of_ioc (record w { fabric = Rattle.mpt_rules.specs.Fabric.Calls.takes_out w.fabric x; out = rest }) refl refl refl;
        fabric_says = λ x rest e v. of_ioc (record w { fabric = record w.fabric { notices = rest; out = w.fabric.out ++ x ∷ [] } }) refl refl refl;
        fabric_puts = λ x rest e v. of_ioc (record w { fabric = record w.fabric { out = rest }; back = w.back ++ x ∷ [] }) refl refl refl;
        fabric_runs = λ tag address e v. of_ioc (record w { fabric = (Rattle.mpt_rules.specs.Fabric.Calls.runs w.fabric tag).part }) refl refl refl;
        plugs = λ address expander phy v. of_ioc (record w { fabric = (Rattle.mpt_rules.specs.Fabric.Calls.fabric_plugs w.fabric address expander phy).part }) refl refl refl;
        unplugs = λ address v. of_ioc (record w { fabric = (Rattle.mpt_rules.specs.Fabric.Calls.fabric_unplugs w.fabric address).part }) refl refl refl;
        calms = λ v. of_ioc (record w { fabric = Rattle.mpt_rules.specs.Fabric.Calls.calms w.fabric }) refl refl refl;
      }

-- each case keeps it
pub stage_kept : (w : World) (h : History) → Before w h → (c : Case) → StageFits (happens w c)
stage_kept w h b c = kept (Kept w h b) w b.plain (owes w h b) (λ v. st w h b) c (whole_kept w h b.facts b.plain c)
