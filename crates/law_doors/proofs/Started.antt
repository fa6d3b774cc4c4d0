-- Each case keeps that a start whose handshakes are over found the controller OPERATIONAL.
use Rattle.std.proofs.Common.{◌≡◌, ℕ, zero, suc, ◌+◌, ◌==◌, ◌&&◌, ◌||◌, ◌⊎◌, inl, inr, not, Bool, true, false, if◌then◌else◌, List, [], ◌∷◌, ◌++◌, take, map, get_or, slice_set, Option, Some, None, is_none, is_some, refl, ap, sym, ◌∙◌, subst}
use Rattle.std.specs.FinMap as finmap
use Rattle.std.specs.FinSet as finset
use Rattle.mpi_doorbell.specs.DoorRegisters.{DoorRegisters, is_fault}
use Rattle.mpi_doorbell.specs.HostDoor.{HostDoor}
use Rattle.mpi_doorbell.specs.HostSteps.{diagnostic_reset, handshake_of_message, look_at_doorbell, next_step, unit_reset}
use Rattle.mpi_doorbell.specs.declared.registers.TheConstants.{IOC_STATE_FAULT, IOC_STATE_OPERATIONAL, IOC_STATE_READY}
use Rattle.mpi_doorbell.specs.declared.stage.Reading.{Reading}
use Rattle.mpi_doorbell.specs.declared.stage.Stage.{Stage as DoorStage}
use Rattle.mpi_doorbell.specs.declared.stage.Stage.TheVariants as door_stage
use Rattle.mpi_doorbell.specs.declared.state.IocState.{IocState}
use Rattle.mpi_doorbell.specs.declared.state.IocState.TheVariants as ioc_state
use Rattle.mpi_doorbell.specs.declared.step.DoorStep.{DoorStep}
use Rattle.mpi_doorbell.specs.declared.step.DoorStep.TheVariants as step
use Rattle.mpt_messages.specs.FrameBytes.{message_bytes}
use Rattle.mpt_messages.specs.HostFrames.{host_message}
use Rattle.mpt_messages.specs.declared.host_ask.HostAsk.{HostAsk}
use Rattle.mpt_messages.specs.declared.host_ask.HostAsk.TheVariants as ask
use Rattle.scsi_disk.specs.Command.{fits}
use Rattle.smid_pool.specs.Pool.{least_free}
use Rattle.smid_pool.specs.declared.class.Class.TheVariants as class
use Rattle.removal.specs.Handles.{ready_handle}
use Rattle.mpt_trace.specs.Command.{command_named}
use Rattle.mpt_wire.specs.Messages.Fields.{smid_in}
use Rattle.mpt_trace.specs.declared.host_state.HostState.{HostState}
use Rattle.mpt_trace.specs.declared.host_state.HostState.TheVariants as state
use Rattle.mpt_trace.specs.declared.input.Input.{Input}
use Rattle.mpt_trace.specs.declared.input.Input.TheVariants as input
use Rattle.mpt_trace.specs.declared.item.Back.{Back}
use Rattle.mpt_trace.specs.declared.item.Down.{Down}
use Rattle.mpt_trace.specs.declared.item.Down.TheVariants as down
use Rattle.mpt_trace.specs.declared.item.Up.{Up}
use Rattle.mpt_trace.specs.declared.item.Up.TheVariants as upward
use Rattle.mpt_rules.specs.declared.stage.Stage.{Stage}
use Rattle.mpt_rules.specs.declared.stage.Stage.TheVariants as stage
use Rattle.mpt_rules.specs.World.Cases.{Case, happens, is_free}
use Rattle.mpt_rules.specs.Host.Takes.{hears_up, is_starting, looks, stops}
use Rattle.mpt_rules.specs.Host.Doorbell as door
use Rattle.mpt_rules.specs.Host.Doorbell.{DoorTurn, next_turn}
use Rattle.mpt_rules.specs.Host.Inputs as inputs
use Rattle.mpt_rules.specs.Host.Parts.{Host, host_queue_count}
use Rattle.mpt_rules.specs.Host.Replies.{request_of}
use Rattle.mpt_rules.specs.Host.Resets as resets
use Rattle.mpt_rules.specs.Host.Returns.{after_sent}
use Rattle.mpt_rules.specs.Host.Strange.{why_strange}
use Rattle.mpt_rules.specs.Host.Values as values_of
use Rattle.mpt_rules.specs.World.Inputs.{host_told}
use Rattle.mpt_rules.specs.Ioc.Takes as adapter
use Rattle.mpt_rules.specs.Ioc.Parts.{Ioc, state_of}
use Rattle.mpt_rules.specs.Ioc.Steps as ioc_step
use Rattle.mpt_rules.specs.Ioc.Tables.{is_operational}
use Rattle.mpt_rules.specs.World.Lines.{down_line}
use Rattle.mpt_rules.specs.Outcome.{Happening}
use Rattle.mpt_rules.specs.World.State.{World, up_on, with_up}
use Rattle.law_facts.specs.Clock.{Clock, is_live}
use Rattle.law_facts.specs.DoorAhead.{AsksAhead, InStep, IsInMode, ReadsFor, ReadsReply, WaitsAt, answer_to, asked_in, awaits, door_ahead, value_at, waits_to_reset}
use Rattle.mpt_wire.specs.Messages.DoorbellWords.{asked_bytes, replied_bytes}
use Rattle.law_facts.specs.Facts.{Facts}
use Rattle.law_facts.specs.History.{History}
use Rattle.law_flights.proofs.WorkLeaves.{works_leaf}
use Rattle.law_moves.proofs.Cases.{IsHosts, Owes, kept}
use Rattle.law_moves.proofs.HostGoes.{none_of_or, value_is_due}
use Rattle.law_moves.proofs.HostSpeaks as speaks
use Rattle.law_moves.proofs.HostSpeaks.{Rises, Stays, ComesUp, Speaks, is_enable, is_handed_back, is_spoken}
use Rattle.law_moves.proofs.IocSpeaks.{CalmTold, LinkedUp, News, Speaks as SpeaksBack, Unlinked, never_out, news}
use Rattle.law_moves.proofs.IocTakes as leaf
use Rattle.law_moves.proofs.IocTakes.{Takes}
use Rattle.law_moves.proofs.Phases.{and_false}
use Rattle.law_clock.specs.Premises.{Before, IsStarted}
use Rattle.law_clock.proofs.PhaseKept.{asked_now, high_words, normal_words}
use Rattle.law_doors.proofs.Ahead.{quiet_ahead}
use Rattle.law_doors.proofs.Ending.{ends_by_clearing, never_cleared}
use Rattle.law_doors.proofs.StageKept.{Begun, begun_diagnostic, begun_look, begun_talk, begun_unit, false_true}
use Rattle.law_doors.proofs.StageWorld.{alone, coming}
use Rattle.law_doors.proofs.Turning.{IsWriteStep, Kind, value_ends}
use Rattle.law_doors.proofs.Whole.{whole_kept}
use Rattle.mpt_wire.specs.Machine.Causes.{is_up, is_resetting}

resetting_starts : (m : HostState) → is_resetting m ≡ true → is_starting m ≡ false
resetting_starts state.Resetting e = refl
resetting_starts state.Off e = absurd (cc)
resetting_starts state.Starting e = absurd (cc)
resetting_starts state.Up e = absurd (cc)

up_starts : (m : HostState) → is_up m ≡ true → is_starting m ≡ false
up_starts state.Up e = refl
up_starts state.Off e = absurd (cc)
up_starts state.Starting e = absurd (cc)
up_starts state.Resetting e = absurd (cc)

-- the host, over a controller that is live or not
abbrev pub Begins : Bool → Host → Type 0
Begins live k = is_starting k.mode ≡ true → k.machine ≡ None → live ≡ true

-- with a machine there is nothing to show
with_machine : (live : Bool) (k : Host) (d : HostDoor) → k.machine ≡ Some d → Begins live k
with_machine live k d e s n = absurd (some_none (sym e ∙ n))
  where
    some_none : Some d ≡ None → ⊥
    some_none z = cc

not_starting : (live : Bool) (k : Host) → is_starting k.mode ≡ false → Begins live k
not_starting live k e s n = absurd (false_true (is_starting k.mode) e s)

-- a machine that begins is one
begun : (live : Bool) (h : Host) (s : Stage) (k : Kind) (d : HostDoor) → Begun d k → Begins live (door.begins h s d)
begun live h s k d b = with_machine live (door.begins h s d) (next_turn d None).door (ap (λ x. (door.puts_step (door.puts_writes (record h { stage = s }) (next_turn d None).writes) (next_turn d None).door x).machine) b.step_is)

talks : (live : Bool) (h : Host) (s : Stage) (a : HostAsk) → Begins live (door.begins_handshake h s a)
talks live h s a = begun live h s _ (handshake_of_message (message_bytes (host_message a))) (begun_talk a)

module _ (w : World) (h : History) (b : Before w h) where
  f : Facts w h
  f = b.facts

  k : Clock w h
  k = f.clock

  abbrev On : Host → Type 0
  On x = Begins (is_live w) x

  same : (x : Host) → x.mode ≡ w.host.mode → x.machine ≡ w.host.machine → On x
  same x m e s n = f.doorbell.rests.started (sym (ap is_starting m) ∙ s) (sym e ∙ n)

  spoke : (x : Host) (test : Down → Bool) (en : Bool) → Speaks test en w.host x → On x
  spoke x test en y = by_rise y.rises
    where
      by_rise : Rises en w.host.mode x.mode → On x
      by_rise (Stays e) = same x e y.machine_is
      by_rise (ComesUp u r e) = not_starting (is_live w) x (ap is_starting e)

  -- ---- inputs

  asks : (s : Stage) (kd : Kind) (d : HostDoor) → Begun d kd → On (resets.with_reset_asked w.host s d)
  asks s kd d bg = by_read w.host.reading
    where
      by_read : (c : Bool) → On (if c then resets.gives_up w.host s else door.begins (resets.gives_up w.host s) s d)
      by_read true = not_starting (is_live w) (resets.gives_up w.host s) refl
      by_read false = begun (is_live w) (resets.gives_up w.host s) s kd d bg

  still : On w.host
  still = same w.host refl refl

  diag : (m : HostState) → On (inputs.diag_resets_in w.host m).part
  diag state.Off = still
  diag state.Starting = asks stage.DiagnosticReset _ diagnostic_reset begun_diagnostic
  diag state.Up = asks stage.DiagnosticReset _ diagnostic_reset begun_diagnostic
  diag state.Resetting = still

  unit : (m : HostState) → On (inputs.unit_resets_in w.host m).part
  unit state.Off = still
  unit state.Starting = still
  unit state.Up = asks stage.UnitReset _ unit_reset begun_unit
  unit state.Resetting = still

  starts : (m : HostState) → On (inputs.starts_in w.host m).part
  starts state.Off = begun (is_live w) (record w.host { mode = state.Starting }) stage.Start _ look_at_doorbell begun_look
  starts state.Starting = still
  starts state.Up = still
  starts state.Resetting = still

  told : (i : Input) → IsHosts i → On (host_told w.host i).part
  told input.Start t = starts w.host.mode
  told (input.Submit n address form) t = spoke (host_told w.host (input.Submit n address form)).part is_spoken false (speaks.submits false w.host n address (command_named form) (finset.contains w.host.accepted n) (is_up w.host.mode) (ready_handle w.host.phases address) (fits (command_named form)) (least_free class.ScsiIo w.host.pool))
  told (input.Abort n) t = spoke (host_told w.host (input.Abort n)).part is_spoken false (speaks.aborts false w.host n (is_up w.host.mode) (finmap.get w.host.cmds n) (finmap.get w.host.aborts n) (least_free class.High w.host.pool))
  told (input.TargetReset address) t = spoke (host_told w.host (input.TargetReset address)).part is_spoken false (speaks.targets false w.host address (is_up w.host.mode) (ready_handle w.host.phases address) (least_free class.High w.host.pool))
  told input.Reset t = diag w.host.mode
  told input.UnitReset t = unit w.host.mode
  told (input.Plug address expander phy) t = still
  told (input.Unplug address) t = still

  looked : On (looks w.host)
  looked = begun (is_live w) w.host stage.Look _ look_at_doorbell begun_look

  -- ---- a value

  live_of : (s : IocState) → s ≡ ioc_state.Operational → is_operational s ≡ true
  live_of s e = ap is_operational e

  module _ (v : ℕ) (rest : List Up) (e : up_on w 0 ≡ upward.Value v ∷ rest) (r : w.host.reading ≡ true) (why : why_strange w.host 0 (upward.Value v) ≡ None) where
    heard : Host
    heard = record w.host { reading = false }

    late : w.host.machine ≡ None → On (resets.begins_late (record w.host { reading = false }) w.host.stage)
    late n = by_stage w.host.stage
      where
        by_stage : (s : Stage) → On (resets.begins_late (record w.host { reading = false }) s)
        by_stage stage.DiagnosticReset = begun (is_live w) (record w.host { reading = false }) stage.DiagnosticReset _ diagnostic_reset begun_diagnostic
        by_stage stage.UnitReset = begun (is_live w) (record w.host { reading = false }) stage.UnitReset _ unit_reset begun_unit
        by_stage stage.Idle = same (record w.host { reading = false }) refl refl
        by_stage stage.Start = same (record w.host { reading = false }) refl refl
        by_stage stage.StartReset = same (record w.host { reading = false }) refl refl
        by_stage stage.Facts = same (record w.host { reading = false }) refl refl
        by_stage stage.PortFacts = same (record w.host { reading = false }) refl refl
        by_stage stage.Init = same (record w.host { reading = false }) refl refl
        by_stage stage.Look = same (record w.host { reading = false }) refl refl

    module _ (d : HostDoor) (is : w.host.machine ≡ Some d) (x : Reading) (at : d.stage ≡ door_stage.Awaits x) (rf : ReadsFor w.host.stage x) (im : IsInMode w w.host.stage) where
      -- IOC Init's reply was read to its end, so the controller is OPERATIONAL ahead, and no register is written any more
      inits : w.host.stage ≡ stage.Init → (count : ℕ) (bytes : List ℕ) → (next_turn d (Some v)).step ≡ step.Done count bytes → is_live w ≡ true
      inits s count bytes y = by_half (f.doorbell.lock_step.steps d (ask.Init (host_queue_count w.host)) is (ap (asked_in w) s)).leads
        where
          hr : Rattle.law_facts.specs.DoorAhead.is_handshake_reading x ≡ true
          hr = subst (λ t. ReadsFor t x) s rf

          val : v ≡ value_at (door_ahead w) (awaits d.stage)
          val = f.doorbell.lock_step.value d v is (ap is_resetting (subst (IsInMode w) s im)) (coming w h b v rest e r why)

          by_half : AsksAhead w d (ask.Init (host_queue_count w.host)) ⊎ ReadsReply w d (ask.Init (host_queue_count w.host)) → is_live w ≡ true
          by_half (inr z) = live_of w.ioc.door.state (sym (ap (λ (c : DoorRegisters). c.state) (quiet_ahead w.ioc (down_line w) (alone w h b v rest e r).1)) ∙ z.state)
          by_half (inl z) =
              absurd (never_cleared (asked_bytes (ask.Init (host_queue_count w.host))) (replied_bytes (answer_to w (ask.Init (host_queue_count w.host)))) z.leads.0 d v (door_ahead w) (ends_by_clearing d v count bytes x at hr y).0
              (subst (λ n. Rattle.mpi_doorbell.specs.Meeting.LeadsIn (Rattle.mpi_doorbell.specs.Meeting.AsksAndEnds (asked_bytes (ask.Init (host_queue_count w.host))) (replied_bytes (answer_to w (ask.Init (host_queue_count w.host))))) z.leads.0 (record { host = d; value = Some n; registers = door_ahead w })) (sym val) z.leads.1))

      -- the machine is over
      over : Host
      over = door.rests (door.puts_writes (record w.host { reading = false }) (next_turn d (Some v)).writes)

      ready : w.host.mode ≡ state.Resetting → On (resets.hears_ready (door.rests (door.puts_writes (record w.host { reading = false }) (next_turn d (Some v)).writes))).part
      ready m = by_marks (resets.has_all_marks (door.rests (door.puts_writes (record w.host { reading = false }) (next_turn d (Some v)).writes)))
        where
          n : Host
          n = record (door.rests (door.puts_writes (record w.host { reading = false }) (next_turn d (Some v)).writes)) { door_ready = true }

          by_marks : (c : Bool) → On (if c then resets.ends_reset n else record { part = n; entries = [] }).part
          by_marks true = talks (is_live w) (resets.renewed n) stage.Facts ask.Facts
          by_marks false = not_starting (is_live w) n (ap is_starting m)

      starts_by : (a c e : Bool) → (m : Host) → On (if a then door.begins_facts m else if c then door.begins m stage.StartReset unit_reset else if e then door.begins m stage.StartReset diagnostic_reset else values_of.looks_to_start m)
      starts_by true c e m = talks (is_live w) m stage.Facts ask.Facts
      starts_by false true e m = begun (is_live w) m stage.StartReset _ unit_reset begun_unit
      starts_by false false true m = begun (is_live w) m stage.StartReset _ diagnostic_reset begun_diagnostic
      starts_by false false false m = begun (is_live w) m stage.Start _ look_at_doorbell begun_look

      ends : (s : Stage) → w.host.stage ≡ s → ReadsFor s x → IsInMode w s → (count : ℕ) (bytes : List ℕ) → (next_turn d (Some v)).step ≡ step.Done count bytes
          → On (values_of.ends_stage (door.rests (door.puts_writes (record w.host { reading = false }) (next_turn d (Some v)).writes)) s (take count bytes)).part
      ends stage.Idle q g i count bytes y = absurd g
      ends stage.StartReset q g i count bytes y = absurd g
      ends stage.Start q g i count bytes y =
          let n = values_of.state_read (take count bytes) in
          starts_by (n == IOC_STATE_READY) (n == IOC_STATE_OPERATIONAL) (n == IOC_STATE_FAULT) (door.rests (door.puts_writes (record w.host { reading = false }) (next_turn d (Some v)).writes))
      ends stage.Facts q g i count bytes y = talks (is_live w) (door.rests (door.puts_writes (record w.host { reading = false }) (next_turn d (Some v)).writes)) stage.PortFacts ask.PortFacts
      ends stage.PortFacts q g i count bytes y = talks (is_live w) (door.rests (door.puts_writes (record w.host { reading = false }) (next_turn d (Some v)).writes)) stage.Init (ask.Init (host_queue_count w.host))
      ends stage.Init q g i count bytes y = λ s n. inits q count bytes y
      ends stage.Look q g i count bytes y = not_starting (is_live w) (door.rests (door.puts_writes (record w.host { reading = false }) (next_turn d (Some v)).writes)) (ap is_starting i)
      ends stage.DiagnosticReset q g i count bytes y = ready i
      ends stage.UnitReset q g i count bytes y = ready i

      refused : (s : DoorStep) → (next_turn d (Some v)).step ≡ s → Rattle.mpt_rules.specs.Host.Handshakes.door_refused s ≡ None
      refused s y =
          let a = (none_of_or (Rattle.mpt_rules.specs.Host.Strange.wrong_queue_of_value 0) _ why).1 in
          let c0 = (none_of_or (Rattle.mpt_rules.specs.Host.Strange.no_read w.host) _ a).1 in
          let c = (none_of_or (Rattle.mpt_rules.specs.Host.Handshakes.why_door w.host w.host.machine v) None c0).0 in
          let g : Rattle.mpt_rules.specs.Host.Handshakes.why_door w.host (Some d) v ≡ None = ap (λ o. Rattle.mpt_rules.specs.Host.Handshakes.why_door w.host o v) (sym is) ∙ c in
          sym (ap Rattle.mpt_rules.specs.Host.Handshakes.door_refused y) ∙ (none_of_or (Rattle.mpt_rules.specs.Host.Handshakes.door_refused (next_turn d (Some v)).step) _ g).0

      by_step : (s : DoorStep) → (next_turn d (Some v)).step ≡ s → On (values_of.after_turn (door.puts_turn (record w.host { reading = false }) (next_turn d (Some v))) w.host.stage s).part
      by_step (step.Read reg) y = with_machine (is_live w) (door.puts_turn (record w.host { reading = false }) (next_turn d (Some v))) (next_turn d (Some v)).door (ap (λ z. (door.puts_step (door.puts_writes (record w.host { reading = false }) (next_turn d (Some v)).writes) (next_turn d (Some v)).door z).machine) y)
      by_step (step.Write reg value) y = absurd (value_ends d x v at (subst IsWriteStep (sym y) tt))
      by_step (step.Refused p value) y = absurd (some_none (refused (step.Refused p value) y))
        where
          some_none : Some (Rattle.mpt_rules.specs.declared.why.Why.TheVariants.DoorRefused p value) ≡ None → ⊥
          some_none z = cc
      by_step (step.Done count bytes) y =
          let z : door.puts_turn (record w.host { reading = false }) (next_turn d (Some v)) ≡ door.rests (door.puts_writes (record w.host { reading = false }) (next_turn d (Some v)).writes) = ap (door.puts_step (door.puts_writes (record w.host { reading = false }) (next_turn d (Some v)).writes) (next_turn d (Some v)).door) y in
          subst (λ n. On (values_of.ends_stage n w.host.stage (take count bytes)).part) (sym z) (ends w.host.stage refl rf im count bytes y)

    valued : On (values_of.hears_value w.host v).part
    valued = by_machine w.host.machine refl
      where
        by_stage : (d : HostDoor) → w.host.machine ≡ Some d → (s : DoorStage) → d.stage ≡ s → WaitsAt w s → On (values_of.hears_turn (record w.host { reading = false }) (next_turn d (Some v))).part
        by_stage d m (door_stage.Awaits x) at a = by_step d m x at a.0 a.1 (next_turn d (Some v)).step refl
        by_stage d m (door_stage.Reads x) at a = absurd a
        by_stage d m door_stage.Opens at a = absurd a
        by_stage d m (door_stage.WritesKey p) at a = absurd a
        by_stage d m door_stage.Locks at a = absurd a
        by_stage d m door_stage.ResetsUnit at a = absurd a
        by_stage d m door_stage.Finishes at a = absurd a
        by_stage d m door_stage.Ended at a = absurd a

        by_machine : (o : Option HostDoor) → w.host.machine ≡ o → On (values_of.hears_value_at (record w.host { reading = false }) o v).part
        by_machine None n = late n
        by_machine (Some d) m = by_stage d m d.stage refl (f.doorbell.stage.machine d m)

  -- ---- another item

  took : (queue : ℕ) (x : Up) (rest : List Up) → up_on w queue ≡ x ∷ rest → why_strange w.host queue x ≡ None → On (hears_up w.host queue x).part
  took queue (upward.Value v) rest e why =
      let d = value_is_due w queue v why in
      valued v rest (subst (λ n. up_on w n ≡ upward.Value v ∷ rest) d.0 e) d.1 (subst (λ n. why_strange w.host n (upward.Value v) ≡ None) d.0 why)
  took queue (upward.Reply d g page sense) rest e why = by_mode (is_resetting w.host.mode) refl
    where
      by_mode : (c : Bool) → is_resetting w.host.mode ≡ c → On (hears_up w.host queue (upward.Reply d g page sense)).part
      by_mode true m = spoke (hears_up w.host queue (upward.Reply d g page sense)).part is_handed_back false (speaks.hands_back w.host m (f.doorbell.fresh_start.given_up m).0 is_handed_back (λ v. refl) (λ e a i. refl) queue d g page sense)
      by_mode false m = let n = is_enable (request_of w.host (smid_in d)) in spoke (hears_up w.host queue (upward.Reply d g page sense)).part is_spoken n (speaks.says_back n w.host m queue d g page sense refl)
  took queue (upward.Mark generation) rest e why = by_over (w.host.door_ready && resets.has_all_marks (record w.host { marks = slice_set w.host.marks queue true }))
    where
      n : Host
      n = record w.host { marks = slice_set w.host.marks queue true }

      by_over : (c : Bool) → On (if c then resets.ends_reset n else record { part = n; entries = [] }).part
      by_over true = talks (is_live w) (resets.renewed n) stage.Facts ask.Facts
      by_over false = same n refl refl
  took queue upward.Calm rest e why = still

  put : (x : Down) (rest : List Down) → On (after_sent w.host x rest)
  put (down.Return address index) rest = same (after_sent w.host (down.Return address index) rest) refl refl
  put (down.Write reg value) rest = same (after_sent w.host (down.Write reg value) rest) refl refl
  put (down.Read reg) rest = same (after_sent w.host (down.Read reg) rest) refl refl
  put (down.Post d g q) rest = same (after_sent w.host (down.Post d g q) rest) refl refl
  put down.Stop rest = same (after_sent w.host down.Stop rest) refl refl

  -- ---- the controller

  -- its state is as it was
  stays : (s : IocState) → s ≡ state_of w.ioc → Begins (is_operational s) w.host
  stays s e m n = ap is_operational e ∙ f.doorbell.rests.started m n

  resets_now : (s : IocState) → is_resetting w.host.mode ≡ true → Begins (is_operational s) w.host
  resets_now s m = not_starting (is_operational s) w.host (resetting_starts w.host.mode m)

  taken : (x : Down) (rest : List Down) (i : Ioc) → w.down ≡ x ∷ rest → Takes w.ioc x i → is_fault (state_of i) ≡ false → Begins (is_operational (state_of i)) w.host
  taken x rest i e (leaf.Faults y j g) n = absurd (false_true _ n g)
  taken x rest i e (leaf.Written reg value j nr s sa) n = stays (state_of i) s
  taken x rest i e (leaf.Operates value j nr r s sa) n = λ m z. live_of (state_of i) s
  taken x rest i e (leaf.Forgets reg value d r) n = resets_now ioc_state.Reset (and_false _ _ (and_false _ _ (asked_now w h b x rest e r)).0).0
  taken x rest i e (leaf.Reads reg value) n = stays (state_of w.ioc) refl
  taken x rest i e (leaf.Posts d g p j o sa) n = stays (state_of i) (ap (λ (y : Ioc). state_of y) sa)
  taken x rest i e (leaf.DropsPost d g p o) n = stays (state_of w.ioc) refl
  taken x rest i e (leaf.Returns address index j o sa) n = stays (state_of i) (ap (λ (y : Ioc). state_of y) sa)
  taken x rest i e (leaf.DropsReturn address index o) n = stays (state_of w.ioc) refl
  taken x rest i e leaf.Stops n = stays (state_of w.ioc) refl

  told_back : (x : Back) (o : Happening Ioc) → News never_out w.ioc x o → Begins (is_operational (state_of o.part)) w.host
  told_back x o (SpeaksBack l q) = stays (state_of o.part) (ap (λ (d : DoorRegisters). d.state) q.door_is)
  told_back x o (Unlinked n i z e) = stays (state_of o.part) (ap (λ (y : Happening Ioc). state_of y.part) e)
  told_back x o (LinkedUp n i g r e) = resets_now (state_of o.part) (and_false _ _ (k.phase_table.reset r)).0
  told_back x o (CalmTold i e) = stays (state_of o.part) (ap (λ (y : Happening Ioc). state_of y.part) e)

  abbrev Kept : World → Type 0
  Kept v = is_fault (state_of v.ioc) ≡ false → IsStarted v

  owes : Owes Kept w
  owes =
      record {
        host_puts = λ x rest e v. put x rest;
        host_takes = λ queue x rest e y v. took queue x rest e y;
        host_told = λ i t v. told i t;
        host_looks = λ e v. looked;
        host_stops = λ e v. same (stops w.host) refl refl;
        ioc_takes = λ x rest e v. taken x rest (adapter.takes_down w.ioc x).part e (leaf.takes w.ioc f.doorbell.sound.waits k.phase_table.whole x) v;
        ioc_high = λ p rest e v. stays _ (ap (λ (d : DoorRegisters). d.state) (high_words w h b p rest).door_is);
        ioc_normal = λ p rest e v. stays _ (ap (λ (d : DoorRegisters). d.state) (normal_words w h b p rest).door_is);
        ioc_puts_out = λ x rest e v. still;
        ioc_takes_back = λ x rest e v. told_back x (adapter.takes_back w.ioc x) (news never_out w.ioc x);
        ioc_puts = λ queue y rest z e u v. still;
        fabric_takes = λ x rest e v. still;
        fabric_says = λ x rest e v. still;
        fabric_puts = λ x rest e v. still;
        fabric_runs = λ tag address e v. still;
        plugs = λ address expander phy v. still;
        unplugs = λ address v. still;
        calms = λ v. still;
      }

-- each case keeps it
pub started_kept : (w : World) (h : History) → Before w h → (c : Case) → IsStarted (happens w c)
started_kept w h b c = kept (Kept w h b) w b.plain (owes w h b) (λ v. still w h b) c (whole_kept w h b.facts b.plain c)
