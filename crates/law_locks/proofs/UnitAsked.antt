-- A call that begins or asks a message unit reset comes to a host that is up.
use Rattle.std.proofs.Common.{◌≡◌, ℕ, ◌==◌, ◌&&◌, not, Bool, true, false, if◌then◌else◌, List, [], ◌∷◌, slice_set, Option, Some, None, is_none, refl, ap, sym, ◌∙◌, subst}
use Rattle.std.specs.FinMap as finmap
use Rattle.std.specs.FinSet as finset
use Rattle.mpi_doorbell.specs.HostDoor.{HostDoor}
use Rattle.mpi_doorbell.specs.HostSteps.{diagnostic_reset, look_at_doorbell}
use Rattle.mpi_doorbell.specs.declared.stage.Stage.{Stage as DoorStage}
use Rattle.mpi_doorbell.specs.declared.stage.Stage.TheVariants as door_stage
use Rattle.mpt_messages.specs.declared.host_ask.HostAsk.TheVariants as ask
use Rattle.scsi_disk.specs.Command.{fits}
use Rattle.smid_pool.specs.Pool.{least_free}
use Rattle.smid_pool.specs.declared.class.Class.TheVariants as class
use Rattle.removal.specs.Handles.{ready_handle}
use Rattle.mpt_trace.specs.Command.{command_named}
use Rattle.mpt_wire.specs.Machine.Causes.{is_up, is_resetting}
use Rattle.mpt_wire.specs.Messages.Fields.{smid_in}
use Rattle.mpt_trace.specs.declared.host_state.HostState.{HostState}
use Rattle.mpt_trace.specs.declared.host_state.HostState.TheVariants as state
use Rattle.mpt_trace.specs.declared.input.Input.{Input}
use Rattle.mpt_trace.specs.declared.input.Input.TheVariants as input
use Rattle.mpt_trace.specs.declared.item.Up.{Up}
use Rattle.mpt_trace.specs.declared.item.Up.TheVariants as upward
use Rattle.mpt_rules.specs.declared.stage.Stage.{Stage}
use Rattle.mpt_rules.specs.declared.stage.Stage.TheVariants as stage
use Rattle.mpt_rules.specs.Host.Doorbell as door
use Rattle.mpt_rules.specs.Host.Inputs as inputs
use Rattle.mpt_rules.specs.Host.Parts.{Host}
use Rattle.mpt_rules.specs.Host.Replies.{request_of}
use Rattle.mpt_rules.specs.Host.Resets as resets
use Rattle.mpt_rules.specs.Host.Takes.{hears_up, looks, stops}
use Rattle.mpt_rules.specs.World.Inputs.{host_told}
use Rattle.mpt_rules.specs.World.State.{World}
use Rattle.law_facts.specs.DoorAhead.{IsInMode, WaitsAt, waits_to_reset}
use Rattle.law_facts.specs.History.{History}
use Rattle.law_moves.proofs.Cases.{IsHosts}
use Rattle.law_moves.proofs.HostGoes.{heard_of, is_value}
use Rattle.law_moves.proofs.HostSpeaks as speaks
use Rattle.law_moves.proofs.HostSpeaks.{is_enable}
use Rattle.law_clock.specs.Premises.{Before}
use Rattle.law_doors.proofs.StageKept.{Begun, begun_diagnostic, begun_look, begun_talk}
use Rattle.law_doors.proofs.Turning.{Kind}
use Rattle.law_starts.proofs.HostAtDoor.{asks_with, begins_is, contrary}

-- what a machine is for, behind its beginning
stage_begun : (base : Host) (z : Stage) (d : HostDoor) (k : Kind) → Begun d k → (door.begins base z d).stage ≡ z
stage_begun base z d k b = ap (λ (x : Host). x.stage) (begins_is base z d k b)

module _ (w : World) (h : History) (b : Before w h) where
  abbrev IsUp : Host → Type 0
  IsUp x = x.stage ≡ stage.UnitReset → is_resetting w.host.mode ≡ false → w.host.mode ≡ state.Up

  -- a host that isn't resetting has no such machine
  not_unit : {T : Type 0} → w.host.stage ≡ stage.UnitReset → is_resetting w.host.mode ≡ false → T
  not_unit {T} e m = by_machine w.host.machine refl
    where
      mode_of : (z : DoorStage) → WaitsAt w z → IsInMode w w.host.stage
      mode_of (door_stage.Awaits x) q = q.1
      mode_of (door_stage.Reads x) q = absurd q
      mode_of door_stage.Opens q = absurd q
      mode_of (door_stage.WritesKey place) q = absurd q
      mode_of door_stage.Locks q = absurd q
      mode_of door_stage.ResetsUnit q = absurd q
      mode_of door_stage.Finishes q = absurd q
      mode_of door_stage.Ended q = absurd q

      never : stage.Idle ≡ stage.UnitReset → ⊥
      never q = cc

      waits : waits_to_reset w ≡ false
      waits = ap (λ c. (c && not (w.host.asked == w.ioc.generation)) && (w.host.reading && is_none w.host.machine)) m

      by_machine : (o : Option HostDoor) → w.host.machine ≡ o → T
      by_machine None n = absurd (never (sym (b.facts.doorbell.stage.none n waits) ∙ e))
      by_machine (Some d) n = contrary (is_resetting w.host.mode) m (ap is_resetting (subst (IsInMode w) e (mode_of d.stage (b.facts.doorbell.stage.machine d n))))

  -- what leaves the stage
  same_up : (x : Host) → x.stage ≡ w.host.stage → IsUp x
  same_up x e q m = not_unit (sym e ∙ q) m

  -- what begins another machine
  other_up : (x : Host) (z : Stage) → x.stage ≡ z → (z ≡ stage.UnitReset → ⊥) → IsUp x
  other_up x z e n q m = absurd (n (sym e ∙ q))

  starts : (m : HostState) → IsUp (inputs.starts_in w.host m).part
  starts state.Off = other_up (inputs.starts_in w.host state.Off).part stage.Start (stage_begun (record w.host { mode = state.Starting }) stage.Start look_at_doorbell _ begun_look) (λ e. cc)
  starts state.Starting = same_up w.host refl
  starts state.Up = same_up w.host refl
  starts state.Resetting = same_up w.host refl

  diagnoses : IsUp (resets.with_reset_asked w.host stage.DiagnosticReset diagnostic_reset)
  diagnoses = by_read w.host.reading
    where
      by_read : (c : Bool) → IsUp (if c then resets.gives_up w.host stage.DiagnosticReset else door.begins (resets.gives_up w.host stage.DiagnosticReset) stage.DiagnosticReset diagnostic_reset)
      by_read true = other_up (resets.gives_up w.host stage.DiagnosticReset) stage.DiagnosticReset refl (λ e. cc)
      by_read false = other_up (door.begins (resets.gives_up w.host stage.DiagnosticReset) stage.DiagnosticReset diagnostic_reset) stage.DiagnosticReset (stage_begun (resets.gives_up w.host stage.DiagnosticReset) stage.DiagnosticReset diagnostic_reset _ begun_diagnostic) (λ e. cc)

  diag : (m : HostState) → IsUp (inputs.diag_resets_in w.host m).part
  diag state.Off = same_up w.host refl
  diag state.Starting = diagnoses
  diag state.Up = diagnoses
  diag state.Resetting = same_up w.host refl

  unit : (m : HostState) → w.host.mode ≡ m → IsUp (inputs.unit_resets_in w.host m).part
  unit state.Off e = same_up w.host refl
  unit state.Starting e = same_up w.host refl
  unit state.Up e = λ q n. e
  unit state.Resetting e = same_up w.host refl

  pub told_up : (i : Input) → IsHosts i → IsUp (host_told w.host i).part
  told_up input.Start t = starts w.host.mode
  told_up (input.Submit n address form) t =
      same_up (host_told w.host (input.Submit n address form)).part
      (speaks.submits false w.host n address (command_named form) (finset.contains w.host.accepted n) (is_up w.host.mode) (ready_handle w.host.phases address) (fits (command_named form)) (least_free class.ScsiIo w.host.pool)).stage_is
  told_up (input.Abort n) t = same_up (host_told w.host (input.Abort n)).part (speaks.aborts false w.host n (is_up w.host.mode) (finmap.get w.host.cmds n) (finmap.get w.host.aborts n) (least_free class.High w.host.pool)).stage_is
  told_up (input.TargetReset address) t = same_up (host_told w.host (input.TargetReset address)).part (speaks.targets false w.host address (is_up w.host.mode) (ready_handle w.host.phases address) (least_free class.High w.host.pool)).stage_is
  told_up input.Reset t = diag w.host.mode
  told_up input.UnitReset t = unit w.host.mode refl
  told_up (input.Plug address expander phy) t = same_up w.host refl
  told_up (input.Unplug address) t = same_up w.host refl

  pub looked_up : IsUp (looks w.host)
  looked_up = other_up (looks w.host) stage.Look (stage_begun w.host stage.Look look_at_doorbell _ begun_look) (λ e. cc)

  pub stopped_up : IsUp (stops w.host)
  stopped_up = same_up (stops w.host) refl

  -- an item without a value
  pub took_up : (queue : ℕ) (x : Up) → is_value (heard_of queue x) ≡ false → IsUp (hears_up w.host queue x).part
  took_up queue (upward.Value v) e = absurd (cc)
  took_up queue (upward.Reply d g page sense) e = λ q m. same_up (hears_up w.host queue (upward.Reply d g page sense)).part (speaks.says_back (is_enable (request_of w.host (smid_in d))) w.host m queue d g page sense refl).stage_is q m
  took_up queue (upward.Mark generation) e = by_over (w.host.door_ready && resets.has_all_marks (record w.host { marks = slice_set w.host.marks queue true }))
    where
      n : Host
      n = record w.host { marks = slice_set w.host.marks queue true }

      by_over : (c : Bool) → IsUp (if c then resets.ends_reset n else record { part = n; entries = [] }).part
      by_over true = other_up (resets.ends_reset n).part stage.Facts (stage_begun (resets.renewed n) stage.Facts (asks_with ask.Facts) _ (begun_talk ask.Facts)) (λ e. cc)
      by_over false = same_up n refl
  took_up queue upward.Calm e = same_up w.host refl
