-- What each call of the host does at the doorbell, as data: nothing, or a machine begins, goes on, or is over.
use Rattle.std.proofs.Common.{◌≡◌, ℕ, ◌≤◌, ◌==◌, ◌&&◌, ◌||◌, ◌⊎◌, inl, inr, not, Bool, true, false, if◌then◌else◌, List, [], ◌∷◌, ◌++◌, get_or, map, slice_set, take, Option, Some, None, refl, ap, sym, ◌∙◌, subst, arith}
use Rattle.std.specs.FinMap as finmap
use Rattle.std.specs.FinSet as finset
use Rattle.mpi_doorbell.specs.HostDoor.{HostDoor}
use Rattle.mpi_doorbell.specs.HostSteps.{diagnostic_reset, handshake_of_message, look_at_doorbell, unit_reset}
use Rattle.mpi_doorbell.specs.declared.registers.TheConstants.{IOC_STATE_READY, REPLY_POST_HOST_INDEX}
use Rattle.mpi_doorbell.specs.declared.stage.Reading.{Reading}
use Rattle.mpi_doorbell.specs.declared.stage.Stage.{Stage as DoorStage}
use Rattle.mpi_doorbell.specs.declared.stage.Stage.TheVariants as door_stage
use Rattle.mpi_doorbell.specs.declared.step.DoorStep.{DoorStep}
use Rattle.mpi_doorbell.specs.declared.step.DoorStep.TheVariants as step
use Rattle.mpt_messages.specs.FrameBytes.{message_bytes}
use Rattle.mpt_messages.specs.HostFrames.{host_message}
use Rattle.mpt_messages.specs.declared.host_ask.HostAsk.{HostAsk}
use Rattle.mpt_messages.specs.declared.host_ask.HostAsk.TheVariants as ask
use Rattle.scsi_disk.specs.Command.{fits}
use Rattle.smid_pool.specs.Pool.{least_free}
use Rattle.smid_pool.specs.declared.class.Class.TheVariants as class
use Rattle.removal.specs.Handles.{ready_handle}
use Rattle.mpt_trace.specs.Command.{command_named}
use Rattle.mpt_wire.specs.Messages.Fields.{smid_in}
use Rattle.mpt_wire.specs.Machine.Causes.{is_up, is_resetting}
use Rattle.mpt_trace.specs.declared.host_state.HostState.{HostState}
use Rattle.mpt_trace.specs.declared.host_state.HostState.TheVariants as state
use Rattle.mpt_trace.specs.declared.input.Input.{Input}
use Rattle.mpt_trace.specs.declared.input.Input.TheVariants as input
use Rattle.mpt_trace.specs.declared.item.Down.{Down}
use Rattle.mpt_trace.specs.declared.item.Down.TheVariants as down
use Rattle.mpt_trace.specs.declared.item.Up.{Up}
use Rattle.mpt_trace.specs.declared.item.Up.TheVariants as upward
use Rattle.mpt_rules.specs.declared.stage.Stage.{Stage}
use Rattle.mpt_rules.specs.declared.stage.Stage.TheVariants as stage
use Rattle.mpt_rules.specs.World.Cases.{is_free}
use Rattle.mpt_rules.specs.Host.Takes.{hears_up, looks, stops}
use Rattle.mpt_rules.specs.Host.Doorbell as door
use Rattle.mpt_rules.specs.Host.Doorbell.{DoorTurn, next_turn}
use Rattle.mpt_rules.specs.Host.Inputs as inputs
use Rattle.mpt_rules.specs.Host.Parts.{Host, host_queue_count}
use Rattle.mpt_rules.specs.Host.Replies.{request_of}
use Rattle.mpt_rules.specs.Host.Resets as resets
use Rattle.mpt_rules.specs.Host.Strange.{why_strange}
use Rattle.mpt_rules.specs.Host.Values as values_of
use Rattle.mpt_rules.specs.World.Inputs.{host_told}
use Rattle.mpt_rules.specs.World.Counts.{how_many, one_if, read_count, value_count}
use Rattle.mpt_rules.specs.World.Lines.{said_of, up_line}
use Rattle.mpt_rules.specs.World.Weight.{is_said_value}
use Rattle.mpt_rules.specs.declared.said.Said.TheVariants as said
use Rattle.mpt_rules.specs.World.State.{World, up_on}
use Rattle.law_facts.specs.DoorAhead.{IsInMode, ReadsFor, StageFits, WaitsAt, first_value, value_coming, waits_to_reset}
use Rattle.law_facts.specs.History.{History}
use Rattle.law_moves.proofs.Cases.{IsHosts}
use Rattle.law_moves.proofs.Counted.{Grown, all_pass, grown-none, grown-one, how_many-cons}
use Rattle.law_moves.proofs.Hears.{IsOver, is_reset_stage}
use Rattle.law_moves.proofs.HostGoes.{heard_of, is_value, none_of_or, value_is_due}
use Rattle.law_moves.proofs.HostSpeaks as speaks
use Rattle.law_moves.proofs.HostSpeaks.{Rises, Stays, ComesUp, Speaks, is_enable, is_handed_back, is_spoken}
use Rattle.law_moves.proofs.Phases.{and_false}
use Rattle.law_clock.specs.Premises.{Before}
use Rattle.law_doors.proofs.StageKept.{Begun, begun_diagnostic, begun_look, begun_talk, begun_unit}
use Rattle.law_doors.proofs.StageWorld.{enabling, reads_ready}
use Rattle.law_doors.proofs.Turning.{Diagnoses, IsWriteStep, Kind, Looks, Shakes, Units, value_ends}

-- false and true
pub contrary : {T : Type 0} (c : Bool) → c ≡ false → c ≡ true → T
contrary true e f = absurd (cc)
contrary false e f = absurd (cc)

-- items that are no writes
pub read_no_write : (r reg value : ℕ) → down.Read r ≡ down.Write reg value → ⊥
read_no_write r reg value e = cc

pub post_no_write : (d : ℕ) (f p : List ℕ) (reg value : ℕ) → down.Post d f p ≡ down.Write reg value → ⊥
post_no_write d f p reg value e = cc

pub return_no_write : (a i reg value : ℕ) → down.Return a i ≡ down.Write reg value → ⊥
return_no_write a i reg value e = cc

pub stop_no_write : (reg value : ℕ) → down.Stop ≡ down.Write reg value → ⊥
stop_no_write reg value e = cc

-- neither a read nor a register write
abbrev pub is_plain : Down → Bool
is_plain (down.Write reg value) = reg == REPLY_POST_HOST_INDEX
is_plain (down.Read reg) = false
is_plain (down.Post d f p) = true
is_plain (down.Return a i) = true
is_plain down.Stop = true

-- the host as it has the value
abbrev pub heard : World → Host
heard w = record w.host { reading = false }

-- the machine is over
abbrev pub over : World → HostDoor → ℕ → Host
over w d v = door.rests (door.puts_writes (record w.host { reading = false }) (next_turn d (Some v)).writes)

-- a machine has its value
pub record HasValue (w : World) (d : HostDoor) (x : Reading) (v : ℕ) : Type 0 where
  pub rest : List Up
  pub front : up_on w 0 ≡ upward.Value v ∷ rest
  pub reading : w.host.reading ≡ true
  pub machine_is : w.host.machine ≡ Some d
  pub at : d.stage ≡ door_stage.Awaits x
  pub reads_for : ReadsFor w.host.stage x
  pub in_mode : IsInMode w w.host.stage

pub value_comes : (w : World) (d : HostDoor) (x : Reading) (v : ℕ) → HasValue w d x v → value_coming w ≡ Some v
unfolding first_value
value_comes w d x v hv = ap (λ xs. first_value (map said_of xs ++ get_or w.ioc.up 0 [])) hv.front

-- the machine of a reset
pub data ResetMachine : Stage → HostDoor → Type 0 where
  Diagnostic : ResetMachine stage.DiagnosticReset diagnostic_reset
  MessageUnit : ResetMachine stage.UnitReset unit_reset

-- which handshake follows in a start
pub data NextShake (w : World) : Stage → Stage → HostAsk → Type 0 where
  FactsNext : NextShake w stage.Start stage.Facts ask.Facts
  PortFactsNext : NextShake w stage.Facts stage.PortFacts ask.PortFacts
  InitNext : NextShake w stage.PortFacts stage.Init (ask.Init (host_queue_count w.host))

abbrev pub asks_with : HostAsk → HostDoor
asks_with a = handshake_of_message (message_bytes (host_message a))

-- the host that begins a machine, what for, the machine, and whether a value was taken
pub data Beginning (w : World) : Host → Stage → HostDoor → Bool → Type 0 where
  FromOff : w.host.mode ≡ state.Off → Beginning w (record w.host { mode = state.Starting }) stage.Start look_at_doorbell false
  Free : w.host.mode ≡ state.Up → w.host.reading ≡ false → Beginning w w.host stage.Look look_at_doorbell false
  Asked : (s : Stage) (d : HostDoor) → ResetMachine s d → is_resetting w.host.mode ≡ false → w.host.reading ≡ false → Beginning w (resets.gives_up w.host s) s d false
  Late : (s : Stage) (d : HostDoor) → ResetMachine s d → w.host.stage ≡ s → w.host.machine ≡ None → waits_to_reset w ≡ true → (v : ℕ) (rest : List Up) → up_on w 0 ≡ upward.Value v ∷ rest → w.host.reading ≡ true → Beginning w (record w.host { reading = false }) s d true
  Marked : (queue : ℕ) → is_resetting w.host.mode ≡ true → w.host.door_ready ≡ true → Beginning w (resets.renewed (record w.host { marks = slice_set w.host.marks queue true })) stage.Facts (asks_with ask.Facts) false
  Renewed : (d : HostDoor) (x : Reading) (v : ℕ) → HasValue w d x v → IsOver (next_turn d (Some v)).step → is_reset_stage w.host.stage ≡ true → Beginning w (resets.renewed (record (over w d v) { door_ready = true })) stage.Facts (asks_with ask.Facts) true
  Next : (d : HostDoor) (x : Reading) (v : ℕ) → HasValue w d x v → IsOver (next_turn d (Some v)).step → (s : Stage) (a : HostAsk) → NextShake w w.host.stage s a → Beginning w (over w d v) s (asks_with a) true

-- nothing of the machine moves
pub record KeepsDoor (w : World) (x : Host) : Type 0 where
  pub grows : Grown is_plain w.host.out x.out
  pub machine_is : x.machine ≡ w.host.machine
  pub stage_is : x.stage ≡ w.host.stage
  pub reading_is : x.reading ≡ w.host.reading
  pub asked_is : x.asked ≡ w.host.asked
  pub returning_is : x.returning ≡ w.host.returning
  pub mode_is : (x.mode ≡ w.host.mode) ⊎ ((is_resetting w.host.mode ≡ false) × (w.host.machine ≡ None) × (x.mode ≡ state.Up))

pub data AtDoor (w : World) (x : Host) : Bool → Type 0 where
  Keeps : KeepsDoor w x → AtDoor w x false
  GivesUp : (s : Stage) → is_reset_stage s ≡ true → is_resetting w.host.mode ≡ false → w.host.reading ≡ true → x ≡ resets.gives_up w.host s → AtDoor w x false
  -- nobody waits for the value
  Drops : w.host.machine ≡ None → waits_to_reset w ≡ false → (v : ℕ) (rest : List Up) → up_on w 0 ≡ upward.Value v ∷ rest → w.host.reading ≡ true → x ≡ record w.host { reading = false } → AtDoor w x true
  Begins : (base : Host) (s : Stage) (d : HostDoor) (t : Bool) → Beginning w base s d t → x ≡ door.begins base s d → AtDoor w x t
  Turns : (d : HostDoor) (y : Reading) (v : ℕ) → HasValue w d y v → (reg : ℕ) → (next_turn d (Some v)).step ≡ step.Read reg → x ≡ door.puts_turn (record w.host { reading = false }) (next_turn d (Some v)) → AtDoor w x true
  Looked : (d : HostDoor) (y : Reading) (v : ℕ) → HasValue w d y v → IsOver (next_turn d (Some v)).step → w.host.stage ≡ stage.Look → x ≡ over w d v → AtDoor w x true
  Readied : (d : HostDoor) (y : Reading) (v : ℕ) → HasValue w d y v → IsOver (next_turn d (Some v)).step → is_reset_stage w.host.stage ≡ true → x ≡ record (over w d v) { door_ready = true } → AtDoor w x true
  Opened : (d : HostDoor) (y : Reading) (v : ℕ) → HasValue w d y v → IsOver (next_turn d (Some v)).step → w.host.stage ≡ stage.Init → Speaks is_spoken false (over w d v) x → AtDoor w x true

-- each machine that begins makes its writes and then reads
pub base_begun : {w : World} {h : Host} {s : Stage} {d : HostDoor} {t : Bool} → Beginning w h s d t → (k : Kind) × Begun d k
base_begun (FromOff m) = (Looks, begun_look)
base_begun (Free m r) = (Looks, begun_look)
base_begun (Asked s d Diagnostic n r) = (Diagnoses, begun_diagnostic)
base_begun (Asked s d MessageUnit n r) = (Units, begun_unit)
base_begun (Late s d Diagnostic e n y v rest u r) = (Diagnoses, begun_diagnostic)
base_begun (Late s d MessageUnit e n y v rest u r) = (Units, begun_unit)
base_begun (Marked queue m r) = (Shakes, begun_talk ask.Facts)
base_begun (Renewed d x v hv o r) = (Shakes, begun_talk ask.Facts)
base_begun (Next d x v hv o s a f) = (Shakes, begun_talk a)

pub begins_is : (base : Host) (s : Stage) (d : HostDoor) (k : Kind) (b : Begun d k) → door.begins base s d ≡ door.puts_read (door.puts_writes (record base { stage = s }) (next_turn d None).writes) (next_turn d None).door b.reg
begins_is base s d k b = ap (door.puts_step (door.puts_writes (record base { stage = s }) (next_turn d None).writes) (next_turn d None).door) b.step_is

-- what is spoken is plain
pub spoken_plain : (x : Down) → is_spoken x ≡ true → is_plain x ≡ true
spoken_plain (down.Write reg value) e = e
spoken_plain (down.Read reg) e = absurd (cc)
spoken_plain (down.Post d f p) e = refl
spoken_plain (down.Return a i) e = refl
spoken_plain down.Stop e = refl

handed_plain : (x : Down) → is_handed_back x ≡ true → is_plain x ≡ true
handed_plain (down.Write reg value) e = e
handed_plain (down.Read reg) e = absurd (cc)
handed_plain (down.Post d f p) e = refl
handed_plain (down.Return a i) e = refl
handed_plain down.Stop e = refl

plainly : (test : Down → Bool) (xs ys : List Down) → ((x : Down) → test x ≡ true → is_plain x ≡ true) → Grown test xs ys → Grown is_plain xs ys
plainly test xs ys f g = record { added = g.added; is = g.is; mild = all_pass test is_plain f g.added g.mild }

module _ (w : World) (h : History) (b : Before w h) where
  st : StageFits w
  st = b.facts.doorbell.stage

  same : (x : Host) → x ≡ w.host → KeepsDoor w x
  same x e =
      record {
        grows = subst (λ (y : Host). Grown is_plain w.host.out y.out) (sym e) (grown-none is_plain w.host.out);
        machine_is = ap (λ (y : Host). y.machine) e;
        stage_is = ap (λ (y : Host). y.stage) e;
        reading_is = ap (λ (y : Host). y.reading) e;
        asked_is = ap (λ (y : Host). y.asked) e;
        returning_is = ap (λ (y : Host). y.returning) e;
        mode_is = inl (ap (λ (y : Host). y.mode) e);
      }

  still : AtDoor w w.host false
  still = Keeps (same w.host refl)

  spoke : (x : Host) (test : Down → Bool) (en : Bool) → Speaks test en w.host x → ((y : Down) → test y ≡ true → is_plain y ≡ true) → (en ≡ true → is_resetting w.host.mode ≡ false → w.host.machine ≡ None) → AtDoor w x false
  spoke x test en y f nm =
      Keeps
      (record {
        grows = plainly test w.host.out x.out f y.grows;
        machine_is = y.machine_is;
        stage_is = y.stage_is;
        reading_is = y.reading_is;
        asked_is = y.asked_is;
        returning_is = y.returning_is;
        mode_is = by_rise y.rises;
      })
    where
      by_rise : Rises en w.host.mode x.mode → (x.mode ≡ w.host.mode) ⊎ ((is_resetting w.host.mode ≡ false) × (w.host.machine ≡ None) × (x.mode ≡ state.Up))
      by_rise (Stays e) = inl e
      by_rise (ComesUp u r e) = inr (r, nm u r, e)

  -- the values that are on their way
  pub one_value : (v : ℕ) (rest : List Up) → up_on w 0 ≡ upward.Value v ∷ rest → how_many is_said_value (up_line w 0) ≡ 1
  unfolding read_count value_count
  one_value v rest e =
      let o = b.facts.clock.one_read.one in let r = at_most w.host.reading in
      let g : up_line w 0 ≡ said.Value v ∷ (map said_of rest ++ get_or w.ioc.up 0 []) = ap (λ xs. map said_of xs ++ get_or w.ioc.up 0 []) e in
      let a = ap (how_many is_said_value) g in let c = how_many-cons is_said_value (said.Value v) (map said_of rest ++ get_or w.ioc.up 0 []) in
      omega (arith, o, r, a, c)
    where
      at_most : (c : Bool) → one_if c ≤ 1
      at_most true = omega arith
      at_most false = omega arith

  pub no_value : w.host.reading ≡ false → how_many is_said_value (up_line w 0) ≡ 0
  unfolding read_count value_count
  no_value r = let o = b.facts.clock.one_read.one in let z : one_if w.host.reading ≡ 0 = ap one_if r in omega (arith, o, z)

  pub beginning_values : {y : Host} {s : Stage} {d : HostDoor} {t : Bool} → Beginning w y s d t → how_many is_said_value (up_line w 0) ≡ one_if t
  beginning_values (FromOff m) = no_value (off_reading w.host.reading refl)
    where
      off_reading : (c : Bool) → w.host.reading ≡ c → c ≡ false
      off_reading true r = absurd (Rattle.law_clock.proofs.StillKept.not_reading w h b (ap Rattle.law_facts.specs.Words.is_off m) r)
      off_reading false r = refl
  beginning_values (Free m r) = no_value r
  beginning_values (Asked s d q n r) = no_value r
  beginning_values (Late s d q e n y v rest g r) = one_value v rest g
  beginning_values (Marked queue m r) = no_value (b.facts.clock.value_is_last.ready r).reading
  beginning_values (Renewed d y v hv o r) = one_value v hv.rest hv.front
  beginning_values (Next d y v hv o s a f) = one_value v hv.rest hv.front

  never : {T : Type 0} → false ≡ true → T
  never e = absurd (cc)

  asks : (s : Stage) (d : HostDoor) → ResetMachine s d → is_reset_stage s ≡ true → is_resetting w.host.mode ≡ false → AtDoor w (resets.with_reset_asked w.host s d) false
  asks s d rm rs m = by_read w.host.reading refl
    where
      by_read : (c : Bool) → w.host.reading ≡ c → AtDoor w (if c then resets.gives_up w.host s else door.begins (resets.gives_up w.host s) s d) false
      by_read true r = GivesUp s rs m r refl
      by_read false r = Begins (resets.gives_up w.host s) s d false (Asked s d rm m r) refl

  diag : (m : HostState) → w.host.mode ≡ m → AtDoor w (inputs.diag_resets_in w.host m).part false
  diag state.Off e = still
  diag state.Starting e = asks stage.DiagnosticReset diagnostic_reset Diagnostic refl (ap is_resetting e)
  diag state.Up e = asks stage.DiagnosticReset diagnostic_reset Diagnostic refl (ap is_resetting e)
  diag state.Resetting e = still

  unit : (m : HostState) → w.host.mode ≡ m → AtDoor w (inputs.unit_resets_in w.host m).part false
  unit state.Off e = still
  unit state.Starting e = still
  unit state.Up e = asks stage.UnitReset unit_reset MessageUnit refl (ap is_resetting e)
  unit state.Resetting e = still

  starts : (m : HostState) → w.host.mode ≡ m → AtDoor w (inputs.starts_in w.host m).part false
  starts state.Off e = Begins (record w.host { mode = state.Starting }) stage.Start look_at_doorbell false (FromOff e) refl
  starts state.Starting e = still
  starts state.Up e = still
  starts state.Resetting e = still

  pub told : (i : Input) → IsHosts i → AtDoor w (host_told w.host i).part false
  told input.Start t = starts w.host.mode refl
  told (input.Submit n address form) t =
      spoke (host_told w.host (input.Submit n address form)).part is_spoken false
      (speaks.submits false w.host n address (command_named form) (finset.contains w.host.accepted n) (is_up w.host.mode) (ready_handle w.host.phases address) (fits (command_named form)) (least_free class.ScsiIo w.host.pool)) spoken_plain never
  told (input.Abort n) t =
      spoke (host_told w.host (input.Abort n)).part is_spoken false
      (speaks.aborts false w.host n (is_up w.host.mode) (finmap.get w.host.cmds n) (finmap.get w.host.aborts n) (least_free class.High w.host.pool)) spoken_plain never
  told (input.TargetReset address) t =
      spoke (host_told w.host (input.TargetReset address)).part is_spoken false
      (speaks.targets false w.host address (is_up w.host.mode) (ready_handle w.host.phases address) (least_free class.High w.host.pool)) spoken_plain never
  told input.Reset t = diag w.host.mode refl
  told input.UnitReset t = unit w.host.mode refl
  told (input.Plug address expander phy) t = still
  told (input.Unplug address) t = still

  -- ---- a session

  free_is : is_free w.host ≡ true → (w.host.mode ≡ state.Up) × (w.host.reading ≡ false)
  free_is e = let a = and_false _ _ e in (up_is w.host.mode a.0, first w.host.reading _ a.1)
    where
      first : (x y : Bool) → not (x || y) ≡ true → x ≡ false
      first true y e = absurd (cc)
      first false y e = refl

      up_is : (m : HostState) → is_up m ≡ true → m ≡ state.Up
      up_is state.Up e = refl
      up_is state.Off e = absurd (cc)
      up_is state.Starting e = absurd (cc)
      up_is state.Resetting e = absurd (cc)

  pub looked : is_free w.host ≡ true → AtDoor w (looks w.host) false
  looked e = let p = free_is e in Begins w.host stage.Look look_at_doorbell false (Free p.0 p.1) refl

  pub stopped : AtDoor w (stops w.host) false
  stopped = Keeps (record { grows = grown-one is_plain w.host.out w.host.out down.Stop (grown-none is_plain w.host.out) refl; machine_is = refl; stage_is = refl; reading_is = refl; asked_is = refl; returning_is = refl; mode_is = inl refl })

  -- ---- a value

  module _ (v : ℕ) (rest : List Up) (e : up_on w 0 ≡ upward.Value v ∷ rest) (r : w.host.reading ≡ true) (why : why_strange w.host 0 (upward.Value v) ≡ None) where
    late : w.host.machine ≡ None → AtDoor w (resets.begins_late (record w.host { reading = false }) w.host.stage) true
    late n = by_waits (waits_to_reset w) refl
      where
        begun : (w.host.stage ≡ stage.DiagnosticReset) ⊎ (w.host.stage ≡ stage.UnitReset) → waits_to_reset w ≡ true → AtDoor w (resets.begins_late (record w.host { reading = false }) w.host.stage) true
        begun (inl s) a =
            subst (λ s. AtDoor w (resets.begins_late (record w.host { reading = false }) s) true) (sym s)
            (Begins (record w.host { reading = false }) stage.DiagnosticReset diagnostic_reset true (Late stage.DiagnosticReset diagnostic_reset Diagnostic s n a v rest e r) refl)
        begun (inr s) a =
            subst (λ s. AtDoor w (resets.begins_late (record w.host { reading = false }) s) true) (sym s)
            (Begins (record w.host { reading = false }) stage.UnitReset unit_reset true (Late stage.UnitReset unit_reset MessageUnit s n a v rest e r) refl)

        by_waits : (c : Bool) → waits_to_reset w ≡ c → AtDoor w (resets.begins_late (record w.host { reading = false }) w.host.stage) true
        by_waits true a = begun (st.late n a) a
        by_waits false a = subst (λ s. AtDoor w (resets.begins_late (record w.host { reading = false }) s) true) (sym (st.none n a)) (Drops n a v rest e r refl)

    module _ (d : HostDoor) (x : Reading) (hv : HasValue w d x v) where
      talks : (m : Host) (s : Stage) (a : HostAsk) → Beginning w m s (asks_with a) true → AtDoor w (door.begins_handshake m s a) true
      talks m s a q = Begins m s (asks_with a) true q refl

      ready : is_reset_stage w.host.stage ≡ true → IsOver (next_turn d (Some v)).step → AtDoor w (resets.hears_ready (over w d v)).part true
      ready rs o = by_marks (resets.has_all_marks (record (over w d v) { door_ready = true }))
        where
          by_marks : (c : Bool) → AtDoor w (if c then resets.ends_reset (record (over w d v) { door_ready = true }) else record { part = record (over w d v) { door_ready = true }; entries = [] }).part true
          by_marks true = talks (resets.renewed (record (over w d v) { door_ready = true })) stage.Facts ask.Facts (Renewed d x v hv o rs)
          by_marks false = Readied d x v hv o rs refl

      starts_by : (n : ℕ) → n ≡ IOC_STATE_READY → w.host.stage ≡ stage.Start → IsOver (next_turn d (Some v)).step → AtDoor w (values_of.starts_by (over w d v) n) true
      starts_by n q s o = subst (λ y. AtDoor w (values_of.starts_by (over w d v) y) true) (sym q) (talks (over w d v) stage.Facts ask.Facts (Next d x v hv o stage.Facts ask.Facts (subst (λ y. NextShake w y stage.Facts ask.Facts) (sym s) FactsNext)))

      ends : (s : Stage) → w.host.stage ≡ s → ReadsFor s x → (count : ℕ) (bytes : List ℕ) → (next_turn d (Some v)).step ≡ step.Done count bytes → IsOver (next_turn d (Some v)).step → AtDoor w (values_of.ends_stage (over w d v) s (take count bytes)).part true
      ends stage.Idle q g count bytes y o = absurd g
      ends stage.StartReset q g count bytes y o = absurd g
      ends stage.Start q g count bytes y o = starts_by (values_of.state_read (take count bytes)) (reads_ready w h b v rest e r why d x hv.machine_is hv.at hv.reads_for hv.in_mode q count bytes y) q o
      ends stage.Facts q g count bytes y o = talks (over w d v) stage.PortFacts ask.PortFacts (Next d x v hv o stage.PortFacts ask.PortFacts (subst (λ z. NextShake w z stage.PortFacts ask.PortFacts) (sym q) PortFactsNext))
      ends stage.PortFacts q g count bytes y o = talks (over w d v) stage.Init (ask.Init (host_queue_count w.host)) (Next d x v hv o stage.Init (ask.Init (host_queue_count w.host)) (subst (λ z. NextShake w z stage.Init (ask.Init (host_queue_count w.host))) (sym q) InitNext))
      ends stage.Init q g count bytes y o = Opened d x v hv o q (speaks.begins_messages false (over w d v))
      ends stage.Look q g count bytes y o = Looked d x v hv o q refl
      ends stage.DiagnosticReset q g count bytes y o = ready (ap is_reset_stage q) o
      ends stage.UnitReset q g count bytes y o = ready (ap is_reset_stage q) o

      refused : (s : DoorStep) → (next_turn d (Some v)).step ≡ s → Rattle.mpt_rules.specs.Host.Handshakes.door_refused s ≡ None
      refused s y =
          let a = (none_of_or (Rattle.mpt_rules.specs.Host.Strange.wrong_queue_of_value 0) _ why).1 in
          let c0 = (none_of_or (Rattle.mpt_rules.specs.Host.Strange.no_read w.host) _ a).1 in
          let c = (none_of_or (Rattle.mpt_rules.specs.Host.Handshakes.why_door w.host w.host.machine v) None c0).0 in
          let g : Rattle.mpt_rules.specs.Host.Handshakes.why_door w.host (Some d) v ≡ None = ap (λ o. Rattle.mpt_rules.specs.Host.Handshakes.why_door w.host o v) (sym hv.machine_is) ∙ c in
          sym (ap Rattle.mpt_rules.specs.Host.Handshakes.door_refused y) ∙ (none_of_or (Rattle.mpt_rules.specs.Host.Handshakes.door_refused (next_turn d (Some v)).step) _ g).0

      by_step : (s : DoorStep) → (next_turn d (Some v)).step ≡ s → AtDoor w (values_of.after_turn (door.puts_turn (record w.host { reading = false }) (next_turn d (Some v))) w.host.stage s).part true
      by_step (step.Read reg) y = Turns d x v hv reg y refl
      by_step (step.Write reg value) y = absurd (value_ends d x v hv.at (subst IsWriteStep (sym y) tt))
      by_step (step.Refused p value) y = absurd (some_none (refused (step.Refused p value) y))
        where
          some_none : Some (Rattle.mpt_rules.specs.declared.why.Why.TheVariants.DoorRefused p value) ≡ None → ⊥
          some_none z = cc
      by_step (step.Done count bytes) y =
          let z : door.puts_turn (record w.host { reading = false }) (next_turn d (Some v)) ≡ over w d v = ap (door.puts_step (door.puts_writes (record w.host { reading = false }) (next_turn d (Some v)).writes) (next_turn d (Some v)).door) y in
          subst (λ n. AtDoor w (values_of.ends_stage n w.host.stage (take count bytes)).part true) (sym z) (ends w.host.stage refl hv.reads_for count bytes y (subst IsOver (sym y) tt))

    valued : AtDoor w (values_of.hears_value w.host v).part true
    valued = by_machine w.host.machine refl
      where
        by_stage : (d : HostDoor) → w.host.machine ≡ Some d → (s : DoorStage) → d.stage ≡ s → WaitsAt w s → AtDoor w (values_of.hears_turn (record w.host { reading = false }) (next_turn d (Some v))).part true
        by_stage d m (door_stage.Awaits x) at a = by_step d x (record { rest = rest; front = e; reading = r; machine_is = m; at = at; reads_for = a.0; in_mode = a.1 }) (next_turn d (Some v)).step refl
        by_stage d m (door_stage.Reads x) at a = absurd a
        by_stage d m door_stage.Opens at a = absurd a
        by_stage d m (door_stage.WritesKey p) at a = absurd a
        by_stage d m door_stage.Locks at a = absurd a
        by_stage d m door_stage.ResetsUnit at a = absurd a
        by_stage d m door_stage.Finishes at a = absurd a
        by_stage d m door_stage.Ended at a = absurd a

        by_machine : (o : Option HostDoor) → w.host.machine ≡ o → AtDoor w (values_of.hears_value_at (record w.host { reading = false }) o v).part true
        by_machine None n = late n
        by_machine (Some d) m = by_stage d m d.stage refl (st.machine d m)

  -- ---- an item that is taken

  replied : (queue d : ℕ) (g : Option (List ℕ)) (page sense : List ℕ) → AtDoor w (hears_up w.host queue (upward.Reply d g page sense)).part false
  replied queue d g page sense = by_mode (is_resetting w.host.mode) refl
    where
      by_mode : (c : Bool) → is_resetting w.host.mode ≡ c → AtDoor w (hears_up w.host queue (upward.Reply d g page sense)).part false
      by_mode true m =
          spoke (hears_up w.host queue (upward.Reply d g page sense)).part is_handed_back false
          (speaks.hands_back w.host m (b.facts.doorbell.fresh_start.given_up m).0 is_handed_back (λ v. refl) (λ e a i. refl) queue d g page sense) handed_plain never
      by_mode false m =
          let n = is_enable (request_of w.host (smid_in d)) in
          spoke (hears_up w.host queue (upward.Reply d g page sense)).part is_spoken n
          (speaks.says_back n w.host m queue d g page sense refl) spoken_plain (λ u r. enabling w h b (smid_in d) m u)

  marked : (queue : ℕ) → AtDoor w (resets.hears_mark w.host queue).part false
  marked queue = by_over (w.host.door_ready && resets.has_all_marks n) refl
    where
      n : Host
      n = record w.host { marks = slice_set w.host.marks queue true }

      by_over : (c : Bool) → (w.host.door_ready && resets.has_all_marks n) ≡ c → AtDoor w (if c then resets.ends_reset n else record { part = n; entries = [] }).part false
      by_over true y =
          let dr = (and_false w.host.door_ready (resets.has_all_marks n) y).0 in
          let lk = (b.facts.clock.value_is_last.ready dr).linked in
          Begins (resets.renewed n) stage.Facts (asks_with ask.Facts) false (Marked queue (and_false _ _ (and_false _ _ lk).0).0 dr) refl
      by_over false y = Keeps (record { grows = grown-none is_plain w.host.out; machine_is = refl; stage_is = refl; reading_is = refl; asked_is = refl; returning_is = refl; mode_is = inl refl })

  pub took : (queue : ℕ) (x : Up) (rest : List Up) → up_on w queue ≡ x ∷ rest → why_strange w.host queue x ≡ None → AtDoor w (hears_up w.host queue x).part (is_value (heard_of queue x))
  took queue (upward.Value v) rest e why =
      let d = value_is_due w queue v why in
      valued v rest (subst (λ n. up_on w n ≡ upward.Value v ∷ rest) d.0 e) d.1 (subst (λ n. why_strange w.host n (upward.Value v) ≡ None) d.0 why)
  took queue (upward.Reply d g page sense) rest e why = replied queue d g page sense
  took queue (upward.Mark generation) rest e why = marked queue
  took queue upward.Calm rest e why = still
