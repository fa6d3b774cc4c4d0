-- Each case keeps that the host's machine, what it is for, its mode and the read on its way go together.
use Rattle.std.proofs.Common.{◌≡◌, ℕ, zero, suc, ◌+◌, ◌≤◌, ◌==◌, ◌&&◌, ◌||◌, ◌⊎◌, inl, inr, not, nat_lt, Bool, true, false, if◌then◌else◌, List, [], ◌∷◌, ◌++◌, append-nil, append_assoc, bit_and, get_or, map, set, slice_set, take, Option, Some, None, is_none, is_some, refl, ap, sym, ◌∙◌, subst, arith}
use Rattle.std.specs.List.{filter}
use Rattle.byteorder.specs.Endian.{little_bytes, little_number}
use Rattle.mpi_doorbell.specs.HostDoor.{HostDoor, register_of}
use Rattle.mpi_doorbell.specs.HostSteps.{diagnostic_reset, handshake_of_message, look_at_doorbell, unit_reset}
use Rattle.mpi_doorbell.specs.declared.registers.TheConstants.{DOORBELL, HOST_DIAGNOSTIC, HOST_INTERRUPT_STATUS}
use Rattle.mpi_doorbell.specs.declared.stage.Reading.{Reading}
use Rattle.mpi_doorbell.specs.declared.stage.Reading.TheVariants as reading
use Rattle.mpi_doorbell.specs.declared.stage.Stage.{Stage as DoorStage}
use Rattle.mpi_doorbell.specs.declared.stage.Stage.TheVariants as door_stage
use Rattle.mpi_doorbell.specs.declared.step.DoorStep.{DoorStep}
use Rattle.mpi_doorbell.specs.declared.step.DoorStep.TheVariants as step
use Rattle.mpt_messages.specs.FrameBytes.{message_bytes}
use Rattle.mpt_messages.specs.HostFrames.{host_message}
use Rattle.mpt_messages.specs.declared.host_ask.HostAsk.{HostAsk}
use Rattle.mpt_messages.specs.declared.host_ask.HostAsk.TheVariants as ask
use Rattle.mpt_trace.specs.declared.host_state.HostState.{HostState}
use Rattle.mpt_trace.specs.declared.host_state.HostState.TheVariants as state
use Rattle.mpt_trace.specs.declared.item.Down.{Down}
use Rattle.mpt_trace.specs.declared.item.Down.TheVariants as down
use Rattle.mpt_rules.specs.declared.stage.Stage.{Stage}
use Rattle.mpt_rules.specs.declared.stage.Stage.TheVariants as stage
use Rattle.mpt_rules.specs.World.Counts.{how_many, one_if, read_count}
use Rattle.mpt_rules.specs.Host.Doorbell as door
use Rattle.mpt_rules.specs.Host.Doorbell.{DoorTurn, turn_from, next_turn}
use Rattle.mpt_rules.specs.Host.Parts.{Host}
use Rattle.mpt_rules.specs.Host.Resets as resets
use Rattle.mpt_rules.specs.World.Lines.{down_line}
use Rattle.mpt_rules.specs.World.Weight.{is_read}
use Rattle.mpt_rules.specs.World.State.{World}
use Rattle.mpt_rules.proofs.Counts.{how_many-append}
use Rattle.law_facts.specs.Clock.{in_asked}
use Rattle.law_facts.specs.DoorAhead.{IsInMode, ReadsFor, StageFits, WaitsAt, first_read, waits_to_reset}
use Rattle.law_moves.proofs.Counted.{how_many-cons, how_many-nil}
use Rattle.law_doors.proofs.Turning.{ForDiagnostic, ForFacts, ForInit, ForLook, ForPortFacts, ForStart, ForUnit, Kind, Diagnoses, IsWriteStep, Looks, Shakes, StageKind, StepFits, Units, WaitsFor, first_more, first_of_read, first_passed, first_turn, kind_read, reads_for, stage_kind, value_ends, value_turn, writes_no_reads}
use Rattle.mpt_wire.specs.Machine.Causes.{is_resetting}

pub false_true : (c : Bool) → c ≡ false → c ≡ true → ⊥
false_true true e f = cc
false_true false e f = cc

-- a stage's mode is the host's, whatever else the world is
pub in_mode : (w v : World) (s : Stage) → v.host.mode ≡ w.host.mode → IsInMode w s → IsInMode v s
in_mode w v stage.Idle m i = absurd i
in_mode w v stage.StartReset m i = absurd i
in_mode w v stage.Look m i = m ∙ i
in_mode w v stage.DiagnosticReset m i = m ∙ i
in_mode w v stage.UnitReset m i = m ∙ i
in_mode w v stage.Start m i = m ∙ i
in_mode w v stage.Facts m i = m ∙ i
in_mode w v stage.PortFacts m i = m ∙ i
in_mode w v stage.Init m i = m ∙ i

some_is : (a b : HostDoor) → Some a ≡ Some b → a ≡ b
some_is a b e = cc

no_some : (d : HostDoor) → None ≡ Some d → ⊥
no_some d e = cc

-- ---- how a world fits

-- with a machine that waits
pub waiting : (v : World) (d : HostDoor) (x : Reading) (s : Stage) (k : Kind) → v.host.machine ≡ Some d → d.stage ≡ door_stage.Awaits x → v.host.stage ≡ s → StageKind s k → kind_read x ≡ k → IsInMode v s → first_read (down_line v) ≡ Some (register_of x) → v.host.door_ready ≡ false → StageFits v
waiting v d x s k m at st sk kx im fr dr =
    record {
      machine = λ e q. subst (λ (y : HostDoor). WaitsAt v y.stage) (some_is d e (sym m ∙ q)) (subst (WaitsAt v) (sym at) (subst (λ t. ReadsFor t x) (sym st) (reads_for s k x sk kx), subst (IsInMode v) (sym st) im, λ l. fr));
      late = λ n y. absurd (no_some d (sym n ∙ m));
      none = λ n y. absurd (no_some d (sym n ∙ m));
      goes_on = λ r n y. absurd (no_some d (sym n ∙ m));
      off = λ r. absurd (false_true v.host.door_ready dr r);
    }

no_wait : (a b c : Bool) → b ≡ false → (a && (b && c)) ≡ false
no_wait true b c e = ap (λ y. y && c) e
no_wait false b c e = refl

-- without one, and without a read
pub rested : (v : World) → v.host.machine ≡ None → v.host.reading ≡ false → v.host.stage ≡ stage.Idle → (is_resetting v.host.mode ≡ true → v.host.door_ready ≡ true) → StageFits v
rested v m r st g =
    record {
      machine = λ e q. absurd (no_some e (sym m ∙ q));
      late = λ n y. absurd (false_true (waits_to_reset v) (no_wait (in_asked v) v.host.reading (is_none v.host.machine) r) y);
      none = λ n y. st;
      goes_on = λ q n y. g q;
      off = λ y. m;
    }

pub waits_at : (w v : World) → v.host.stage ≡ w.host.stage → v.host.mode ≡ w.host.mode → ((r : ℕ) → (1 ≤ read_count (down_line w) → first_read (down_line w) ≡ Some r) → 1 ≤ read_count (down_line v) → first_read (down_line v) ≡ Some r) → (s : DoorStage) → WaitsAt w s → WaitsAt v s
waits_at w v st md fr (door_stage.Awaits x) a = (subst (λ t. ReadsFor t x) (sym st) a.0, subst (IsInMode v) (sym st) (in_mode w v w.host.stage md a.1), fr (register_of x) a.2)
waits_at w v st md fr (door_stage.Reads x) a = absurd a
waits_at w v st md fr door_stage.Opens a = absurd a
waits_at w v st md fr (door_stage.WritesKey place) a = absurd a
waits_at w v st md fr door_stage.Locks a = absurd a
waits_at w v st md fr door_stage.ResetsUnit a = absurd a
waits_at w v st md fr door_stage.Finishes a = absurd a
waits_at w v st md fr door_stage.Ended a = absurd a

-- as it was
pub as_was : (w v : World) → v.host.machine ≡ w.host.machine → v.host.stage ≡ w.host.stage → v.host.reading ≡ w.host.reading → v.host.door_ready ≡ w.host.door_ready → v.host.mode ≡ w.host.mode → in_asked v ≡ in_asked w
    → ((r : ℕ) → (1 ≤ read_count (down_line w) → first_read (down_line w) ≡ Some r) → 1 ≤ read_count (down_line v) → first_read (down_line v) ≡ Some r) → StageFits w → StageFits v
as_was w v m st r dr md ak fr f =
    let wt : waits_to_reset v ≡ waits_to_reset w = ap (λ y. y && (v.host.reading && is_none v.host.machine)) ak ∙ (ap (λ y. in_asked w && (y && is_none v.host.machine)) r ∙ ap (λ (y : Option HostDoor). in_asked w && (w.host.reading && is_none y)) m) in
    record {
      machine = λ e q. waits_at w v st md fr e.stage (f.machine e (sym m ∙ q));
      late = λ n y. late (f.late (sym m ∙ n) (sym wt ∙ y));
      none = λ n y. st ∙ f.none (sym m ∙ n) (sym wt ∙ y);
      goes_on = λ q n y. dr ∙ f.goes_on (sym (ap is_resetting md) ∙ q) (sym m ∙ n) (sym wt ∙ y);
      off = λ y. m ∙ f.off (sym dr ∙ y);
    }
  where
    late : (w.host.stage ≡ stage.DiagnosticReset) ⊎ (w.host.stage ≡ stage.UnitReset) → (v.host.stage ≡ stage.DiagnosticReset) ⊎ (v.host.stage ≡ stage.UnitReset)
    late (inl e) = inl (st ∙ e)
    late (inr e) = inr (st ∙ e)

-- ---- a turn

-- what a turn leaves of the host, and how it ends
module _ (v : World) (h : Host) (t : DoorTurn) (s : Stage) (k : Kind) (is : v.host ≡ door.puts_turn h t) (fits : StepFits k t.door.stage t.step) (sk : StageKind s k) (hs : h.stage ≡ s) (im : IsInMode v s) (dr : h.door_ready ≡ false) (none : how_many is_read (v.down ++ (h.out ++ t.writes)) ≡ 0) where
  of_step : (x : DoorStep) → t.step ≡ x → v.host ≡ door.puts_step (door.puts_writes h t.writes) t.door x
  of_step x e = is ∙ ap (door.puts_step (door.puts_writes h t.writes) t.door) e

  pub reads_on : (reg : ℕ) → t.step ≡ step.Read reg → StageFits v
  reads_on reg e =
      let q = of_step (step.Read reg) e in
      let f : WaitsFor k t.door.stage reg = subst (StepFits k t.door.stage) e fits in
      let l : down_line v ≡ (v.down ++ (h.out ++ t.writes)) ++ down.Read reg ∷ [] = ap (λ (y : Host). v.down ++ y.out) q ∙ sym (append_assoc v.down (h.out ++ t.writes) (down.Read reg ∷ [])) in
      waiting v t.door f.x s k (ap (λ (y : Host). y.machine) q) f.at (ap (λ (y : Host). y.stage) q ∙ hs) sk f.kind_is im
      (ap first_read l ∙ (first_of_read (v.down ++ (h.out ++ t.writes)) reg none ∙ ap Some (sym f.register))) (ap (λ (y : Host). y.door_ready) q ∙ dr)

-- a machine that begins: its first turn ends with a read
pub record Begun (d : HostDoor) (k : Kind) : Type 0 where
  pub reg : ℕ
  pub step_is : (next_turn d None).step ≡ step.Read reg
  pub fits : StepFits k (next_turn d None).door.stage (next_turn d None).step

pub begun_look : Begun look_at_doorbell Looks
unfolding turn_from
begun_look = record { reg = DOORBELL; step_is = refl; fits = first_turn look_at_doorbell Looks refl }

pub begun_diagnostic : Begun diagnostic_reset Diagnoses
unfolding turn_from
begun_diagnostic = record { reg = HOST_DIAGNOSTIC; step_is = refl; fits = first_turn diagnostic_reset Diagnoses refl }

pub begun_unit : Begun unit_reset Units
unfolding turn_from
begun_unit = record { reg = HOST_INTERRUPT_STATUS; step_is = refl; fits = first_turn unit_reset Units refl }

pub begun_talk : (a : HostAsk) → Begun (handshake_of_message (message_bytes (host_message a))) Shakes
unfolding turn_from
begun_talk a = record { reg = DOORBELL; step_is = refl; fits = first_turn (handshake_of_message (message_bytes (host_message a))) Shakes refl }

-- a host that begins a machine
pub begins : (v : World) (h : Host) (s : Stage) (k : Kind) (d : HostDoor) → v.host ≡ door.begins h s d → Begun d k → StageKind s k → IsInMode v s → h.door_ready ≡ false → how_many is_read (v.down ++ h.out) ≡ 0 → StageFits v
begins v h s k d is b sk im dr z =
    let n = writes_no_reads 8 (Rattle.mpi_doorbell.specs.HostSteps.next_step d None).door (Rattle.mpi_doorbell.specs.HostSteps.next_step d None).step in
    let a = how_many-append is_read v.down h.out in let c = how_many-append is_read v.down (h.out ++ (next_turn d None).writes) in let e = how_many-append is_read h.out (next_turn d None).writes in
    reads_on v (record h { stage = s }) (next_turn d None) s k is b.fits sk refl im dr (omega (arith, n, a, c, e, z)) b.reg b.step_is
