-- Each case keeps where a reset's machine stands, and what it will read.
use Rattle.std.proofs.Common.{◌≡◌, ℕ, ◌+◌, ◌%◌, ◌^◌, ◌==◌, ◌&&◌, ◌||◌, ◌⊎◌, inl, inr, not, Bool, true, false, List, [], ◌∷◌, ◌++◌, Option, Some, None, is_none, refl, ap, sym, ◌∙◌, subst, arith, append_assoc}
use Rattle.std.specs.List.{filter, list_any}
use Rattle.mpi_doorbell.specs.Bytes.{has}
use Rattle.mpi_doorbell.specs.HostDoor.{HostDoor}
use Rattle.mpi_doorbell.specs.HostSteps.{diagnostic_reset, unit_reset}
use Rattle.mpi_doorbell.specs.declared.registers.TheConstants.{DIAG_RESET_ADAPTER, DIAG_WRITE_ENABLE, DOORBELL, HOST_DIAGNOSTIC, HOST_INTERRUPT_STATUS, IOC_STATE_READY, IOC_STATE_RESET, SYS2IOC_DB_STATUS}
use Rattle.mpi_doorbell.specs.declared.stage.Reading.{Reading}
use Rattle.mpi_doorbell.specs.declared.stage.Reading.TheVariants as reading
use Rattle.mpi_doorbell.specs.declared.stage.ResetKind.TheVariants as kind
use Rattle.mpi_doorbell.specs.declared.stage.Stage.TheVariants as door_stage
use Rattle.mpt_trace.specs.declared.host_state.HostState.{HostState}
use Rattle.mpt_trace.specs.declared.host_state.HostState.TheVariants as state
use Rattle.mpt_trace.specs.declared.item.Down.{Down}
use Rattle.mpt_trace.specs.declared.item.Down.TheVariants as down
use Rattle.mpt_rules.specs.declared.stage.Stage.{Stage}
use Rattle.mpt_rules.specs.declared.stage.Stage.TheVariants as stage
use Rattle.mpt_rules.specs.World.Counts.{how_many, is_register_write, one_if, reset_write_count}
use Rattle.mpt_rules.specs.Host.Doorbell as door
use Rattle.mpt_rules.specs.Host.Doorbell.{DoorTurn, is_reset_item, next_turn, unit_reset_dword}
use Rattle.mpt_rules.specs.Host.Parts.{Host}
use Rattle.mpt_rules.specs.Host.Resets as resets
use Rattle.mpt_rules.specs.Ioc.Parts.{Ioc, state_of}
use Rattle.mpt_rules.specs.Ioc.Tables.{is_ready}
use Rattle.mpt_rules.specs.World.Lines.{down_line}
use Rattle.mpt_rules.specs.World.State.{World}
use Rattle.mpt_rules.proofs.Counts.{how_many-append}
use Rattle.mpt_wire.specs.Machine.Causes.{is_resetting}
use Rattle.law_facts.specs.Clock.{Clock, in_asked, in_begun, is_linked_up}
use Rattle.law_facts.specs.DoorAhead.{IsInMode, ReadsFor, ResetStep, ResetSteps, ResetValue, door_ahead, state_in, value_coming, waits_to_reset}
use Rattle.law_facts.specs.History.{History}
use Rattle.law_facts.specs.Words.{is_diagnostic_write, is_unit_write}
use Rattle.law_moves.proofs.Counted.{fewer_pass, filtered, how_many-cons, how_many-nil}
use Rattle.law_moves.proofs.Phases.{and_false, not_begun, phased_of}
use Rattle.law_clock.specs.Premises.{Before}
use Rattle.law_clock.proofs.PhaseKept.{level_phase}
use Rattle.law_starts.proofs.HostAtDoor.{Asked, Beginning, Diagnostic, FactsNext, Free, FromOff, InitNext, Late, Marked, MessageUnit, Next, NextShake, PortFactsNext, Renewed, base_begun, begins_is, is_plain, contrary}
use Rattle.law_steps.proofs.Keys.{Keys, adapter_stays, keys_after, keys_ahead, keys_append, keys_of, keys_quiet, unlocks_all}
use Rattle.law_steps.proofs.ResetTurns.{keys_turn, unit_turn}

-- ---- over fields

abbrev pub StepAt : Bool → Bool → Bool → Keys → Reading → Type 0
StepAt returning begun linked k reading.Unlocked = (returning ≡ true) × (k.place ≡ 6) × (k.adapter ≡ false)
StepAt returning begun linked k reading.ResetOver = (returning ≡ false) × (k.place ≡ 6)
StepAt returning begun linked k (reading.State kind.Diagnostic) = (returning ≡ false) × (linked ≡ true)
StepAt returning begun linked k (reading.State kind.MessageUnit) = (returning ≡ false) × (begun ≡ true)
StepAt returning begun linked k reading.UnitReset = returning ≡ false
StepAt returning begun linked k _ = ⊥

abbrev pub ValueAt : Bool → Reading → ℕ → Type 0
ValueAt linked reading.Unlocked value = (has value DIAG_WRITE_ENABLE ≡ true) × (has value DIAG_RESET_ADAPTER ≡ false)
ValueAt linked reading.ResetOver value = has value DIAG_RESET_ADAPTER ≡ false → linked ≡ true
ValueAt linked (reading.State kind.Diagnostic) value = state_in value ≡ IOC_STATE_READY
ValueAt linked (reading.State kind.MessageUnit) value = (state_in value ≡ IOC_STATE_RESET) ⊎ ((state_in value ≡ IOC_STATE_READY) × (linked ≡ true))
ValueAt linked reading.UnitReset value = has value SYS2IOC_DB_STATUS ≡ false
ValueAt linked _ value = ⊥

pub record StepsHold (machine : Option HostDoor) (mode : HostState) (s : Stage) (returning waits begun linked : Bool) (k : Keys) (line : List Down) (coming : Option ℕ) : Type 0 where
  pub step : (d : HostDoor) (x : Reading) → machine ≡ Some d → is_resetting mode ≡ true → d.stage ≡ door_stage.Awaits x → StepAt returning begun linked k x
  pub value : (d : HostDoor) (x : Reading) (v : ℕ) → machine ≡ Some d → is_resetting mode ≡ true → d.stage ≡ door_stage.Awaits x → coming ≡ Some v → ValueAt linked x v
  pub late : waits ≡ true → returning ≡ true
  pub diagnostic : s ≡ stage.DiagnosticReset → how_many is_unit_write line ≡ 0
  pub unit : s ≡ stage.UnitReset → how_many is_diagnostic_write line ≡ 0

abbrev pub HoldsOn : Host → Ioc → List Down → Option ℕ → Type 0
HoldsOn x i line coming =
    StepsHold x.machine x.mode x.stage x.returning ((is_resetting x.mode && not (x.asked == i.generation)) && (x.reading && is_none x.machine)) (is_resetting x.mode && (x.asked == i.generation)) ((is_resetting x.mode && (x.asked == i.generation)) && is_ready (state_of i))
    (keys_after (keys_of i.door) line) line coming

-- of a world
pub of_world : (v : World) → ResetSteps v → HoldsOn v.host v.ioc (down_line v) (value_coming v)
of_world v q = record { step = λ d x m r a. to_step x (q.step d x m r a); value = λ d x n m r a c. to_value x n (q.value d x n m r a c); late = q.late; diagnostic = q.diagnostic; unit = q.unit }
  where
    e : keys_of (door_ahead v) ≡ keys_after (keys_of v.ioc.door) (down_line v)
    e = keys_ahead v.ioc (down_line v)

    to_step : (x : Reading) → ResetStep v x → StepAt v.host.returning (in_begun v) (is_linked_up v) (keys_after (keys_of v.ioc.door) (down_line v)) x
    to_step reading.Unlocked p = (p.0, sym (ap (λ (k : Keys). k.place) e) ∙ p.1, sym (ap (λ (k : Keys). k.adapter) e) ∙ p.2)
    to_step reading.ResetOver p = (p.0, sym (ap (λ (k : Keys). k.place) e) ∙ p.1)
    to_step (reading.State kind.Diagnostic) p = p
    to_step (reading.State kind.MessageUnit) p = p
    to_step reading.UnitReset p = p
    to_step reading.Used p = absurd p
    to_step reading.LeftOver p = absurd p
    to_step reading.Opened p = absurd p
    to_step reading.Taken p = absurd p
    to_step reading.News p = absurd p
    to_step reading.Word p = absurd p
    to_step reading.Doorbell p = absurd p

    to_value : (x : Reading) (n : ℕ) → ResetValue v x n → ValueAt (is_linked_up v) x n
    to_value reading.Unlocked n p = p
    to_value reading.ResetOver n p = p
    to_value (reading.State kind.Diagnostic) n p = p
    to_value (reading.State kind.MessageUnit) n p = p
    to_value reading.UnitReset n p = p
    to_value reading.Used n p = absurd p
    to_value reading.LeftOver n p = absurd p
    to_value reading.Opened n p = absurd p
    to_value reading.Taken n p = absurd p
    to_value reading.News n p = absurd p
    to_value reading.Word n p = absurd p
    to_value reading.Doorbell n p = absurd p

pub to_world : (v : World) → HoldsOn v.host v.ioc (down_line v) (value_coming v) → ResetSteps v
to_world v q = record { step = λ d x m r a. to_step x (q.step d x m r a); value = λ d x n m r a c. to_value x n (q.value d x n m r a c); late = q.late; diagnostic = q.diagnostic; unit = q.unit }
  where
    e : keys_of (door_ahead v) ≡ keys_after (keys_of v.ioc.door) (down_line v)
    e = keys_ahead v.ioc (down_line v)

    to_step : (x : Reading) → StepAt v.host.returning (in_begun v) (is_linked_up v) (keys_after (keys_of v.ioc.door) (down_line v)) x → ResetStep v x
    to_step reading.Unlocked p = (p.0, ap (λ (k : Keys). k.place) e ∙ p.1, ap (λ (k : Keys). k.adapter) e ∙ p.2)
    to_step reading.ResetOver p = (p.0, ap (λ (k : Keys). k.place) e ∙ p.1)
    to_step (reading.State kind.Diagnostic) p = p
    to_step (reading.State kind.MessageUnit) p = p
    to_step reading.UnitReset p = p
    to_step reading.Used p = absurd p
    to_step reading.LeftOver p = absurd p
    to_step reading.Opened p = absurd p
    to_step reading.Taken p = absurd p
    to_step reading.News p = absurd p
    to_step reading.Word p = absurd p
    to_step reading.Doorbell p = absurd p

    to_value : (x : Reading) (n : ℕ) → ValueAt (is_linked_up v) x n → ResetValue v x n
    to_value reading.Unlocked n p = p
    to_value reading.ResetOver n p = p
    to_value (reading.State kind.Diagnostic) n p = p
    to_value (reading.State kind.MessageUnit) n p = p
    to_value reading.UnitReset n p = p
    to_value reading.Used n p = absurd p
    to_value reading.LeftOver n p = absurd p
    to_value reading.Opened n p = absurd p
    to_value reading.Taken n p = absurd p
    to_value reading.News n p = absurd p
    to_value reading.Word n p = absurd p
    to_value reading.Doorbell n p = absurd p

pub no_some : {T : Type 0} (d : HostDoor) → None ≡ Some d → T
no_some d e = absurd (cc)

pub some_is : (c d : HostDoor) → Some c ≡ Some d → c ≡ d
some_is c d e = cc

awaits_is : (x y : Reading) → door_stage.Awaits x ≡ door_stage.Awaits y → x ≡ y
awaits_is x y e = cc

pub unit_is_write : (x : Down) → is_unit_write x ≡ true → is_register_write x ≡ true
unit_is_write x e = Rattle.law_clock.proofs.ResetWriteKept.reset_is_write x (unit_is_reset x e)
  where
    unit_is_reset : (x : Down) → is_unit_write x ≡ true → is_reset_item x ≡ true
    unit_is_reset (down.Write reg value) e = second ((reg == HOST_DIAGNOSTIC) && has value DIAG_RESET_ADAPTER) ((reg == DOORBELL) && (value == unit_reset_dword)) e
      where
        second : (a c : Bool) → c ≡ true → (a || c) ≡ true
        second true c e = refl
        second false c e = e
    unit_is_reset (down.Read reg) e = absurd (cc)
    unit_is_reset (down.Post d f p) e = absurd (cc)
    unit_is_reset (down.Return a i) e = absurd (cc)
    unit_is_reset down.Stop e = absurd (cc)

pub unit_within : (x : Down) → is_unit_write x ≡ true → is_reset_item x ≡ true
unit_within (down.Write reg value) e = second ((reg == HOST_DIAGNOSTIC) && has value DIAG_RESET_ADAPTER) ((reg == DOORBELL) && (value == unit_reset_dword)) e
  where
    second : (a c : Bool) → c ≡ true → (a || c) ≡ true
    second true c e = refl
    second false c e = e
unit_within (down.Read reg) e = absurd (cc)
unit_within (down.Post d f p) e = absurd (cc)
unit_within (down.Return a i) e = absurd (cc)
unit_within down.Stop e = absurd (cc)

pub diagnostic_within : (x : Down) → is_diagnostic_write x ≡ true → is_reset_item x ≡ true
diagnostic_within (down.Write reg value) e = ap (λ c. c || ((reg == DOORBELL) && (value == unit_reset_dword))) e
diagnostic_within (down.Read reg) e = absurd (cc)
diagnostic_within (down.Post d f p) e = absurd (cc)
diagnostic_within (down.Return a i) e = absurd (cc)
diagnostic_within down.Stop e = absurd (cc)

pub plain_no_write : (x : Down) → is_plain x ≡ true → is_register_write x ≡ false
plain_no_write (down.Write reg value) e = ap not e
plain_no_write (down.Read reg) e = refl
plain_no_write (down.Post d f p) e = refl
plain_no_write (down.Return a i) e = refl
plain_no_write down.Stop e = refl

pub and_true : (c : Bool) → (c && true) ≡ c
and_true true = refl
and_true false = refl

pub and_none : (c : Bool) → (c && false) ≡ false
and_none true = refl
and_none false = refl

keys_reset_none : list_any is_reset_item (next_turn diagnostic_reset None).writes ≡ false
unfolding door.turn_from
keys_reset_none = refl

keys_no_unit : how_many is_unit_write (next_turn diagnostic_reset None).writes ≡ 0
unfolding door.turn_from how_many
keys_no_unit = refl

keys_no_reset : how_many is_reset_item (next_turn diagnostic_reset None).writes ≡ 0
unfolding door.turn_from how_many
keys_no_reset = refl

module _ (w : World) (h : History) (b : Before w h) where
  k : Clock w h
  k = b.facts.clock

  rs : ResetSteps w
  rs = b.facts.doorbell.reset_steps

  abbrev K0 : Keys
  K0 = keys_of w.ioc.door

  pub here : HoldsOn w.host w.ioc (down_line w) (value_coming w)
  here = of_world w rs

  -- no reset's write is on its way
  pub no_resets : (is_resetting w.host.mode ≡ false) ⊎ (w.host.returning ≡ true) → how_many is_reset_item (down_line w) ≡ 0
  unfolding reset_write_count
  no_resets (inl m) = k.one_reset_write.one ∙ ap (λ c. one_if ((c && not (w.host.asked == w.ioc.generation)) && not w.host.returning)) m
  no_resets (inr r) = k.one_reset_write.one ∙ (ap (λ c. one_if (in_asked w && not c)) r ∙ ap one_if (and_none (in_asked w)))

  level : is_resetting w.host.mode ≡ false → ((w.host.asked + 1) % 2 ^ 32 == w.ioc.generation) ≡ false
  level m =
      let p = phased_of w k.phase_table in
      let lev = level_phase w.host.mode w.host.asked w.ioc.generation (state_of w.ioc) p m in
      not_begun w.host.mode ((w.host.asked + 1) % 2 ^ 32) w.ioc.generation p.generation_fits (ap (λ i. (i + 1) % 2 ^ 32) lev.0)

  -- RESET_ADAPTER is clear where the controller isn't RESET
  clear_by : in_begun w ≡ false → w.ioc.door.reset_adapter ≡ false
  clear_by e = b.facts.doorbell.adapter ∙ ap (λ c. (c && Rattle.mpt_rules.specs.Ioc.Tables.is_reset (state_of w.ioc)) && Rattle.law_facts.specs.DoorAhead.is_diagnostic w.host.stage) e

  -- ---- the host

  module _ (x : Host) (coming : Option ℕ) where
    abbrev OnHost : Type 0
    OnHost = HoldsOn x w.ioc (w.down ++ x.out) coming

    -- no reset's machine is at work
    pub vacuous : ((d : HostDoor) → x.machine ≡ Some d → is_resetting x.mode ≡ true → ⊥) → (((is_resetting x.mode && not (x.asked == w.ioc.generation)) && (x.reading && is_none x.machine)) ≡ true → x.returning ≡ true)
        → (x.stage ≡ stage.DiagnosticReset → how_many is_unit_write (w.down ++ x.out) ≡ 0) → (x.stage ≡ stage.UnitReset → how_many is_diagnostic_write (w.down ++ x.out) ≡ 0) → OnHost
    vacuous n l c e = record { step = λ d y m r a. absurd (n d m r); value = λ d y v m r a q. absurd (n d m r); late = l; diagnostic = c; unit = e }

    pub normal : is_resetting x.mode ≡ false → (x.stage ≡ stage.DiagnosticReset → ⊥) → (x.stage ≡ stage.UnitReset → ⊥) → OnHost
    normal m c e = vacuous (λ d q r. contrary (is_resetting x.mode) m r) (λ l. contrary (is_resetting x.mode) m (and_false _ _ (and_false _ _ l).0).0) (λ s. absurd (c s)) (λ s. absurd (e s))

    -- a machine that was set to work
    pub works : (d : HostDoor) (y : Reading) → x.machine ≡ Some d → d.stage ≡ door_stage.Awaits y → coming ≡ None → StepAt x.returning (is_resetting x.mode && (x.asked == w.ioc.generation)) ((is_resetting x.mode && (x.asked == w.ioc.generation)) && is_ready (state_of w.ioc)) (keys_after K0 (w.down ++ x.out)) y
        → (x.stage ≡ stage.DiagnosticReset → how_many is_unit_write (w.down ++ x.out) ≡ 0) → (x.stage ≡ stage.UnitReset → how_many is_diagnostic_write (w.down ++ x.out) ≡ 0) → OnHost
    works d y m a n p c e =
        record {
          step = λ d2 y2 m2 r a2.
              let q : y ≡ y2 = awaits_is y y2 (sym a ∙ (ap (λ (z : HostDoor). z.stage) (some_is d d2 (sym m ∙ m2)) ∙ a2)) in
              subst (StepAt x.returning (is_resetting x.mode && (x.asked == w.ioc.generation)) ((is_resetting x.mode && (x.asked == w.ioc.generation)) && is_ready (state_of w.ioc)) (keys_after K0 (w.down ++ x.out))) q p;
          value = λ d2 y2 v m2 r a2 q. absurd (none_some v (sym n ∙ q));
          late = λ l. contrary (is_none x.machine) (ap is_none m) (and_false _ _ (and_false _ _ l).1).1;
          diagnostic = c;
          unit = e;
        }
      where
        none_some : (v : ℕ) → None ≡ Some v → ⊥
        none_some v e = cc

  -- nothing of it moves, and no register is written
  pub more : (xs : List Down) (coming : Option ℕ) → how_many is_register_write xs ≡ 0 → coming ≡ value_coming w
      → StepsHold w.host.machine w.host.mode w.host.stage w.host.returning (waits_to_reset w) (in_begun w) (is_linked_up w) (keys_after K0 (down_line w ++ xs)) (down_line w ++ xs) coming
  more xs coming z e =
      let q : keys_after K0 (down_line w ++ xs) ≡ keys_after K0 (down_line w) = keys_append K0 (down_line w) xs ∙ keys_quiet (keys_after K0 (down_line w)) xs z in
      record {
        step = λ d y m r a. subst (λ n. StepAt w.host.returning (in_begun w) (is_linked_up w) n y) (sym q) (here.step d y m r a);
        value = λ d y v m r a c. here.value d y v m r a (sym e ∙ c);
        late = here.late;
        diagnostic = λ s. let n = here.diagnostic s in let u = fewer_pass is_unit_write is_register_write unit_is_write xs in let a = how_many-append is_unit_write (down_line w) xs in omega (arith, n, u, a, z);
        unit = λ s. let n = here.unit s in let u = fewer_pass is_diagnostic_write is_register_write (λ y f. Rattle.law_clock.proofs.ResetWriteKept.reset_is_write y (diagnostic_within y f)) xs in let a = how_many-append is_diagnostic_write (down_line w) xs in omega (arith, n, u, a, z);
      }

  pub line : (o xs : List Down) → o ≡ w.host.out ++ xs → w.down ++ o ≡ down_line w ++ xs
  line o xs e = ap (λ y. w.down ++ y) e ∙ sym (append_assoc w.down w.host.out xs)

  -- ---- writes, and a read behind them

  pub counts_line : (test : Down → Bool) (out ws : List Down) (reg : ℕ) → how_many test (w.down ++ out) ≡ 0 → how_many test ws ≡ 0 → test (down.Read reg) ≡ false → how_many test (w.down ++ ((out ++ ws) ++ down.Read reg ∷ [])) ≡ 0
  counts_line test out ws reg i z e =
      let a = how_many-append test w.down ((out ++ ws) ++ down.Read reg ∷ []) in let c = how_many-append test (out ++ ws) (down.Read reg ∷ []) in let g = how_many-append test out ws in
      let l = how_many-append test w.down out in
      let o = how_many-cons test (down.Read reg) [] in let n = how_many-nil {X = Down} test in let r : one_if (test (down.Read reg)) ≡ 0 = ap one_if e in
      omega (arith, a, c, g, i, l, o, n, r, z)

  pub keys_line : (out ws : List Down) (reg : ℕ) → keys_after K0 (w.down ++ ((out ++ ws) ++ down.Read reg ∷ [])) ≡ keys_after (keys_after K0 (w.down ++ out)) ws
  keys_line out ws reg =
      let a : w.down ++ ((out ++ ws) ++ down.Read reg ∷ []) ≡ ((w.down ++ out) ++ ws) ++ down.Read reg ∷ [] = sym (append_assoc w.down (out ++ ws) (down.Read reg ∷ [])) ∙ ap (λ xs. xs ++ down.Read reg ∷ []) (sym (append_assoc w.down out ws)) in
      let c = how_many-cons is_register_write (down.Read reg) [] in let n = how_many-nil {X = Down} is_register_write in
      ap (keys_after K0) a ∙ (keys_append K0 ((w.down ++ out) ++ ws) (down.Read reg ∷ []) ∙ (keys_quiet (keys_after K0 ((w.down ++ out) ++ ws)) (down.Read reg ∷ []) (omega (arith, c, n)) ∙ keys_append K0 (w.down ++ out) ws))

  -- ---- a machine begins a reset

  module _ (coming : Option ℕ) (none : coming ≡ None) (y : Host) (m : is_resetting y.mode ≡ true) (back : y.returning ≡ true) (clean : how_many is_reset_item (w.down ++ y.out) ≡ 0) (clear : w.ioc.door.reset_adapter ≡ false) where
    behind : (test : Down → Bool) → ((x : Down) → test x ≡ true → is_reset_item x ≡ true) → (ws : List Down) (reg : ℕ) → how_many test ws ≡ 0 → test (down.Read reg) ≡ false → how_many test (w.down ++ ((y.out ++ ws) ++ down.Read reg ∷ [])) ≡ 0
    behind test f ws reg z e = let l = fewer_pass test is_reset_item f (w.down ++ y.out) in counts_line test y.out ws reg (omega (arith, l, clean)) z e

    begins_keys : (x : Host) (reg : ℕ) → x ≡ door.puts_read (door.puts_writes (record y { stage = stage.DiagnosticReset }) (next_turn diagnostic_reset None).writes) (next_turn diagnostic_reset None).door reg → HoldsOn x w.ioc (w.down ++ x.out) coming
    begins_keys x reg f =
        subst (λ (z : Host). HoldsOn z w.ioc (w.down ++ z.out) coming) (sym f)
        (works (door.puts_read (door.puts_writes (record y { stage = stage.DiagnosticReset }) (next_turn diagnostic_reset None).writes) (next_turn diagnostic_reset None).door reg) coming (next_turn diagnostic_reset None).door reading.Unlocked refl keys_turn none (
          returns,
          ap (λ (n : Keys). n.place) (keys_line y.out (next_turn diagnostic_reset None).writes reg) ∙ unlocks_all (keys_after K0 (w.down ++ y.out)),
          ap (λ (n : Keys). n.adapter) (keys_line y.out (next_turn diagnostic_reset None).writes reg) ∙ (adapter_stays (keys_after K0 (w.down ++ y.out)) (next_turn diagnostic_reset None).writes keys_no_reset ∙ (adapter_stays K0 (w.down ++ y.out) clean ∙ clear)),
        )
        (λ s. behind is_unit_write unit_within (next_turn diagnostic_reset None).writes reg keys_no_unit refl) (λ s. absurd (cc)))
      where
        returns : (y.returning && not (is_resetting y.mode && list_any is_reset_item (next_turn diagnostic_reset None).writes)) ≡ true
        returns = ap (λ c. y.returning && not (is_resetting y.mode && c)) keys_reset_none ∙ (ap (λ c. y.returning && not c) (and_none (is_resetting y.mode)) ∙ (and_true y.returning ∙ back))

    begins_unit : (x : Host) → x ≡ door.puts_turn (record y { stage = stage.UnitReset }) (next_turn unit_reset None) → HoldsOn x w.ioc (w.down ++ x.out) coming
    begins_unit x f =
        subst (λ (z : Host). HoldsOn z w.ioc (w.down ++ z.out) coming) (sym (f ∙ ap (door.puts_turn (record y { stage = stage.UnitReset })) unit_turn))
        (works (door.puts_read (door.puts_writes (record y { stage = stage.UnitReset }) (down.Write DOORBELL unit_reset_dword ∷ [])) (record unit_reset { stage = door_stage.Awaits reading.UnitReset }) HOST_INTERRUPT_STATUS) coming (record unit_reset { stage = door_stage.Awaits reading.UnitReset }) reading.UnitReset refl refl none
        returns
        (λ s. absurd (cc)) (λ s. behind is_diagnostic_write diagnostic_within (down.Write DOORBELL unit_reset_dword ∷ []) HOST_INTERRUPT_STATUS none_diagnostic refl))
      where
        none_diagnostic : how_many is_diagnostic_write (down.Write DOORBELL unit_reset_dword ∷ []) ≡ 0
        none_diagnostic = let a = how_many-cons is_diagnostic_write (down.Write DOORBELL unit_reset_dword) [] in let n = how_many-nil {X = Down} is_diagnostic_write in omega (arith, a, n)

        returns : (y.returning && not (is_resetting y.mode && true)) ≡ false
        returns = ap (λ c. y.returning && not (c && true)) m ∙ and_none y.returning

  -- the host that begins a machine: for a reset, or not
  pub begun : (x : Host) (coming : Option ℕ) (y : Host) (s : Stage) (d : HostDoor) (t : Bool) → Beginning w y s d t → x ≡ door.begins y s d → coming ≡ None → HoldsOn x w.ioc (w.down ++ x.out) coming
  begun x coming y s d t q f n = by_base q f
    where
      other : {y : Host} {s : Stage} {d : HostDoor} {t : Bool} → (q : Beginning w y s d t) → is_resetting y.mode ≡ false → (s ≡ stage.DiagnosticReset → ⊥) → (s ≡ stage.UnitReset → ⊥) → x ≡ door.begins y s d → HoldsOn x w.ioc (w.down ++ x.out) coming
      other {y} {s} {d} q m c e f =
          let g = base_begun q in
          subst (λ (z : Host). HoldsOn z w.ioc (w.down ++ z.out) coming) (sym (f ∙ begins_is y s d g.0 g.1))
          (normal (door.puts_read (door.puts_writes (record y { stage = s }) (next_turn d None).writes) (next_turn d None).door g.1.reg) coming m c e)

      follows : {p s : Stage} {a : Rattle.mpt_messages.specs.declared.host_ask.HostAsk.HostAsk} → NextShake w p s a → IsInMode w p → (w.host.mode ≡ state.Starting) × (s ≡ stage.DiagnosticReset → ⊥) × (s ≡ stage.UnitReset → ⊥)
      follows FactsNext i = (i, λ e. cc, λ e. cc)
      follows PortFactsNext i = (i, λ e. cc, λ e. cc)
      follows InitNext i = (i, λ e. cc, λ e. cc)

      given : is_resetting w.host.mode ≡ false → how_many is_reset_item (w.down ++ filter resets.is_no_post w.host.out) ≡ 0
      given m =
          let a = how_many-append is_reset_item w.down w.host.out in let c = how_many-append is_reset_item w.down (filter resets.is_no_post w.host.out) in let g = filtered is_reset_item resets.is_no_post w.host.out in let z = no_resets (inl m) in
          omega (arith, a, c, g, z)

      not_begun_yet : in_asked w ≡ true → in_begun w ≡ false
      not_begun_yet a = opposite (w.host.asked == w.ioc.generation) (and_false (is_resetting w.host.mode) (not (w.host.asked == w.ioc.generation)) a).1
        where
          opposite : (c : Bool) → not c ≡ true → (is_resetting w.host.mode && c) ≡ false
          opposite true e = absurd (cc)
          opposite false e = and_none (is_resetting w.host.mode)

      by_base : {y : Host} {s : Stage} {d : HostDoor} {t : Bool} → Beginning w y s d t → x ≡ door.begins y s d → HoldsOn x w.ioc (w.down ++ x.out) coming
      by_base (FromOff m) f = other (FromOff m) refl (λ e. cc) (λ e. cc) f
      by_base (Free m r) f = other (Free m r) (ap is_resetting m) (λ e. cc) (λ e. cc) f
      by_base (Asked s d Diagnostic m r) f =
          let q : Beginning w (resets.gives_up w.host stage.DiagnosticReset) stage.DiagnosticReset diagnostic_reset false = Asked stage.DiagnosticReset diagnostic_reset Diagnostic m r in
          let g = base_begun q in
          begins_keys coming n (resets.gives_up w.host stage.DiagnosticReset) refl (k.one_reset_write.others_return m) (given m) (clear_by (ap (λ c. c && (w.host.asked == w.ioc.generation)) m)) x g.1.reg (f ∙ begins_is (resets.gives_up w.host stage.DiagnosticReset) stage.DiagnosticReset diagnostic_reset g.0 g.1)
      by_base (Asked s d MessageUnit m r) f = begins_unit coming n (resets.gives_up w.host stage.UnitReset) refl (k.one_reset_write.others_return m) (given m) (clear_by (ap (λ c. c && (w.host.asked == w.ioc.generation)) m)) x f
      by_base (Late s d Diagnostic e z a v rest u r) f =
          let q : Beginning w (record w.host { reading = false }) stage.DiagnosticReset diagnostic_reset true = Late stage.DiagnosticReset diagnostic_reset Diagnostic e z a v rest u r in
          let g = base_begun q in
          let p = (and_false _ _ a).0 in
          begins_keys coming n (record w.host { reading = false }) (and_false _ _ p).0 (rs.late a) (no_resets (inr (rs.late a))) (clear_by (not_begun_yet p)) x g.1.reg (f ∙ begins_is (record w.host { reading = false }) stage.DiagnosticReset diagnostic_reset g.0 g.1)
      by_base (Late s d MessageUnit e z a v rest u r) f = let p = (and_false _ _ a).0 in begins_unit coming n (record w.host { reading = false }) (and_false _ _ p).0 (rs.late a) (no_resets (inr (rs.late a))) (clear_by (not_begun_yet p)) x f
      by_base (Marked queue m r) f = other (Marked queue m r) refl (λ e. cc) (λ e. cc) f
      by_base (Renewed d y v hv o r) f = other (Renewed d y v hv o r) refl (λ e. cc) (λ e. cc) f
      by_base (Next d y v hv o s a q) f = let l = follows q hv.in_mode in other (Next d y v hv o s a q) (ap is_resetting l.0) l.1 l.2 f
