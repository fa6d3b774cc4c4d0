-- Each case keeps that no register is written as a start looks, nor while the controller is RESET.
use Rattle.std.proofs.Common.{◌≡◌, ℕ, ◌+◌, ◌%◌, ◌^◌, ◌==◌, ◌&&◌, ◌||◌, ◌⊎◌, inl, inr, not, if◌then◌else◌, Bool, true, false, List, [], ◌∷◌, ◌++◌, bit_and, length, Some, None, refl, ap, sym, ◌∙◌, subst, arith, append_assoc}
use Rattle.mpi_doorbell.specs.Bytes.{has}
use Rattle.mpi_doorbell.specs.DoorRegisters.{is_fault}
use Rattle.mpi_doorbell.specs.HostDoor.{HostDoor}
use Rattle.mpi_doorbell.specs.HostSteps.{hears, look_at_doorbell}
use Rattle.mpi_doorbell.specs.declared.registers.TheConstants.{DIAG_RESET_ADAPTER, IOC_STATE_FAULT, IOC_STATE_MASK, IOC_STATE_OPERATIONAL, IOC_STATE_READY, SYS2IOC_DB_STATUS}
use Rattle.mpi_doorbell.specs.declared.stage.Reading.{Reading}
use Rattle.mpi_doorbell.specs.declared.stage.Reading.TheVariants as reading
use Rattle.mpi_doorbell.specs.declared.stage.ResetKind.{ResetKind}
use Rattle.mpi_doorbell.specs.declared.stage.ResetKind.TheVariants as kind
use Rattle.mpi_doorbell.specs.declared.stage.Stage.{Stage as DoorStage}
use Rattle.mpi_doorbell.specs.declared.stage.Stage.TheVariants as door_stage
use Rattle.mpi_doorbell.specs.declared.state.IocState.{IocState}
use Rattle.mpi_doorbell.specs.declared.step.DoorStep.TheVariants as step
use Rattle.mpt_trace.specs.declared.host_state.HostState.{HostState}
use Rattle.mpt_trace.specs.declared.host_state.HostState.TheVariants as state
use Rattle.mpt_trace.specs.declared.item.Back.{Back}
use Rattle.mpt_trace.specs.declared.item.Down.{Down}
use Rattle.mpt_trace.specs.declared.item.Down.TheVariants as down
use Rattle.mpt_trace.specs.declared.item.Out.{Out}
use Rattle.mpt_rules.specs.declared.stage.Stage.{Stage}
use Rattle.mpt_rules.specs.declared.stage.Stage.TheVariants as stage
use Rattle.mpt_rules.specs.World.Cases.{Case, happens}
use Rattle.mpt_rules.specs.World.Counts.{how_many, is_register_write, register_write_count}
use Rattle.mpt_rules.specs.Host.Doorbell as door
use Rattle.mpt_rules.specs.Host.Doorbell.{DoorTurn, is_reset_item, next_turn, turn_from}
use Rattle.mpt_rules.specs.Host.Parts.{Host}
use Rattle.mpt_rules.specs.Host.Returns.{after_sent}
use Rattle.mpt_rules.specs.Ioc.Parts.{Ioc, state_of}
use Rattle.mpt_rules.specs.Ioc.Steps as ioc_step
use Rattle.mpt_rules.specs.Ioc.Tables.{is_ready, is_reset}
use Rattle.mpt_rules.specs.Ioc.Takes as adapter
use Rattle.mpt_rules.specs.Outcome.{Happening}
use Rattle.mpt_rules.specs.World.Lines.{down_line}
use Rattle.mpt_rules.specs.World.State.{World}
use Rattle.mpt_rules.proofs.Counts.{how_many-append}
use Rattle.mpt_wire.specs.Machine.Causes.{is_resetting}
use Rattle.law_facts.specs.Clock.{Clock, in_begun, in_reset}
use Rattle.law_facts.specs.DoorAhead.{IsInMode, ReadsFor, ResetStep, ResetSteps}
use Rattle.law_facts.specs.History.{History}
use Rattle.law_facts.specs.Words.{is_off, is_stray_reset}
use Rattle.law_moves.proofs.Cases.{Owes, kept}
use Rattle.law_moves.proofs.Counted.{false_by_none, how_many-cons, how_many-nil, later, later-opened, none_passes}
use Rattle.law_moves.proofs.Hears.{is_reset_stage}
use Rattle.law_moves.proofs.HostSpeaks.{ComesUp, Rises, Stays}
use Rattle.law_moves.proofs.IocSpeaks.{CalmTold, IocSpeaks, LinkedUp, News, Speaks as SpeaksBack, Unlinked, is_asked_out, never_out, news}
use Rattle.law_moves.proofs.IocTakes as leaf
use Rattle.law_moves.proofs.IocTakes.{Takes, takes}
use Rattle.law_moves.proofs.Phases.{and_false, not_begun, phased_of}
use Rattle.law_moves.proofs.Registers.{linked_is}
use Rattle.law_clock.specs.Premises.{Before}
use Rattle.law_clock.proofs.PhaseKept.{high_words, level_phase, normal_words}
use Rattle.law_doors.proofs.Whole.{whole_kept}
use Rattle.law_starts.specs.Starts.{NothingIsWritten}
use Rattle.law_starts.proofs.HostAtDoor as at
use Rattle.law_starts.proofs.HostAtDoor.{Asked, AtDoor, Beginning, Begins, Diagnostic, Drops, FactsNext, NextShake, Free, FromOff, GivesUp, HasValue, InitNext, Keeps, Late, Looked, Marked, MessageUnit, Next, Opened, PortFactsNext, Readied, Renewed, ResetMachine, Turns, base_begun, begins_is, is_plain, value_comes, contrary}

plain_no_write : (x : Down) → is_plain x ≡ true → is_register_write x ≡ false
plain_no_write (down.Write reg value) e = ap not e
plain_no_write (down.Read reg) e = refl
plain_no_write (down.Post d f p) e = refl
plain_no_write (down.Return a i) e = refl
plain_no_write down.Stop e = refl

empty_none : (test : Down → Bool) (xs : List Down) → length xs ≡ 0 → how_many test xs ≡ 0
empty_none test [] e = how_many-nil test
empty_none test (x ∷ xs) e = absurd (omega (arith, e))

look_quiet : how_many is_register_write (next_turn look_at_doorbell None).writes ≡ 0
unfolding turn_from how_many
look_quiet = refl

-- ---- turns that write nothing

module _ (d : HostDoor) (v : ℕ) where
  abbrev TurnAt : DoorStage → DoorTurn
  TurnAt s = turn_from 8 (hears d s v).door (hears d s v).step

  over_quiet : has v DIAG_RESET_ADAPTER ≡ true → how_many is_register_write (TurnAt (door_stage.Awaits reading.ResetOver)).writes ≡ 0
  unfolding turn_from how_many
  over_quiet e = by_test (has v DIAG_RESET_ADAPTER) e
    where
      by_test : (b : Bool) → b ≡ true
          → how_many is_register_write (turn_from 8 (if b then Rattle.mpi_doorbell.specs.HostDoor.reads d reading.ResetOver else Rattle.mpi_doorbell.specs.HostDoor.writes d door_stage.Locks Rattle.mpi_doorbell.specs.declared.registers.TheConstants.HOST_DIAGNOSTIC (Rattle.mpi_doorbell.specs.HostReset.without v Rattle.mpi_doorbell.specs.declared.registers.TheConstants.DIAG_HOLD_IOC_RESET)).door
          (if b then Rattle.mpi_doorbell.specs.HostDoor.reads d reading.ResetOver else Rattle.mpi_doorbell.specs.HostDoor.writes d door_stage.Locks Rattle.mpi_doorbell.specs.declared.registers.TheConstants.HOST_DIAGNOSTIC (Rattle.mpi_doorbell.specs.HostReset.without v Rattle.mpi_doorbell.specs.declared.registers.TheConstants.DIAG_HOLD_IOC_RESET)).step).writes ≡ 0
      by_test true e = refl
      by_test false e = absurd (cc)

  unit_quiet : how_many is_register_write (TurnAt (door_stage.Awaits reading.UnitReset)).writes ≡ 0
  unfolding turn_from how_many
  unit_quiet = by_test (has v SYS2IOC_DB_STATUS)
    where
      by_test : (b : Bool) → how_many is_register_write (turn_from 8 (if b then Rattle.mpi_doorbell.specs.HostDoor.reads d reading.UnitReset else Rattle.mpi_doorbell.specs.HostDoor.reads d (reading.State kind.MessageUnit)).door
          (if b then Rattle.mpi_doorbell.specs.HostDoor.reads d reading.UnitReset else Rattle.mpi_doorbell.specs.HostDoor.reads d (reading.State kind.MessageUnit)).step).writes ≡ 0
      by_test true = refl
      by_test false = refl

  state_quiet : (k : ResetKind) → how_many is_register_write (TurnAt (door_stage.Awaits (reading.State k))).writes ≡ 0
  unfolding turn_from how_many
  state_quiet k = by_tests (bit_and v IOC_STATE_MASK == IOC_STATE_READY) ((bit_and v IOC_STATE_MASK == IOC_STATE_FAULT) || (bit_and v IOC_STATE_MASK == IOC_STATE_OPERATIONAL))
    where
      by_tests : (a b : Bool)
          → how_many is_register_write (turn_from 8 (if a then Rattle.mpi_doorbell.specs.HostDoor.finishes d [] else if b then Rattle.mpi_doorbell.specs.HostDoor.refuses d (Rattle.mpi_doorbell.specs.HostDoor.state_step k) v else Rattle.mpi_doorbell.specs.HostDoor.reads d (reading.State k)).door
          (if a then Rattle.mpi_doorbell.specs.HostDoor.finishes d [] else if b then Rattle.mpi_doorbell.specs.HostDoor.refuses d (Rattle.mpi_doorbell.specs.HostDoor.state_step k) v else Rattle.mpi_doorbell.specs.HostDoor.reads d (reading.State k)).step).writes ≡ 0
      by_tests true b = refl
      by_tests false true = refl
      by_tests false false = refl

  -- a look is over with its value
  look_over : (reg : ℕ) → (TurnAt (door_stage.Awaits reading.Doorbell)).step ≡ step.Read reg → ⊥
  unfolding turn_from
  look_over reg e = let z : step.Done _ _ ≡ step.Read reg = e in cc

module _ (w : World) (h : History) (b : Before w h) (u : NothingIsWritten w) where
  k : Clock w h
  k = b.facts.clock

  rs : ResetSteps w
  rs = b.facts.doorbell.reset_steps

  -- over fields
  pub record WrittenOf (s : Stage) (mode : HostState) (asked generation : ℕ) (c : IocState) (line : List Down) : Type 0 where
    pub look : s ≡ stage.Start → how_many is_register_write line ≡ 0
    pub reset : ((is_resetting mode && (asked == generation)) && is_reset c) ≡ true → how_many is_register_write line ≡ 0

  abbrev OnHost : Host → Type 0
  OnHost x = WrittenOf x.stage x.mode x.asked w.ioc.generation (state_of w.ioc) (w.down ++ x.out)

  here : WrittenOf w.host.stage w.host.mode w.host.asked w.ioc.generation (state_of w.ioc) (down_line w)
  here = record { look = u.look; reset = u.reset }

  -- what goes behind the line
  longer : (o xs : List Down) → o ≡ w.host.out ++ xs → how_many is_register_write xs ≡ 0 → how_many is_register_write (down_line w) ≡ 0 → how_many is_register_write (w.down ++ o) ≡ 0
  longer o xs e z n =
      let f : w.down ++ o ≡ down_line w ++ xs = ap (λ y. w.down ++ y) e ∙ sym (append_assoc w.down w.host.out xs) in
      let a = how_many-append is_register_write (down_line w) xs in let c = ap (how_many is_register_write) f in omega (arith, a, c, z, n)

  read_on : (xs ws : List Down) (reg : ℕ) → how_many is_register_write (w.down ++ xs) ≡ 0 → how_many is_register_write ws ≡ 0 → how_many is_register_write (w.down ++ ((xs ++ ws) ++ down.Read reg ∷ [])) ≡ 0
  read_on xs ws reg z y =
      let a = how_many-append is_register_write w.down ((xs ++ ws) ++ down.Read reg ∷ []) in let c = how_many-append is_register_write (xs ++ ws) (down.Read reg ∷ []) in
      let e = how_many-append is_register_write xs ws in let f = how_many-append is_register_write w.down xs in
      let o = how_many-cons is_register_write (down.Read reg) [] in let n = how_many-nil {X = Down} is_register_write in
      omega (arith, a, c, e, f, o, n, z, y)

  not_reset : {T : Type 0} (mode : HostState) (l r : Bool) → is_resetting mode ≡ false → ((is_resetting mode && l) && r) ≡ true → T
  not_reset mode l r e g = contrary (is_resetting mode) e (and_false _ _ (and_false _ _ g).0).0

  not_level : {T : Type 0} (m l r : Bool) → l ≡ false → ((m && l) && r) ≡ true → T
  not_level m l r e g = contrary l e (and_false _ _ (and_false _ _ g).0).1

  level : is_resetting w.host.mode ≡ false → ((w.host.asked + 1) % 2 ^ 32 == w.ioc.generation) ≡ false
  level m =
      let p = phased_of w k.phase_table in
      let lev = level_phase w.host.mode w.host.asked w.ioc.generation (state_of w.ioc) p m in
      not_begun w.host.mode ((w.host.asked + 1) % 2 ^ 32) w.ioc.generation p.generation_fits (ap (λ i. (i + 1) % 2 ^ 32) lev.0)

  -- ---- a reset's machine while the controller is RESET

  reset_and_ready : {T : Type 0} (s : IocState) → is_reset s ≡ true → is_ready s ≡ true → T
  reset_and_ready Rattle.mpi_doorbell.specs.declared.state.IocState.TheVariants.Reset e f = absurd (cc)
  reset_and_ready Rattle.mpi_doorbell.specs.declared.state.IocState.TheVariants.Ready e f = absurd (cc)
  reset_and_ready Rattle.mpi_doorbell.specs.declared.state.IocState.TheVariants.Operational e f = absurd (cc)
  reset_and_ready (Rattle.mpi_doorbell.specs.declared.state.IocState.TheVariants.Fault code) e f = absurd (cc)

  module _ (d : HostDoor) (y : Reading) (v : ℕ) (hv : HasValue w d y v) (r : in_reset w ≡ true) where
    begun : in_begun w ≡ true
    begun = (and_false (in_begun w) (is_reset (state_of w.ioc)) r).0

    resetting : is_resetting w.host.mode ≡ true
    resetting = (and_false _ _ begun).0

    at_y : (x : Reading) → y ≡ x → how_many is_register_write (TurnAt d v (door_stage.Awaits x)).writes ≡ 0 → how_many is_register_write (next_turn d (Some v)).writes ≡ 0
    at_y x e z = subst (λ s. how_many is_register_write (TurnAt d v s).writes ≡ 0) (sym (hv.at ∙ ap door_stage.Awaits e)) z

    not_linked : {T : Type 0} → Rattle.law_facts.specs.Clock.is_linked_up w ≡ true → T
    not_linked l = reset_and_ready (state_of w.ioc) (and_false (in_begun w) (is_reset (state_of w.ioc)) r).1 (and_false (in_begun w) (is_ready (state_of w.ioc)) l).1

    over : y ≡ reading.ResetOver → (c : Bool) → has v DIAG_RESET_ADAPTER ≡ c → how_many is_register_write (next_turn d (Some v)).writes ≡ 0
    over e true t = at_y reading.ResetOver e (over_quiet d v t)
    over e false t = not_linked (rs.value d reading.ResetOver v hv.machine_is resetting (hv.at ∙ ap door_stage.Awaits e) (value_comes w d y v hv) t)

    started : {T : Type 0} → is_resetting w.host.mode ≡ false → T
    started e = contrary (is_resetting w.host.mode) e resetting

    by_stage : (s : Stage) → ReadsFor s y → IsInMode w s → how_many is_register_write (next_turn d (Some v)).writes ≡ 0
    by_stage stage.DiagnosticReset (inl e) i = contrary w.host.returning (k.one_reset_write.begun begun) (subst (ResetStep w) e (rs.step d y hv.machine_is resetting hv.at)).0
    by_stage stage.DiagnosticReset (inr (inl e)) i = over e (has v DIAG_RESET_ADAPTER) refl
    by_stage stage.DiagnosticReset (inr (inr e)) i = at_y (reading.State kind.Diagnostic) e (state_quiet d v kind.Diagnostic)
    by_stage stage.UnitReset (inl e) i = at_y reading.UnitReset e (unit_quiet d v)
    by_stage stage.UnitReset (inr e) i = at_y (reading.State kind.MessageUnit) e (state_quiet d v kind.MessageUnit)
    by_stage stage.Idle e i = absurd e
    by_stage stage.StartReset e i = absurd e
    by_stage stage.Start e i = started (ap is_resetting i)
    by_stage stage.Facts e i = started (ap is_resetting i)
    by_stage stage.PortFacts e i = started (ap is_resetting i)
    by_stage stage.Init e i = started (ap is_resetting i)
    by_stage stage.Look e i = started (ap is_resetting i)

    pub reset_quiet : how_many is_register_write (next_turn d (Some v)).writes ≡ 0
    reset_quiet = by_stage w.host.stage hv.reads_for hv.in_mode

  -- ---- the host

  -- a machine that begins: not to look, or at once behind the start
  base_look : {y : Host} {s : Stage} {d : HostDoor} {t : Bool} → Beginning w y s d t → s ≡ stage.Start → (how_many is_register_write (w.down ++ y.out) ≡ 0) × (how_many is_register_write (next_turn d None).writes ≡ 0)
  base_look (FromOff m) e = (empty_none is_register_write (down_line w) (k.phase_table.off (ap is_off m)).down, look_quiet)
  base_look (Free m r) e = absurd (cc)
  base_look (Asked s d Diagnostic n r) e = absurd (cc)
  base_look (Asked s d MessageUnit n r) e = absurd (cc)
  base_look (Late s d Diagnostic q n y v rest g r) e = absurd (cc)
  base_look (Late s d MessageUnit q n y v rest g r) e = absurd (cc)
  base_look (Marked queue m r) e = absurd (cc)
  base_look (Renewed d y v hv o r) e = absurd (cc)
  base_look (Next d y v hv o s a f) e = absurd (follows f e)
    where
      follows : {p q : Stage} {a : Rattle.mpt_messages.specs.declared.host_ask.HostAsk.HostAsk} → NextShake w p q a → q ≡ stage.Start → ⊥
      follows FactsNext e = cc
      follows PortFactsNext e = cc
      follows InitNext e = cc

  next_mode : {p q : Stage} {a : Rattle.mpt_messages.specs.declared.host_ask.HostAsk.HostAsk} → NextShake w p q a → IsInMode w p → w.host.mode ≡ state.Starting
  next_mode FactsNext i = i
  next_mode PortFactsNext i = i
  next_mode InitNext i = i

  -- and no reset is begun then
  base_reset : {T : Type 0} {y : Host} {s : Stage} {d : HostDoor} {t : Bool} → Beginning w y s d t → (r : Bool) → ((is_resetting y.mode && (y.asked == w.ioc.generation)) && r) ≡ true → T
  base_reset (FromOff m) r g = not_reset state.Starting (w.host.asked == w.ioc.generation) r refl g
  base_reset (Free m n) r g = not_reset w.host.mode (w.host.asked == w.ioc.generation) r (ap is_resetting m) g
  base_reset (Asked s d q m n) r g = not_level true ((w.host.asked + 1) % 2 ^ 32 == w.ioc.generation) r (level m) g
  base_reset (Late s d q e n y v rest f o) r g = not_level (is_resetting w.host.mode) (w.host.asked == w.ioc.generation) r (opposite (w.host.asked == w.ioc.generation) (and_false _ _ (and_false _ _ y).0).1) g
    where
      opposite : (c : Bool) → not c ≡ true → c ≡ false
      opposite true e = absurd (cc)
      opposite false e = refl
  base_reset (Marked queue m n) r g = absurd (cc)
  base_reset (Renewed d y v hv o n) r g = absurd (cc)
  base_reset (Next d y v hv o s a f) r g = not_reset w.host.mode (w.host.asked == w.ioc.generation) r (ap is_resetting (next_mode f hv.in_mode)) g

  idle_start : {T : Type 0} → stage.Idle ≡ stage.Start → T
  idle_start e = absurd (cc)

  host : (x : Host) (t : Bool) → AtDoor w x t → OnHost x
  host x t (Keeps q) =
      record {
        look = λ e. longer x.out q.grows.added q.grows.is plain (u.look (sym q.stage_is ∙ e));
        reset = by_mode q.mode_is;
      }
    where
      plain : how_many is_register_write q.grows.added ≡ 0
      plain = none_passes is_plain is_register_write plain_no_write q.grows.added q.grows.mild

      by_mode : (x.mode ≡ w.host.mode) ⊎ ((is_resetting w.host.mode ≡ false) × (w.host.machine ≡ None) × (x.mode ≡ state.Up)) → ((is_resetting x.mode && (x.asked == w.ioc.generation)) && is_reset (state_of w.ioc)) ≡ true → how_many is_register_write (w.down ++ x.out) ≡ 0
      by_mode (inl m) g =
          longer x.out q.grows.added q.grows.is plain
          (u.reset (sym (ap (λ n. (is_resetting n && (x.asked == w.ioc.generation)) && is_reset (state_of w.ioc)) m ∙ ap (λ n. (is_resetting w.host.mode && (n == w.ioc.generation)) && is_reset (state_of w.ioc)) q.asked_is) ∙ g))
      by_mode (inr m) g = not_reset x.mode (x.asked == w.ioc.generation) (is_reset (state_of w.ioc)) (ap is_resetting m.2) g
  host x t (GivesUp s rs2 m r f) = subst OnHost (sym f) (record { look = λ e. contrary (is_reset_stage s) (ap is_reset_stage e) rs2; reset = λ g. not_level true ((w.host.asked + 1) % 2 ^ 32 == w.ioc.generation) (is_reset (state_of w.ioc)) (level m) g })
  host x t (Drops n y v rest g r f) = subst OnHost (sym f) (record { look = u.look; reset = u.reset })
  host x t (Begins base s d t2 q f) =
      let g = base_begun q in
      subst OnHost (sym (f ∙ begins_is base s d g.0 g.1))
      (record { look = λ e. let z = base_look q e in read_on base.out (next_turn d None).writes g.1.reg z.0 z.1; reset = λ e. base_reset q (is_reset (state_of w.ioc)) e })
  host x t (Turns d y v hv reg s f) =
      let i = f ∙ ap (door.puts_step (door.puts_writes (record w.host { reading = false }) (next_turn d (Some v)).writes) (next_turn d (Some v)).door) s in
      subst OnHost (sym i)
      (record {
        look = λ e.
            let yd : y ≡ reading.Doorbell = subst (λ z. ReadsFor z y) e hv.reads_for in
            absurd (look_over d v reg (subst (λ z. (TurnAt d v z).step ≡ step.Read reg) (hv.at ∙ ap door_stage.Awaits yd) s));
        reset = λ e. read_on w.host.out (next_turn d (Some v)).writes reg (u.reset e) (reset_quiet d y v hv e);
      })
  host x t (Looked d y v hv o s f) =
      subst OnHost (sym f) (record { look = λ e. idle_start e; reset = λ g. not_reset w.host.mode (w.host.asked == w.ioc.generation) (is_reset (state_of w.ioc)) (ap is_resetting (subst (IsInMode w) s hv.in_mode)) g })
  host x t (Readied d y v hv o s f) =
      subst OnHost (sym f) (record { look = λ e. idle_start e; reset = λ e. longer (w.host.out ++ (next_turn d (Some v)).writes) (next_turn d (Some v)).writes refl (reset_quiet d y v hv e) (u.reset e) })
  host x t (Opened d y v hv o s q) =
      record {
        look = λ e. idle_start (sym q.stage_is ∙ e);
        reset = λ g. not_reset x.mode (x.asked == w.ioc.generation) (is_reset (state_of w.ioc)) (ap is_resetting (stays q.rises ∙ subst (IsInMode w) s hv.in_mode)) g;
      }
    where
      stays : {m : HostState} → Rises false w.host.mode m → m ≡ w.host.mode
      stays (Stays e) = e
      stays (ComesUp u r e) = absurd (cc)

  -- ---- the controller

  abbrev OnIoc : Ioc → List Down → Type 0
  OnIoc i rest = WrittenOf w.host.stage w.host.mode w.host.asked i.generation (state_of i) (rest ++ w.host.out)

  fewer : (x : Down) (rest : List Down) → w.down ≡ x ∷ rest → how_many is_register_write (down_line w) ≡ 0 → how_many is_register_write (rest ++ w.host.out) ≡ 0
  fewer x rest e z = let a = ap (λ xs. how_many is_register_write (xs ++ w.host.out)) e in let c = how_many-cons is_register_write x (rest ++ w.host.out) in omega (arith, z, a, c)

  same_reset : (i : Ioc) → i.generation ≡ w.ioc.generation → state_of i ≡ state_of w.ioc → ((is_resetting w.host.mode && (w.host.asked == i.generation)) && is_reset (state_of i)) ≡ true → in_reset w ≡ true
  same_reset i g s e = sym (ap (λ n. (is_resetting w.host.mode && (w.host.asked == n)) && is_reset (state_of i)) g ∙ ap (λ c. (is_resetting w.host.mode && (w.host.asked == w.ioc.generation)) && is_reset c) s) ∙ e

  passed : (x : Down) (rest : List Down) (i : Ioc) → w.down ≡ x ∷ rest → i.generation ≡ w.ioc.generation → state_of i ≡ state_of w.ioc → OnIoc i rest
  passed x rest i e g s = record { look = λ q. fewer x rest e (u.look q); reset = λ q. fewer x rest e (u.reset (same_reset i g s q)) }

  -- behind the write that begins it nothing is written
  pub alone : (reg value : ℕ) (rest : List Down) → w.down ≡ down.Write reg value ∷ rest → (is_reset_item (down.Write reg value) || is_stray_reset (down.Write reg value)) ≡ true → how_many is_register_write (rest ++ w.host.out) ≡ 0
  unfolding later register_write_count
  alone reg value rest e r =
      let l : down_line w ≡ down.Write reg value ∷ (rest ++ w.host.out) = ap (λ xs. xs ++ w.host.out) e in
      let s = k.one_reset_write.strays in let a = ap (how_many is_stray_reset) l in let c = how_many-cons is_stray_reset (down.Write reg value) (rest ++ w.host.out) in
      let n = false_by_none (is_stray_reset (down.Write reg value)) (omega (arith, s, a, c)) in
      later-opened is_reset_item is_register_write (down.Write reg value) (rest ++ w.host.out) (first (is_reset_item (down.Write reg value)) (is_stray_reset (down.Write reg value)) n r) (sym (ap (later is_reset_item is_register_write) l) ∙ k.one_reset_write.behind_it)
    where
      first : (c d : Bool) → d ≡ false → (c || d) ≡ true → c ≡ true
      first true d e f = refl
      first false d e f = sym e ∙ f ∙ refl

  taken : (i : Ioc) (x : Down) (rest : List Down) → w.down ≡ x ∷ rest → Takes w.ioc x i → is_fault (state_of i) ≡ false → OnIoc i rest
  taken i x rest e (leaf.Faults y j g) n = contrary _ n g
  taken i x rest e (leaf.Written reg value j nr s sa) n = passed (down.Write reg value) rest i e (ap (λ (y : Ioc). y.generation) sa) s
  taken i x rest e (leaf.Operates value j nr r s sa) n = record { look = λ q. fewer x rest e (u.look q); reset = λ q. contrary (is_reset (state_of i)) (ap is_reset s) (and_false (is_resetting w.host.mode && (w.host.asked == i.generation)) (is_reset (state_of i)) q).1 }
  taken i x rest e (leaf.Forgets reg value d r) n = record { look = λ q. alone reg value rest e r; reset = λ q. alone reg value rest e r }
  taken i x rest e (leaf.Reads reg value) n = passed (down.Read reg) rest i e refl refl
  taken i x rest e (leaf.Posts d g p j o sa) n = passed (down.Post d g p) rest i e (ap (λ (y : Ioc). y.generation) sa) (ap (λ (y : Ioc). y.door.state) sa)
  taken i x rest e (leaf.DropsPost d g p o) n = passed (down.Post d g p) rest i e refl refl
  taken i x rest e (leaf.Returns address index j o sa) n = passed (down.Return address index) rest i e (ap (λ (y : Ioc). y.generation) sa) (ap (λ (y : Ioc). y.door.state) sa)
  taken i x rest e (leaf.DropsReturn address index o) n = passed (down.Return address index) rest i e refl refl
  taken i x rest e leaf.Stops n = passed down.Stop rest i e refl refl

  same_ioc : (i : Ioc) → i.generation ≡ w.ioc.generation → state_of i ≡ state_of w.ioc → OnIoc i w.down
  same_ioc i g s = record { look = u.look; reset = λ q. u.reset (same_reset i g s q) }

  by_words : (test : Out → Bool) (i : Ioc) → IocSpeaks test w.ioc i → OnIoc i w.down
  by_words test i g = same_ioc i g.generation_is (ap (λ d. d.state) g.door_is)

  told : (x : Back) (o : Happening Ioc) → News never_out w.ioc x o → OnIoc o.part w.down
  told x o (SpeaksBack l g) = by_words never_out o.part g
  told x o (Unlinked n i z e) = subst (λ (y : Happening Ioc). OnIoc y.part w.down) (sym e) (same_ioc w.ioc refl refl)
  told x o (LinkedUp n i g r e) =
      record {
        look = u.look;
        reset = λ q. contrary (is_reset (state_of o.part)) (ap (λ (y : Happening Ioc). is_reset (state_of y.part)) e ∙ ap is_reset (linked_is w.ioc.door b.facts.doorbell.sound.hold)) (and_false (is_resetting w.host.mode && (w.host.asked == o.part.generation)) (is_reset (state_of o.part)) q).1;
      }
  told x o (CalmTold i e) = same_ioc o.part (ap (λ (y : Happening Ioc). y.part.generation) e) (ap (λ (y : Happening Ioc). state_of y.part) e)

  -- ---- all cases

  put : (x : Down) (rest : List Down) → w.host.out ≡ x ∷ rest → NothingIsWritten (record w { host = after_sent w.host x rest; down = w.down ++ x ∷ [] })
  put x rest e = by_item x (append_assoc w.down (x ∷ []) rest ∙ ap (λ xs. w.down ++ xs) (sym e))
    where
      of_same : (line : List Down) → line ≡ down_line w → WrittenOf w.host.stage w.host.mode w.host.asked w.ioc.generation (state_of w.ioc) line
      of_same line f = subst (WrittenOf w.host.stage w.host.mode w.host.asked w.ioc.generation (state_of w.ioc)) (sym f) here

      by_item : (y : Down) → (w.down ++ x ∷ []) ++ rest ≡ down_line w → NothingIsWritten (record w { host = after_sent w.host y rest; down = w.down ++ x ∷ [] })
      by_item (down.Return address index) f = let q = of_same _ f in record { look = q.look; reset = q.reset }
      by_item (down.Write reg value) f = let q = of_same _ f in record { look = q.look; reset = q.reset }
      by_item (down.Read reg) f = let q = of_same _ f in record { look = q.look; reset = q.reset }
      by_item (down.Post d g p) f = let q = of_same _ f in record { look = q.look; reset = q.reset }
      by_item down.Stop f = let q = of_same _ f in record { look = q.look; reset = q.reset }

  abbrev Kept : World → Type 0
  Kept v = is_fault (state_of v.ioc) ≡ false → NothingIsWritten v

  owes : Owes Kept w
  owes =
      record {
        host_puts = λ x rest e v. put x rest e;
        host_takes = λ queue x rest e y v. let q = host (Rattle.mpt_rules.specs.Host.Takes.hears_up w.host queue x).part _ (at.took w h b queue x rest e y) in record { look = q.look; reset = q.reset };
        host_told = λ i t v. let q = host (Rattle.mpt_rules.specs.World.Inputs.host_told w.host i).part false (at.told w h b i t) in record { look = q.look; reset = q.reset };
        host_looks = λ e v. let q = host (Rattle.mpt_rules.specs.Host.Takes.looks w.host) false (at.looked w h b e) in record { look = q.look; reset = q.reset };
        host_stops = λ e v. let q = host (Rattle.mpt_rules.specs.Host.Takes.stops w.host) false (at.stopped w h b) in record { look = q.look; reset = q.reset };
        ioc_takes = λ x rest e v. let q = taken (adapter.takes_down w.ioc x).part x rest e (takes w.ioc b.facts.doorbell.sound.waits k.phase_table.whole x) v in record { look = q.look; reset = q.reset };
        ioc_high = λ p rest e v. let q = by_words is_asked_out (ioc_step.works_on (record w.ioc { high = rest }) p).part (high_words w h b p rest) in record { look = q.look; reset = q.reset };
        ioc_normal = λ p rest e v. let q = by_words is_asked_out (ioc_step.works_on (record w.ioc { normal = rest }) p).part (normal_words w h b p rest) in record { look = q.look; reset = q.reset };
        ioc_puts_out = λ x rest e v. record { look = u.look; reset = u.reset };
        ioc_takes_back = λ x rest e v. let q = told x (adapter.takes_back w.ioc x) (news never_out w.ioc x) in record { look = q.look; reset = q.reset };
        ioc_puts = λ queue y rest z e g v. record { look = u.look; reset = u.reset };
        fabric_takes = λ x rest e v. record { look = u.look; reset = u.reset };
        fabric_says = λ x rest e v. record { look = u.look; reset = u.reset };
        fabric_puts = λ x rest e v. record { look = u.look; reset = u.reset };
        fabric_runs = λ tag address e v. record { look = u.look; reset = u.reset };
        plugs = λ address expander phy v. record { look = u.look; reset = u.reset };
        unplugs = λ address v. record { look = u.look; reset = u.reset };
        calms = λ v. record { look = u.look; reset = u.reset };
      }

  pub written_kept : (c : Case) → NothingIsWritten (happens w c)
  written_kept c = kept Kept w b.plain owes (λ v. u) c (whole_kept w h b.facts b.plain c)
