-- Each case keeps where a reset's machine stands, and what it will read: over the world.
use Rattle.std.proofs.Common.{◌≡◌, ℕ, ◌==◌, ◌&&◌, ◌||◌, ◌⊎◌, inl, inr, not, Bool, true, false, List, [], ◌∷◌, ◌++◌, bit_or, Option, Some, None, is_none, refl, ap, sym, ◌∙◌, subst, arith}
use Rattle.std.specs.List.{filter, list_any}
use Rattle.std.proofs.lemmas.Nat.{and_or_self}
use Rattle.mpi_doorbell.specs.Bytes.{has}
use Rattle.mpi_doorbell.specs.HostDoor.{HostDoor}
use Rattle.mpi_doorbell.specs.HostReset.{without}
use Rattle.mpi_doorbell.specs.HostSteps.{hears}
use Rattle.mpi_doorbell.specs.declared.registers.TheConstants.{DIAG_HOLD_IOC_RESET, DIAG_RESET_ADAPTER, DOORBELL, HOST_DIAGNOSTIC, HOST_INTERRUPT_STATUS, SYS2IOC_DB_STATUS, WRITE_SEQUENCE}
use Rattle.mpi_doorbell.specs.declared.stage.Reading.{Reading}
use Rattle.mpi_doorbell.specs.declared.stage.Reading.TheVariants as reading
use Rattle.mpi_doorbell.specs.declared.stage.ResetKind.TheVariants as kind
use Rattle.mpi_doorbell.specs.declared.stage.Stage.TheVariants as door_stage
use Rattle.mpi_doorbell.specs.declared.step.DoorStep.TheVariants as step
use Rattle.mpt_trace.specs.declared.host_state.HostState.TheVariants as state
use Rattle.mpt_trace.specs.declared.item.Down.{Down}
use Rattle.mpt_trace.specs.declared.item.Down.TheVariants as down
use Rattle.mpt_rules.specs.declared.stage.Stage.{Stage}
use Rattle.mpt_rules.specs.declared.stage.Stage.TheVariants as stage
use Rattle.mpt_rules.specs.World.Counts.{how_many, is_register_write, one_if}
use Rattle.mpt_rules.specs.Host.Doorbell as door
use Rattle.mpt_rules.specs.Host.Doorbell.{DoorTurn, is_reset_item, next_turn, turn_from}
use Rattle.mpt_rules.specs.Host.Parts.{Host}
use Rattle.mpt_rules.specs.Host.Resets as resets
use Rattle.mpt_rules.specs.World.Lines.{down_line, up_line}
use Rattle.mpt_rules.specs.World.State.{World}
use Rattle.mpt_rules.specs.World.Weight.{is_said_value}
use Rattle.mpt_rules.proofs.Counts.{how_many-append}
use Rattle.mpt_wire.specs.Machine.Causes.{is_resetting}
use Rattle.law_facts.specs.Clock.{Clock, in_begun, is_linked_up}
use Rattle.law_facts.specs.DoorAhead.{IsInMode, ReadsFor, ResetSteps, value_coming}
use Rattle.law_facts.specs.History.{History}
use Rattle.law_facts.specs.Words.{is_diagnostic_write, is_unit_write}
use Rattle.law_moves.proofs.Counted.{fewer_pass, filtered, how_many-cons, how_many-nil, none_passes}
use Rattle.law_moves.proofs.Phases.{and_false}
use Rattle.law_clock.specs.Premises.{Before}
use Rattle.law_clock.proofs.ResetWriteKept.{reset_is_write}
use Rattle.law_doors.proofs.StageWorld.{alone}
use Rattle.law_starts.proofs.HostAtDoor as at
use Rattle.law_starts.proofs.HostAtDoor.{AtDoor, Beginning, Begins, Drops, GivesUp, HasValue, Keeps, Looked, Opened, Readied, Turns, is_plain, value_comes, contrary}
use Rattle.law_steps.proofs.Keys.{Keys, keys_after, keys_of}
use Rattle.law_starts.proofs.Resetting.{TurnAt}
use Rattle.law_steps.proofs.ResetTurns.{over_locks, over_waits, state_waits, unit_goes, unit_waits, unlocked_turn}
use Rattle.law_steps.proofs.StepsKept.{HoldsOn, StepAt, StepsHold, and_none, and_true, begun, counts_line, here, keys_line, line, more, no_resets, no_some, normal, plain_no_write, vacuous, works}

module _ (w : World) (h : History) (b : Before w h) where
  k : Clock w h
  k = b.facts.clock

  rs : ResetSteps w
  rs = b.facts.doorbell.reset_steps

  abbrev K0 : Keys
  K0 = keys_of w.ioc.door

  -- the keys ahead
  abbrev KA : Keys
  KA = keys_after (keys_of w.ioc.door) (down_line w)

  -- ---- a turn of a machine that has its value

  module _ (d : HostDoor) (y : Reading) (v : ℕ) (hv : HasValue w d y v) (x : Host) (coming : Option ℕ) (none : coming ≡ None) (reg : ℕ) (s : (next_turn d (Some v)).step ≡ step.Read reg) (f : x ≡ door.puts_turn (record w.host { reading = false }) (next_turn d (Some v))) where
    abbrev Goal : Type 0
    Goal = HoldsOn x w.ioc (w.down ++ x.out) coming

    turn_is : (z : Reading) → y ≡ z → next_turn d (Some v) ≡ TurnAt d v (door_stage.Awaits z)
    turn_is z e = ap (λ q. turn_from 8 (hears d q v).door (hears d q v).step) (hv.at ∙ ap door_stage.Awaits e)

    -- what a turn's writes leave, with the read behind them
    by_turn : (ws : List Down) (d2 : HostDoor) (z : Reading) (reg2 : ℕ) → next_turn d (Some v) ≡ record { writes = ws; door = d2; step = step.Read reg2 } → d2.stage ≡ door_stage.Awaits z
        → ((returning : Bool) → returning ≡ (w.host.returning && not (is_resetting w.host.mode && list_any is_reset_item ws)) → StepAt returning (in_begun w) (is_linked_up w) (keys_after KA ws) z)
        → (w.host.stage ≡ stage.DiagnosticReset → how_many is_unit_write ws ≡ 0) → (w.host.stage ≡ stage.UnitReset → how_many is_diagnostic_write ws ≡ 0) → Goal
    by_turn ws d2 z reg2 e a p c g =
        subst (λ (q : Host). HoldsOn q w.ioc (w.down ++ q.out) coming) (sym (f ∙ ap (door.puts_turn (record w.host { reading = false })) e))
        (works w h b (door.puts_read (door.puts_writes (record w.host { reading = false }) ws) d2 reg2) coming d2 z refl a none
        (subst (λ n. StepAt (w.host.returning && not (is_resetting w.host.mode && list_any is_reset_item ws)) (in_begun w) (is_linked_up w) n z) (sym (keys_line w h b w.host.out ws reg2)) (p (w.host.returning && not (is_resetting w.host.mode && list_any is_reset_item ws)) refl))
        (λ q. counts_line w h b is_unit_write w.host.out ws reg2 (rs.diagnostic q) (c q) refl) (λ q. counts_line w h b is_diagnostic_write w.host.out ws reg2 (rs.unit q) (g q) refl))

    -- nothing was written
    still : (returning : Bool) → returning ≡ (w.host.returning && not (is_resetting w.host.mode && false)) → w.host.returning ≡ false → returning ≡ false
    still returning e r = e ∙ ap (λ c. c && not (is_resetting w.host.mode && false)) r

    stepped : (z : Reading) → is_resetting w.host.mode ≡ true → y ≡ z → StepAt w.host.returning (in_begun w) (is_linked_up w) KA z
    stepped z m e = (here w h b).step d z hv.machine_is m (hv.at ∙ ap door_stage.Awaits e)

    valued : (z : Reading) → is_resetting w.host.mode ≡ true → y ≡ z → Rattle.law_steps.proofs.StepsKept.ValueAt (is_linked_up w) z v
    valued z m e = (here w h b).value d z v hv.machine_is m (hv.at ∙ ap door_stage.Awaits e) (value_comes w d y v hv)

    unlocked : is_resetting w.host.mode ≡ true → y ≡ reading.Unlocked → Goal
    unlocked m e =
        let p = stepped reading.Unlocked m e in
        let a = valued reading.Unlocked m e in
        by_turn (down.Write HOST_DIAGNOSTIC (bit_or v DIAG_RESET_ADAPTER) ∷ []) (record d { stage = door_stage.Awaits reading.ResetOver }) reading.ResetOver HOST_DIAGNOSTIC (turn_is reading.Unlocked e ∙ unlocked_turn d v a.0) refl
        (λ returning q. (q ∙ sent, placed p.1)) (λ q. none_unit) (λ q. absurd (both_stages q))
      where
        resets_so : (has (bit_or v DIAG_RESET_ADAPTER) DIAG_RESET_ADAPTER || false || false) ≡ true
        resets_so = ap (λ n. (not (n == 0) || false) || false) (and_or_self DIAG_RESET_ADAPTER v)

        sent : (w.host.returning && not (is_resetting w.host.mode && list_any is_reset_item (down.Write HOST_DIAGNOSTIC (bit_or v DIAG_RESET_ADAPTER) ∷ []))) ≡ false
        sent = ap (λ c. w.host.returning && not (is_resetting w.host.mode && c)) resets_so ∙ (ap (λ c. w.host.returning && not (c && true)) m ∙ and_none w.host.returning)

        placed : KA.place ≡ 6 → (keys_after KA (down.Write HOST_DIAGNOSTIC (bit_or v DIAG_RESET_ADAPTER) ∷ [])).place ≡ 6
        placed e = ap (λ (n : Keys). n.place) (Rattle.law_steps.proofs.Keys.keys_front KA HOST_DIAGNOSTIC (bit_or v DIAG_RESET_ADAPTER) [] ∙ Rattle.law_steps.proofs.Keys.keys_none (Rattle.law_steps.proofs.Keys.keys_written KA HOST_DIAGNOSTIC (bit_or v DIAG_RESET_ADAPTER))) ∙ e

        none_unit : how_many is_unit_write (down.Write HOST_DIAGNOSTIC (bit_or v DIAG_RESET_ADAPTER) ∷ []) ≡ 0
        none_unit = let a = how_many-cons is_unit_write (down.Write HOST_DIAGNOSTIC (bit_or v DIAG_RESET_ADAPTER)) [] in let n = how_many-nil {X = Down} is_unit_write in omega (arith, a, n)

        both_stages : w.host.stage ≡ stage.UnitReset → ⊥
        both_stages q = wrong (subst (λ z. ReadsFor z y) q hv.reads_for)
          where
            wrong : (y ≡ reading.UnitReset) ⊎ (y ≡ reading.State kind.MessageUnit) → ⊥
            wrong (inl z) = let c : reading.Unlocked ≡ reading.UnitReset = sym e ∙ z in cc
            wrong (inr z) = let c : reading.Unlocked ≡ reading.State kind.MessageUnit = sym e ∙ z in cc

    none_of : (test : Down → Bool) → how_many test [] ≡ 0
    none_of test = how_many-nil test

    keys_still : keys_after KA [] ≡ KA
    keys_still = Rattle.law_steps.proofs.Keys.keys_none KA

    over : is_resetting w.host.mode ≡ true → y ≡ reading.ResetOver → (c : Bool) → has v DIAG_RESET_ADAPTER ≡ c → Goal
    over m e true t =
        let p = stepped reading.ResetOver m e in
        by_turn [] (record d { stage = door_stage.Awaits reading.ResetOver }) reading.ResetOver HOST_DIAGNOSTIC (turn_is reading.ResetOver e ∙ over_waits d v t) refl
        (λ returning q. (still returning q p.0, ap (λ (n : Keys). n.place) keys_still ∙ p.1)) (λ q. none_of is_unit_write) (λ q. none_of is_diagnostic_write)
    over m e false t =
        let p = stepped reading.ResetOver m e in
        by_turn (down.Write HOST_DIAGNOSTIC (without v DIAG_HOLD_IOC_RESET) ∷ down.Write WRITE_SEQUENCE 0 ∷ []) (record d { stage = door_stage.Awaits (reading.State kind.Diagnostic) }) (reading.State kind.Diagnostic) DOORBELL (turn_is reading.ResetOver e ∙ over_locks d v t) refl
        (λ returning q. (q ∙ ap (λ c. c && not (is_resetting w.host.mode && list_any is_reset_item (down.Write HOST_DIAGNOSTIC (without v DIAG_HOLD_IOC_RESET) ∷ down.Write WRITE_SEQUENCE 0 ∷ []))) p.0, valued reading.ResetOver m e t)) (λ q. none_unit) (λ q. absurd (both_stages q))
      where
        none_unit : how_many is_unit_write (down.Write HOST_DIAGNOSTIC (without v DIAG_HOLD_IOC_RESET) ∷ down.Write WRITE_SEQUENCE 0 ∷ []) ≡ 0
        none_unit =
            let a = how_many-cons is_unit_write (down.Write HOST_DIAGNOSTIC (without v DIAG_HOLD_IOC_RESET)) (down.Write WRITE_SEQUENCE 0 ∷ []) in let c = how_many-cons is_unit_write (down.Write WRITE_SEQUENCE 0) [] in let n = how_many-nil {X = Down} is_unit_write in
            omega (arith, a, c, n)

        both_stages : w.host.stage ≡ stage.UnitReset → ⊥
        both_stages q = wrong (subst (λ z. ReadsFor z y) q hv.reads_for)
          where
            wrong : (y ≡ reading.UnitReset) ⊎ (y ≡ reading.State kind.MessageUnit) → ⊥
            wrong (inl z) = let c : reading.ResetOver ≡ reading.UnitReset = sym e ∙ z in cc
            wrong (inr z) = let c : reading.ResetOver ≡ reading.State kind.MessageUnit = sym e ∙ z in cc

    diagnostic_state : is_resetting w.host.mode ≡ true → y ≡ reading.State kind.Diagnostic → Goal
    diagnostic_state m e =
        let p = stepped (reading.State kind.Diagnostic) m e in
        by_turn [] (record d { stage = door_stage.Awaits (reading.State kind.Diagnostic) }) (reading.State kind.Diagnostic) DOORBELL (turn_is (reading.State kind.Diagnostic) e ∙ state_waits d v kind.Diagnostic reg (sym (ap (λ (t : DoorTurn). t.step) (turn_is (reading.State kind.Diagnostic) e)) ∙ s)) refl
        (λ returning q. (still returning q p.0, p.1)) (λ q. none_of is_unit_write) (λ q. none_of is_diagnostic_write)

    unit_state : is_resetting w.host.mode ≡ true → y ≡ reading.State kind.MessageUnit → Goal
    unit_state m e =
        let p = stepped (reading.State kind.MessageUnit) m e in
        by_turn [] (record d { stage = door_stage.Awaits (reading.State kind.MessageUnit) }) (reading.State kind.MessageUnit) DOORBELL (turn_is (reading.State kind.MessageUnit) e ∙ state_waits d v kind.MessageUnit reg (sym (ap (λ (t : DoorTurn). t.step) (turn_is (reading.State kind.MessageUnit) e)) ∙ s)) refl
        (λ returning q. (still returning q p.0, p.1)) (λ q. none_of is_unit_write) (λ q. none_of is_diagnostic_write)

    -- a value behind the reset's write: the controller has begun it
    begun_now : is_resetting w.host.mode ≡ true → w.host.returning ≡ false → in_begun w ≡ true
    unfolding Rattle.mpt_rules.specs.World.Counts.reset_write_count
    begun_now m r = by_level (w.host.asked == w.ioc.generation) refl
      where
        none_reset : how_many is_reset_item (down_line w) ≡ 0
        none_reset = let a = (alone w h b v hv.rest hv.front hv.reading).1 in let l = fewer_pass is_reset_item is_register_write reset_is_write (down_line w) in omega (arith, a, l)

        by_level : (c : Bool) → (w.host.asked == w.ioc.generation) ≡ c → (is_resetting w.host.mode && (w.host.asked == w.ioc.generation)) ≡ true
        by_level true e = ap (λ c. c && (w.host.asked == w.ioc.generation)) m ∙ e
        by_level false e =
            let o = k.one_reset_write.one in
            let q : one_if ((is_resetting w.host.mode && not (w.host.asked == w.ioc.generation)) && not w.host.returning) ≡ 1 = ap (λ c. one_if ((c && not (w.host.asked == w.ioc.generation)) && not w.host.returning)) m ∙ (ap (λ c. one_if (not c && not w.host.returning)) e ∙ ap (λ c. one_if (not c)) r) in
            let z = none_reset in
            absurd (omega (arith, o, q, z))

    unit_read : is_resetting w.host.mode ≡ true → y ≡ reading.UnitReset → (c : Bool) → has v SYS2IOC_DB_STATUS ≡ c → Goal
    unit_read m e true t =
        let p = stepped reading.UnitReset m e in
        by_turn [] (record d { stage = door_stage.Awaits reading.UnitReset }) reading.UnitReset HOST_INTERRUPT_STATUS (turn_is reading.UnitReset e ∙ unit_waits d v t) refl (λ returning q. still returning q p) (λ q. none_of is_unit_write) (λ q. none_of is_diagnostic_write)
    unit_read m e false t =
        let p = stepped reading.UnitReset m e in
        by_turn [] (record d { stage = door_stage.Awaits (reading.State kind.MessageUnit) }) (reading.State kind.MessageUnit) DOORBELL (turn_is reading.UnitReset e ∙ unit_goes d v t) refl
        (λ returning q. (still returning q p, begun_now m p)) (λ q. none_of is_unit_write) (λ q. none_of is_diagnostic_write)

    -- no reset
    other : (z : Stage) → w.host.stage ≡ z → is_resetting w.host.mode ≡ false → (z ≡ stage.DiagnosticReset → ⊥) → (z ≡ stage.UnitReset → ⊥) → Goal
    other z e m c g =
        subst (λ (q : Host). HoldsOn q w.ioc (w.down ++ q.out) coming) (sym (f ∙ ap (door.puts_step (door.puts_writes (record w.host { reading = false }) (next_turn d (Some v)).writes) (next_turn d (Some v)).door) s))
        (normal w h b (door.puts_read (door.puts_writes (record w.host { reading = false }) (next_turn d (Some v)).writes) (next_turn d (Some v)).door reg) coming m (λ q. c (sym e ∙ q)) (λ q. g (sym e ∙ q)))

    by_stage : (z : Stage) → w.host.stage ≡ z → ReadsFor z y → IsInMode w z → Goal
    by_stage stage.DiagnosticReset e (inl q) i = unlocked (ap is_resetting i) q
    by_stage stage.DiagnosticReset e (inr (inl q)) i = over (ap is_resetting i) q (has v DIAG_RESET_ADAPTER) refl
    by_stage stage.DiagnosticReset e (inr (inr q)) i = diagnostic_state (ap is_resetting i) q
    by_stage stage.UnitReset e (inl q) i = unit_read (ap is_resetting i) q (has v SYS2IOC_DB_STATUS) refl
    by_stage stage.UnitReset e (inr q) i = unit_state (ap is_resetting i) q
    by_stage stage.Idle e q i = absurd q
    by_stage stage.StartReset e q i = absurd q
    by_stage stage.Start e q i = other stage.Start e (ap is_resetting i) (λ c. cc) (λ c. cc)
    by_stage stage.Facts e q i = other stage.Facts e (ap is_resetting i) (λ c. cc) (λ c. cc)
    by_stage stage.PortFacts e q i = other stage.PortFacts e (ap is_resetting i) (λ c. cc) (λ c. cc)
    by_stage stage.Init e q i = other stage.Init e (ap is_resetting i) (λ c. cc) (λ c. cc)
    by_stage stage.Look e q i = other stage.Look e (ap is_resetting i) (λ c. cc) (λ c. cc)

    pub turned : Goal
    turned = by_stage w.host.stage refl hv.reads_for hv.in_mode

  -- ---- the other calls

  -- without a machine and a read nothing is left of it
  idle : (x : Host) (coming : Option ℕ) → x.machine ≡ None → x.reading ≡ false → (x.stage ≡ stage.DiagnosticReset → how_many is_unit_write (w.down ++ x.out) ≡ 0) → (x.stage ≡ stage.UnitReset → how_many is_diagnostic_write (w.down ++ x.out) ≡ 0) → HoldsOn x w.ioc (w.down ++ x.out) coming
  idle x coming m r c e = vacuous w h b x coming (λ d q p. no_some d (sym m ∙ q)) (λ l. contrary x.reading r (and_false x.reading (is_none x.machine) (and_false (is_resetting x.mode && not (x.asked == w.ioc.generation)) (x.reading && is_none x.machine) l).1).0) c e

  rested : (x : Host) (coming : Option ℕ) → x.machine ≡ None → x.reading ≡ false → x.stage ≡ stage.Idle → HoldsOn x w.ioc (w.down ++ x.out) coming
  rested x coming m r i = idle x coming m r (λ e. absurd (first (sym i ∙ e))) (λ e. absurd (second (sym i ∙ e)))
    where
      first : stage.Idle ≡ stage.DiagnosticReset → ⊥
      first e = cc

      second : stage.Idle ≡ stage.UnitReset → ⊥
      second e = cc

  pub host : (x : Host) (t : Bool) (coming : Option ℕ) → AtDoor w x t → (t ≡ false → coming ≡ value_coming w) → (how_many is_said_value (up_line w 0) ≡ one_if t → coming ≡ None) → HoldsOn x w.ioc (w.down ++ x.out) coming
  host x t coming (Keeps q) same none = by_mode q.mode_is
    where
      p : how_many is_register_write q.grows.added ≡ 0
      p = none_passes is_plain is_register_write plain_no_write q.grows.added q.grows.mild

      g : w.down ++ x.out ≡ down_line w ++ q.grows.added
      g = line w h b x.out q.grows.added q.grows.is

      by_mode : (x.mode ≡ w.host.mode) ⊎ ((is_resetting w.host.mode ≡ false) × (w.host.machine ≡ None) × (x.mode ≡ state.Up)) → HoldsOn x w.ioc (w.down ++ x.out) coming
      by_mode (inl m) =
          let a = q.machine_is in let s = q.stage_is in let r = q.reading_is in let n = q.asked_is in let u = q.returning_is in
          rw (g, m, a, s, r, n, u) (more w h b q.grows.added coming p (same refl))
      by_mode (inr m) =
          let l = more w h b q.grows.added (value_coming w) p refl in
          vacuous w h b x coming (λ d e r. contrary (is_resetting x.mode) (ap is_resetting m.2) r) (λ e. contrary (is_resetting x.mode) (ap is_resetting m.2) (and_false _ _ (and_false _ _ e).0).0)
          (λ e. ap (how_many is_unit_write) g ∙ l.diagnostic (sym q.stage_is ∙ e)) (λ e. ap (how_many is_diagnostic_write) g ∙ l.unit (sym q.stage_is ∙ e))
  host x t coming (GivesUp s z m r f) same none =
      subst (λ (q : Host). HoldsOn q w.ioc (w.down ++ q.out) coming) (sym f)
      (vacuous w h b (resets.gives_up w.host s) coming (λ d q p. no_some d q) (λ l. k.one_reset_write.others_return m) (λ e. within is_unit_write Rattle.law_steps.proofs.StepsKept.unit_within) (λ e. within is_diagnostic_write Rattle.law_steps.proofs.StepsKept.diagnostic_within))
    where
      within : (test : Down → Bool) → ((y : Down) → test y ≡ true → is_reset_item y ≡ true) → how_many test (w.down ++ filter resets.is_no_post w.host.out) ≡ 0
      within test g =
          let a = how_many-append is_reset_item w.down w.host.out in let c = how_many-append is_reset_item w.down (filter resets.is_no_post w.host.out) in let i = filtered is_reset_item resets.is_no_post w.host.out in let n = no_resets w h b (inl m) in
          let l = fewer_pass test is_reset_item g (w.down ++ filter resets.is_no_post w.host.out) in
          omega (arith, a, c, i, n, l)
  host x t coming (Drops n y v rest g r f) same none = subst (λ (q : Host). HoldsOn q w.ioc (w.down ++ q.out) coming) (sym f) (idle (record w.host { reading = false }) coming n refl rs.diagnostic rs.unit)
  host x t coming (Begins base s d t2 q f) same none = begun w h b x coming base s d t2 q f (none (at.beginning_values w h b q))
  host x t coming (Turns d y v hv reg s f) same none = turned d y v hv x coming (none (at.one_value w h b v hv.rest hv.front)) reg s f
  host x t coming (Looked d y v hv o s f) same none = rested x coming (ap (λ (q : Host). q.machine) f) (ap (λ (q : Host). q.reading) f) (ap (λ (q : Host). q.stage) f)
  host x t coming (Readied d y v hv o s f) same none = rested x coming (ap (λ (q : Host). q.machine) f) (ap (λ (q : Host). q.reading) f) (ap (λ (q : Host). q.stage) f)
  host x t coming (Opened d y v hv o s q) same none = rested x coming q.machine_is q.reading_is q.stage_is
