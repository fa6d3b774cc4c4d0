-- Where a reset's machine stands, and what it will read, as the controller goes on; and over all cases.
use Rattle.std.proofs.Common.{◌≡◌, ℕ, ◌+◌, ◌*◌, ◌%◌, ◌^◌, ◌≤◌, ◌==◌, ◌&&◌, ◌||◌, ◌⊎◌, inl, inr, not, cond, if◌then◌else◌, nat_lt, Bool, true, false, List, [], ◌∷◌, ◌++◌, bit_and, get_or, length, map, set, slice_get, take, Option, Some, None, is_none, refl, ap, sym, ◌∙◌, subst, arith, append_assoc}
use Rattle.std.specs.List.{filter}
use Rattle.mpi_doorbell.specs.Bytes.{has}
use Rattle.mpi_doorbell.specs.DoorRegisters.{DoorRegisters, bits_if, data_word, diagnostic_value, doorbell_value, is_fault, register_value, register_written}
use Rattle.mpi_doorbell.specs.Handshake.{Idle, is_idle}
use Rattle.mpi_doorbell.specs.HostDoor.{HostDoor, register_of}
use Rattle.mpi_doorbell.specs.State.{state_bits}
use Rattle.mpi_doorbell.specs.declared.registers.TheConstants.{DIAG_HOLD_IOC_RESET, DIAG_RESET_ADAPTER, DIAG_RESET_HISTORY, DIAG_WRITE_ENABLE, DOORBELL, DOORBELL_USED, DOORBELL_WHO_INIT_SHIFT, HOST_INTERRUPT_STATUS, IOC2SYS_DB_STATUS, IOC_STATE_READY, IOC_STATE_RESET, SYS2IOC_DB_STATUS}
use Rattle.mpi_doorbell.specs.declared.stage.Reading.{Reading}
use Rattle.mpi_doorbell.specs.declared.stage.Reading.TheVariants as reading
use Rattle.mpi_doorbell.specs.declared.stage.ResetKind.TheVariants as kind
use Rattle.mpi_doorbell.specs.declared.stage.Stage.TheVariants as door_stage
use Rattle.mpi_doorbell.specs.declared.state.IocState.{IocState}
use Rattle.mpi_doorbell.specs.declared.state.IocState.TheVariants as ioc_state
use Rattle.mpt_trace.specs.declared.item.Down.{Down}
use Rattle.mpt_trace.specs.declared.item.Down.TheVariants as down
use Rattle.mpt_rules.specs.declared.said.Said.{Said}
use Rattle.mpt_rules.specs.declared.said.Said.TheVariants as said
use Rattle.mpt_rules.specs.declared.stage.Stage.{Stage}
use Rattle.mpt_rules.specs.declared.stage.Stage.TheVariants as stage
use Rattle.mpt_rules.specs.World.Counts.{how_many, is_register_write, one_if, read_count, register_write_count, reset_write_count, value_count}
use Rattle.mpt_rules.specs.Host.Doorbell.{is_reset_item}
use Rattle.mpt_rules.specs.Ioc.Parts.{Ioc, state_of}
use Rattle.mpt_rules.specs.Ioc.Registers as registers
use Rattle.mpt_rules.specs.Ioc.Replies as say
use Rattle.mpt_rules.specs.Ioc.Resets.{forgets, marked, next_generation, outlives_reset, up_after_reset}
use Rattle.mpt_rules.specs.Ioc.Tables.{is_operational, is_ready, is_reset}
use Rattle.mpt_rules.specs.World.Lines.{down_line, said_of, up_line}
use Rattle.mpt_rules.specs.World.State.{World, up_on}
use Rattle.mpt_rules.specs.World.Weight.{is_read, is_said_value}
use Rattle.mpt_rules.proofs.Counts.{how_many-append}
use Rattle.mpt_wire.specs.Machine.Causes.{is_resetting}
use Rattle.law_facts.specs.Clock.{Clock, in_asked, in_begun, in_reset, is_linked_up}
use Rattle.law_facts.specs.DoorAhead.{ReadsFor, ResetSteps, WaitsAt, first_read, first_value, is_diagnostic, is_look, is_unit, rests_at_door, state_in, value_coming, waits_to_reset}
use Rattle.law_facts.specs.History.{History}
use Rattle.law_facts.specs.Words.{is_diagnostic_write, is_doorbell_write, is_stray_reset, is_unit_write}
use Rattle.law_moves.proofs.Counted.{fewer_pass, filtered, how_many-cons, how_many-nil, later, later-opened, none_passes, others-is}
use Rattle.law_moves.proofs.IocTakes as leaf
use Rattle.law_moves.proofs.IocTakes.{Takes, takes}
use Rattle.law_moves.proofs.Phases.{and_false, phased_of, same_is}
use Rattle.law_moves.proofs.Registers.{writes_are}
use Rattle.law_moves.proofs.UpChanges as changes
use Rattle.law_clock.specs.Premises.{Before}
use Rattle.law_clock.proofs.PhaseKept.{asked_now, asked_phase}
use Rattle.law_clock.proofs.ResetWriteKept.{reset_is_write}
use Rattle.law_doors.proofs.Ahead.{quiet_ahead}
use Rattle.law_starts.specs.Starts.{StartsStand}
use Rattle.law_starts.proofs.Answering.{answer_leaves}
use Rattle.law_steps.proofs.Coming.{last_said, no_first}
use Rattle.law_starts.proofs.HostAtDoor as at
use Rattle.law_starts.proofs.HostAtDoor.{AtDoor, contrary, read_no_write}
use Rattle.law_steps.proofs.Keys.{Keys, keys_after, keys_front, keys_of, keys_pass, keys_quiet, keys_register}
use Rattle.law_steps.proofs.StepsKept.{HoldsOn, StepAt, ValueAt, here}

-- ---- a step and a value, where more is linked

step_with : (r g g2 l l2 : Bool) (k k2 : Keys) (x : Reading) → g ≡ g2 → (l ≡ true → l2 ≡ true) → k ≡ k2 → StepAt r g l k x → StepAt r g2 l2 k2 x
step_with r g g2 l l2 k k2 reading.Unlocked e f q p = (p.0, sym (ap (λ (n : Keys). n.place) q) ∙ p.1, sym (ap (λ (n : Keys). n.adapter) q) ∙ p.2)
step_with r g g2 l l2 k k2 reading.ResetOver e f q p = (p.0, sym (ap (λ (n : Keys). n.place) q) ∙ p.1)
step_with r g g2 l l2 k k2 (reading.State kind.Diagnostic) e f q p = (p.0, f p.1)
step_with r g g2 l l2 k k2 (reading.State kind.MessageUnit) e f q p = (p.0, sym e ∙ p.1)
step_with r g g2 l l2 k k2 reading.UnitReset e f q p = p
step_with r g g2 l l2 k k2 reading.Used e f q p = absurd p
step_with r g g2 l l2 k k2 reading.LeftOver e f q p = absurd p
step_with r g g2 l l2 k k2 reading.Opened e f q p = absurd p
step_with r g g2 l l2 k k2 reading.Taken e f q p = absurd p
step_with r g g2 l l2 k k2 reading.News e f q p = absurd p
step_with r g g2 l l2 k k2 reading.Word e f q p = absurd p
step_with r g g2 l l2 k k2 reading.Doorbell e f q p = absurd p

pub value_with : (l l2 : Bool) (x : Reading) (v : ℕ) → (l ≡ true → l2 ≡ true) → ValueAt l x v → ValueAt l2 x v
value_with l l2 reading.Unlocked v f p = p
value_with l l2 reading.ResetOver v f p = λ e. f (p e)
value_with l l2 (reading.State kind.Diagnostic) v f p = p
value_with l l2 (reading.State kind.MessageUnit) v f (inl p) = inl p
value_with l l2 (reading.State kind.MessageUnit) v f (inr p) = inr (p.0, f p.1)
value_with l l2 reading.UnitReset v f p = p
value_with l l2 reading.Used v f p = absurd p
value_with l l2 reading.LeftOver v f p = absurd p
value_with l l2 reading.Opened v f p = absurd p
value_with l l2 reading.Taken v f p = absurd p
value_with l l2 reading.News v f p = absurd p
value_with l l2 reading.Word v f p = absurd p
value_with l l2 reading.Doorbell v f p = absurd p

-- ---- what registers read

-- HostDiagnostic, where no reset is held
diagnostic_reads : (r : DoorRegisters) → r.hold_reset ≡ false → (has (diagnostic_value r) DIAG_RESET_ADAPTER ≡ r.reset_adapter) × (has (diagnostic_value r) DIAG_WRITE_ENABLE ≡ (r.key_place == 6))
diagnostic_reads r h = by_tests (r.key_place == 6) r.reset_history r.reset_adapter r.hold_reset h
  where
    by_tests : (a b c d : Bool) → d ≡ false
        → (has ((if a then DIAG_WRITE_ENABLE else 0) + (if b then DIAG_RESET_HISTORY else 0) + (if c then DIAG_RESET_ADAPTER else 0) + (if d then DIAG_HOLD_IOC_RESET else 0)) DIAG_RESET_ADAPTER ≡ c)
        × (has ((if a then DIAG_WRITE_ENABLE else 0) + (if b then DIAG_RESET_HISTORY else 0) + (if c then DIAG_RESET_ADAPTER else 0) + (if d then DIAG_HOLD_IOC_RESET else 0)) DIAG_WRITE_ENABLE ≡ a)
    by_tests true true true false e = (refl, refl)
    by_tests true true false false e = (refl, refl)
    by_tests true false true false e = (refl, refl)
    by_tests true false false false e = (refl, refl)
    by_tests false true true false e = (refl, refl)
    by_tests false true false false e = (refl, refl)
    by_tests false false true false e = (refl, refl)
    by_tests false false false false e = (refl, refl)
    by_tests a b c true e = absurd (cc)

-- the Doorbell, without a handshake
doorbell_reads : (r : DoorRegisters) (c : IocState) → r.state ≡ c → is_fault c ≡ false → r.handshake ≡ Idle → r.who_init ≡ 0 → doorbell_value r ≡ state_bits c
doorbell_reads r c s f g n =
    ap (λ c. state_bits c + bits_if (not (is_idle r.handshake)) DOORBELL_USED + r.who_init * 2 ^ DOORBELL_WHO_INIT_SHIFT + data_word c r.handshake) s
    ∙ (ap (λ q. state_bits c + bits_if (not (is_idle q)) DOORBELL_USED + r.who_init * 2 ^ DOORBELL_WHO_INIT_SHIFT + data_word c q) g
    ∙ (ap (λ m. state_bits c + 0 + m * 2 ^ DOORBELL_WHO_INIT_SHIFT + data_word c Idle) n ∙ only c f))
  where
    only : (c : IocState) → is_fault c ≡ false → state_bits c + 0 + 0 * 2 ^ DOORBELL_WHO_INIT_SHIFT + data_word c Idle ≡ state_bits c
    only ioc_state.Reset f = refl
    only ioc_state.Ready f = refl
    only ioc_state.Operational f = refl
    only (ioc_state.Fault code) f = absurd (cc)

status_reads : (r : DoorRegisters) → has (register_value r HOST_INTERRUPT_STATUS) SYS2IOC_DB_STATUS ≡ false
status_reads r = by_bit r.ioc2sys
  where
    by_bit : (c : Bool) → has (bits_if c IOC2SYS_DB_STATUS) SYS2IOC_DB_STATUS ≡ false
    by_bit true = refl
    by_bit false = refl

-- a reset leaves no more values on queue 0
left_values : (g : ℕ) (up : List (List Said)) → how_many is_said_value (get_or (marked g (map (filter outlives_reset) up)) 0 []) ≤ how_many is_said_value (get_or up 0 [])
left_values g [] = omega arith
left_values g (u ∷ us) = filtered is_said_value outlives_reset u

module _ (w : World) (h : History) (b : Before w h) (s : StartsStand w) where
  k : Clock w h
  k = b.facts.clock

  rs : ResetSteps w
  rs = b.facts.doorbell.reset_steps

  abbrev K0 : Keys
  K0 = keys_of w.ioc.door

  abbrev KA : Keys
  KA = keys_after (keys_of w.ioc.door) (down_line w)

  -- the value that comes from a controller
  abbrev Of : Ioc → Option ℕ
  Of i = first_value (map said_of (up_on w 0) ++ get_or i.up 0 [])

  abbrev LinkedIn : Ioc → Bool
  LinkedIn i = (is_resetting w.host.mode && (w.host.asked == i.generation)) && is_ready (state_of i)

  abbrev OnIoc : Ioc → List Down → Type 0
  OnIoc i line = HoldsOn w.host i line (Of i)

  -- the number of resets is as it was, and no link was lost
  built : (i : Ioc) (line : List Down) → i.generation ≡ w.ioc.generation → (is_linked_up w ≡ true → LinkedIn i ≡ true) → keys_after (keys_of i.door) line ≡ KA → ((test : Down → Bool) → how_many test (down_line w) ≡ 0 → how_many test line ≡ 0)
      → ((d : HostDoor) (x : Reading) (v : ℕ) → w.host.machine ≡ Some d → is_resetting w.host.mode ≡ true → d.stage ≡ door_stage.Awaits x → Of i ≡ Some v → ValueAt (LinkedIn i) x v) → OnIoc i line
  built i line g l e c f =
      record {
        step = λ d x m r a. step_with w.host.returning (in_begun w) (is_resetting w.host.mode && (w.host.asked == i.generation)) (is_linked_up w) (LinkedIn i) KA (keys_after (keys_of i.door) line) x (sym (ap (λ n. is_resetting w.host.mode && (w.host.asked == n)) g)) l (sym e) ((here w h b).step d x m r a);
        value = f;
        late = λ y. rs.late (sym (ap (λ n. (is_resetting w.host.mode && not (w.host.asked == n)) && (w.host.reading && is_none w.host.machine)) g) ∙ y);
        diagnostic = λ q. c is_unit_write (rs.diagnostic q);
        unit = λ q. c is_diagnostic_write (rs.unit q);
      }

  -- and the value that comes is the same
  pub as_before : (i : Ioc) (line : List Down) → i.generation ≡ w.ioc.generation → (is_linked_up w ≡ true → LinkedIn i ≡ true) → keys_after (keys_of i.door) line ≡ KA → ((test : Down → Bool) → how_many test (down_line w) ≡ 0 → how_many test line ≡ 0) → Of i ≡ value_coming w → OnIoc i line
  as_before i line g l e c q = built i line g l e c (λ d x v m r a y. value_with (is_linked_up w) (LinkedIn i) x v l ((here w h b).value d x v m r a (sym q ∙ y)))

  pub same_linked : (i : Ioc) → i.generation ≡ w.ioc.generation → state_of i ≡ state_of w.ioc → is_linked_up w ≡ true → LinkedIn i ≡ true
  same_linked i g c l = ap (λ n. (is_resetting w.host.mode && (w.host.asked == n)) && is_ready (state_of i)) g ∙ (ap (λ n. in_begun w && is_ready n) c ∙ l)

  -- ---- an item of the host is taken

  fewer : (x : Down) (rest : List Down) → w.down ≡ x ∷ rest → (test : Down → Bool) → how_many test (down_line w) ≡ 0 → how_many test (rest ++ w.host.out) ≡ 0
  fewer x rest e test z = let a = ap (λ xs. how_many test (xs ++ w.host.out)) e in let c = how_many-cons test x (rest ++ w.host.out) in omega (arith, z, a, c)

  passes : (x : Down) (rest : List Down) → w.down ≡ x ∷ rest → ((reg value : ℕ) → x ≡ down.Write reg value → ⊥) → keys_after K0 (rest ++ w.host.out) ≡ KA
  passes x rest e n = sym (ap (λ xs. keys_after K0 (xs ++ w.host.out)) e ∙ keys_pass K0 x (rest ++ w.host.out) n)

  pub not_write : (x : Down) (rest : List Down) (i : Ioc) → w.down ≡ x ∷ rest → ((reg value : ℕ) → x ≡ down.Write reg value → ⊥) → i.generation ≡ w.ioc.generation → i.door ≡ w.ioc.door → i.up ≡ w.ioc.up → OnIoc i (rest ++ w.host.out)
  not_write x rest i e n g d q =
      as_before i (rest ++ w.host.out) g (same_linked i g (ap (λ (r : DoorRegisters). r.state) d)) (ap (λ r. keys_after (keys_of r) (rest ++ w.host.out)) d ∙ passes x rest e n) (fewer x rest e) (ap (λ y. first_value (map said_of (up_on w 0) ++ get_or y 0 [])) q)

  -- ---- a read

  module _ (reg : ℕ) (rest : List Down) (e : w.down ≡ down.Read reg ∷ rest) where
    line_is : down_line w ≡ down.Read reg ∷ (rest ++ w.host.out)
    line_is = ap (λ xs. xs ++ w.host.out) e

    -- no register write is on its way any more
    quiet : how_many is_register_write (down_line w) ≡ 0
    unfolding later register_write_count
    quiet =
        let z = later-opened is_read is_register_write (down.Read reg) (rest ++ w.host.out) refl (sym (ap (later is_read is_register_write) line_is) ∙ k.writes_before_read.before) in
        let a = ap (how_many is_register_write) line_is in let c = how_many-cons is_register_write (down.Read reg) (rest ++ w.host.out) in omega (arith, z, a, c)

    no_values : how_many is_said_value (up_line w 0) ≡ 0
    unfolding read_count value_count
    no_values =
        let o = k.one_read.one in let r = at_most w.host.reading in let a = ap (how_many is_read) line_is in let c = how_many-cons is_read (down.Read reg) (rest ++ w.host.out) in
        omega (arith, o, r, a, c)
      where
        at_most : (c : Bool) → one_if c ≤ 1
        at_most true = omega arith
        at_most false = omega arith

    keys_here : KA ≡ K0
    keys_here = keys_quiet K0 (down_line w) quiet

    -- so a reset whose write was made was begun
    begun_now : is_resetting w.host.mode ≡ true → w.host.returning ≡ false → in_begun w ≡ true
    unfolding reset_write_count
    begun_now m r = by_level (w.host.asked == w.ioc.generation) refl
      where
        by_level : (c : Bool) → (w.host.asked == w.ioc.generation) ≡ c → (is_resetting w.host.mode && (w.host.asked == w.ioc.generation)) ≡ true
        by_level true e = ap (λ c. c && (w.host.asked == w.ioc.generation)) m ∙ e
        by_level false e =
            let o = k.one_reset_write.one in
            let q : one_if ((is_resetting w.host.mode && not (w.host.asked == w.ioc.generation)) && not w.host.returning) ≡ 1 = ap (λ c. one_if ((c && not (w.host.asked == w.ioc.generation)) && not w.host.returning)) m ∙ (ap (λ c. one_if (not c && not w.host.returning)) e ∙ ap (λ c. one_if (not c)) r) in
            let l = fewer_pass is_reset_item is_register_write reset_is_write (down_line w) in let z = quiet in
            absurd (omega (arith, o, q, z, l))

    -- the states of a reset that was begun
    not_live : in_begun w ≡ true → is_operational (state_of w.ioc) ≡ false
    not_live g = by_live (is_operational (state_of w.ioc)) refl
      where
        by_live : (c : Bool) → is_operational (state_of w.ioc) ≡ c → c ≡ false
        by_live true l = contrary (in_begun w) (k.phase_table.live l).0 g
        by_live false l = refl

    ready_by : in_begun w ≡ true → is_reset (state_of w.ioc) ≡ false → is_ready (state_of w.ioc) ≡ true
    ready_by g n = by_state (state_of w.ioc) (not_live g) k.phase_table.whole n
      where
        by_state : (c : IocState) → is_operational c ≡ false → is_fault c ≡ false → is_reset c ≡ false → is_ready c ≡ true
        by_state ioc_state.Ready l f n = refl
        by_state ioc_state.Reset l f n = absurd (cc)
        by_state ioc_state.Operational l f n = absurd (cc)
        by_state (ioc_state.Fault code) l f n = absurd (cc)

    -- the Doorbell then
    state_read : in_begun w ≡ true → (c : IocState) → state_of w.ioc ≡ c → register_value w.ioc.door DOORBELL ≡ state_bits c
    state_read g c t =
        let q = quiet_ahead w.ioc (down_line w) quiet in
        let ra : rests_at_door w ≡ true = rests (is_none w.host.machine && not (waits_to_reset w)) (is_look w.host.stage) (in_begun w) (is_unit w.host.stage) g in
        doorbell_reads w.ioc.door c t (sym (ap is_fault t) ∙ k.phase_table.whole) (sym (ap (λ (r : DoorRegisters). r.handshake) q) ∙ b.facts.doorbell.rests.handshake ra) (s.knows_no_host (not_live g))
      where
        rests : (a c d f : Bool) → d ≡ true → (a || (c || (d || f))) ≡ true
        rests true c d f e = refl
        rests false true d f e = refl
        rests false false true f e = refl
        rests false false false f e = absurd (cc)

    at_reading : (d : HostDoor) (x : Reading) → w.host.machine ≡ Some d → is_resetting w.host.mode ≡ true → d.stage ≡ door_stage.Awaits x → reg ≡ register_of x → ReadsFor w.host.stage x → ValueAt (is_linked_up w) x (register_value w.ioc.door reg)
    at_reading d reading.Unlocked m r a q f =
        let p = (here w h b).step d reading.Unlocked m r a in
        let dr = diagnostic_reads w.ioc.door s.nothing_holds.hold in
        subst (λ n. (has (register_value w.ioc.door n) DIAG_WRITE_ENABLE ≡ true) × (has (register_value w.ioc.door n) DIAG_RESET_ADAPTER ≡ false)) (sym q)
        (dr.1 ∙ ap (λ n. n == 6) (sym (ap (λ (n : Keys). n.place) keys_here) ∙ p.1), dr.0 ∙ (sym (ap (λ (n : Keys). n.adapter) keys_here) ∙ p.2))
    at_reading d reading.ResetOver m r a q f =
        subst (λ n. has (register_value w.ioc.door n) DIAG_RESET_ADAPTER ≡ false → is_linked_up w ≡ true) (sym q) linked
      where
        linked : has (diagnostic_value w.ioc.door) DIAG_RESET_ADAPTER ≡ false → is_linked_up w ≡ true
        linked z =
            let p = (here w h b).step d reading.ResetOver m r a in
            let g = begun_now r p.0 in
            let clear : w.ioc.door.reset_adapter ≡ false = sym (diagnostic_reads w.ioc.door s.nothing_holds.hold).0 ∙ z in
            let st : is_diagnostic w.host.stage ≡ true = by_stage w.host.stage f in
            let n : in_reset w ≡ false = first (in_reset w) (is_diagnostic w.host.stage) st (sym b.facts.doorbell.adapter ∙ clear) in
            let y : is_reset (state_of w.ioc) ≡ false = second (in_begun w) (is_reset (state_of w.ioc)) g n in
            ap (λ c. c && is_ready (state_of w.ioc)) g ∙ ready_by g y
          where
            by_stage : (z : Stage) → ReadsFor z reading.ResetOver → is_diagnostic z ≡ true
            by_stage stage.DiagnosticReset f = refl
            by_stage stage.UnitReset (inl f) = absurd (cc)
            by_stage stage.UnitReset (inr f) = absurd (cc)
            by_stage stage.Idle f = absurd f
            by_stage stage.StartReset f = absurd f
            by_stage stage.Start f = absurd (cc)
            by_stage stage.Look f = absurd (cc)
            by_stage stage.Facts f = absurd (cc)
            by_stage stage.PortFacts f = absurd (cc)
            by_stage stage.Init f = absurd (cc)

            first : (a c : Bool) → c ≡ true → (a && c) ≡ false → a ≡ false
            first true c e f = sym e ∙ f
            first false c e f = refl

            second : (a c : Bool) → a ≡ true → (a && c) ≡ false → c ≡ false
            second true c e f = f
            second false c e f = absurd (cc)
    at_reading d (reading.State kind.Diagnostic) m r a q f =
        let p = (here w h b).step d (reading.State kind.Diagnostic) m r a in
        let g = (and_false (in_begun w) (is_ready (state_of w.ioc)) p.1).0 in
        subst (λ n. state_in (register_value w.ioc.door n) ≡ IOC_STATE_READY) (sym q) (ap state_in (state_read g ioc_state.Ready (ready_state (state_of w.ioc) (and_false (in_begun w) (is_ready (state_of w.ioc)) p.1).1)))
      where
        ready_state : (c : IocState) → is_ready c ≡ true → c ≡ ioc_state.Ready
        ready_state ioc_state.Ready e = refl
        ready_state ioc_state.Reset e = absurd (cc)
        ready_state ioc_state.Operational e = absurd (cc)
        ready_state (ioc_state.Fault code) e = absurd (cc)
    at_reading d (reading.State kind.MessageUnit) m r a q f =
        let p = (here w h b).step d (reading.State kind.MessageUnit) m r a in
        subst (λ n. (state_in (register_value w.ioc.door n) ≡ IOC_STATE_RESET) ⊎ ((state_in (register_value w.ioc.door n) ≡ IOC_STATE_READY) × (is_linked_up w ≡ true))) (sym q) (by_state (state_of w.ioc) refl p.1)
      where
        by_state : (c : IocState) → state_of w.ioc ≡ c → in_begun w ≡ true → (state_in (register_value w.ioc.door DOORBELL) ≡ IOC_STATE_RESET) ⊎ ((state_in (register_value w.ioc.door DOORBELL) ≡ IOC_STATE_READY) × (is_linked_up w ≡ true))
        by_state ioc_state.Reset t g = inl (ap state_in (state_read g ioc_state.Reset t))
        by_state ioc_state.Ready t g = inr (ap state_in (state_read g ioc_state.Ready t), ap (λ c. c && is_ready (state_of w.ioc)) g ∙ ap is_ready t)
        by_state ioc_state.Operational t g = contrary (is_operational (state_of w.ioc)) (not_live g) (ap is_operational t)
        by_state (ioc_state.Fault code) t g = contrary (is_fault (state_of w.ioc)) k.phase_table.whole (ap is_fault t)
    at_reading d reading.UnitReset m r a q f = subst (λ n. has (register_value w.ioc.door n) SYS2IOC_DB_STATUS ≡ false) (sym q) (status_reads w.ioc.door)
    at_reading d reading.Used m r a q f = (here w h b).step d reading.Used m r a
    at_reading d reading.LeftOver m r a q f = (here w h b).step d reading.LeftOver m r a
    at_reading d reading.Opened m r a q f = (here w h b).step d reading.Opened m r a
    at_reading d reading.Taken m r a q f = (here w h b).step d reading.Taken m r a
    at_reading d reading.News m r a q f = (here w h b).step d reading.News m r a
    at_reading d reading.Word m r a q f = (here w h b).step d reading.Word m r a
    at_reading d reading.Doorbell m r a q f = (here w h b).step d reading.Doorbell m r a

    -- the value that comes is the one that was read
    comes : (v : ℕ) → Of (say.says_on w.ioc 0 (said.Value (register_value w.ioc.door reg) ∷ [])) ≡ Some v → v ≡ register_value w.ioc.door reg
    comes v =
        changes.said_of_more w.up w.ioc.up 0 0 (λ xs. (u : ℕ) → first_value xs ≡ Some u → u ≡ register_value w.ioc.door reg) (said.Value (register_value w.ioc.door reg) ∷ [])
        (λ xs f u. last_said xs (register_value w.ioc.door reg) u f) (λ u q. absurd (none_some u (sym (no_first (up_line w 0) no_values) ∙ q))) v
      where
        none_some : (u : ℕ) → None ≡ Some u → ⊥
        none_some u e = cc

    pub reads : OnIoc (say.says_on w.ioc 0 (said.Value (register_value w.ioc.door reg) ∷ [])) (rest ++ w.host.out)
    unfolding read_count first_read
    reads =
        built (say.says_on w.ioc 0 (said.Value (register_value w.ioc.door reg) ∷ [])) (rest ++ w.host.out) refl (λ l. l) (passes (down.Read reg) rest e (read_no_write reg)) (fewer (down.Read reg) rest e)
        (λ d x v m r a q.
        let f = subst (WaitsAt w) a (b.facts.doorbell.stage.machine d m) in
        let r1 = ap (how_many is_read) line_is in let r2 = how_many-cons is_read (down.Read reg) (rest ++ w.host.out) in
        let fr : Some reg ≡ Some (register_of x) = sym (ap first_read line_is) ∙ f.2 (omega (arith, r1, r2)) in
        subst (ValueAt (is_linked_up w) x) (sym (comes v q)) (at_reading d x m r a (same_some reg (register_of x) fr) f.0))
      where
        same_some : (n m : ℕ) → Some n ≡ Some m → n ≡ m
        same_some n m e = cc

  -- a read is on its way, or its value
  gone : w.host.reading ≡ true → how_many is_read (down_line w) ≡ 0 → how_many is_register_write (down_line w) ≡ 0
  unfolding read_count register_write_count
  gone r z = k.writes_before_read.gone r z

  one : w.host.reading ≡ true → how_many is_read (down_line w) + how_many is_said_value (up_line w 0) ≡ 1
  unfolding read_count value_count
  one r = k.one_read.one ∙ ap one_if r

  -- ---- a write

  module _ (reg value : ℕ) (rest : List Down) (e : w.down ≡ down.Write reg value ∷ rest) where
    abbrev j : Ioc
    j = record w.ioc { door = (register_written w.ioc.door reg value).registers }

    front_is : down_line w ≡ down.Write reg value ∷ (rest ++ w.host.out)
    front_is = ap (λ xs. xs ++ w.host.out) e

    pub st : state_of j ≡ state_of w.ioc
    st = (writes_are w.ioc.door reg value b.facts.doorbell.sound.waits).state

    pub keys_on : keys_after (keys_of (register_written w.ioc.door reg value).registers) (rest ++ w.host.out) ≡ KA
    keys_on = ap (λ n. keys_after n (rest ++ w.host.out)) (keys_register w.ioc.door reg value) ∙ (sym (keys_front K0 reg value (rest ++ w.host.out)) ∙ sym (ap (keys_after K0) front_is))

    pub answered_keys : (m : List ℕ) → keys_of (registers.handshakes j m).door ≡ keys_of (register_written w.ioc.door reg value).registers
    answered_keys m = let a = answer_leaves j m in Rattle.std.proofs.Common.ap₂ (λ n c. let q : Keys = record { place = n; adapter = c } in q) a.key_place a.adapter

    -- an answer: no reset was begun, so no link is lost
    pub shook : (i : Ioc) → leaf.Shook j i → reg ≡ DOORBELL → keys_of i.door ≡ keys_of (register_written w.ioc.door reg value).registers → OnIoc i (rest ++ w.host.out)
    shook i (leaf.Stays a y) r q =
        as_before i (rest ++ w.host.out) (ap (λ (z : Ioc). z.generation) y) (same_linked i (ap (λ (z : Ioc). z.generation) y) (a ∙ st)) (ap (λ n. keys_after n (rest ++ w.host.out)) q ∙ keys_on) (fewer (down.Write reg value) rest e)
        (ap (λ (z : Ioc). first_value (map said_of (up_on w 0) ++ get_or z.up 0 [])) y)
    shook i (leaf.ComesUp c a y) r q =
        as_before i (rest ++ w.host.out) (ap (λ (z : Ioc). z.generation) y) (λ l. absurd (never (and_false (in_begun w) (is_ready (state_of w.ioc)) l).0)) (ap (λ n. keys_after n (rest ++ w.host.out)) q ∙ keys_on) (fewer (down.Write reg value) rest e)
        (ap (λ (z : Ioc). first_value (map said_of (up_on w 0) ++ get_or z.up 0 [])) y)
      where
        never : in_begun w ≡ true → ⊥
        never g =
            let z = k.one_reset_write.since g in let x = ap (how_many is_doorbell_write) front_is in let n = how_many-cons is_doorbell_write (down.Write reg value) (rest ++ w.host.out) in
            let o : one_if (reg == DOORBELL) ≡ 1 = ap (λ m. one_if (m == DOORBELL)) r in
            omega (arith, z, x, n, o)

    -- a reset begins
    pub resets_now : (is_reset_item (down.Write reg value) || is_stray_reset (down.Write reg value)) ≡ true → OnIoc (forgets j) (rest ++ w.host.out)
    resets_now r =
        record {
          step = λ d x m q a. step_on d x m q a ((here w h b).step d x m q a);
          value = λ d x v m q a c. absurd (none_some v (sym none ∙ c));
          late = λ y. contrary (w.host.asked == next_generation w.ioc) (not_level (and_false (is_resetting w.host.mode && not (w.host.asked == next_generation w.ioc)) (w.host.reading && is_none w.host.machine) y).0) level;
          diagnostic = λ q. fewer (down.Write reg value) rest e is_unit_write (rs.diagnostic q);
          unit = λ q. fewer (down.Write reg value) rest e is_diagnostic_write (rs.unit q);
        }
      where
        a0 : (in_asked w ≡ true) × (not w.host.returning ≡ true)
        a0 = and_false _ _ (asked_now w h b (down.Write reg value) rest e r)

        level : (w.host.asked == next_generation w.ioc) ≡ true
        level =
            let p = asked_phase w.host.mode w.host.asked w.ioc.generation (state_of w.ioc) (phased_of w k.phase_table) a0.0 in
            ap (λ m. m == next_generation w.ioc) p.1 ∙ same_is (next_generation w.ioc)

        not_level : (is_resetting w.host.mode && not (w.host.asked == next_generation w.ioc)) ≡ true → (w.host.asked == next_generation w.ioc) ≡ false
        not_level y = opposite (w.host.asked == next_generation w.ioc) (and_false (is_resetting w.host.mode) (not (w.host.asked == next_generation w.ioc)) y).1
          where
            opposite : (c : Bool) → not c ≡ true → c ≡ false
            opposite true e = absurd (cc)
            opposite false e = refl

        begun_then : (is_resetting w.host.mode && (w.host.asked == next_generation w.ioc)) ≡ true
        begun_then = ap (λ c. c && (w.host.asked == next_generation w.ioc)) (and_false _ _ a0.0).0 ∙ level

        not_begun : {T : Type 0} → in_begun w ≡ true → T
        not_begun g = both (w.host.asked == w.ioc.generation) (and_false (is_resetting w.host.mode) (not (w.host.asked == w.ioc.generation)) a0.0).1 (and_false (is_resetting w.host.mode) (w.host.asked == w.ioc.generation) g).1
          where
            both : {T : Type 0} (c : Bool) → not c ≡ true → c ≡ true → T
            both true e f = absurd (cc)
            both false e f = absurd (cc)

        sent : {T : Type 0} → w.host.returning ≡ true → T
        sent e = both w.host.returning a0.1 e
          where
            both : {T : Type 0} (c : Bool) → not c ≡ true → c ≡ true → T
            both true e f = absurd (cc)
            both false e f = absurd (cc)

        step_on : (d : HostDoor) (x : Reading) → w.host.machine ≡ Some d → is_resetting w.host.mode ≡ true → d.stage ≡ door_stage.Awaits x → StepAt w.host.returning (in_begun w) (is_linked_up w) KA x
            → StepAt w.host.returning (is_resetting w.host.mode && (w.host.asked == next_generation w.ioc)) ((is_resetting w.host.mode && (w.host.asked == next_generation w.ioc)) && false) (keys_after (keys_of (register_written w.ioc.door reg value).registers) (rest ++ w.host.out)) x
        step_on d reading.Unlocked m q a p = sent p.0
        step_on d reading.ResetOver m q a p = (p.0, ap (λ (n : Keys). n.place) keys_on ∙ p.1)
        step_on d (reading.State kind.Diagnostic) m q a p = not_begun (and_false (in_begun w) (is_ready (state_of w.ioc)) p.1).0
        step_on d (reading.State kind.MessageUnit) m q a p = (p.0, begun_then)
        step_on d reading.UnitReset m q a p = p
        step_on d reading.Used m q a p = absurd p
        step_on d reading.LeftOver m q a p = absurd p
        step_on d reading.Opened m q a p = absurd p
        step_on d reading.Taken m q a p = absurd p
        step_on d reading.News m q a p = absurd p
        step_on d reading.Word m q a p = absurd p
        step_on d reading.Doorbell m q a p = absurd p

        -- the machine's read stands behind its write, so no value is on its way
        values : how_many is_said_value (up_line w 0) ≡ 0
        values = by_reading w.host.reading refl
          where
            written : how_many is_register_write (down_line w) ≡ 0 → ⊥
            written z =
                let x = ap (how_many is_register_write) front_is in let n = how_many-cons is_register_write (down.Write reg value) (rest ++ w.host.out) in
                let o : one_if (is_register_write (down.Write reg value)) ≡ 1 = ap one_if (reset_is_write (down.Write reg value) (is_item r)) in
                omega (arith, z, x, n, o)
              where
                is_item : (is_reset_item (down.Write reg value) || is_stray_reset (down.Write reg value)) ≡ true → is_reset_item (down.Write reg value) ≡ true
                is_item r =
                    let z = k.one_reset_write.strays in let x = ap (how_many is_stray_reset) front_is in let n = how_many-cons is_stray_reset (down.Write reg value) (rest ++ w.host.out) in
                    first (is_reset_item (down.Write reg value)) (is_stray_reset (down.Write reg value)) (Rattle.law_moves.proofs.Counted.false_by_none (is_stray_reset (down.Write reg value)) (omega (arith, z, x, n))) r
                  where
                    first : (x y : Bool) → y ≡ false → (x || y) ≡ true → x ≡ true
                    first true y e g = refl
                    first false y e g = sym e ∙ g ∙ refl

            by_reading : (c : Bool) → w.host.reading ≡ c → how_many is_said_value (up_line w 0) ≡ 0
            by_reading false y = at.no_value w h b y
            by_reading true y = by_reads y (how_many is_read (down_line w)) refl
              where
                by_reads : w.host.reading ≡ true → (n : ℕ) → how_many is_read (down_line w) ≡ n → how_many is_said_value (up_line w 0) ≡ 0
                by_reads y Rattle.std.proofs.Common.zero z = absurd (written (gone y z))
                by_reads y (Rattle.std.proofs.Common.suc n) z = let o = one y in omega (arith, o, z)

        none : Of (forgets j) ≡ None
        none =
            let a = how_many-append is_said_value (map said_of (up_on w 0)) (get_or (up_after_reset w.ioc) 0 []) in let c = how_many-append is_said_value (map said_of (up_on w 0)) (get_or w.ioc.up 0 []) in
            let l = left_values (next_generation w.ioc) w.ioc.up in let z = values in
            no_first (map said_of (up_on w 0) ++ get_or (up_after_reset w.ioc) 0 []) (omega (arith, a, c, l, z))

        none_some : (u : ℕ) → None ≡ Some u → ⊥
        none_some u e = cc
