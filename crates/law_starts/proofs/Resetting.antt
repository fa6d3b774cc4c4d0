-- A reset's machine: when it is over, for what a write of it was made, and what the door makes of that write.
use Rattle.std.proofs.Common.{◌≡◌, ℕ, ◌+◌, ◌/◌, ◌%◌, ◌^◌, ◌==◌, ◌&&◌, ◌||◌, ◌⊎◌, inl, inr, not, nat_lt, nat_le, if◌then◌else◌, Bool, true, false, List, [], ◌∷◌, ◌++◌, bit_and, bit_or, Option, Some, None, refl, ap, sym, ◌∙◌, subst, arith}
use Rattle.std.proofs.lemmas.Bool.{eqb-true}
use Rattle.mpi_doorbell.specs.Bytes.{has}
use Rattle.mpi_doorbell.specs.DoorRegisters.{DoorRegisters, Written, diagnostic_written, doorbell_written, function_written, handshake_opened, is_fault, is_unlocked, key_written, quietly, register_written, released, reset_begun, status_written}
use Rattle.mpi_doorbell.specs.Handshake.{Asked, Collects, Handshake, Idle, Replies, asked_by, dword_taken, is_idle}
use Rattle.mpi_doorbell.specs.HostDoor.{HostDoor}
use Rattle.mpi_doorbell.specs.HostReset.{without}
use Rattle.mpi_doorbell.specs.HostSteps.{hears}
use Rattle.mpi_doorbell.specs.declared.effect.Effect.TheVariants as effect
use Rattle.mpi_doorbell.specs.declared.registers.TheConstants.{DIAG_HOLD_IOC_RESET, DIAG_RESET_ADAPTER, DIAG_WRITE_ENABLE, DOORBELL, DOORBELL_ADD_DWORDS_SHIFT, DOORBELL_FUNCTION_SHIFT, FUNCTION_HANDSHAKE, FUNCTION_MESSAGE_UNIT_RESET, HOST_DIAGNOSTIC, HOST_INTERRUPT_MASK, HOST_INTERRUPT_STATUS, IOC_STATE_FAULT, IOC_STATE_MASK, IOC_STATE_OPERATIONAL, IOC_STATE_READY, IOC_STATE_RESET, REPLY_POST_HOST_INDEX, SYS2IOC_DB_STATUS, WRITE_SEQUENCE}
use Rattle.mpi_doorbell.specs.declared.stage.Reading.{Reading}
use Rattle.mpi_doorbell.specs.declared.stage.Reading.TheVariants as reading
use Rattle.mpi_doorbell.specs.declared.stage.ResetKind.{ResetKind}
use Rattle.mpi_doorbell.specs.declared.stage.ResetKind.TheVariants as kind
use Rattle.mpi_doorbell.specs.declared.stage.Stage.{Stage as DoorStage}
use Rattle.mpi_doorbell.specs.declared.stage.Stage.TheVariants as door_stage
use Rattle.mpi_doorbell.specs.declared.state.IocState.TheVariants as ioc_state
use Rattle.mpt_trace.specs.declared.item.Down.TheVariants as down
use Rattle.mpt_rules.specs.declared.stage.Stage.{Stage}
use Rattle.mpt_rules.specs.declared.stage.Stage.TheVariants as stage
use Rattle.mpt_rules.specs.Host.Doorbell.{DoorTurn, next_turn, turn_from}
use Rattle.mpt_rules.specs.World.State.{World}
use Rattle.mpt_wire.specs.Machine.Causes.{is_resetting}
use Rattle.law_facts.specs.Clock.{Clock, in_asked, in_begun, is_linked_up}
use Rattle.law_facts.specs.DoorAhead.{IsInMode, ReadsFor, ResetSteps, StageFits, WaitsAt, state_in, waits_to_reset}
use Rattle.law_facts.specs.History.{History}
use Rattle.law_facts.specs.Words.{is_diagnostic_write}
use Rattle.law_moves.proofs.Hears.{IsOver, is_reset_stage}
use Rattle.law_moves.proofs.Phases.{and_false}
use Rattle.law_clock.specs.Premises.{Before}
use Rattle.law_starts.proofs.HostAtDoor.{HasValue, value_comes, contrary}

-- ---- when a turn is over

module _ (d : HostDoor) (v : ℕ) where
  abbrev pub TurnAt : DoorStage → DoorTurn
  TurnAt s = turn_from 8 (hears d s v).door (hears d s v).step

  not_unlocked : IsOver (TurnAt (door_stage.Awaits reading.Unlocked)).step → ⊥
  unfolding turn_from
  not_unlocked o = by_test (has v DIAG_WRITE_ENABLE) o
    where
      by_test : (b : Bool) → IsOver (turn_from 8 (if b then Rattle.mpi_doorbell.specs.HostDoor.writes d (door_stage.Reads reading.ResetOver) HOST_DIAGNOSTIC (bit_or v DIAG_RESET_ADAPTER) else Rattle.mpi_doorbell.specs.HostDoor.refuses d 21 v).door
          (if b then Rattle.mpi_doorbell.specs.HostDoor.writes d (door_stage.Reads reading.ResetOver) HOST_DIAGNOSTIC (bit_or v DIAG_RESET_ADAPTER) else Rattle.mpi_doorbell.specs.HostDoor.refuses d 21 v).step).step → ⊥
      by_test true o = o
      by_test false o = o

  not_reset : IsOver (TurnAt (door_stage.Awaits reading.ResetOver)).step → ⊥
  unfolding turn_from
  not_reset o = by_test (has v DIAG_RESET_ADAPTER) o
    where
      by_test : (b : Bool) → IsOver (turn_from 8 (if b then Rattle.mpi_doorbell.specs.HostDoor.reads d reading.ResetOver else Rattle.mpi_doorbell.specs.HostDoor.writes d door_stage.Locks HOST_DIAGNOSTIC (without v DIAG_HOLD_IOC_RESET)).door
          (if b then Rattle.mpi_doorbell.specs.HostDoor.reads d reading.ResetOver else Rattle.mpi_doorbell.specs.HostDoor.writes d door_stage.Locks HOST_DIAGNOSTIC (without v DIAG_HOLD_IOC_RESET)).step).step → ⊥
      by_test true o = o
      by_test false o = o

  not_unit : IsOver (TurnAt (door_stage.Awaits reading.UnitReset)).step → ⊥
  unfolding turn_from
  not_unit o = by_test (has v SYS2IOC_DB_STATUS) o
    where
      by_test : (b : Bool) → IsOver (turn_from 8 (if b then Rattle.mpi_doorbell.specs.HostDoor.reads d reading.UnitReset else Rattle.mpi_doorbell.specs.HostDoor.reads d (reading.State kind.MessageUnit)).door
          (if b then Rattle.mpi_doorbell.specs.HostDoor.reads d reading.UnitReset else Rattle.mpi_doorbell.specs.HostDoor.reads d (reading.State kind.MessageUnit)).step).step → ⊥
      by_test true o = o
      by_test false o = o

  over_ready : (k : ResetKind) → IsOver (TurnAt (door_stage.Awaits (reading.State k))).step → bit_and v IOC_STATE_MASK ≡ IOC_STATE_READY
  unfolding turn_from
  over_ready k o = by_tests (bit_and v IOC_STATE_MASK == IOC_STATE_READY) refl ((bit_and v IOC_STATE_MASK == IOC_STATE_FAULT) || (bit_and v IOC_STATE_MASK == IOC_STATE_OPERATIONAL)) o
    where
      by_tests : (a : Bool) → (bit_and v IOC_STATE_MASK == IOC_STATE_READY) ≡ a → (b : Bool)
          → IsOver (turn_from 8 (if a then Rattle.mpi_doorbell.specs.HostDoor.finishes d [] else if b then Rattle.mpi_doorbell.specs.HostDoor.refuses d (Rattle.mpi_doorbell.specs.HostDoor.state_step k) v else Rattle.mpi_doorbell.specs.HostDoor.reads d (reading.State k)).door
          (if a then Rattle.mpi_doorbell.specs.HostDoor.finishes d [] else if b then Rattle.mpi_doorbell.specs.HostDoor.refuses d (Rattle.mpi_doorbell.specs.HostDoor.state_step k) v else Rattle.mpi_doorbell.specs.HostDoor.reads d (reading.State k)).step).step → bit_and v IOC_STATE_MASK ≡ IOC_STATE_READY
      by_tests true e b o = eqb-true _ _ e
      by_tests false e true o = absurd o
      by_tests false e false o = absurd o

-- ---- what the door makes of a write

pub record ResetWrite (r : DoorRegisters) (reg value : ℕ) (w : Written) : Type 0 where
  pub adapter : w.effect ≡ effect.AdapterReset → (is_diagnostic_write (down.Write reg value) ≡ true) × (w.registers.reset_adapter ≡ true)
  pub unit : w.effect ≡ effect.UnitReset → (reg == DOORBELL) ≡ true
  pub others_leave : (w.effect ≡ effect.AdapterReset → ⊥) → w.registers.reset_adapter ≡ r.reset_adapter
  pub faults : (code : ℕ) → w.effect ≡ effect.Fault code → (reg == DOORBELL) ≡ true

module _ (r : DoorRegisters) (reg value : ℕ) where
  quiet : (x : DoorRegisters) → x.reset_adapter ≡ r.reset_adapter → ResetWrite r reg value (quietly x)
  quiet x e = record { adapter = λ q. absurd (cc); unit = λ q. absurd (cc); others_leave = λ n. e; faults = λ c q. absurd (cc) }

  fault : (reg == DOORBELL) ≡ true → (code : ℕ) → ResetWrite r reg value (record { registers = r; effect = effect.Fault code })
  fault e code = record { adapter = λ q. absurd (cc); unit = λ q. absurd (cc); others_leave = λ n. refl; faults = λ c q. e }

  diagnostic : (reg == HOST_DIAGNOSTIC) ≡ true → ResetWrite r reg value (diagnostic_written r value)
  diagnostic e = by_both (is_unlocked r) (has value DIAG_RESET_ADAPTER) refl
    where
      held : DoorRegisters
      held = record r { hold_reset = has value DIAG_HOLD_IOC_RESET }

      both : (a c : Bool) → a ≡ true → c ≡ true → (a && c) ≡ true
      both true c e f = f
      both false c e f = absurd (cc)

      release : (c : Bool) → ResetWrite r reg value (quietly (if c then record held { state = ioc_state.Ready; link_waits = false } else held))
      release true = quiet (record held { state = ioc_state.Ready; link_waits = false }) refl
      release false = quiet held refl

      by_both : (a c : Bool) → has value DIAG_RESET_ADAPTER ≡ c → ResetWrite r reg value (if a then (if c then reset_begun held else quietly (released held)) else quietly r)
      by_both true true f = record { adapter = λ q. (both (reg == HOST_DIAGNOSTIC) (has value DIAG_RESET_ADAPTER) e f, refl); unit = λ q. absurd (cc); others_leave = λ n. absurd (n refl); faults = λ c q. absurd (cc) }
      by_both true false f = release (held.link_waits && not held.hold_reset)
      by_both false c f = quiet r refl

  opened : (reg == DOORBELL) ≡ true → (n : ℕ) → ResetWrite r reg value (handshake_opened r n)
  opened e n = by_size (nat_lt 0 n && nat_le n 32)
    where
      by_size : (c : Bool) → ResetWrite r reg value (if c then quietly (record r { handshake = Collects n []; ioc2sys = true }) else record { registers = r; effect = effect.Fault 1 })
      by_size true = quiet (record r { handshake = Collects n []; ioc2sys = true }) refl
      by_size false = fault e 1

  doorbell : (reg == DOORBELL) ≡ true → ResetWrite r reg value (doorbell_written r value)
  doorbell e = by_idle (is_idle r.handshake)
    where
      function : (a c : Bool) → ResetWrite r reg value (if a then handshake_opened r (value / 2 ^ DOORBELL_ADD_DWORDS_SHIFT % 256) else if c then record { registers = r; effect = effect.UnitReset } else record { registers = r; effect = effect.Fault 2 })
      function true c = opened e (value / 2 ^ DOORBELL_ADD_DWORDS_SHIFT % 256)
      function false true = record { adapter = λ q. absurd (cc); unit = λ q. e; others_leave = λ n. refl; faults = λ c q. absurd (cc) }
      function false false = fault e 2

      by_more : (missing : ℕ) (message : List ℕ) (c : Bool)
          → ResetWrite r reg value (record { registers = record r { handshake = (if c then Collects (Rattle.std.proofs.Common.◌-◌ missing 1) (message ++ Rattle.byteorder.specs.Endian.little_bytes 4 value) else Asked (message ++ Rattle.byteorder.specs.Endian.little_bytes 4 value)) }; effect = (if c then effect.None else Rattle.mpi_doorbell.specs.Handshake.asks (message ++ Rattle.byteorder.specs.Endian.little_bytes 4 value)) })
      by_more missing message true = record { adapter = λ q. absurd (cc); unit = λ q. absurd (cc); others_leave = λ n. refl; faults = λ c q. absurd (cc) }
      by_more missing message false = record { adapter = λ q. absurd (cc); unit = λ q. absurd (cc); others_leave = λ n. refl; faults = λ c q. absurd (cc) }

      dword : (h : Handshake) → ResetWrite r reg value (record { registers = record r { handshake = dword_taken h value }; effect = asked_by h value })
      dword Idle = record { adapter = λ q. absurd (cc); unit = λ q. absurd (cc); others_leave = λ n. refl; faults = λ c q. absurd (cc) }
      dword (Asked message) = record { adapter = λ q. absurd (cc); unit = λ q. absurd (cc); others_leave = λ n. refl; faults = λ c q. absurd (cc) }
      dword (Replies left) = record { adapter = λ q. absurd (cc); unit = λ q. absurd (cc); others_leave = λ n. refl; faults = λ c q. absurd (cc) }
      dword (Collects missing message) = by_more missing message (nat_lt 1 missing)

      by_idle : (c : Bool) → ResetWrite r reg value (if c then function_written r (value / 2 ^ DOORBELL_FUNCTION_SHIFT) (value / 2 ^ DOORBELL_ADD_DWORDS_SHIFT % 256) else record { registers = record r { handshake = dword_taken r.handshake value }; effect = asked_by r.handshake value })
      by_idle true = function (value / 2 ^ DOORBELL_FUNCTION_SHIFT == FUNCTION_HANDSHAKE) (value / 2 ^ DOORBELL_FUNCTION_SHIFT == FUNCTION_MESSAGE_UNIT_RESET)
      by_idle false = dword r.handshake

  pub reset_write : ResetWrite r reg value (register_written r reg value)
  reset_write = by_tests (reg == WRITE_SEQUENCE) (reg == HOST_DIAGNOSTIC) refl (is_fault r.state) (reg == DOORBELL) refl (reg == HOST_INTERRUPT_STATUS) (reg == HOST_INTERRUPT_MASK) (reg == REPLY_POST_HOST_INDEX)
    where
      by_tests : (a b : Bool) → (reg == HOST_DIAGNOSTIC) ≡ b → (c d : Bool) → (reg == DOORBELL) ≡ d → (f g i : Bool)
          → ResetWrite r reg value (if a then quietly (key_written r value) else if b then diagnostic_written r value else if c then quietly r else
          if d then doorbell_written r value else if f then quietly (status_written r) else if g then quietly (record r { interrupt_mask = value }) else if i then quietly (record r { reply_post_host_index = value }) else quietly r)
      by_tests true b p c d q f g i = quiet (key_written r value) refl
      by_tests false true p c d q f g i = diagnostic p
      by_tests false false p true d q f g i = quiet r refl
      by_tests false false p false true q f g i = doorbell q
      by_tests false false p false false q true g i = quiet (status_written r) refl
      by_tests false false p false false q false true i = quiet (record r { interrupt_mask = value }) refl
      by_tests false false p false false q false false true = quiet (record r { reply_post_host_index = value }) refl
      by_tests false false p false false q false false false = quiet r refl

-- ---- in a world

module _ (w : World) (h : History) (b : Before w h) where
  k : Clock w h
  k = b.facts.clock

  st : StageFits w
  st = b.facts.doorbell.stage

  rs : ResetSteps w
  rs = b.facts.doorbell.reset_steps

  opposite_level : {T : Type 0} → in_asked w ≡ true → in_begun w ≡ true → T
  opposite_level a g = both (w.host.asked == w.ioc.generation) (and_false _ _ a).1 (and_false _ _ g).1
    where
      both : {T : Type 0} (c : Bool) → not c ≡ true → c ≡ true → T
      both true e f = absurd (cc)
      both false e f = absurd (cc)

  -- a reset is over where the controller was linked
  pub over_linked : (d : HostDoor) (y : Reading) (v : ℕ) → HasValue w d y v → IsOver (next_turn d (Some v)).step → is_reset_stage w.host.stage ≡ true → is_linked_up w ≡ true
  over_linked d y v hv o r = by_stage w.host.stage r hv.reads_for hv.in_mode
    where
      turn_at : (x : Reading) → y ≡ x → IsOver (TurnAt d v (door_stage.Awaits x)).step
      turn_at x e = subst (λ s. IsOver (TurnAt d v s).step) (hv.at ∙ ap door_stage.Awaits e) o

      at_x : (x : Reading) → y ≡ x → d.stage ≡ door_stage.Awaits x
      at_x x e = hv.at ∙ ap door_stage.Awaits e

      by_unit : is_resetting w.host.mode ≡ true → y ≡ reading.State kind.MessageUnit → (state_in v ≡ IOC_STATE_RESET) ⊎ ((state_in v ≡ IOC_STATE_READY) × (is_linked_up w ≡ true)) → is_linked_up w ≡ true
      by_unit m e (inl z) = let q : IOC_STATE_READY ≡ IOC_STATE_RESET = sym (over_ready d v kind.MessageUnit (turn_at (reading.State kind.MessageUnit) e)) ∙ z in absurd (omega (arith, q))
      by_unit m e (inr z) = z.1

      by_stage : (s : Stage) → is_reset_stage s ≡ true → ReadsFor s y → IsInMode w s → is_linked_up w ≡ true
      by_stage stage.DiagnosticReset r (inl e) i = absurd (not_unlocked d v (turn_at reading.Unlocked e))
      by_stage stage.DiagnosticReset r (inr (inl e)) i = absurd (not_reset d v (turn_at reading.ResetOver e))
      by_stage stage.DiagnosticReset r (inr (inr e)) i = (rs.step d (reading.State kind.Diagnostic) hv.machine_is (ap is_resetting i) (at_x (reading.State kind.Diagnostic) e)).1
      by_stage stage.UnitReset r (inl e) i = absurd (not_unit d v (turn_at reading.UnitReset e))
      by_stage stage.UnitReset r (inr e) i = by_unit (ap is_resetting i) e (rs.value d (reading.State kind.MessageUnit) v hv.machine_is (ap is_resetting i) (at_x (reading.State kind.MessageUnit) e) (value_comes w d y v hv))
      by_stage stage.Idle r e i = absurd e
      by_stage stage.StartReset r e i = absurd e
      by_stage stage.Start r e i = absurd (cc)
      by_stage stage.Facts r e i = absurd (cc)
      by_stage stage.PortFacts r e i = absurd (cc)
      by_stage stage.Init r e i = absurd (cc)
      by_stage stage.Look r e i = absurd (cc)

  -- a reset's write was made, which the controller doesn't know: its machine goes on
  pub sent_stage : in_asked w ≡ true → w.host.returning ≡ false → (w.host.stage ≡ stage.DiagnosticReset) ⊎ (w.host.stage ≡ stage.UnitReset)
  sent_stage a r = by_machine w.host.machine refl
    where
      m : is_resetting w.host.mode ≡ true
      m = (and_false _ _ a).0

      by_stage : (s : Stage) → w.host.stage ≡ s → IsInMode w s → (w.host.stage ≡ stage.DiagnosticReset) ⊎ (w.host.stage ≡ stage.UnitReset)
      by_stage stage.DiagnosticReset e i = inl e
      by_stage stage.UnitReset e i = inr e
      by_stage stage.Idle e i = absurd i
      by_stage stage.StartReset e i = absurd i
      by_stage stage.Start e i = contrary (is_resetting w.host.mode) (ap is_resetting i) m
      by_stage stage.Facts e i = contrary (is_resetting w.host.mode) (ap is_resetting i) m
      by_stage stage.PortFacts e i = contrary (is_resetting w.host.mode) (ap is_resetting i) m
      by_stage stage.Init e i = contrary (is_resetting w.host.mode) (ap is_resetting i) m
      by_stage stage.Look e i = contrary (is_resetting w.host.mode) (ap is_resetting i) m

      waits : (s : DoorStage) → WaitsAt w s → IsInMode w w.host.stage
      waits (door_stage.Awaits x) q = q.1
      waits (door_stage.Reads x) q = absurd q
      waits door_stage.Opens q = absurd q
      waits (door_stage.WritesKey place) q = absurd q
      waits door_stage.Locks q = absurd q
      waits door_stage.ResetsUnit q = absurd q
      waits door_stage.Finishes q = absurd q
      waits door_stage.Ended q = absurd q

      by_wait : w.host.machine ≡ None → (c : Bool) → waits_to_reset w ≡ c → (w.host.stage ≡ stage.DiagnosticReset) ⊎ (w.host.stage ≡ stage.UnitReset)
      by_wait n true e = st.late n e
      by_wait n false e = opposite_level a (and_false _ _ (k.value_is_last.ready (st.goes_on m n e)).linked).0

      by_machine : (o : Option HostDoor) → w.host.machine ≡ o → (w.host.stage ≡ stage.DiagnosticReset) ⊎ (w.host.stage ≡ stage.UnitReset)
      by_machine (Some d) e = by_stage w.host.stage refl (waits d.stage (st.machine d e))
      by_machine None e = by_wait e (waits_to_reset w) refl
