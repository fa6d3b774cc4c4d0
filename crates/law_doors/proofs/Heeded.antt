-- The write that begins a reset has a reset's effect where it is taken.
use Rattle.std.proofs.Common.{◌≡◌, ℕ, zero, suc, ◌+◌, ◌≤◌, ◌==◌, ◌/◌, ◌%◌, ◌^◌, ◌&&◌, ◌||◌, ◌⊎◌, inl, inr, not, nat_lt, Bool, true, false, if◌then◌else◌, List, [], ◌∷◌, ◌++◌, take, Option, Some, None, is_none, is_some, refl, ap, sym, ◌∙◌, subst, arith}
use Rattle.std.proofs.lemmas.Bool.{eqb-true}
use Rattle.byteorder.specs.Endian.{little_bytes}
use Rattle.mpi_doorbell.specs.Bytes.{has}
use Rattle.mpi_doorbell.specs.DoorRegisters.{DoorRegisters, Written, diagnostic_written, doorbell_written, is_fault, is_unlocked, quietly, register_written, released, reset_begun}
use Rattle.mpi_doorbell.specs.Handshake.{Handshake, Idle, Collects, Asked, Replies, asked_by, asks, dword_taken, is_idle}
use Rattle.mpi_doorbell.specs.HostDoor.{HostDoor}
use Rattle.mpi_doorbell.specs.declared.effect.Effect.{Effect}
use Rattle.mpi_doorbell.specs.declared.effect.Effect.TheVariants as effect
use Rattle.mpi_doorbell.specs.declared.registers.TheConstants.{DIAG_HOLD_IOC_RESET, DIAG_RESET_ADAPTER, DOORBELL, HOST_DIAGNOSTIC}
use Rattle.mpi_doorbell.specs.declared.stage.Reading.{Reading}
use Rattle.mpi_doorbell.specs.declared.stage.Reading.TheVariants as reading
use Rattle.mpi_doorbell.specs.declared.stage.ResetKind.TheVariants as kind
use Rattle.mpi_doorbell.specs.declared.stage.Stage.{Stage as DoorStage}
use Rattle.mpi_doorbell.specs.declared.stage.Stage.TheVariants as door_stage
use Rattle.mpt_trace.specs.declared.host_state.HostState.TheVariants as state
use Rattle.mpt_trace.specs.declared.item.Down.{Down}
use Rattle.mpt_trace.specs.declared.item.Down.TheVariants as down
use Rattle.mpt_rules.specs.declared.stage.Stage.{Stage}
use Rattle.mpt_rules.specs.declared.stage.Stage.TheVariants as stage
use Rattle.mpt_rules.specs.World.Counts.{how_many, is_register_write, one_if, register_write_count, reset_write_count}
use Rattle.mpt_rules.specs.Host.Doorbell.{is_reset_item, unit_reset_dword}
use Rattle.mpt_rules.specs.Ioc.Parts.{Ioc}
use Rattle.mpt_rules.specs.World.Lines.{down_line}
use Rattle.mpt_rules.specs.World.State.{World}
use Rattle.law_facts.specs.Clock.{Clock, in_asked, in_begun, is_linked_up}
use Rattle.law_facts.specs.DoorAhead.{Doorbell, IsInMode, ReadsFor, ResetStep, WaitsAt, door_ahead, rests_at_door, waits_to_reset, writes_still, written_ahead}
use Rattle.law_facts.specs.Facts.{Facts}
use Rattle.law_facts.specs.History.{History}
use Rattle.law_facts.specs.Words.{is_diagnostic_write, is_unit_write}
use Rattle.law_flights.specs.Given.{Resets}
use Rattle.law_moves.proofs.Counted.{how_many-cons, later, later-is, later-opened, true_by_one}
use Rattle.law_moves.proofs.Phases.{and_false}
use Rattle.law_doors.proofs.Ahead.{IsReplied, ahead-write, core, quiet_ahead, replied}
use Rattle.mpt_wire.specs.Machine.Causes.{is_resetting}

false_true : (c : Bool) → c ≡ false → c ≡ true → ⊥
false_true true e f = cc
false_true false e f = cc

not_both : (c : Bool) → not c ≡ true → c ≡ true → ⊥
not_both true e f = cc
not_both false e f = cc

-- ---- one write

-- a write of HostDiagnostic leaves the place in the keys
pub key_stays : (i : Ioc) (value : ℕ) → (writes_still i HOST_DIAGNOSTIC value).door.key_place ≡ i.door.key_place
key_stays i value = by_tests (is_unlocked i.door) (has value DIAG_RESET_ADAPTER)
  where
    held : DoorRegisters
    held = record i.door { hold_reset = has value DIAG_HOLD_IOC_RESET }

    release : (b : Bool) → (if b then record held { state = Rattle.mpi_doorbell.specs.declared.state.IocState.TheVariants.Ready; link_waits = false } else held).key_place ≡ i.door.key_place
    release true = refl
    release false = refl

    by_tests : (a c : Bool) → (Rattle.law_facts.specs.DoorAhead.does_still (record i { door = (if a then (if c then reset_begun held else quietly (released held)) else quietly i.door).registers }) (if a then (if c then reset_begun held else quietly (released held)) else quietly i.door).effect).door.key_place ≡ i.door.key_place
    by_tests true true = refl
    by_tests true false = release (held.link_waits && not held.hold_reset)
    by_tests false c = refl

-- an unlocked HostDiagnostic takes RESET_ADAPTER
pub unlocked_resets : (r : DoorRegisters) (value : ℕ) → r.key_place ≡ 6 → has value DIAG_RESET_ADAPTER ≡ true → Resets (register_written r HOST_DIAGNOSTIC value).effect
unlocked_resets r value k e = by_tests (is_unlocked r) (has value DIAG_RESET_ADAPTER) (ap (λ n. n == 6) k) e
  where
    held : DoorRegisters
    held = record r { hold_reset = has value DIAG_HOLD_IOC_RESET }

    by_tests : (a c : Bool) → a ≡ true → c ≡ true → Resets (if a then (if c then reset_begun held else quietly (released held)) else quietly r).effect
    by_tests true true e f = tt
    by_tests true false e f = absurd (cc)
    by_tests false c e f = absurd (cc)

-- an idle door takes the unit reset
pub idle_resets : (r : DoorRegisters) → is_fault r.state ≡ false → r.handshake ≡ Idle → Resets (register_written r DOORBELL unit_reset_dword).effect
idle_resets r f e = by_tests (is_fault r.state) f r.handshake e
  where
    by_tests : (a : Bool) → a ≡ false → (h : Handshake) → h ≡ Idle → Resets (if a then quietly r else (if is_idle h then Rattle.mpi_doorbell.specs.DoorRegisters.function_written r (unit_reset_dword / 2 ^ 24) (unit_reset_dword / 2 ^ 16 % 256) else record { registers = record r { handshake = dword_taken h unit_reset_dword }; effect = asked_by h unit_reset_dword })).effect
    by_tests false e Idle q = tt
    by_tests false e (Collects missing message) q = absurd (cc)
    by_tests false e (Asked message) q = absurd (cc)
    by_tests false e (Replies left) q = absurd (cc)
    by_tests true e h q = absurd (cc)

-- the controller behind a dword, by whether it is in FAULT and by its handshake
abbrev dword_written : Ioc → ℕ → Bool → Handshake → Written
dword_written i dword a h =
    if a then quietly i.door else (if is_idle h then Rattle.mpi_doorbell.specs.DoorRegisters.function_written i.door (dword / 2 ^ 24) (dword / 2 ^ 16 % 256) else record { registers = record i.door { handshake = dword_taken h dword }; effect = asked_by h dword })

abbrev after_dword : Ioc → ℕ → Bool → Handshake → Ioc
after_dword i dword a h = Rattle.law_facts.specs.DoorAhead.does_still (record i { door = (dword_written i dword a h).registers }) (dword_written i dword a h).effect

-- a door that a dword leaves idle was idle, as a reset isn't acted on
pub idle_before : (i : Ioc) (dword : ℕ) → is_fault i.door.state ≡ false → (writes_still i DOORBELL dword).door.handshake ≡ Idle → i.door.handshake ≡ Idle
idle_before i dword f e = by_tests (is_fault i.door.state) f i.door.handshake refl e
  where
    not_idle : (h : Handshake) → IsReplied h → h ≡ Idle → ⊥
    not_idle (Replies left) x q = cc
    not_idle Idle x q = x
    not_idle (Collects missing message) x q = x
    not_idle (Asked message) x q = x

    by_more : (missing : ℕ) (message : List ℕ) (c : Bool)
        → (Rattle.law_facts.specs.DoorAhead.does_still (record i { door = record i.door { handshake = (if c then Collects (Rattle.std.proofs.Common.◌-◌ missing 1) (message ++ little_bytes 4 dword) else Asked (message ++ little_bytes 4 dword)) } }) (if c then effect.None else asks (message ++ little_bytes 4 dword))).door.handshake ≡ Idle → ⊥
    by_more missing message true q = cc
    by_more missing message false q = not_idle _ (replied (record i { door = record i.door { handshake = Asked (message ++ little_bytes 4 dword) } }) (take (Rattle.std.proofs.Common.length (message ++ little_bytes 4 dword)) (Rattle.mpi_doorbell.specs.Bytes.padded (message ++ little_bytes 4 dword)))) q

    by_tests : (a : Bool) → a ≡ false → (h : Handshake) → i.door.handshake ≡ h → (after_dword i dword a h).door.handshake ≡ Idle → i.door.handshake ≡ Idle
    by_tests false x Idle y q = y
    by_tests false x (Collects missing message) y q = absurd (by_more missing message (nat_lt 1 missing) q)
    by_tests false x (Asked message) y q = absurd (cc)
    by_tests false x (Replies left) y q = absurd (cc)
    by_tests true x h y q = absurd (cc)

-- ---- the front of the lane down

module _ (w : World) (h : History) (f : Facts w h) (reg value : ℕ) (rest : List Down) (e : w.down ≡ down.Write reg value ∷ rest) (t : is_reset_item (down.Write reg value) ≡ true) where
  k : Clock w h
  k = f.clock

  d : Doorbell w
  d = f.doorbell

  line : down_line w ≡ down.Write reg value ∷ (rest ++ w.host.out)
  line = ap (λ xs. xs ++ w.host.out) e

  -- a reset was asked, and its write made
  asked : (in_asked w ≡ true) × (w.host.returning ≡ false)
  unfolding reset_write_count
  asked =
      let o = k.one_reset_write.one in
      let a = ap (how_many is_reset_item) line in let c = how_many-cons is_reset_item (down.Write reg value) (rest ++ w.host.out) in
      let i : one_if (is_reset_item (down.Write reg value)) ≡ 1 = ap one_if t in
      let y = true_by_one (in_asked w && not w.host.returning) (omega (arith, o, a, c, i)) in
      let p = and_false (in_asked w) (not w.host.returning) y in
      (p.0, opposite w.host.returning p.1)
    where
      opposite : (b : Bool) → not b ≡ true → b ≡ false
      opposite true g = absurd (cc)
      opposite false g = refl

  not_begun : in_begun w ≡ true → ⊥
  not_begun g = not_both (w.host.asked == w.ioc.generation) (and_false _ _ asked.0).1 (and_false _ _ g).1

  -- behind it nothing else is written
  alone : how_many is_register_write (rest ++ w.host.out) ≡ 0
  unfolding register_write_count
  alone = later-opened is_reset_item is_register_write (down.Write reg value) (rest ++ w.host.out) t (sym (ap (later is_reset_item is_register_write) line) ∙ (sym (later-is is_reset_item is_register_write (down_line w)) ∙ k.one_reset_write.behind_it))

  ahead : core (door_ahead w) ≡ core (writes_still w.ioc reg value).door
  ahead = ap (λ xs. core (written_ahead w.ioc xs).door) line ∙ (ap (λ (i : Ioc). core i.door) (ahead-write w.ioc reg value (rest ++ w.host.out)) ∙ quiet_ahead (writes_still w.ioc reg value) (rest ++ w.host.out) alone)

  none_of : (test : Down → Bool) → how_many test (down_line w) ≡ 0 → test (down.Write reg value) ≡ false
  none_of test z = Rattle.law_moves.proofs.Counted.false_by_none (test (down.Write reg value)) (let a = ap (how_many test) line in let c = how_many-cons test (down.Write reg value) (rest ++ w.host.out) in omega (arith, z, a, c))

  -- HostDiagnostic's
  diagnostic : w.host.stage ≡ stage.DiagnosticReset → (door_ahead w).key_place ≡ 6 → Resets (register_written w.ioc.door reg value).effect
  diagnostic s key =
      let n = none_of is_unit_write (d.reset_steps.diagnostic s) in
      let it = only ((reg == HOST_DIAGNOSTIC) && has value DIAG_RESET_ADAPTER) ((reg == DOORBELL) && (value == unit_reset_dword)) n t in
      let p = and_false (reg == HOST_DIAGNOSTIC) (has value DIAG_RESET_ADAPTER) it in
      let r = eqb-true reg HOST_DIAGNOSTIC p.0 in
      let a = ap (λ (x : DoorRegisters). x.key_place) ahead in
      let z : w.ioc.door.key_place ≡ 6 = sym (key_stays w.ioc value) ∙ (sym (a ∙ ap (λ m. (writes_still w.ioc m value).door.key_place) r) ∙ key) in
      subst (λ m. Resets (register_written w.ioc.door m value).effect) (sym r) (unlocked_resets w.ioc.door value z p.1)
    where
      only : (a c : Bool) → c ≡ false → (a || c) ≡ true → a ≡ true
      only true c g y = refl
      only false c g y = sym g ∙ y ∙ refl

  -- the Doorbell's
  unit : w.host.stage ≡ stage.UnitReset → Resets (register_written w.ioc.door reg value).effect
  unit s =
      let n = none_of is_diagnostic_write (d.reset_steps.unit s) in
      let it = only ((reg == HOST_DIAGNOSTIC) && has value DIAG_RESET_ADAPTER) ((reg == DOORBELL) && (value == unit_reset_dword)) n t in
      let p = and_false (reg == DOORBELL) (value == unit_reset_dword) it in
      let r = eqb-true reg DOORBELL p.0 in
      let v = eqb-true value unit_reset_dword p.1 in
      let q : rests_at_door w ≡ true = rests (is_none w.host.machine && not (waits_to_reset w)) (Rattle.law_facts.specs.DoorAhead.is_look w.host.stage) (in_begun w) (Rattle.law_facts.specs.DoorAhead.is_unit w.host.stage) (ap Rattle.law_facts.specs.DoorAhead.is_unit s) in
      let i = d.rests.handshake q in
      let a : (writes_still w.ioc DOORBELL value).door.handshake ≡ Idle = sym (ap (λ (x : DoorRegisters). x.handshake) ahead ∙ ap (λ m. (writes_still w.ioc m value).door.handshake) r) ∙ i in
      let z = idle_before w.ioc value k.phase_table.whole a in
      subst (λ m. Resets (register_written w.ioc.door m value).effect) (sym r) (subst (λ y. Resets (register_written w.ioc.door DOORBELL y).effect) (sym v) (idle_resets w.ioc.door k.phase_table.whole z))
    where
      only : (a c : Bool) → a ≡ false → (a || c) ≡ true → c ≡ true
      only true c g y = absurd (cc)
      only false c g y = y

      rests : (a b c d : Bool) → d ≡ true → (a || (b || (c || d))) ≡ true
      rests true b c d g = refl
      rests false true c d g = refl
      rests false false true d g = refl
      rests false false false d g = g

  resetting : is_resetting w.host.mode ≡ true
  resetting = (and_false _ _ asked.0).0

  by_reading : (m : HostDoor) → w.host.machine ≡ Some m → (x : Reading) → m.stage ≡ door_stage.Awaits x → (s : Stage) → w.host.stage ≡ s → ReadsFor s x → IsInMode w s → Resets (register_written w.ioc.door reg value).effect
  by_reading m is x at stage.DiagnosticReset s (inl y) i = absurd (false_true w.host.returning asked.1 (subst (ResetStep w) y (d.reset_steps.step m x is resetting at)).0)
  by_reading m is x at stage.DiagnosticReset s (inr (inl y)) i = diagnostic s (subst (ResetStep w) y (d.reset_steps.step m x is resetting at)).1
  by_reading m is x at stage.DiagnosticReset s (inr (inr y)) i = absurd (not_begun (and_false _ _ (subst (ResetStep w) y (d.reset_steps.step m x is resetting at)).1).0)
  by_reading m is x at stage.UnitReset s y i = unit s
  by_reading m is x at stage.Idle s y i = absurd y
  by_reading m is x at stage.StartReset s y i = absurd y
  by_reading m is x at stage.Start s y i = absurd (false_true (is_resetting w.host.mode) (ap is_resetting i) resetting)
  by_reading m is x at stage.Facts s y i = absurd (false_true (is_resetting w.host.mode) (ap is_resetting i) resetting)
  by_reading m is x at stage.PortFacts s y i = absurd (false_true (is_resetting w.host.mode) (ap is_resetting i) resetting)
  by_reading m is x at stage.Init s y i = absurd (false_true (is_resetting w.host.mode) (ap is_resetting i) resetting)
  by_reading m is x at stage.Look s y i = absurd (false_true (is_resetting w.host.mode) (ap is_resetting i) resetting)

  by_stage : (m : HostDoor) → w.host.machine ≡ Some m → (s : DoorStage) → m.stage ≡ s → WaitsAt w s → Resets (register_written w.ioc.door reg value).effect
  by_stage m is (door_stage.Awaits x) at a = by_reading m is x at w.host.stage refl a.0 a.1
  by_stage m is (door_stage.Reads x) at a = absurd a
  by_stage m is door_stage.Opens at a = absurd a
  by_stage m is (door_stage.WritesKey place) at a = absurd a
  by_stage m is door_stage.Locks at a = absurd a
  by_stage m is door_stage.ResetsUnit at a = absurd a
  by_stage m is door_stage.Finishes at a = absurd a
  by_stage m is door_stage.Ended at a = absurd a

  by_machine : (o : Option HostDoor) → w.host.machine ≡ o → Resets (register_written w.ioc.door reg value).effect
  by_machine (Some m) is = by_stage m is m.stage refl (d.stage.machine m is)
  by_machine None is = by_wait (waits_to_reset w) refl
    where
      by_wait : (b : Bool) → waits_to_reset w ≡ b → Resets (register_written w.ioc.door reg value).effect
      by_wait true y = absurd (false_true w.host.returning asked.1 (d.reset_steps.late y))
      by_wait false y = absurd (not_begun (and_false _ _ (k.value_is_last.ready (d.stage.goes_on resetting is y)).linked).0)

  pub heeded : Resets (register_written w.ioc.door reg value).effect
  heeded = by_machine w.host.machine refl
