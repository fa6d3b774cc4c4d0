-- A door that isn't held stays so where no write holds it; and no turn of the host makes such a write.
use Rattle.std.proofs.Common.{◌≡◌, ℕ, ◌+◌, ◌-◌, ◌/◌, ◌%◌, ◌^◌, ◌==◌, ◌&&◌, ◌||◌, not, nat_lt, nat_le, Bool, true, false, if◌then◌else◌, List, [], ◌∷◌, bit_and, bit_or, take, Some, None, refl, ap, sym, ◌∙◌, subst, arith}
use Rattle.std.specs.Int.Bits.{and_zero_r}
use Rattle.std.proofs.lemmas.Nat.{and_assoc, and_or_apart}
use Rattle.mpi_doorbell.specs.Bytes.{has}
use Rattle.mpi_doorbell.specs.DoorRegisters.{DoorRegisters, Written, diagnostic_value, diagnostic_written, doorbell_written, function_written, is_fault, is_unlocked, key_written, quietly, register_written, released, reset_begun, status_written}
use Rattle.mpi_doorbell.specs.Handshake.{Handshake, asked_by, dword_taken, is_idle}
use Rattle.mpi_doorbell.specs.HostDoor.{HostDoor, Stepped}
use Rattle.mpi_doorbell.specs.HostReset.{without}
use Rattle.mpi_doorbell.specs.HostSteps.{diagnostic_reset, hears, look_at_doorbell, unit_reset}
use Rattle.mpi_doorbell.specs.declared.effect.Effect.{Effect}
use Rattle.mpi_doorbell.specs.declared.effect.Effect.TheVariants as effect
use Rattle.mpi_doorbell.specs.declared.registers.TheConstants.{DIAG_HOLD_IOC_RESET, DIAG_RESET_ADAPTER, DIAG_WRITE_ENABLE, DOORBELL, DOORBELL_ADD_DWORDS_SHIFT, DOORBELL_FUNCTION_SHIFT, FUNCTION_HANDSHAKE, FUNCTION_MESSAGE_UNIT_RESET, HOST_DIAGNOSTIC, HOST_INTERRUPT_MASK, HOST_INTERRUPT_STATUS, IOC_STATE_FAULT, IOC_STATE_MASK, IOC_STATE_OPERATIONAL, IOC_STATE_READY, REPLY_POST_HOST_INDEX, SYS2IOC_DB_STATUS, WRITE_SEQUENCE}
use Rattle.mpi_doorbell.specs.declared.stage.Reading.{Reading}
use Rattle.mpi_doorbell.specs.declared.stage.Reading.TheVariants as reading
use Rattle.mpi_doorbell.specs.declared.stage.ResetKind.{ResetKind}
use Rattle.mpi_doorbell.specs.declared.stage.ResetKind.TheVariants as kind
use Rattle.mpi_doorbell.specs.declared.stage.Stage.{Stage as DoorStage}
use Rattle.mpi_doorbell.specs.declared.stage.Stage.TheVariants.{Awaits, Locks, Reads}
use Rattle.mpi_doorbell.specs.declared.state.IocState.TheVariants as ioc_state
use Rattle.mpt_trace.specs.declared.item.Down.{Down}
use Rattle.mpt_trace.specs.declared.item.Down.TheVariants as down
use Rattle.mpt_rules.specs.World.Counts.{how_many, one_if}
use Rattle.mpt_rules.specs.Host.Doorbell.{DoorTurn, next_turn, turn_from}
use Rattle.mpt_rules.specs.Ioc.Parts.{Ioc}
use Rattle.mpt_rules.specs.Ioc.Registers as registers
use Rattle.law_facts.specs.DoorAhead.{does_still, writes_still, written_ahead}
use Rattle.law_moves.proofs.Counted.{false_by_none, how_many-cons, none_passes}
use Rattle.law_doors.proofs.Ending.{is_shaking, shaking_writes}
use Rattle.law_doors.proofs.Whole.{waits_stay}
use Rattle.law_starts.specs.Starts.{is_hold_write}
use Rattle.law_starts.proofs.Answering.{answer_leaves}

-- ---- the door

pub record Unheld (r : DoorRegisters) : Type 0 where
  pub hold : r.hold_reset ≡ false
  pub waits : r.link_waits ≡ false

not_both : (a c : Bool) → (a && c) ≡ false → a ≡ true → c ≡ false
not_both true c e f = e
not_both false c e f = absurd (cc)

module _ (r : DoorRegisters) (reg value : ℕ) (n : is_hold_write (down.Write reg value) ≡ false) (h : r.hold_reset ≡ false) where
  diagnostic : (reg == HOST_DIAGNOSTIC) ≡ true → (diagnostic_written r value).registers.hold_reset ≡ false
  diagnostic e = by_both (is_unlocked r) (has value DIAG_RESET_ADAPTER) (not_both (reg == HOST_DIAGNOSTIC) (has value DIAG_HOLD_IOC_RESET) n e)
    where
      held : DoorRegisters
      held = record r { hold_reset = has value DIAG_HOLD_IOC_RESET }

      release : (c : Bool) → has value DIAG_HOLD_IOC_RESET ≡ false → (if c then record held { state = ioc_state.Ready; link_waits = false } else held).hold_reset ≡ false
      release true f = f
      release false f = f

      by_both : (a c : Bool) → has value DIAG_HOLD_IOC_RESET ≡ false → (if a then (if c then reset_begun held else quietly (released held)) else quietly r).registers.hold_reset ≡ false
      by_both true true f = f
      by_both true false f = release (held.link_waits && not held.hold_reset) f
      by_both false c f = h

  dword : (doorbell_written r value).registers.hold_reset ≡ false
  dword = by_idle (is_idle r.handshake)
    where
      opened : (c : Bool) → (if c then quietly (record r { handshake = Rattle.mpi_doorbell.specs.Handshake.Collects (value / 2 ^ DOORBELL_ADD_DWORDS_SHIFT % 256) []; ioc2sys = true }) else record { registers = r; effect = effect.Fault 1 }).registers.hold_reset ≡ false
      opened true = h
      opened false = h

      function : (a c : Bool) → (if a then Rattle.mpi_doorbell.specs.DoorRegisters.handshake_opened r (value / 2 ^ DOORBELL_ADD_DWORDS_SHIFT % 256) else if c then record { registers = r; effect = effect.UnitReset } else record { registers = r; effect = effect.Fault 2 }).registers.hold_reset ≡ false
      function true c = opened (nat_lt 0 (value / 2 ^ DOORBELL_ADD_DWORDS_SHIFT % 256) && nat_le (value / 2 ^ DOORBELL_ADD_DWORDS_SHIFT % 256) 32)
      function false true = h
      function false false = h

      by_idle : (c : Bool) → (if c then function_written r (value / 2 ^ DOORBELL_FUNCTION_SHIFT) (value / 2 ^ DOORBELL_ADD_DWORDS_SHIFT % 256) else record { registers = record r { handshake = dword_taken r.handshake value }; effect = asked_by r.handshake value }).registers.hold_reset ≡ false
      by_idle true = function (value / 2 ^ DOORBELL_FUNCTION_SHIFT == FUNCTION_HANDSHAKE) (value / 2 ^ DOORBELL_FUNCTION_SHIFT == FUNCTION_MESSAGE_UNIT_RESET)
      by_idle false = h

  hold_stays : (register_written r reg value).registers.hold_reset ≡ false
  hold_stays = by_tests (reg == WRITE_SEQUENCE) (reg == HOST_DIAGNOSTIC) refl (is_fault r.state) (reg == DOORBELL) (reg == HOST_INTERRUPT_STATUS) (reg == HOST_INTERRUPT_MASK) (reg == REPLY_POST_HOST_INDEX)
    where
      by_tests : (a b : Bool) → (reg == HOST_DIAGNOSTIC) ≡ b → (c d f g i : Bool)
          → (if a then quietly (key_written r value) else if b then diagnostic_written r value else if c then quietly r else
          if d then doorbell_written r value else if f then quietly (status_written r) else if g then quietly (record r { interrupt_mask = value }) else if i then quietly (record r { reply_post_host_index = value }) else quietly r).registers.hold_reset ≡ false
      by_tests true b e c d f g i = h
      by_tests false true e c d f g i = diagnostic e
      by_tests false false e true d f g i = h
      by_tests false false e false true f g i = dword
      by_tests false false e false false true g i = h
      by_tests false false e false false false true i = h
      by_tests false false e false false false false true = h
      by_tests false false e false false false false false = h

pub unheld_stays : (r : DoorRegisters) (reg value : ℕ) → is_hold_write (down.Write reg value) ≡ false → Unheld r → Unheld (register_written r reg value).registers
unheld_stays r reg value n u = record { hold = hold_stays r reg value n u.hold; waits = waits_stay r reg value u.waits }

-- what a write asks
pub unheld_answers : (i : Ioc) (message : List ℕ) → Unheld i.door → Unheld (registers.handshakes i message).door
unheld_answers i message u = let a = answer_leaves i message in record { hold = a.hold ∙ u.hold; waits = a.waits ∙ u.waits }

still_unheld : (i : Ioc) (f : Effect) → Unheld i.door → Unheld (does_still i f).door
still_unheld i effect.None u = u
still_unheld i (effect.Asked count bytes) u = unheld_answers i (take count bytes) u
still_unheld i effect.UnitReset u = u
still_unheld i effect.AdapterReset u = u
still_unheld i (effect.Fault code) u = record { hold = u.hold; waits = u.waits }

pub unheld_ahead : (i : Ioc) (xs : List Down) → how_many is_hold_write xs ≡ 0 → Unheld i.door → Unheld (written_ahead i xs).door
unfolding written_ahead
unheld_ahead i [] z u = u
unheld_ahead i (down.Write reg value ∷ xs) z u =
    let c = how_many-cons is_hold_write (down.Write reg value) xs in
    let n = false_by_none (is_hold_write (down.Write reg value)) (omega (arith, z, c)) in
    let j : Ioc = record i { door = (register_written i.door reg value).registers } in
    unheld_ahead (writes_still i reg value) xs (omega (arith, z, c)) (still_unheld j (register_written i.door reg value).effect (unheld_stays i.door reg value n u))
unheld_ahead i (down.Read reg ∷ xs) z u = let c = how_many-cons is_hold_write (down.Read reg) xs in unheld_ahead i xs (omega (arith, z, c)) u
unheld_ahead i (down.Post d f p ∷ xs) z u = let c = how_many-cons is_hold_write (down.Post d f p) xs in unheld_ahead i xs (omega (arith, z, c)) u
unheld_ahead i (down.Return a n ∷ xs) z u = let c = how_many-cons is_hold_write (down.Return a n) xs in unheld_ahead i xs (omega (arith, z, c)) u
unheld_ahead i (down.Stop ∷ xs) z u = let c = how_many-cons is_hold_write down.Stop xs in unheld_ahead i xs (omega (arith, z, c)) u

-- what is read of HostDiagnostic then
pub diagnostic_unheld : (r : DoorRegisters) → r.hold_reset ≡ false → has (diagnostic_value r) DIAG_HOLD_IOC_RESET ≡ false
diagnostic_unheld r h = by_tests (is_unlocked r) r.reset_history r.reset_adapter r.hold_reset h
  where
    by_tests : (a b c d : Bool) → d ≡ false → has ((if a then DIAG_WRITE_ENABLE else 0) + (if b then Rattle.mpi_doorbell.specs.declared.registers.TheConstants.DIAG_RESET_HISTORY else 0) + (if c then DIAG_RESET_ADAPTER else 0) + (if d then DIAG_HOLD_IOC_RESET else 0)) DIAG_HOLD_IOC_RESET ≡ false
    by_tests true true true false e = refl
    by_tests true true false false e = refl
    by_tests true false true false e = refl
    by_tests true false false false e = refl
    by_tests false true true false e = refl
    by_tests false true false false e = refl
    by_tests false false true false e = refl
    by_tests false false false false e = refl
    by_tests a b c true e = absurd (cc)

-- ---- turns

shaking_unheld : (x : Down) → is_shaking x ≡ true → is_hold_write x ≡ false
shaking_unheld (down.Write reg value) e = by_tests (reg == DOORBELL) (reg == HOST_INTERRUPT_STATUS) refl refl e
  where
    of_other : (n m : ℕ) → (n == m) ≡ true → (m == HOST_DIAGNOSTIC) ≡ false → ((n == HOST_DIAGNOSTIC) && has value DIAG_HOLD_IOC_RESET) ≡ false
    of_other n m a b = let q = Rattle.std.proofs.lemmas.Bool.eqb-true n m a in ap (λ c. c && has value DIAG_HOLD_IOC_RESET) (ap (λ k. k == HOST_DIAGNOSTIC) q ∙ b)

    by_tests : (a b : Bool) → (reg == DOORBELL) ≡ a → (reg == HOST_INTERRUPT_STATUS) ≡ b → (a || b) ≡ true → ((reg == HOST_DIAGNOSTIC) && has value DIAG_HOLD_IOC_RESET) ≡ false
    by_tests true b p q e = of_other reg DOORBELL p refl
    by_tests false true p q e = of_other reg HOST_INTERRUPT_STATUS q refl
    by_tests false false p q e = absurd (cc)
shaking_unheld (down.Read reg) e = absurd (cc)
shaking_unheld (down.Post d f p) e = absurd (cc)
shaking_unheld (down.Return a i) e = absurd (cc)
shaking_unheld down.Stop e = absurd (cc)

-- beside RESET_ADAPTER what was read is written; and HOLD is left out
or_unheld : (v : ℕ) → has v DIAG_HOLD_IOC_RESET ≡ false → has (bit_or v DIAG_RESET_ADAPTER) DIAG_HOLD_IOC_RESET ≡ false
or_unheld v e = ap (λ n. not (n == 0)) (and_or_apart DIAG_HOLD_IOC_RESET v DIAG_RESET_ADAPTER refl) ∙ e

left_out : (v : ℕ) → has (without v DIAG_HOLD_IOC_RESET) DIAG_HOLD_IOC_RESET ≡ false
left_out v = ap (λ n. not (n == 0)) (and_assoc DIAG_HOLD_IOC_RESET v (2 ^ 32 - 1 - DIAG_HOLD_IOC_RESET) ∙ and_zero_r v)

module _ (d : HostDoor) (v : ℕ) where
  abbrev TurnAt : DoorStage → DoorTurn
  TurnAt s = turn_from 8 (hears d s v).door (hears d s v).step

  at_unlocked : has v DIAG_HOLD_IOC_RESET ≡ false → how_many is_hold_write (TurnAt (Awaits reading.Unlocked)).writes ≡ 0
  unfolding turn_from how_many
  at_unlocked e = by_test (has v DIAG_WRITE_ENABLE)
    where
      by_test : (b : Bool) → how_many is_hold_write (turn_from 8 (if b then Rattle.mpi_doorbell.specs.HostDoor.writes d (Reads reading.ResetOver) HOST_DIAGNOSTIC (bit_or v DIAG_RESET_ADAPTER) else Rattle.mpi_doorbell.specs.HostDoor.refuses d 21 v).door
          (if b then Rattle.mpi_doorbell.specs.HostDoor.writes d (Reads reading.ResetOver) HOST_DIAGNOSTIC (bit_or v DIAG_RESET_ADAPTER) else Rattle.mpi_doorbell.specs.HostDoor.refuses d 21 v).step).writes ≡ 0
      by_test true = ap (λ c. one_if c + 0) (or_unheld v e)
      by_test false = refl

  at_over : how_many is_hold_write (TurnAt (Awaits reading.ResetOver)).writes ≡ 0
  unfolding turn_from how_many
  at_over = by_test (has v DIAG_RESET_ADAPTER)
    where
      by_test : (b : Bool) → how_many is_hold_write (turn_from 8 (if b then Rattle.mpi_doorbell.specs.HostDoor.reads d reading.ResetOver else Rattle.mpi_doorbell.specs.HostDoor.writes d Locks HOST_DIAGNOSTIC (without v DIAG_HOLD_IOC_RESET)).door
          (if b then Rattle.mpi_doorbell.specs.HostDoor.reads d reading.ResetOver else Rattle.mpi_doorbell.specs.HostDoor.writes d Locks HOST_DIAGNOSTIC (without v DIAG_HOLD_IOC_RESET)).step).writes ≡ 0
      by_test true = refl
      by_test false = ap (λ c. one_if c + 0) (left_out v)

  at_unit : how_many is_hold_write (TurnAt (Awaits reading.UnitReset)).writes ≡ 0
  unfolding turn_from how_many
  at_unit = by_test (has v SYS2IOC_DB_STATUS)
    where
      by_test : (b : Bool) → how_many is_hold_write (turn_from 8 (if b then Rattle.mpi_doorbell.specs.HostDoor.reads d reading.UnitReset else Rattle.mpi_doorbell.specs.HostDoor.reads d (reading.State kind.MessageUnit)).door
          (if b then Rattle.mpi_doorbell.specs.HostDoor.reads d reading.UnitReset else Rattle.mpi_doorbell.specs.HostDoor.reads d (reading.State kind.MessageUnit)).step).writes ≡ 0
      by_test true = refl
      by_test false = refl

  at_state : (k : ResetKind) → how_many is_hold_write (TurnAt (Awaits (reading.State k))).writes ≡ 0
  unfolding turn_from how_many
  at_state k = by_tests (bit_and v IOC_STATE_MASK == IOC_STATE_READY) ((bit_and v IOC_STATE_MASK == IOC_STATE_FAULT) || (bit_and v IOC_STATE_MASK == IOC_STATE_OPERATIONAL))
    where
      by_tests : (a b : Bool)
          → how_many is_hold_write (turn_from 8 (if a then Rattle.mpi_doorbell.specs.HostDoor.finishes d [] else if b then Rattle.mpi_doorbell.specs.HostDoor.refuses d (Rattle.mpi_doorbell.specs.HostDoor.state_step k) v else Rattle.mpi_doorbell.specs.HostDoor.reads d (reading.State k)).door
          (if a then Rattle.mpi_doorbell.specs.HostDoor.finishes d [] else if b then Rattle.mpi_doorbell.specs.HostDoor.refuses d (Rattle.mpi_doorbell.specs.HostDoor.state_step k) v else Rattle.mpi_doorbell.specs.HostDoor.reads d (reading.State k)).step).writes ≡ 0
      by_tests true b = refl
      by_tests false true = refl
      by_tests false false = refl

  at_look : how_many is_hold_write (TurnAt (Awaits reading.Doorbell)).writes ≡ 0
  unfolding turn_from how_many
  at_look = refl

  shakes : (x : Reading) → Rattle.law_facts.specs.DoorAhead.is_handshake_reading x ≡ true → how_many is_hold_write (TurnAt (Awaits x)).writes ≡ 0
  shakes x e = none_passes is_shaking is_hold_write shaking_unheld (TurnAt (Awaits x)).writes (shaking_writes (record d { stage = Awaits x }) x v refl e)

  at_reading : (x : Reading) → (x ≡ reading.Unlocked → has v DIAG_HOLD_IOC_RESET ≡ false) → how_many is_hold_write (TurnAt (Awaits x)).writes ≡ 0
  at_reading reading.Unlocked e = at_unlocked (e refl)
  at_reading reading.ResetOver e = at_over
  at_reading reading.UnitReset e = at_unit
  at_reading (reading.State k) e = at_state k
  at_reading reading.Doorbell e = at_look
  at_reading reading.Used e = shakes reading.Used refl
  at_reading reading.LeftOver e = shakes reading.LeftOver refl
  at_reading reading.Opened e = shakes reading.Opened refl
  at_reading reading.Taken e = shakes reading.Taken refl
  at_reading reading.News e = shakes reading.News refl
  at_reading reading.Word e = shakes reading.Word refl

  -- a turn behind a value
  pub turn_unheld : (x : Reading) → d.stage ≡ Awaits x → (x ≡ reading.Unlocked → has v DIAG_HOLD_IOC_RESET ≡ false) → how_many is_hold_write (next_turn d (Some v)).writes ≡ 0
  turn_unheld x at e = subst (λ s. how_many is_hold_write (TurnAt s).writes ≡ 0) (sym at) (at_reading x e)

-- and those that begin a machine
pub look_unheld : how_many is_hold_write (next_turn look_at_doorbell None).writes ≡ 0
unfolding turn_from how_many
look_unheld = refl

pub keys_unheld : how_many is_hold_write (next_turn diagnostic_reset None).writes ≡ 0
unfolding turn_from how_many
keys_unheld = refl

pub unit_unheld : how_many is_hold_write (next_turn unit_reset None).writes ≡ 0
unfolding turn_from how_many
unit_unheld = refl

pub talk_unheld : (message : List ℕ) → how_many is_hold_write (next_turn (Rattle.mpi_doorbell.specs.HostSteps.handshake_of_message message) None).writes ≡ 0
unfolding turn_from how_many
talk_unheld message = refl
