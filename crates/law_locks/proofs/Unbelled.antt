-- Writes of other registers than the Doorbell and the interrupt status leave a handshake as it is.
use Rattle.std.proofs.Common.{◌≡◌, ℕ, ◌==◌, ◌&&◌, ◌||◌, Bool, true, false, not, if◌then◌else◌, List, [], ◌∷◌, bit_and, bit_or, Some, None, refl, ap, sym, ◌∙◌, subst, arith}
use Rattle.mpi_doorbell.specs.Bytes.{has}
use Rattle.mpi_doorbell.specs.DoorRegisters.{DoorRegisters, Written, diagnostic_written, doorbell_written, function_written, is_fault, is_unlocked, key_written, quietly, register_written, released, reset_begun, status_written}
use Rattle.mpi_doorbell.specs.Handshake.{Idle, asked_by, dword_taken, is_idle}
use Rattle.mpi_doorbell.specs.HostDoor.{HostDoor, Stepped, finishes, reads, refuses, state_step, writes}
use Rattle.mpi_doorbell.specs.HostReset.{without}
use Rattle.mpi_doorbell.specs.HostSteps.{diagnostic_reset, handshake_of_message, look_at_doorbell, unit_reset}
use Rattle.mpi_doorbell.specs.declared.effect.Effect.{Effect}
use Rattle.mpi_doorbell.specs.declared.effect.Effect.TheVariants as effect
use Rattle.mpi_doorbell.specs.declared.registers.TheConstants.{DIAG_HOLD_IOC_RESET, DIAG_RESET_ADAPTER, DIAG_WRITE_ENABLE, DOORBELL, HOST_DIAGNOSTIC, HOST_INTERRUPT_MASK, HOST_INTERRUPT_STATUS, IOC_STATE_FAULT, IOC_STATE_MASK, IOC_STATE_OPERATIONAL, IOC_STATE_READY, REPLY_POST_HOST_INDEX, SYS2IOC_DB_STATUS, WRITE_SEQUENCE}
use Rattle.mpi_doorbell.specs.declared.stage.Reading.{Reading}
use Rattle.mpi_doorbell.specs.declared.stage.Reading.TheVariants as reading
use Rattle.mpi_doorbell.specs.declared.stage.ResetKind.{ResetKind}
use Rattle.mpi_doorbell.specs.declared.stage.ResetKind.TheVariants as kind
use Rattle.mpi_doorbell.specs.declared.stage.Stage.TheVariants.{Awaits, Locks, Reads}
use Rattle.mpi_doorbell.specs.declared.state.IocState.TheVariants as ioc_state
use Rattle.mpi_doorbell.specs.declared.step.DoorStep.TheVariants as step
use Rattle.mpt_messages.specs.declared.host_ask.HostAsk.{HostAsk}
use Rattle.mpt_trace.specs.declared.item.Down.{Down}
use Rattle.mpt_trace.specs.declared.item.Down.TheVariants as down
use Rattle.mpt_rules.specs.Host.Doorbell.{next_turn, turn_from, unit_reset_dword}
use Rattle.mpt_rules.specs.Ioc.Parts.{Ioc, state_of}
use Rattle.mpt_rules.specs.World.Counts.{how_many, one_if}
use Rattle.law_facts.specs.DoorAhead.{does_still, writes_still, written_ahead}
use Rattle.law_facts.specs.Words.{is_doorbell_write}
use Rattle.law_moves.proofs.Counted.{how_many-cons}
use Rattle.law_moves.proofs.Registers.{writes_are}
use Rattle.law_doors.proofs.Ahead.{ahead-nil}
use Rattle.law_doors.proofs.Whole.{waits_stay}
use Rattle.law_starts.proofs.Asking.{write_asks}
use Rattle.law_starts.proofs.Resetting.{TurnAt, reset_write}
use Rattle.law_locks.proofs.Rounds.{doorbell_ahead}

-- a write of the Doorbell, or of the interrupt status
abbrev pub is_bell_write : Down → Bool
is_bell_write (down.Write reg value) = (reg == DOORBELL) || (reg == HOST_INTERRUPT_STATUS)
is_bell_write _ = false

pub bell_of_doorbell : (x : Down) → is_doorbell_write x ≡ true → is_bell_write x ≡ true
bell_of_doorbell (down.Write reg value) e = ap (λ b. b || (reg == HOST_INTERRUPT_STATUS)) e
bell_of_doorbell (down.Read reg) e = absurd (cc)
bell_of_doorbell (down.Post d f p) e = absurd (cc)
bell_of_doorbell (down.Return a i) e = absurd (cc)
bell_of_doorbell down.Stop e = absurd (cc)

-- ---- handshake and interrupt

pub record SameBell (r s : DoorRegisters) : Type 0 where
  pub handshake : s.handshake ≡ r.handshake
  pub status : s.ioc2sys ≡ r.ioc2sys

record BellStays (r : DoorRegisters) (w : Written) : Type 0 where
  bell : SameBell r w.registers
  unasked : (count : ℕ) (bytes : List ℕ) → w.effect ≡ effect.Asked count bytes → ⊥

module _ (r : DoorRegisters) where
  quiet : (x : DoorRegisters) → SameBell r x → BellStays r (quietly x)
  quiet x s = record { bell = s; unasked = λ count bytes e. cc }

  diagnostic : (value : ℕ) → BellStays r (diagnostic_written r value)
  diagnostic value = by_both (is_unlocked r) (has value DIAG_RESET_ADAPTER)
    where
      held : DoorRegisters
      held = record r { hold_reset = has value DIAG_HOLD_IOC_RESET }

      release : (c : Bool) → BellStays r (quietly (if c then record held { state = ioc_state.Ready; link_waits = false } else held))
      release true = quiet (record held { state = ioc_state.Ready; link_waits = false }) (record { handshake = refl; status = refl })
      release false = quiet held (record { handshake = refl; status = refl })

      by_both : (a c : Bool) → BellStays r (if a then (if c then reset_begun held else quietly (released held)) else quietly r)
      by_both true true = record { bell = record { handshake = refl; status = refl }; unasked = λ count bytes e. cc }
      by_both true false = release (held.link_waits && not held.hold_reset)
      by_both false c = quiet r (record { handshake = refl; status = refl })

  other_write : (reg value : ℕ) → is_bell_write (down.Write reg value) ≡ false → BellStays r (register_written r reg value)
  other_write reg value n = by_tests (reg == WRITE_SEQUENCE) (reg == HOST_DIAGNOSTIC) (is_fault r.state) (reg == DOORBELL) (reg == HOST_INTERRUPT_STATUS) (reg == HOST_INTERRUPT_MASK) (reg == REPLY_POST_HOST_INDEX) n
    where
      by_tests : (a b c d f g i : Bool) → (d || f) ≡ false
          → BellStays r
          (if a then quietly (key_written r value) else if b then diagnostic_written r value else if c then quietly r else
          if d then doorbell_written r value else if f then quietly (status_written r) else if g then quietly (record r { interrupt_mask = value }) else if i then quietly (record r { reply_post_host_index = value }) else quietly r)
      by_tests true b c d f g i n = quiet (key_written r value) (record { handshake = refl; status = refl })
      by_tests false true c d f g i n = diagnostic value
      by_tests false false true d f g i n = quiet r (record { handshake = refl; status = refl })
      by_tests false false false true f g i n = absurd (cc)
      by_tests false false false false true g i n = absurd (cc)
      by_tests false false false false false true i n = quiet (record r { interrupt_mask = value }) (record { handshake = refl; status = refl })
      by_tests false false false false false false true n = quiet (record r { reply_post_host_index = value }) (record { handshake = refl; status = refl })
      by_tests false false false false false false false n = quiet r (record { handshake = refl; status = refl })

other_still : (i : Ioc) (reg value : ℕ) → is_bell_write (down.Write reg value) ≡ false → SameBell i.door (writes_still i reg value).door
other_still i reg value n = by_effect (register_written i.door reg value).effect refl
  where
    s : BellStays i.door (register_written i.door reg value)
    s = other_write i.door reg value n

    by_effect : (f : Effect) → (register_written i.door reg value).effect ≡ f → SameBell i.door (does_still (record i { door = (register_written i.door reg value).registers }) f).door
    by_effect effect.None e = s.bell
    by_effect (effect.Asked count bytes) e = absurd (s.unasked count bytes e)
    by_effect effect.UnitReset e = s.bell
    by_effect effect.AdapterReset e = s.bell
    by_effect (effect.Fault code) e = record { handshake = s.bell.handshake; status = s.bell.status }

same_then : (r s t : DoorRegisters) → SameBell r s → SameBell s t → SameBell r t
same_then r s t a b = record { handshake = b.handshake ∙ a.handshake; status = b.status ∙ a.status }

pub unbelled_ahead : (i : Ioc) (xs : List Down) → how_many is_bell_write xs ≡ 0 → SameBell i.door (written_ahead i xs).door
unfolding written_ahead
unbelled_ahead i [] z = record { handshake = refl; status = refl }
unbelled_ahead i (down.Write reg value ∷ xs) z =
    let c = how_many-cons is_bell_write (down.Write reg value) xs in
    same_then i.door (writes_still i reg value).door (written_ahead (writes_still i reg value) xs).door
    (other_still i reg value (Rattle.law_moves.proofs.Counted.false_by_none (is_bell_write (down.Write reg value)) (omega (arith, c, z))))
    (unbelled_ahead (writes_still i reg value) xs (omega (arith, c, z)))
unbelled_ahead i (down.Read reg ∷ xs) z = let c = how_many-cons is_bell_write (down.Read reg) xs in unbelled_ahead i xs (omega (arith, c, z))
unbelled_ahead i (down.Post d f p ∷ xs) z = let c = how_many-cons is_bell_write (down.Post d f p) xs in unbelled_ahead i xs (omega (arith, c, z))
unbelled_ahead i (down.Return a n ∷ xs) z = let c = how_many-cons is_bell_write (down.Return a n) xs in unbelled_ahead i xs (omega (arith, c, z))
unbelled_ahead i (down.Stop ∷ xs) z = let c = how_many-cons is_bell_write down.Stop xs in unbelled_ahead i xs (omega (arith, c, z))

-- ---- state and WhoInit, where the Doorbell isn't written

pub record SameState (r s : DoorRegisters) : Type 0 where
  pub state : s.state ≡ r.state
  pub who_init : s.who_init ≡ r.who_init
  pub waits : s.link_waits ≡ false

doorless_still : (i : Ioc) (reg value : ℕ) → i.door.link_waits ≡ false → one_if (reg == DOORBELL) ≡ 0 → SameState i.door (writes_still i reg value).door
doorless_still i reg value l n = by_effect (register_written i.door reg value).effect refl
  where
    s : SameState i.door (register_written i.door reg value).registers
    s = record { state = (writes_are i.door reg value l).state; who_init = (write_asks i.door reg value).who_init; waits = waits_stay i.door reg value l }

    never : {T : Type 0} → (reg == DOORBELL) ≡ true → T
    never e = let o : one_if (reg == DOORBELL) ≡ 1 = ap one_if e in absurd (omega (arith, n, o))

    by_effect : (f : Effect) → (register_written i.door reg value).effect ≡ f → SameState i.door (does_still (record i { door = (register_written i.door reg value).registers }) f).door
    by_effect effect.None e = s
    by_effect (effect.Asked count bytes) e = never (ap (λ m. m == DOORBELL) ((writes_are i.door reg value l).asked count bytes e))
    by_effect effect.UnitReset e = s
    by_effect effect.AdapterReset e = s
    by_effect (effect.Fault code) e = never ((reset_write i.door reg value).faults code e)

state_then : (r s t : DoorRegisters) → SameState r s → SameState s t → SameState r t
state_then r s t a b = record { state = b.state ∙ a.state; who_init = b.who_init ∙ a.who_init; waits = b.waits }

pub doorless_ahead : (i : Ioc) (xs : List Down) → i.door.link_waits ≡ false → how_many is_doorbell_write xs ≡ 0 → SameState i.door (written_ahead i xs).door
unfolding written_ahead
doorless_ahead i [] l z = record { state = refl; who_init = refl; waits = l }
doorless_ahead i (down.Write reg value ∷ xs) l z =
    let c = how_many-cons is_doorbell_write (down.Write reg value) xs in
    let s = doorless_still i reg value l (omega (arith, c, z)) in
    state_then i.door (writes_still i reg value).door (written_ahead (writes_still i reg value) xs).door s (doorless_ahead (writes_still i reg value) xs s.waits (omega (arith, c, z)))
doorless_ahead i (down.Read reg ∷ xs) l z = let c = how_many-cons is_doorbell_write (down.Read reg) xs in doorless_ahead i xs l (omega (arith, c, z))
doorless_ahead i (down.Post d f p ∷ xs) l z = let c = how_many-cons is_doorbell_write (down.Post d f p) xs in doorless_ahead i xs l (omega (arith, c, z))
doorless_ahead i (down.Return a n ∷ xs) l z = let c = how_many-cons is_doorbell_write (down.Return a n) xs in doorless_ahead i xs l (omega (arith, c, z))
doorless_ahead i (down.Stop ∷ xs) l z = let c = how_many-cons is_doorbell_write down.Stop xs in doorless_ahead i xs l (omega (arith, c, z))

-- ---- turns that leave a handshake

module _ (d : HostDoor) (v : ℕ) where
  abbrev Leaves : Stepped → Type 0
  Leaves s = how_many is_bell_write (turn_from 8 s.door s.step).writes ≡ 0

  pub at_unlocked : how_many is_bell_write (TurnAt d v (Awaits reading.Unlocked)).writes ≡ 0
  unfolding turn_from how_many
  at_unlocked = by_test (has v DIAG_WRITE_ENABLE)
    where
      by_test : (b : Bool) → Leaves (if b then writes d (Reads reading.ResetOver) HOST_DIAGNOSTIC (bit_or v DIAG_RESET_ADAPTER) else refuses d 21 v)
      by_test true = refl
      by_test false = refl

  pub at_over : how_many is_bell_write (TurnAt d v (Awaits reading.ResetOver)).writes ≡ 0
  unfolding turn_from how_many
  at_over = by_test (has v DIAG_RESET_ADAPTER)
    where
      by_test : (b : Bool) → Leaves (if b then reads d reading.ResetOver else writes d Locks HOST_DIAGNOSTIC (without v DIAG_HOLD_IOC_RESET))
      by_test true = refl
      by_test false = refl

  pub at_unit : how_many is_bell_write (TurnAt d v (Awaits reading.UnitReset)).writes ≡ 0
  unfolding turn_from how_many
  at_unit = by_test (has v SYS2IOC_DB_STATUS)
    where
      by_test : (b : Bool) → Leaves (if b then reads d reading.UnitReset else reads d (reading.State kind.MessageUnit))
      by_test true = refl
      by_test false = refl

  pub at_state : (k : ResetKind) → how_many is_bell_write (TurnAt d v (Awaits (reading.State k))).writes ≡ 0
  unfolding turn_from how_many
  at_state k = by_tests (bit_and v IOC_STATE_MASK == IOC_STATE_READY) ((bit_and v IOC_STATE_MASK == IOC_STATE_FAULT) || (bit_and v IOC_STATE_MASK == IOC_STATE_OPERATIONAL))
    where
      by_tests : (a b : Bool) → Leaves (if a then finishes d [] else if b then refuses d (state_step k) v else reads d (reading.State k))
      by_tests true b = refl
      by_tests false true = refl
      by_tests false false = refl

  pub at_look : how_many is_bell_write (TurnAt d v (Awaits reading.Doorbell)).writes ≡ 0
  unfolding turn_from how_many
  at_look = refl

pub look_unbelled : how_many is_bell_write (next_turn look_at_doorbell None).writes ≡ 0
unfolding turn_from how_many
look_unbelled = refl

pub keys_unbelled : how_many is_bell_write (next_turn diagnostic_reset None).writes ≡ 0
unfolding turn_from how_many
keys_unbelled = refl

-- a handshake begins with a read
pub talk_turn : (m : List ℕ) → next_turn (handshake_of_message m) None ≡ record { writes = []; door = record { stage = Awaits reading.Used; unsent = m; reply = [] }; step = step.Read DOORBELL }
unfolding turn_from
talk_turn m = refl

-- an idle door takes the message unit reset as such
pub unit_ahead : (i : Ioc) → i.door.handshake ≡ Idle → is_fault i.door.state ≡ false → written_ahead i (down.Write DOORBELL unit_reset_dword ∷ []) ≡ i
unit_ahead i e n =
    let w : doorbell_written i.door unit_reset_dword ≡ record { registers = i.door; effect = effect.UnitReset } =
    ap (λ h. let y : Written = if is_idle h then function_written i.door 0x40 0 else record { registers = record i.door { handshake = dword_taken h unit_reset_dword }; effect = asked_by h unit_reset_dword } in y) e in
    doorbell_ahead i unit_reset_dword [] (record { registers = i.door; effect = effect.UnitReset }) n w ∙ ahead-nil _
