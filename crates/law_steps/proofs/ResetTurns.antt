-- The turns of a reset's machine, step by step.
use Rattle.std.proofs.Common.{◌≡◌, ℕ, ◌==◌, ◌||◌, Bool, true, false, if◌then◌else◌, [], ◌∷◌, bit_and, bit_or, None, refl, ap}
use Rattle.mpi_doorbell.specs.Bytes.{has}
use Rattle.mpi_doorbell.specs.HostDoor.{HostDoor, Stepped, finishes, reads, refuses, state_step, writes}
use Rattle.mpi_doorbell.specs.HostReset.{without}
use Rattle.mpi_doorbell.specs.HostSteps.{diagnostic_reset, unit_reset}
use Rattle.mpi_doorbell.specs.declared.registers.TheConstants.{DIAG_HOLD_IOC_RESET, DIAG_RESET_ADAPTER, DIAG_WRITE_ENABLE, DOORBELL, HOST_DIAGNOSTIC, HOST_INTERRUPT_STATUS, IOC_STATE_FAULT, IOC_STATE_MASK, IOC_STATE_OPERATIONAL, IOC_STATE_READY, SYS2IOC_DB_STATUS, WRITE_SEQUENCE}
use Rattle.mpi_doorbell.specs.declared.stage.Reading.TheVariants as reading
use Rattle.mpi_doorbell.specs.declared.stage.ResetKind.{ResetKind}
use Rattle.mpi_doorbell.specs.declared.stage.ResetKind.TheVariants as kind
use Rattle.mpi_doorbell.specs.declared.stage.Stage.TheVariants.{Awaits, Locks, Reads}
use Rattle.mpi_doorbell.specs.declared.step.DoorStep.TheVariants as step
use Rattle.mpt_trace.specs.declared.item.Down.TheVariants as down
use Rattle.mpt_rules.specs.Host.Doorbell.{DoorTurn, next_turn, turn_from, unit_reset_dword}
use Rattle.law_starts.proofs.Resetting.{TurnAt}

module _ (d : HostDoor) (v : ℕ) where
  abbrev TurnOf : Stepped → DoorTurn
  TurnOf s = turn_from 8 s.door s.step

  -- unlocked, it resets the adapter
  pub unlocked_turn : has v DIAG_WRITE_ENABLE ≡ true → TurnAt d v (Awaits reading.Unlocked) ≡ record { writes = down.Write HOST_DIAGNOSTIC (bit_or v DIAG_RESET_ADAPTER) ∷ []; door = record d { stage = Awaits reading.ResetOver }; step = step.Read HOST_DIAGNOSTIC }
  unfolding turn_from
  unlocked_turn e = ap (λ b. TurnOf (if b then writes d (Reads reading.ResetOver) HOST_DIAGNOSTIC (bit_or v DIAG_RESET_ADAPTER) else refuses d 21 v)) e

  -- it reads until RESET_ADAPTER is clear
  pub over_waits : has v DIAG_RESET_ADAPTER ≡ true → TurnAt d v (Awaits reading.ResetOver) ≡ record { writes = []; door = record d { stage = Awaits reading.ResetOver }; step = step.Read HOST_DIAGNOSTIC }
  unfolding turn_from
  over_waits e = ap (λ b. TurnOf (if b then reads d reading.ResetOver else writes d Locks HOST_DIAGNOSTIC (without v DIAG_HOLD_IOC_RESET))) e

  -- and then locks HostDiagnostic
  pub over_locks : has v DIAG_RESET_ADAPTER ≡ false
      → TurnAt d v (Awaits reading.ResetOver) ≡ record { writes = down.Write HOST_DIAGNOSTIC (without v DIAG_HOLD_IOC_RESET) ∷ down.Write WRITE_SEQUENCE 0 ∷ []; door = record d { stage = Awaits (reading.State kind.Diagnostic) }; step = step.Read DOORBELL }
  unfolding turn_from
  over_locks e = ap (λ b. TurnOf (if b then reads d reading.ResetOver else writes d Locks HOST_DIAGNOSTIC (without v DIAG_HOLD_IOC_RESET))) e

  -- a state that isn't READY is read again
  pub state_waits : (k : ResetKind) (reg : ℕ) → (TurnAt d v (Awaits (reading.State k))).step ≡ step.Read reg → TurnAt d v (Awaits (reading.State k)) ≡ record { writes = []; door = record d { stage = Awaits (reading.State k) }; step = step.Read DOORBELL }
  unfolding turn_from
  state_waits k reg e = by_tests (bit_and v IOC_STATE_MASK == IOC_STATE_READY) ((bit_and v IOC_STATE_MASK == IOC_STATE_FAULT) || (bit_and v IOC_STATE_MASK == IOC_STATE_OPERATIONAL)) e
    where
      by_tests : (a b : Bool) → (TurnOf (if a then finishes d [] else if b then refuses d (state_step k) v else reads d (reading.State k))).step ≡ step.Read reg
          → TurnOf (if a then finishes d [] else if b then refuses d (state_step k) v else reads d (reading.State k)) ≡ record { writes = []; door = record d { stage = Awaits (reading.State k) }; step = step.Read DOORBELL }
      by_tests true b e = let z : step.Done 0 _ ≡ step.Read reg = e in absurd (cc)
      by_tests false true e = let z : step.Refused (state_step k) v ≡ step.Read reg = e in absurd (cc)
      by_tests false false e = refl

  pub unit_waits : has v SYS2IOC_DB_STATUS ≡ true → TurnAt d v (Awaits reading.UnitReset) ≡ record { writes = []; door = record d { stage = Awaits reading.UnitReset }; step = step.Read HOST_INTERRUPT_STATUS }
  unfolding turn_from
  unit_waits e = ap (λ b. TurnOf (if b then reads d reading.UnitReset else reads d (reading.State kind.MessageUnit))) e

  pub unit_goes : has v SYS2IOC_DB_STATUS ≡ false → TurnAt d v (Awaits reading.UnitReset) ≡ record { writes = []; door = record d { stage = Awaits (reading.State kind.MessageUnit) }; step = step.Read DOORBELL }
  unfolding turn_from
  unit_goes e = ap (λ b. TurnOf (if b then reads d reading.UnitReset else reads d (reading.State kind.MessageUnit))) e

-- those that begin a reset
pub keys_turn : (next_turn diagnostic_reset None).door.stage ≡ Awaits reading.Unlocked
unfolding turn_from
keys_turn = refl

pub unit_turn : next_turn unit_reset None ≡ record { writes = down.Write DOORBELL unit_reset_dword ∷ []; door = record unit_reset { stage = Awaits reading.UnitReset }; step = step.Read HOST_INTERRUPT_STATUS }
unfolding turn_from
unit_turn = refl
