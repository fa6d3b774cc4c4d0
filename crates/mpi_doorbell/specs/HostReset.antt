-- The host's two resets, by the steps of its table.
use Rattle.std.specs.Prelude.{ℕ, ◌*◌, ◌+◌, ◌-◌, ◌^◌, ◌||◌, ◌==◌, if◌then◌else◌, List, [], ◌∷◌, slice_get, bit_and, bit_or, Option, Some, None}
use Rattle.mpi_doorbell.specs.declared.registers.TheConstants.{DOORBELL, WRITE_SEQUENCE, HOST_DIAGNOSTIC, DOORBELL_FUNCTION_SHIFT, FUNCTION_MESSAGE_UNIT_RESET, IOC_STATE_MASK, IOC_STATE_READY, IOC_STATE_OPERATIONAL, IOC_STATE_FAULT, DIAG_WRITE_ENABLE, DIAG_RESET_ADAPTER, DIAG_HOLD_IOC_RESET, SYS2IOC_DB_STATUS}
use Rattle.mpi_doorbell.specs.declared.stage.Reading.TheVariants.{Unlocked, ResetOver, State, UnitReset}
use Rattle.mpi_doorbell.specs.declared.stage.ResetKind.{ResetKind}
use Rattle.mpi_doorbell.specs.declared.stage.ResetKind.TheVariants.{Diagnostic, MessageUnit}
use Rattle.mpi_doorbell.specs.declared.stage.Stage.TheVariants.{Reads, WritesKey, Locks}
use Rattle.mpi_doorbell.specs.Bytes.{has}
use Rattle.mpi_doorbell.specs.Keys.{unlock_keys}
use Rattle.mpi_doorbell.specs.HostDoor.{HostDoor, Stepped, reads, writes, refuses, finishes, state_step}

-- step 20: a 0, which begins anew, and the keys that unlock HostDiagnostic
abbrev pub reset_keys : List ℕ
reset_keys = 0 ∷ unlock_keys

abbrev pub writes_key_or_reads : HostDoor → ℕ → Option ℕ → Stepped
writes_key_or_reads d place (Some key) = writes d (WritesKey (place + 1)) WRITE_SEQUENCE key
writes_key_or_reads d place None = reads d Unlocked

abbrev pub writes_key : HostDoor → ℕ → Stepped
writes_key d place = writes_key_or_reads d place (slice_get reset_keys place)

-- steps 21 and 22: where HostDiagnostic is unlocked, RESET_ADAPTER is written beside what was read
abbrev pub hears_unlocked : HostDoor → ℕ → Stepped
hears_unlocked d value =
    if has value DIAG_WRITE_ENABLE then writes d (Reads ResetOver) HOST_DIAGNOSTIC (bit_or value DIAG_RESET_ADAPTER)
    else refuses d 21 value

-- a 32-bit value without these bits
abbrev pub without : ℕ → ℕ → ℕ
without value bits = bit_and value (2 ^ 32 - 1 - bits)

-- steps 23 and 24: until RESET_ADAPTER is clear; then HOLD_IOC_RESET is cleared
abbrev pub hears_reset_over : HostDoor → ℕ → Stepped
hears_reset_over d value =
    if has value DIAG_RESET_ADAPTER then reads d ResetOver
    else writes d Locks HOST_DIAGNOSTIC (without value DIAG_HOLD_IOC_RESET)

-- step 24: HostDiagnostic is locked again
abbrev pub locks : HostDoor → Stepped
locks d = writes d (Reads (State Diagnostic)) WRITE_SEQUENCE 0

-- steps 25 and 31: until the state is READY; FAULT and OPERATIONAL are refused
abbrev pub hears_state : HostDoor → ResetKind → ℕ → Stepped
hears_state d kind value =
    let state : ℕ = bit_and value IOC_STATE_MASK in
    if state == IOC_STATE_READY then finishes d [] else
    if (state == IOC_STATE_FAULT) || (state == IOC_STATE_OPERATIONAL) then refuses d (state_step kind) value
    else reads d (State kind)

-- step 30
abbrev pub resets_unit : HostDoor → Stepped
resets_unit d = writes d (Reads UnitReset) DOORBELL (FUNCTION_MESSAGE_UNIT_RESET * 2 ^ DOORBELL_FUNCTION_SHIFT)

-- step 30: until SYS2IOC is clear
abbrev pub hears_unit_reset : HostDoor → ℕ → Stepped
hears_unit_reset d value = if has value SYS2IOC_DB_STATUS then reads d UnitReset else reads d (State MessageUnit)
