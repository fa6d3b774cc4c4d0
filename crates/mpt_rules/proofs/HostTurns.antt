-- A turn of the machine at the doorbell ends: after at most eight writes it reads or is done.
use Rattle.std.specs.Prelude.{ℕ, zero, suc, Bool, true, false, ◌==◌, ◌||◌, if◌then◌else◌, [], length, drop, bit_and, bit_or, Option, Some, None}
use Rattle.byteorder.specs.Endian.{little_number}
use Rattle.mpi_doorbell.specs.Bytes.{has}
use Rattle.mpi_doorbell.specs.declared.registers.TheConstants.{DOORBELL, HOST_DIAGNOSTIC, HOST_INTERRUPT_STATUS, DOORBELL_USED, IOC_STATE_MASK, IOC_STATE_READY, IOC_STATE_OPERATIONAL, IOC_STATE_FAULT, DIAG_WRITE_ENABLE, DIAG_RESET_ADAPTER, DIAG_HOLD_IOC_RESET, SYS2IOC_DB_STATUS, IOC2SYS_DB_STATUS}
use Rattle.mpi_doorbell.specs.declared.stage.Reading.{Reading}
use Rattle.mpi_doorbell.specs.declared.stage.Reading.TheVariants as reading
use Rattle.mpi_doorbell.specs.declared.stage.ResetKind.{ResetKind}
use Rattle.mpi_doorbell.specs.declared.stage.ResetKind.TheVariants.{MessageUnit}
use Rattle.mpi_doorbell.specs.declared.stage.Stage.{Stage}
use Rattle.mpi_doorbell.specs.declared.stage.Stage.TheVariants.{Reads, Awaits, Opens, WritesKey, Locks, ResetsUnit, Finishes, Ended}
use Rattle.mpi_doorbell.specs.declared.step.DoorStep.{DoorStep}
use Rattle.mpi_doorbell.specs.declared.step.DoorStep.TheVariants as step
use Rattle.mpi_doorbell.specs.HostDoor.{HostDoor, Stepped, finishes, reads, refuses, state_step, writes}
use Rattle.mpi_doorbell.specs.HostHandshake.{hears_end, is_bad_length, is_whole, opens, sends, takes_word, with_word}
use Rattle.mpi_doorbell.specs.HostReset.{hears_state, without, writes_key}
use Rattle.mpi_doorbell.specs.HostSteps.{acts, hears, hears_reading}
use Rattle.mpt_rules.specs.Host.Doorbell.{turn_from, most_writes, next_turn}

-- the step is no write
abbrev pub IsNoWrite : DoorStep → Type 0
IsNoWrite (step.Write reg value) = ⊥
IsNoWrite (step.Read reg) = Unit {0}
IsNoWrite (step.Done count bytes) = Unit {0}
IsNoWrite (step.Refused at value) = Unit {0}

-- the turn from here on ends
abbrev pub Ends : Stepped → Type 0
Ends s = IsNoWrite (turn_from most_writes s.door s.step).step

ends_if : (b : Bool) (s t : Stepped) → Ends s → Ends t → Ends (if b then s else t)
ends_if true s t p q = p
ends_if false s t p q = q

-- the keys: from each place on, and with none left
key_ends : (d : HostDoor) (place : ℕ) → Ends (writes_key d place)
unfolding turn_from
key_ends d zero = tt
key_ends d (suc zero) = tt
key_ends d (suc (suc zero)) = tt
key_ends d (suc (suc (suc zero))) = tt
key_ends d (suc (suc (suc (suc zero)))) = tt
key_ends d (suc (suc (suc (suc (suc zero))))) = tt
key_ends d (suc (suc (suc (suc (suc (suc zero)))))) = tt
key_ends d (suc (suc (suc (suc (suc (suc (suc place))))))) = tt

acts_ends : (d : HostDoor) (stage : Stage) → Ends (acts d stage)
unfolding turn_from
acts_ends d (Reads x) = tt
acts_ends d (Awaits x) = tt
acts_ends d Opens = tt
acts_ends d (WritesKey place) = key_ends d place
acts_ends d Locks = tt
acts_ends d ResetsUnit = tt
acts_ends d Finishes = tt
acts_ends d Ended = tt

sends_ends : (d : HostDoor) → Ends (sends d)
unfolding turn_from
sends_ends d = ends_if (length d.unsent == 0) (reads d reading.News) (writes (record d { unsent = drop 4 d.unsent }) (Reads reading.Taken) DOORBELL (little_number 4 d.unsent)) tt tt

word_ends : (d : HostDoor) (value : ℕ) → Ends (takes_word d value)
unfolding turn_from
word_ends d value = ends_if (is_bad_length d.reply value) (refuses d 6 value) (writes (with_word d value) (Reads reading.News) HOST_INTERRUPT_STATUS 0) tt tt

end_ends : (d : HostDoor) (value : ℕ) → Ends (hears_end d value)
unfolding turn_from
end_ends d value = ends_if (has value DOORBELL_USED) (reads d reading.Word) (writes d Finishes HOST_INTERRUPT_STATUS 0) tt tt

state_ends : (d : HostDoor) (kind : ResetKind) (value : ℕ) → Ends (hears_state d kind value)
unfolding turn_from
state_ends d kind value =
    let state : ℕ = bit_and value IOC_STATE_MASK in
    let failed : Bool = (state == IOC_STATE_FAULT) || (state == IOC_STATE_OPERATIONAL) in
    ends_if (state == IOC_STATE_READY) (finishes d []) (if failed then refuses d (state_step kind) value else reads d (reading.State kind)) tt
    (ends_if failed (refuses d (state_step kind) value) (reads d (reading.State kind)) tt tt)

reading_ends : (d : HostDoor) (x : Reading) (value : ℕ) → Ends (hears_reading d x value)
unfolding turn_from
reading_ends d reading.Used value = ends_if (has value DOORBELL_USED) (refuses d 1 value) (reads d reading.LeftOver) tt tt
reading_ends d reading.LeftOver value = ends_if (has value IOC2SYS_DB_STATUS) (writes d Opens HOST_INTERRUPT_STATUS 0) (opens d) tt tt
reading_ends d reading.Opened value = ends_if (has value IOC2SYS_DB_STATUS) (writes d (Reads reading.Taken) HOST_INTERRUPT_STATUS 0) (reads d reading.Opened) tt tt
reading_ends d reading.Taken value = ends_if (has value SYS2IOC_DB_STATUS) (reads d reading.Taken) (sends d) tt (sends_ends d)
reading_ends d reading.News value = ends_if (has value IOC2SYS_DB_STATUS) (reads d reading.Word) (reads d reading.News) tt tt
reading_ends d reading.Word value = ends_if (is_whole d.reply) (hears_end d value) (takes_word d value) (end_ends d value) (word_ends d value)
reading_ends d reading.Unlocked value = ends_if (has value DIAG_WRITE_ENABLE) (writes d (Reads reading.ResetOver) HOST_DIAGNOSTIC (bit_or value DIAG_RESET_ADAPTER)) (refuses d 21 value) tt tt
reading_ends d reading.ResetOver value = ends_if (has value DIAG_RESET_ADAPTER) (reads d reading.ResetOver) (writes d Locks HOST_DIAGNOSTIC (without value DIAG_HOLD_IOC_RESET)) tt tt
reading_ends d (reading.State kind) value = state_ends d kind value
reading_ends d reading.UnitReset value = ends_if (has value SYS2IOC_DB_STATUS) (reads d reading.UnitReset) (reads d (reading.State MessageUnit)) tt tt
reading_ends d reading.Doorbell value = tt

hears_ends : (d : HostDoor) (stage : Stage) (value : ℕ) → Ends (hears d stage value)
unfolding turn_from
hears_ends d (Awaits x) value = reading_ends d x value
hears_ends d (Reads x) value = tt
hears_ends d Opens value = tt
hears_ends d (WritesKey place) value = tt
hears_ends d Locks value = tt
hears_ends d ResetsUnit value = tt
hears_ends d Finishes value = tt
hears_ends d Ended value = tt

-- whatever the machine and the value, the turn ends
pub turn_ends : (d : HostDoor) (value : Option ℕ) → IsNoWrite (next_turn d value).step
turn_ends d None = acts_ends d d.stage
turn_ends d (Some value) = hears_ends d d.stage value
