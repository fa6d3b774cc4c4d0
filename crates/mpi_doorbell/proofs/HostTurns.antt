-- The host waits for a value exactly after a read.
use Rattle.std.proofs.Common.{ℕ, ◌||◌, eqb, Option, Some, None, length, slice_get, bit_and, refl}
use Rattle.std.proofs.lemmas.Bool.{cond_both}
use Rattle.mpi_doorbell.specs.declared.registers.TheConstants.{IOC_STATE_MASK, IOC_STATE_READY, IOC_STATE_OPERATIONAL, IOC_STATE_FAULT, DOORBELL_USED, SYS2IOC_DB_STATUS, IOC2SYS_DB_STATUS, DIAG_WRITE_ENABLE, DIAG_RESET_ADAPTER}
use Rattle.mpi_doorbell.specs.declared.stage.Reading.{Reading}
use Rattle.mpi_doorbell.specs.declared.stage.Reading.TheVariants as reading
use Rattle.mpi_doorbell.specs.declared.stage.ResetKind.{ResetKind}
use Rattle.mpi_doorbell.specs.declared.stage.Stage.{Stage}
use Rattle.mpi_doorbell.specs.declared.stage.Stage.TheVariants.{Reads, Awaits, Opens, WritesKey, Locks, ResetsUnit, Finishes, Ended}
use Rattle.mpi_doorbell.specs.declared.step.DoorStep.{DoorStep}
use Rattle.mpi_doorbell.specs.declared.step.DoorStep.TheVariants.{Write, Read, Done, Refused}
use Rattle.mpi_doorbell.specs.Bytes.{has}
use Rattle.mpi_doorbell.specs.HostDoor.{HostDoor, Stepped}
use Rattle.mpi_doorbell.specs.HostHandshake.{hears_word, is_bad_length, is_whole, sends}
use Rattle.mpi_doorbell.specs.HostReset.{hears_state, reset_keys, writes_key_or_reads}
use Rattle.mpi_doorbell.specs.HostSteps.{Expects, ExpectsAfter, TakesTurn, acts, hears, hears_reading, next_step}

abbrev Turn : Stepped → Type 0
Turn s = TakesTurn s.door.stage s.step

sends_turn : (d : HostDoor) → Turn (sends d)
sends_turn d = cond_both (eqb (length d.unsent) 0) _ _ Turn (λ _. refl) (λ _. tt)

word_turn : (d : HostDoor) (value : ℕ) → Turn (hears_word d value)
word_turn d value =
    cond_both (is_whole d.reply) _ _ Turn
    (λ _. cond_both (has value DOORBELL_USED) _ _ Turn (λ _. refl) (λ _. tt))
    (λ _. cond_both (is_bad_length d.reply value) _ _ Turn (λ _. tt) (λ _. tt))

state_turn : (d : HostDoor) (kind : ResetKind) (value : ℕ) → Turn (hears_state d kind value)
state_turn d kind value =
    let state : ℕ = bit_and value IOC_STATE_MASK in
    cond_both (eqb state IOC_STATE_READY) _ _ Turn (λ _. tt)
    (λ _. cond_both (eqb state IOC_STATE_FAULT || eqb state IOC_STATE_OPERATIONAL) _ _ Turn (λ _. tt) (λ _. refl))

hears_turn : (d : HostDoor) (x : Reading) (value : ℕ) → Turn (hears_reading d x value)
hears_turn d reading.Used value = cond_both (has value DOORBELL_USED) _ _ Turn (λ _. tt) (λ _. refl)
hears_turn d reading.LeftOver value = cond_both (has value IOC2SYS_DB_STATUS) _ _ Turn (λ _. tt) (λ _. tt)
hears_turn d reading.Opened value = cond_both (has value IOC2SYS_DB_STATUS) _ _ Turn (λ _. tt) (λ _. refl)
hears_turn d reading.Taken value = cond_both (has value SYS2IOC_DB_STATUS) _ _ Turn (λ _. refl) (λ _. sends_turn d)
hears_turn d reading.News value = cond_both (has value IOC2SYS_DB_STATUS) _ _ Turn (λ _. refl) (λ _. refl)
hears_turn d reading.Word value = word_turn d value
hears_turn d reading.Unlocked value = cond_both (has value DIAG_WRITE_ENABLE) _ _ Turn (λ _. tt) (λ _. tt)
hears_turn d reading.ResetOver value = cond_both (has value DIAG_RESET_ADAPTER) _ _ Turn (λ _. refl) (λ _. tt)
hears_turn d (reading.State kind) value = state_turn d kind value
hears_turn d reading.UnitReset value = cond_both (has value SYS2IOC_DB_STATUS) _ _ Turn (λ _. refl) (λ _. refl)
hears_turn d reading.Doorbell value = tt

key_turn : (d : HostDoor) (place : ℕ) (key : Option ℕ) → Turn (writes_key_or_reads d place key)
key_turn d place (Some key) = tt
key_turn d place None = refl

pub acts_turn : (d : HostDoor) (s : Stage) → Expects s None → Turn (acts d s)
acts_turn d (Reads x) e = refl
acts_turn d (Awaits x) e = absurd e
acts_turn d Opens e = tt
acts_turn d (WritesKey place) e = key_turn d place (slice_get reset_keys place)
acts_turn d Locks e = tt
acts_turn d ResetsUnit e = tt
acts_turn d Finishes e = tt
acts_turn d Ended e = absurd e

pub value_turn : (d : HostDoor) (s : Stage) (value : ℕ) → Expects s (Some value) → Turn (hears d s value)
value_turn d (Awaits x) value e = hears_turn d x value
value_turn d (Reads x) value e = absurd e
value_turn d Opens value e = absurd e
value_turn d (WritesKey place) value e = absurd e
value_turn d Locks value e = absurd e
value_turn d ResetsUnit value e = absurd e
value_turn d Finishes value e = absurd e
value_turn d Ended value e = absurd e

pub takes_turn : (d : HostDoor) (value : Option ℕ) → Expects d.stage value → TakesTurn (next_step d value).door.stage (next_step d value).step
takes_turn d None e = acts_turn d d.stage e
takes_turn d (Some value) e = value_turn d d.stage value e

-- what is expected after a step that takes its turn
pub expects_after : (s : Stage) (step : DoorStep) → TakesTurn s step → ExpectsAfter s step
expects_after (Reads x) (Read reg) t = absurd t
expects_after (Reads x) (Write reg value) t = tt
expects_after (Reads x) (Done count bytes) t = tt
expects_after (Reads x) (Refused n value) t = tt
expects_after (Awaits x) (Read reg) t = λ value. tt
expects_after (Awaits x) (Write reg value) t = absurd (cc)
expects_after (Awaits x) (Done count bytes) t = tt
expects_after (Awaits x) (Refused n value) t = tt
expects_after Opens (Read reg) t = absurd t
expects_after Opens (Write reg value) t = tt
expects_after Opens (Done count bytes) t = tt
expects_after Opens (Refused n value) t = tt
expects_after (WritesKey place) (Read reg) t = absurd t
expects_after (WritesKey place) (Write reg value) t = tt
expects_after (WritesKey place) (Done count bytes) t = tt
expects_after (WritesKey place) (Refused n value) t = tt
expects_after Locks (Read reg) t = absurd t
expects_after Locks (Write reg value) t = tt
expects_after Locks (Done count bytes) t = tt
expects_after Locks (Refused n value) t = tt
expects_after ResetsUnit (Read reg) t = absurd t
expects_after ResetsUnit (Write reg value) t = tt
expects_after ResetsUnit (Done count bytes) t = tt
expects_after ResetsUnit (Refused n value) t = tt
expects_after Finishes (Read reg) t = absurd t
expects_after Finishes (Write reg value) t = tt
expects_after Finishes (Done count bytes) t = tt
expects_after Finishes (Refused n value) t = tt
expects_after Ended (Read reg) t = absurd t
expects_after Ended (Write reg value) t = absurd t
expects_after Ended (Done count bytes) t = tt
expects_after Ended (Refused n value) t = tt
