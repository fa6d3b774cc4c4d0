-- What the host does with a value and a mark, and as it begins at the doorbell, to how many numbers and target resets are open.
use Rattle.std.proofs.Common.{◌≡◌, ℕ, ◌==◌, ◌&&◌, Bool, true, false, if◌then◌else◌, List, [], ◌∷◌, take, Option, Some, None, refl}
use Rattle.std.specs.List.{fold, range_with_len}
use Rattle.mpi_doorbell.specs.HostDoor.{HostDoor}
use Rattle.mpi_doorbell.specs.HostSteps.{diagnostic_reset, unit_reset}
use Rattle.mpi_doorbell.specs.declared.registers.TheConstants.{IOC_STATE_FAULT, IOC_STATE_OPERATIONAL, IOC_STATE_READY}
use Rattle.mpi_doorbell.specs.declared.step.DoorStep.{DoorStep}
use Rattle.mpi_doorbell.specs.declared.step.DoorStep.TheVariants as step
use Rattle.mpt_messages.specs.declared.host_ask.HostAsk.{HostAsk}
use Rattle.mpt_messages.specs.declared.host_ask.HostAsk.TheVariants as ask
use Rattle.mpt_rules.specs.declared.request.Request.TheVariants as request
use Rattle.mpt_rules.specs.declared.stage.Stage.{Stage}
use Rattle.mpt_rules.specs.declared.stage.Stage.TheVariants as stage
use Rattle.mpt_rules.specs.Host.Doorbell as door
use Rattle.mpt_rules.specs.Host.Parts.{Host}
use Rattle.mpt_rules.specs.Host.Removal as removal
use Rattle.mpt_rules.specs.Host.Resets as resets
use Rattle.mpt_rules.specs.Host.Returns as returns
use Rattle.mpt_rules.specs.Host.Values as values
use Rattle.mpt_rules.specs.Outcome.{Happening}
use Rattle.law_numbers.proofs.Tally.{Alike, alike, alike_then}
use Rattle.law_numbers.proofs.TallyCalls.{asks_internal}
use Rattle.mpt_trace.specs.declared.host_state.HostState.TheVariants as state

-- ---- machines begin and go on

stepped : (x : Host) (d : HostDoor) (s : DoorStep) → Alike x (door.puts_step x d s)
stepped x d (step.Read reg) = alike x (door.puts_read x d reg) refl refl
stepped x d (step.Write reg value) = alike x (door.rests x) refl refl
stepped x d (step.Done count bytes) = alike x (door.rests x) refl refl
stepped x d (step.Refused at value) = alike x (door.rests x) refl refl

pub turned : (x : Host) (d : HostDoor) (v : Option ℕ) → Alike x (door.puts_turn x (door.next_turn d v))
turned x d v =
    let t = door.next_turn d v in
    let y = door.puts_writes x t.writes in
    alike_then x y (door.puts_step y t.door t.step) (alike x y refl refl) (stepped y t.door t.step)

pub begun : (x : Host) (s : Stage) (d : HostDoor) → Alike x (door.begins x s d)
begun x s d = let y : Host = record x { stage = s } in alike_then x y (door.begins x s d) (alike x y refl refl) (turned y d None)

shaken : (x : Host) (s : Stage) (a : HostAsk) → Alike x (door.begins_handshake x s a)
shaken x s a = begun x s (Rattle.mpi_doorbell.specs.HostSteps.handshake_of_message (Rattle.mpt_messages.specs.FrameBytes.message_bytes (Rattle.mpt_messages.specs.HostFrames.host_message a)))

starts_by : (x : Host) (n : ℕ) → Alike x (values.starts_by x n)
starts_by x n = by_tests (n == IOC_STATE_READY) (n == IOC_STATE_OPERATIONAL) (n == IOC_STATE_FAULT)
  where
    by_tests : (a b c : Bool) → Alike x (if a then door.begins_facts x else if b then door.begins x stage.StartReset unit_reset else if c then door.begins x stage.StartReset diagnostic_reset else values.looks_to_start x)
    by_tests true b c = shaken x stage.Facts ask.Facts
    by_tests false true c = begun x stage.StartReset unit_reset
    by_tests false false true = begun x stage.StartReset diagnostic_reset
    by_tests false false false = begun x stage.Start Rattle.mpi_doorbell.specs.HostSteps.look_at_doorbell

returned : (x : Host) (ns : List ℕ) → Alike x (fold returns.with_return x ns)
returned x [] = alike x x refl refl
returned x (n ∷ ns) = let y = returns.with_return x n in alike_then x y (fold returns.with_return y ns) (alike x y refl refl) (returned y ns)

-- ---- what a value and a mark lead to

pub data Ended (x : Host) (o : Happening Host) : Type 0 where
  Quiet : o.entries ≡ [] → Alike x o.part → Ended x o
  Over : (k : Host) → Alike x k → o ≡ resets.ends_reset k → Ended x o

quiet_end : (x y : Host) → Alike x y → Ended x (removal.quietly y)
quiet_end x y l = Quiet refl l

over_if : (x k : Host) → Alike x k → Ended x (resets.ends_reset_if_over k)
over_if x k l = by_test (k.door_ready && resets.has_all_marks k)
  where
    by_test : (b : Bool) → Ended x (if b then resets.ends_reset k else record { part = k; entries = [] })
    by_test true = Over k l refl
    by_test false = Quiet refl l

ends_stage : (x y : Host) (s : Stage) (bytes : List ℕ) → Alike x y → Ended x (values.ends_stage y s bytes)
ends_stage x y stage.Idle bytes l = quiet_end x y l
ends_stage x y stage.Start bytes l = let z = values.starts_by y (values.state_read bytes) in quiet_end x z (alike_then x y z l (starts_by y (values.state_read bytes)))
ends_stage x y stage.StartReset bytes l = let z = door.begins_facts y in quiet_end x z (alike_then x y z l (shaken y stage.Facts ask.Facts))
ends_stage x y stage.Facts bytes l = let z = door.begins_port_facts y in quiet_end x z (alike_then x y z l (shaken y stage.PortFacts ask.PortFacts))
ends_stage x y stage.PortFacts bytes l = let z = door.begins_init y in quiet_end x z (alike_then x y z l (shaken y stage.Init (ask.Init (Rattle.mpt_rules.specs.Host.Parts.host_queue_count y))))
ends_stage x y stage.Init bytes l =
    let z = returns.returns_all y in
    let a = values.begins_messages y in
    quiet_end x a (alike_then x y a l (alike_then y z a (returned y (range_with_len 0 returns.reply_frame_count)) (asks_internal z request.Notification)))
ends_stage x y stage.Look bytes l = quiet_end x y l
ends_stage x y stage.DiagnosticReset bytes l = let z : Host = record y { door_ready = true } in over_if x z (alike_then x y z l (alike y z refl refl))
ends_stage x y stage.UnitReset bytes l = let z : Host = record y { door_ready = true } in over_if x z (alike_then x y z l (alike y z refl refl))

after_turn : (x y : Host) (s : Stage) (d : DoorStep) → Alike x y → Ended x (values.after_turn y s d)
after_turn x y s (step.Done count bytes) l = ends_stage x y s (take count bytes) l
after_turn x y s (step.Read reg) l = quiet_end x y l
after_turn x y s (step.Write reg value) l = quiet_end x y l
after_turn x y s (step.Refused at value) l = quiet_end x y l

begins_late : (x : Host) (s : Stage) → Alike x (resets.begins_late x s)
begins_late x stage.DiagnosticReset = begun x stage.DiagnosticReset diagnostic_reset
begins_late x stage.UnitReset = begun x stage.UnitReset unit_reset
begins_late x stage.Idle = alike x x refl refl
begins_late x stage.Start = alike x x refl refl
begins_late x stage.StartReset = alike x x refl refl
begins_late x stage.Facts = alike x x refl refl
begins_late x stage.PortFacts = alike x x refl refl
begins_late x stage.Init = alike x x refl refl
begins_late x stage.Look = alike x x refl refl

value_at : (x y : Host) (o : Option HostDoor) (v : ℕ) → Alike x y → Ended x (values.hears_value_at y o v)
value_at x y None v l = let z = resets.begins_late y y.stage in quiet_end x z (alike_then x y z l (begins_late y y.stage))
value_at x y (Some d) v l = let t = door.next_turn d (Some v) in let z = door.puts_turn y t in after_turn x z y.stage t.step (alike_then x y z l (turned y d (Some v)))

pub value_ends : (x : Host) (v : ℕ) → Ended x (values.hears_value x v)
value_ends x v = let y : Host = record x { reading = false } in value_at x y x.machine v (alike x y refl refl)

pub mark_ends : (x : Host) (queue : ℕ) → Ended x (resets.hears_mark x queue)
mark_ends x queue = let y : Host = record x { marks = Rattle.std.specs.Prelude.slice_set x.marks queue true } in over_if x y (alike x y refl refl)

-- ---- a reset is asked

given_up : (x : Host) (s : Stage) → Alike (record x { mode = state.Resetting }) (resets.gives_up x s)
given_up x s = alike (record x { mode = state.Resetting }) (resets.gives_up x s) refl refl

pub reset_asked : (x : Host) (s : Stage) (d : HostDoor) → Alike (record x { mode = state.Resetting }) (resets.with_reset_asked x s d)
reset_asked x s d = by_read x.reading
  where
    by_read : (b : Bool) → Alike (record x { mode = state.Resetting }) (if b then resets.gives_up x s else door.begins (resets.gives_up x s) s d)
    by_read true = given_up x s
    by_read false = let y = resets.gives_up x s in alike_then (record x { mode = state.Resetting }) y (door.begins y s d) (given_up x s) (begun y s d)

pub facts_begin : (x : Host) → Alike x (door.begins_facts x)
facts_begin x = shaken x stage.Facts ask.Facts
