-- What a chosen step leaves, by its answer.
use Rattle.std.specs.Prelude.{◌≡◌, Bool, IsSome, Option, None, Result, Ok, Err, is_some}
use Rattle.mpt_trace.specs.declared.choice.Choice.{Choice}
use Rattle.mpt_rules.specs.Outcome.{Happening}
use Rattle.mpt_rules.specs.World.Cases.{Chosen, case_of}
use Rattle.mpt_rules.specs.World.Drain.{moves_if}
use Rattle.mpt_rules.specs.World.Moves.{moves}
use Rattle.mpt_rules.specs.World.State.{World}
use Rattle.mpt_system.specs.declared.faults.StepFault.{StepFault}
use Rattle.mpt_system.specs.declared.faults.StepFault.TheVariants as fault
use Rattle.mpt_system.specs.Whole.{Halted, Whole, after}

-- what was tried had this outcome, or none: whether it had one is answered, and where it had none nothing happened
abbrev pub HasTried : {E : Type 0} → Whole → Option (Happening World) → Result Bool E → Whole → Type 0
HasTried old outcome (Ok moved) new = (moved ≡ is_some outcome) × (new ≡ after old (moves_if old.world outcome))
HasTried old outcome (Err error) new = Halted old (moves_if old.world outcome) new

-- a chosen step: Ok where the choice had something to take, and Idle exactly where it had nothing, which is entered
abbrev pub HasStepped : {A : Type 0} → Whole → Choice → Result A StepFault → Whole → Type 0
HasStepped old choice (Ok moved) new = IsSome (moves old.world choice) × (new ≡ after old (case_of old.world (Chosen choice)))
HasStepped old choice (Err fault.Idle) new = (moves old.world choice ≡ None) × (new ≡ after old (case_of old.world (Chosen choice)))
HasStepped old choice (Err fault.OutOfMemory) new = Halted old (case_of old.world (Chosen choice)) new
