-- How many bytes the doorbell's messages have.
use Rattle.std.specs.Prelude.{◌≤◌}
use Rattle.mpi_doorbell.specs.declared.effect.Effect.{Effect}
use Rattle.mpi_doorbell.specs.declared.effect.Effect.TheVariants as effect
use Rattle.mpi_doorbell.specs.declared.step.DoorStep.{DoorStep}
use Rattle.mpi_doorbell.specs.declared.step.DoorStep.TheVariants.{Write, Read, Done, Refused}

-- a message that is asked has 4 to 128 bytes
abbrev pub IsAskedWithin : Effect → Type 0
IsAskedWithin effect.None = Unit {0}
IsAskedWithin (effect.Asked count bytes) = (4 ≤ count) × (count ≤ 128)
IsAskedWithin effect.UnitReset = Unit {0}
IsAskedWithin effect.AdapterReset = Unit {0}
IsAskedWithin (effect.Fault code) = Unit {0}

-- what the host is done with has at most 128 bytes
abbrev pub IsDoneWithin : DoorStep → Type 0
IsDoneWithin (Write reg value) = Unit {0}
IsDoneWithin (Read reg) = Unit {0}
IsDoneWithin (Done count bytes) = count ≤ 128
IsDoneWithin (Refused step value) = Unit {0}
