-- The host's machine at the doorbell.
use Rattle.std.specs.Prelude.{ℕ, Option, Some, None}
use Rattle.mpi_doorbell.specs.HostDoor.{HostDoor}
use Rattle.mpi_doorbell.specs.HostSteps.{Expects}

-- the machine waits for a value
abbrev pub Awaits : HostDoor → Type 0
Awaits door = (value : ℕ) → Expects door.stage (Some value)

-- it does where there is one
abbrev pub AwaitsIfThere : Option HostDoor → Type 0
AwaitsIfThere None = Unit {0}
AwaitsIfThere (Some door) = Awaits door
