-- The phases of the handles of disks, by rising handle.
use Rattle.std.specs.Prelude.{ℕ, ◌+◌, ◌-◌, ◌≤◌, List, replicate, position, slice_index_or, slice_set}
use Rattle.std.specs.Option.{option_map}
use Rattle.std.specs.declared.option.Option.{Option}
use Rattle.mpi_names.specs.declared.handle.TheConstants.{DISK_HANDLES, FIRST_DISK_HANDLE, LAST_DISK_HANDLE}
use Rattle.removal.specs.declared.phase.Phase.{Phase}
use Rattle.removal.specs.declared.phase.Phase.TheVariants as phase
use Rattle.removal.specs.Phases.{is_ready_at}

-- a handle that the table has
abbrev pub IsHandle : ℕ → Type 0
IsHandle handle = (FIRST_DISK_HANDLE ≤ handle) × (handle ≤ LAST_DISK_HANDLE)

abbrev pub all_absent : List Phase
all_absent = replicate DISK_HANDLES phase.Absent

abbrev pub phase_at : List Phase → ℕ → Phase
phase_at phases handle = slice_index_or phases (handle - FIRST_DISK_HANDLE) phase.Absent

abbrev pub with_phase : List Phase → ℕ → Phase → List Phase
with_phase phases handle p = slice_set phases (handle - FIRST_DISK_HANDLE) p

-- the least handle whose device has this address and is ready
abbrev pub ready_handle : List Phase → ℕ → Option ℕ
ready_handle phases address = option_map (λ place. FIRST_DISK_HANDLE + place) (position (is_ready_at address) phases)
