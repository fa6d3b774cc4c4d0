-- The calls of the machine of disks, and the causes for which each is refused, in their order.
use Rattle.std.specs.Prelude.{ℕ, ◌+◌, ◌==◌, ◌&&◌, ◌||◌, not, nat_le, Bool, true, false, is_none, is_some, if◌then◌else◌, Option, Some, None}
use Rattle.std.specs.List.{list_any}
use Rattle.std.specs.FinMap as finmap
use Rattle.std.specs.FinSet as set
use Rattle.mpi_names.specs.declared.limit.TheConstants.{MAX_PLUGS}
use Rattle.mpi_names.specs.declared.smid.TheConstants.{HIGH_PRIORITY_SMIDS, SCSI_IO_SMIDS}
use Rattle.scsi_disk.specs.Command.{fits}
use Rattle.scsi_disk.specs.declared.command.Command.{Command}
use Rattle.mpt_trace.specs.declared.host_state.HostState.{HostState}
use Rattle.mpt_trace.specs.declared.host_state.HostState.TheVariants as state
use Rattle.mpt_trace.specs.declared.refusal.Refusal.{Refusal}
use Rattle.mpt_trace.specs.declared.refusal.Refusal.TheVariants as refusal
use Rattle.mpt_wire.specs.Machine.State.{Machine, Place, place_of, plugs_of}

-- what may be refused: calls of the host, then of the fabric
pub data Call : Type 0 where
  Start : Call
  Submit : (number address : ℕ) (command : Command) → Call
  Abort : (number : ℕ) → Call
  TargetReset : (address : ℕ) → Call
  Reset : Call
  UnitReset : Call
  Plug : (address : ℕ) (place : Place) → Call
  Unplug : (address : ℕ) → Call

-- ---- what a cause says

abbrev pub is_off : HostState → Bool
is_off state.Off = true
is_off _ = false

abbrev pub is_up : HostState → Bool
is_up state.Up = true
is_up _ = false

abbrev pub is_resetting : HostState → Bool
is_resetting state.Resetting = true
is_resetting _ = false

-- a request of the number is open
abbrev pub is_open : Machine → ℕ → Bool
is_open m n = finmap.contains_key m.requests n

-- the number was accepted before
abbrev pub is_used : Machine → ℕ → Bool
is_used m n = is_open m n || set.contains m.closed n

-- the address is one of a disk that is ready
abbrev pub has_device : Machine → ℕ → Bool
has_device m a = is_some (m.ready a) && is_some (m.disks a)

-- the numbers of identifiers of SCSI IO and of high priority requests
abbrev pub scsi_io_identifiers : ℕ
scsi_io_identifiers = SCSI_IO_SMIDS

abbrev pub high_priority_identifiers : ℕ
high_priority_identifiers = HIGH_PRIORITY_SMIDS

-- the open requests, and the answered ones that an open abort names, have all identifiers
abbrev pub is_full : Machine → Bool
is_full m = finmap.len m.requests + set.len (set.intersection m.aborts m.closed) == scsi_io_identifiers

-- the open aborts, the open target resets and the departures have all identifiers
abbrev pub is_high_full : Machine → Bool
is_high_full m = nat_le high_priority_identifiers (set.len m.aborts + m.all_resets + m.leaving)

-- it is this phy of this expander
abbrev pub same_place : Place → Place → Bool
same_place p q = p.expander == q.expander && p.phy == q.phy

abbrev pub stands_in : Place → Option Place → Bool
stands_in place None = false
stands_in place (Some p) = same_place p place

-- a disk is at the phy
abbrev pub has_disk_at : Machine → Place → Bool
has_disk_at m place = list_any (λ a. stands_in place (place_of (m.disks a))) m.addresses

-- a disk may be plugged so often
abbrev pub most_plugs : ℕ
most_plugs = MAX_PLUGS

-- ---- the first cause that holds

abbrev pub cause_of_start : Machine → Option Refusal
cause_of_start m = if is_off m.mode then None else Some refusal.AlreadyStarted

abbrev pub cause_of_submit : Machine → ℕ → ℕ → Command → Option Refusal
cause_of_submit m n a command =
    if is_used m n then Some refusal.NumberUsed
    else if not (is_up m.mode) then Some refusal.NotOperational
    else if not (has_device m a) then Some refusal.NoDevice
    else if not (fits command) then Some refusal.BadLength
    else if is_full m then Some refusal.NoIdentifier
    else None

abbrev pub cause_of_abort : Machine → ℕ → Option Refusal
cause_of_abort m n =
    if not (is_up m.mode) then Some refusal.NotOperational
    else if not (is_open m n) then Some refusal.NotOpen
    else if set.contains m.aborts n then Some refusal.AbortOpen
    else if is_high_full m then Some refusal.NoIdentifier
    else None

abbrev pub cause_of_target_reset : Machine → ℕ → Option Refusal
cause_of_target_reset m a =
    if not (is_up m.mode) then Some refusal.NotOperational
    else if not (has_device m a) then Some refusal.NoDevice
    else if is_high_full m then Some refusal.NoIdentifier
    else None

abbrev pub cause_of_reset : Machine → Option Refusal
cause_of_reset m =
    if is_off m.mode then Some refusal.NotStarted
    else if is_resetting m.mode then Some refusal.AlreadyResetting
    else None

abbrev pub cause_of_unit_reset : Machine → Option Refusal
cause_of_unit_reset m = if is_up m.mode then None else Some refusal.NotOperational

abbrev pub cause_of_plug : Machine → ℕ → Place → Option Refusal
cause_of_plug m a place =
    if has_disk_at m place then Some refusal.Occupied
    else if is_some (place_of (m.disks a)) then Some refusal.AlreadyPlugged
    else if plugs_of (m.disks a) == most_plugs then Some refusal.PlugsSpent
    else None

abbrev pub cause_of_unplug : Machine → ℕ → Option Refusal
cause_of_unplug m a = if is_none (place_of (m.disks a)) then Some refusal.NotPlugged else None

-- the first cause for which the call is refused, if one holds
abbrev pub first_cause : Machine → Call → Option Refusal
first_cause m Start = cause_of_start m
first_cause m (Submit n a command) = cause_of_submit m n a command
first_cause m (Abort n) = cause_of_abort m n
first_cause m (TargetReset a) = cause_of_target_reset m a
first_cause m Reset = cause_of_reset m
first_cause m UnitReset = cause_of_unit_reset m
first_cause m (Plug a place) = cause_of_plug m a place
first_cause m (Unplug a) = cause_of_unplug m a
