-- Where an identifier is and how far a handle, as the host is asked for them.
use Rattle.std.specs.Prelude.{ℕ, if◌then◌else◌}
use Rattle.std.specs.List.{list_any}
use Rattle.removal.specs.declared.phase.Phase.{Phase}
use Rattle.removal.specs.declared.phase.Phase.TheVariants as phase
use Rattle.removal.specs.Handles.{phase_at}
use Rattle.smid_pool.specs.Pool.{Slot, Free, Open, Parked, slot_of}
use Rattle.mpt_rules.specs.declared.request.Request.{Request}
use Rattle.mpt_rules.specs.Host.Parts.{Host}
use Rattle.mpt_rules.specs.Host.Removal.{is_disk_handle}
use Rattle.mpt_rules.specs.World.Places.{is_posted_as}
use Rattle.host_core.specs.declared.places.HostSmid.{HostSmid}
use Rattle.host_core.specs.declared.places.HostSmid.TheVariants as smid

-- an identifier with this slot: an open one is in the outbox or away
abbrev pub smid_of_slot : Host → ℕ → Slot Request → HostSmid
smid_of_slot host s Free = smid.Free
smid_of_slot host s Parked = smid.Parked
smid_of_slot host s (Open r) = if list_any (is_posted_as s) host.out then smid.Out else smid.Away

abbrev pub host_smid : Host → ℕ → HostSmid
host_smid host s = smid_of_slot host s (slot_of host.pool s)

-- what is no disk's handle is absent
abbrev pub host_phase : Host → ℕ → Phase
host_phase host handle = if is_disk_handle handle then phase_at host.phases handle else phase.Absent
