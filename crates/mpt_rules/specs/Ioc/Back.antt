-- What the controller does with what the fabric tells.
use Rattle.std.specs.Prelude.{ℕ, ◌+◌, ◌==◌, Bool, true, false, ◌&&◌, if◌then◌else◌, [], ◌∷◌, Option, Some, None}
use Rattle.std.specs.List.{position}
use Rattle.mpi_doorbell.specs.DoorRegisters.{is_fault, linked_up}
use Rattle.mpi_doorbell.specs.declared.state.IocState.{IocState}
use Rattle.mpt_messages.specs.Function.{byte_of}
use Rattle.mpt_messages.specs.declared.function.Function.TheVariants as function
use Rattle.mpt_messages.specs.declared.ioc_reply.IocReply.TheVariants as reply
use Rattle.mpt_trace.specs.declared.item.Back.{Back}
use Rattle.mpt_trace.specs.declared.item.Back.TheVariants as back
use Rattle.scsi_disk.specs.declared.scsi_result.ScsiResult.{ScsiResult}
use Rattle.mpt_rules.specs.declared.at_fabric.AtFabric.{AtFabric}
use Rattle.mpt_rules.specs.declared.at_fabric.AtFabric.TheVariants as at
use Rattle.mpt_rules.specs.declared.said.Said.TheVariants as said
use Rattle.mpt_rules.specs.declared.status.TheConstants.{IOC_STATUS_SCSI_DEVICE_NOT_THERE, IOC_STATUS_SCSI_TASK_TERMINATED, IOC_STATUS_SUCCESS}
use Rattle.mpt_rules.specs.Ioc.Bindings.{ioc_plugs, ioc_unplugs}
use Rattle.mpt_rules.specs.Ioc.Commands.{ends_command, moved_by, result_said}
use Rattle.mpt_rules.specs.Ioc.Parts.{Ioc, state_of}
use Rattle.mpt_rules.specs.Ioc.Replies.{ioc_answers, says_on, scsi_ended}
use Rattle.mpt_rules.specs.Ioc.Tables.{is_operational, is_reset, request_at, silently, without_request}
use Rattle.mpt_rules.specs.Ioc.Tasks.{ioc_ends_abort, ends_target_reset}
use Rattle.mpt_rules.specs.Outcome.{Happening}

-- ---- commands

-- a command was performed; a tag that has no SCSI IO at the fabric is passed over
abbrev pub takes_result : Ioc → ℕ → ScsiResult → Option AtFabric → Ioc
takes_result ioc tag result (Some (at.Command handle queue len written)) = ends_command ioc tag handle queue (result_said tag handle len (moved_by written result) result)
takes_result ioc tag result _ = ioc

-- a command ended at the fabric without being performed; a tag that has no SCSI IO there is passed over
abbrev pub takes_end : Ioc → ℕ → ℕ → Option AtFabric → Ioc
takes_end ioc tag status (Some (at.Command handle queue len written)) = ends_command ioc tag handle queue (scsi_ended tag handle status)
takes_end ioc tag status _ = ioc

-- ---- task management and port enable

-- an abort is done; an identifier that has no abort at the fabric is passed over
abbrev pub takes_aborted : Ioc → ℕ → Bool → Option AtFabric → Ioc
takes_aborted ioc smid found (Some (at.Abort handle)) = ioc_ends_abort (without_request ioc smid) smid handle (if found then 1 else 0)
takes_aborted ioc smid found _ = ioc

-- a target reset is done; an identifier that has no target reset at the fabric is passed over
abbrev pub takes_cleared : Ioc → ℕ → ℕ → Option AtFabric → Ioc
takes_cleared ioc smid count (Some (at.TargetReset handle)) = ends_target_reset (without_request ioc smid) smid handle IOC_STATUS_SUCCESS count
takes_cleared ioc smid count _ = ioc

-- a port enable waits for the end of the discovery
abbrev pub is_port_enable : Option AtFabric → Bool
is_port_enable (Some at.PortEnable) = true
is_port_enable _ = false

-- every plugged disk was named; without a port enable that waits for it this is passed over
abbrev pub takes_discovered : Ioc → Option ℕ → Ioc
takes_discovered ioc None = ioc
takes_discovered ioc (Some place) = ioc_answers (without_request ioc (place + 1)) (place + 1) (reply.Plain (byte_of function.PortEnable) IOC_STATUS_SUCCESS)

-- ---- links

-- the fabric has linked: a reset of this generation is over
abbrev pub after_linked : Ioc → ℕ → Ioc
after_linked ioc generation =
    if is_reset (state_of ioc) && generation == ioc.generation then record ioc { door = linked_up ioc.door } else ioc

-- the fabric has nothing more to tell, which the host is told on queue 0
abbrev pub takes_calm : Ioc → Ioc
takes_calm ioc = if is_fault (state_of ioc) then ioc else says_on ioc 0 (said.Calm ∷ [])

-- ---- all

-- what is done with an item that is heard
abbrev pub hears : Ioc → Back → Happening Ioc
hears ioc (back.Result tag result) = silently (takes_result ioc tag result (request_at ioc tag))
hears ioc (back.Gone tag) = silently (takes_end ioc tag IOC_STATUS_SCSI_DEVICE_NOT_THERE (request_at ioc tag))
hears ioc (back.Terminated tag) = silently (takes_end ioc tag IOC_STATUS_SCSI_TASK_TERMINATED (request_at ioc tag))
hears ioc (back.Aborted smid found) = silently (takes_aborted ioc smid found (request_at ioc smid))
hears ioc (back.Cleared smid count) = silently (takes_cleared ioc smid count (request_at ioc smid))
hears ioc (back.Plugged address plug expander phy) = ioc_plugs ioc (record { address = address; plug = plug; expander = expander; phy = phy })
hears ioc (back.Unplugged address plug expander phy) = silently (ioc_unplugs ioc address)
hears ioc back.Discovered = silently (takes_discovered ioc (position is_port_enable ioc.requests))
hears ioc (back.Linked generation) = silently (after_linked ioc generation)
hears ioc back.Calm = silently (takes_calm ioc)

-- a link and calm are heard in every state, the rest while the controller is OPERATIONAL
abbrev pub is_heard_in : IocState → Back → Bool
is_heard_in s (back.Linked generation) = true
is_heard_in s back.Calm = true
is_heard_in s _ = is_operational s

-- an item of the fabric is taken
abbrev pub takes_back : Ioc → Back → Happening Ioc
takes_back ioc item = if is_heard_in (state_of ioc) item then hears ioc item else silently ioc
