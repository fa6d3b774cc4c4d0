-- Task management: aborts, target resets, and what the controller doesn't support.
use Rattle.std.specs.Prelude.{ℕ, ◌==◌, Bool, ◌&&◌, not, if◌then◌else◌, [], ◌∷◌, ◌++◌, Option, Some, None}
use Rattle.std.specs.List.{filter, find}
use Rattle.mpi_rings.specs.RequestDescriptor.{flags_of}
use Rattle.mpi_rings.specs.declared.request_descriptor.PostKind.TheVariants as post
use Rattle.mpt_messages.specs.declared.ioc_reply.IocReply.TheVariants as reply
use Rattle.mpt_wire.specs.Messages.Fields.{abort_task, dev_handle_in, flags_in, smid_in, target_reset, task_mid_in, task_type_in}
use Rattle.mpt_trace.specs.declared.item.Out.TheVariants as out
use Rattle.mpt_rules.specs.declared.at_fabric.AtFabric.TheVariants as at
use Rattle.mpt_rules.specs.declared.binding.Binding.{Binding}
use Rattle.mpt_rules.specs.declared.binding.Binding.TheVariants as binding
use Rattle.mpt_rules.specs.declared.post.Post.{Post}
use Rattle.mpt_rules.specs.declared.status.TheConstants.{IOC_STATUS_SCSI_INVALID_DEVHANDLE, IOC_STATUS_SCSI_TASK_MGMT_FAILED, IOC_STATUS_SCSI_TASK_TERMINATED, IOC_STATUS_SUCCESS}
use Rattle.mpt_rules.specs.Ioc.Commands.{ends_scsi}
use Rattle.mpt_rules.specs.Ioc.Parts.{Ioc}
use Rattle.mpt_rules.specs.Ioc.Replies.{ioc_answers, with_out_item, task_ended}
use Rattle.mpt_rules.specs.Ioc.Tables.{binding_of, has_commands, is_command_of, request_at, with_request}

-- ---- aborts

-- an abort is answered SUCCESS, with the number of commands that it ended
abbrev pub ioc_ends_abort : Ioc → ℕ → ℕ → ℕ → Ioc
ioc_ends_abort ioc smid handle count = ioc_answers ioc smid (task_ended handle abort_task IOC_STATUS_SUCCESS count)

-- the post is the SCSI IO of the identifier and the handle, whatever else its frame has
abbrev pub is_scsi_post : ℕ → ℕ → Post → Bool
is_scsi_post task handle p = flags_in p.descriptor == flags_of post.ScsiIo && smid_in p.descriptor == task && dev_handle_in p.frame == handle

-- the queued SCSI IO is taken off its queue and answered, and then the abort is
abbrev pub stops_queued : Ioc → ℕ → ℕ → ℕ → Post → Ioc
stops_queued ioc smid task handle p =
    ioc_ends_abort
    (ends_scsi (record ioc { normal = filter (λ other. not (is_scsi_post task handle other)) ioc.normal }) p IOC_STATUS_SCSI_TASK_TERMINATED)
    smid handle 1

-- the fabric is asked to stop the SCSI IO
abbrev pub sends_abort : Ioc → ℕ → ℕ → ℕ → Ioc
sends_abort ioc smid task handle = with_request (with_out_item ioc (out.Abort smid task)) smid (at.Abort handle)

-- an abort of a SCSI IO that isn't queued: it is at the fabric, or at neither
abbrev pub aborts_sent : Ioc → ℕ → ℕ → ℕ → Ioc
aborts_sent ioc smid task handle = if is_command_of handle (request_at ioc task) then sends_abort ioc smid task handle else ioc_ends_abort ioc smid handle 0

-- an abort, by the queued SCSI IO that it names
abbrev pub ioc_aborts_if : Ioc → ℕ → ℕ → ℕ → Option Post → Ioc
ioc_aborts_if ioc smid task handle (Some p) = stops_queued ioc smid task handle p
ioc_aborts_if ioc smid task handle None = aborts_sent ioc smid task handle

-- the SCSI IO of this identifier and handle is to be stopped
abbrev pub ioc_aborts : Ioc → ℕ → ℕ → ℕ → Ioc
ioc_aborts ioc smid task handle = ioc_aborts_if ioc smid task handle (find (is_scsi_post task handle) ioc.normal)

-- ---- target resets

-- a target reset is answered, with the number of commands that it ended
abbrev pub ends_target_reset : Ioc → ℕ → ℕ → ℕ → ℕ → Ioc
ends_target_reset ioc smid handle status count = ioc_answers ioc smid (task_ended handle target_reset status count)

-- a target reset of a gone disk: nothing is sent; it waits while commands of the handle are at the fabric
abbrev pub resets_gone : Ioc → ℕ → ℕ → Ioc
resets_gone ioc smid handle =
    if has_commands ioc handle then record ioc { held = ioc.held ++ record { smid = smid; handle = handle } ∷ [] }
    else ends_target_reset ioc smid handle IOC_STATUS_SUCCESS 0

-- a target reset, by what the handle stands for
abbrev pub ioc_resets_target : Ioc → ℕ → ℕ → Binding → Ioc
ioc_resets_target ioc smid handle binding.Unbound = ends_target_reset ioc smid handle IOC_STATUS_SCSI_INVALID_DEVHANDLE 0
ioc_resets_target ioc smid handle (binding.Present address plug expander phy) =
    with_request (with_out_item ioc (out.TargetReset smid address)) smid (at.TargetReset handle)
ioc_resets_target ioc smid handle (binding.Gone address) = resets_gone ioc smid handle

-- ---- all

-- ResponseCode: mpi2_init.h, MPI2_SCSITASKMGMT_RSP_TM_NOT_SUPPORTED
abbrev pub not_supported : ℕ
not_supported = 0x04

-- a logical unit reset or a query task
abbrev pub fails_task : Ioc → ℕ → ℕ → ℕ → Ioc
fails_task ioc smid handle task_type = ioc_answers ioc smid (reply.Task handle task_type IOC_STATUS_SCSI_TASK_MGMT_FAILED not_supported 0)

-- task management whose frame stands for one
abbrev pub works_task : Ioc → Post → Ioc
works_task ioc p =
    if task_type_in p.frame == abort_task then ioc_aborts ioc (smid_in p.descriptor) (task_mid_in p.frame) (dev_handle_in p.frame)
    else if task_type_in p.frame == target_reset then ioc_resets_target ioc (smid_in p.descriptor) (dev_handle_in p.frame) (binding_of ioc (dev_handle_in p.frame))
    else fails_task ioc (smid_in p.descriptor) (dev_handle_in p.frame) (task_type_in p.frame)
