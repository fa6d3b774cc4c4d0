-- Remove device by the fields of its request, and the events of disks in two parts: what may take memory, and the rest.
use Rattle.std.specs.Prelude.{ℕ, ◌+◌, ◌%◌, ◌^◌, ◌==◌, Bool, if◌then◌else◌, slice_index, Option, Some, None}
use Rattle.std.specs.FinSet as set
use Rattle.mpt_messages.specs.declared.ioc_reply.IocReply.TheVariants as reply
use Rattle.mpt_wire.specs.Messages.Fields.{remove_device}
use Rattle.mpt_rules.specs.declared.binding.Binding.{Binding}
use Rattle.mpt_rules.specs.declared.binding.Binding.TheVariants as binding
use Rattle.mpt_rules.specs.declared.status.TheConstants.{IOC_STATUS_BUSY, IOC_STATUS_INVALID_FIELD, IOC_STATUS_INVALID_STATE, IOC_STATUS_SCSI_INVALID_DEVHANDLE, IOC_STATUS_SUCCESS}
use Rattle.mpt_rules.specs.Ioc.Bindings.{binds_waiting}
use Rattle.mpt_rules.specs.Ioc.Parts.{Ioc}
use Rattle.mpt_rules.specs.Ioc.Replies.{ioc_answers}
use Rattle.mpt_rules.specs.Ioc.Requests.{after_unbind}
use Rattle.mpt_rules.specs.Ioc.Tables.{binding_of, has_commands, with_binding}
use Rattle.mpt_rules.specs.Outcome.{Happening}

-- `removes` for a request of this identifier, handle and operation
abbrev pub removes_for : Ioc → ℕ → ℕ → ℕ → Happening Ioc
removes_for ioc smid handle operation =
    after_unbind handle
    (binds_waiting (ioc_answers (with_binding ioc handle binding.Unbound) smid (reply.Removed handle operation IOC_STATUS_SUCCESS)))

-- where topology events are let through the next event's context isn't acknowledged from now on
abbrev pub noted : Ioc → Ioc
noted ioc = record ioc { unacked = if ioc.through then set.insert ioc.unacked ioc.context else ioc.unacked }

-- the event itself, whose context was noted
abbrev pub with_event : Ioc → ℕ → ℕ → ℕ → Bool → Ioc
with_event ioc handle expander phy added =
    if ioc.through then
    ioc_answers (record ioc { context = (ioc.context + 1) % 2 ^ 32 }) 0 (reply.Topology ioc.context handle expander (slice_index ioc.phys expander) phy added)
    else ioc

-- the IOCStatus with which SAS IO unit control of this handle and operation is refused, by what the handle stands for
abbrev pub removal_refusal : Ioc → ℕ → Binding → Option ℕ
removal_refusal ioc handle binding.Unbound = Some IOC_STATUS_SCSI_INVALID_DEVHANDLE
removal_refusal ioc handle (binding.Present address plug expander phy) = Some IOC_STATUS_INVALID_STATE
removal_refusal ioc handle (binding.Gone address) = if has_commands ioc handle then Some IOC_STATUS_BUSY else None

-- and by its operation; where it isn't refused the handle is removed
abbrev pub control_refusal : Ioc → ℕ → ℕ → Option ℕ
control_refusal ioc handle operation = if operation == remove_device then removal_refusal ioc handle (binding_of ioc handle) else Some IOC_STATUS_INVALID_FIELD
