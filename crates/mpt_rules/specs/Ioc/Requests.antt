-- The other requests of the default kind: event notification and acknowledgement, port enable, remove device.
use Rattle.std.specs.Prelude.{ℕ, ◌^◌, ◌==◌, Bool, true, ◌&&◌, not, if◌then◌else◌, List, ◌∷◌}
use Rattle.std.specs.FinSet as set
use Rattle.mpi_doorbell.specs.Bytes.{has}
use Rattle.mpt_messages.specs.Function.{byte_of}
use Rattle.mpt_messages.specs.declared.function.Function.TheVariants as function
use Rattle.mpt_messages.specs.declared.ioc_reply.IocReply.TheVariants as reply
use Rattle.mpt_wire.specs.Messages.Fields.{acked_context_in, acked_event_in, controlled_handle_in, event_masks_in, operation_in, remove_device, smid_in, topology_change_list}
use Rattle.mpt_trace.specs.declared.entry.Entry.TheVariants as entry
use Rattle.mpt_trace.specs.declared.item.Out.TheVariants as out
use Rattle.mpt_rules.specs.declared.at_fabric.AtFabric.TheVariants as at
use Rattle.mpt_rules.specs.declared.binding.Binding.{Binding}
use Rattle.mpt_rules.specs.declared.binding.Binding.TheVariants as binding
use Rattle.mpt_rules.specs.declared.post.Post.{Post}
use Rattle.mpt_rules.specs.declared.status.TheConstants.{IOC_STATUS_BUSY, IOC_STATUS_INVALID_FIELD, IOC_STATUS_INVALID_STATE, IOC_STATUS_SCSI_INVALID_DEVHANDLE, IOC_STATUS_SUCCESS}
use Rattle.mpt_rules.specs.Ioc.Bindings.{binds_waiting}
use Rattle.mpt_rules.specs.Ioc.Parts.{Ioc}
use Rattle.mpt_rules.specs.Ioc.Replies.{ioc_answers, with_out_item}
use Rattle.mpt_rules.specs.Ioc.Tables.{binding_of, has_commands, silently, with_binding, with_request}
use Rattle.mpt_rules.specs.Outcome.{Happening}

-- a request is answered by a reply with a header alone
abbrev pub ends_plainly : Ioc → Post → ℕ → ℕ → Ioc
ends_plainly ioc p f status = ioc_answers ioc (smid_in p.descriptor) (reply.Plain f status)

-- ---- events

-- event notification lets topology events through where their bit of EventMasks0 is clear
abbrev pub works_notification : Ioc → Post → Ioc
works_notification ioc p = ioc_answers (record ioc { through = not (has (event_masks_in p.frame) (2 ^ topology_change_list)) }) (smid_in p.descriptor) reply.Notified

-- the acknowledgement is of an event that wasn't acknowledged
abbrev pub is_of_event : Ioc → List ℕ → Bool
is_of_event ioc frame = acked_event_in frame == topology_change_list && set.contains ioc.unacked (acked_context_in frame)

-- an event is acknowledged
abbrev pub works_ack : Ioc → Post → Ioc
works_ack ioc p =
    if is_of_event ioc p.frame then
    ends_plainly (record ioc { unacked = set.remove ioc.unacked (acked_context_in p.frame) }) p (byte_of function.EventAck) IOC_STATUS_SUCCESS
    else ends_plainly ioc p (byte_of function.EventAck) IOC_STATUS_INVALID_FIELD

-- ---- port enable

-- the fabric is asked which disks are plugged, and the answer waits for it
abbrev pub enables : Ioc → ℕ → Ioc
enables ioc smid = with_request (with_out_item (record ioc { enabled = true }) out.Discover) smid at.PortEnable

-- a port enable: there is one after an IOC Init
abbrev pub works_enable : Ioc → Post → Ioc
works_enable ioc p =
    if ioc.enabled then ends_plainly ioc p (byte_of function.PortEnable) IOC_STATUS_INVALID_STATE
    else enables ioc (smid_in p.descriptor)

-- ---- remove device

-- SAS IO unit control is answered
abbrev pub ioc_ends_removal : Ioc → Post → ℕ → Ioc
ioc_ends_removal ioc p status = ioc_answers ioc (smid_in p.descriptor) (reply.Removed (controlled_handle_in p.frame) (operation_in p.frame) status)

-- a case that tells an unbind before what it told
abbrev pub after_unbind : ℕ → Happening Ioc → Happening Ioc
after_unbind handle o = record { part = o.part; entries = entry.Unbind handle ∷ o.entries }

-- the handle is free once more, the request is answered, and the first disk that waits is given a handle
abbrev pub removes : Ioc → Post → Happening Ioc
removes ioc p =
    after_unbind (controlled_handle_in p.frame)
    (binds_waiting (ioc_ends_removal (with_binding ioc (controlled_handle_in p.frame) binding.Unbound) p IOC_STATUS_SUCCESS))

-- the handle's disk is gone: it is removed unless commands of the handle are at the fabric
abbrev pub removes_gone : Ioc → Post → Happening Ioc
removes_gone ioc p = if has_commands ioc (controlled_handle_in p.frame) then silently (ioc_ends_removal ioc p IOC_STATUS_BUSY) else removes ioc p

-- remove device, by what the handle stands for
abbrev pub removes_if : Ioc → Post → Binding → Happening Ioc
removes_if ioc p binding.Unbound = silently (ioc_ends_removal ioc p IOC_STATUS_SCSI_INVALID_DEVHANDLE)
removes_if ioc p (binding.Present address plug expander phy) = silently (ioc_ends_removal ioc p IOC_STATUS_INVALID_STATE)
removes_if ioc p (binding.Gone address) = removes_gone ioc p

-- SAS IO unit control whose frame stands for one: remove device is its one operation
abbrev pub works_unit_control : Ioc → Post → Happening Ioc
works_unit_control ioc p =
    if operation_in p.frame == remove_device then removes_if ioc p (binding_of ioc (controlled_handle_in p.frame))
    else silently (ioc_ends_removal ioc p IOC_STATUS_INVALID_FIELD)
