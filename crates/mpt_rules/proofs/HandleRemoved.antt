-- A disk is unplugged while three writes for it are queued, and its handle is removed: computed in pieces.
use Rattle.std.proofs.Common.{List, [], ◌∷◌, None, refl}
use Rattle.std.specs.Prelude.{ℕ}
use Rattle.std.specs.FinSet.{members}
use Rattle.mpi_layout.specs.Rows.{field}
use Rattle.mpt_messages.specs.declared.host_ask.HostAsk.TheVariants as ask
use Rattle.mpt_trace.specs.Command.{command_named}
use Rattle.mpt_wire.specs.Messages.Fields.{changes_from, remove_device, topology_change_list}
use Rattle.event_msgs.specs.EventAck.{event_ack_layout, event_ack_values}
use Rattle.event_msgs.specs.EventReply.{event_reply_layout, event_reply_values}
use Rattle.event_msgs.specs.Topology.{topology_layout, topology_values}
use Rattle.event_msgs.specs.TopologyEntry.{topology_entry_layout, topology_entry_values}
use Rattle.ioc_msgs.specs.UnitControl.{unit_control_layout, unit_control_values}
use Rattle.scsi_disk.specs.Operation.{operation_of}
use Rattle.scsi_msgs.specs.ScsiIo.{scsi_io_layout, scsi_io_values}
use Rattle.scsi_msgs.specs.TaskReply.{task_reply_layout, task_reply_values}
use Rattle.scsi_msgs.specs.TaskAsk.{task_ask_layout, task_ask_values}
use Rattle.mpt_trace.specs.declared.choice.Choice.TheVariants as choice
use Rattle.mpt_trace.specs.declared.command_form.CommandForm.{CommandForm}
use Rattle.mpt_trace.specs.declared.command_form.CommandForm.TheVariants as form
use Rattle.mpt_trace.specs.declared.entry.Entry.TheVariants as entry
use Rattle.mpt_trace.specs.declared.input.Input.TheVariants as input
use Rattle.mpt_rules.specs.declared.binding.Binding.TheVariants as binding
use Rattle.mpt_rules.specs.declared.post.Post.{Post}
use Rattle.mpt_rules.specs.declared.request.Request.TheVariants as request
use Rattle.mpt_rules.specs.Fabric.Parts.{FabricDisk}
use Rattle.std.proofs.Common.{ap}
use Rattle.std.specs.FinSet.{contains-insert}
use Rattle.std.specs.Cmp.{nat_cmp_total}
use Rattle.mpt_rules.specs.Ioc.Requests.{ends_plainly}
use Rattle.mpt_rules.specs.Host.Parts.{Host}
use Rattle.mpt_rules.specs.Host.Inputs.{with_accepted}
use Rattle.mpt_rules.specs.Host.Posts.{asks_internal}
use Rattle.mpt_rules.specs.Host.Removal.{begins_removal, first_not_absent, hears_changes, left}
use Rattle.mpt_rules.specs.Ioc.Replies.{ioc_answers as answers_on, scsi_ended}
use Rattle.mpt_rules.specs.Ioc.Tables.{with_binding}
use Rattle.std.specs.Prelude.{◌++◌}
use Rattle.std.specs.List.{range_with_len}
use Rattle.std.specs.FinSet as set
use Rattle.removal.specs.declared.phase.Phase.TheVariants as phase
use Rattle.mpt_messages.specs.declared.ioc_reply.IocReply.TheVariants as reply
use Rattle.mpt_messages.specs.declared.function.Function.TheVariants as function
use Rattle.mpt_messages.specs.Function.{byte_of}
use Rattle.mpt_rules.specs.declared.status.TheConstants.{IOC_STATUS_SUCCESS, IOC_STATUS_SCSI_DEVICE_NOT_THERE}
use Rattle.mpt_rules.specs.declared.said.Said.{Said}
use Rattle.mpt_rules.specs.World.State.{World}
use Rattle.mpt_rules.specs.World.Cases.{Case, Chosen, Told}
use Rattle.mpt_rules.proofs.SchedulePieces.{Goes, ack_post, acked, and_then, command_post, default_post, rounds, tells, told, took}
use Rattle.mpt_rules.proofs.WorldExampleParts.{A, B, plugged_disk, spare_disk, submit, up_fabric, up_host, up_ioc, up_world}

-- the disks: A is plugged, B isn't
abbrev pub disks : List FabricDisk
disks = plugged_disk A 0 ∷ spare_disk B ∷ []

-- a write of one block of this byte
abbrev pub writes : ℕ → CommandForm
writes fill = form.Write 0 1 fill

-- the controller's answer to a write that was posted for the disk that is gone
abbrev pub refused : ℕ → Said
refused smid = scsi_ended smid 0x0009 IOC_STATUS_SCSI_DEVICE_NOT_THERE

-- ---- the host accepts three writes for A

-- the host has them open, and their posts in its outbox
abbrev pub three_open : World
three_open =
    let host : Host = up_host 1 in
    record (up_world disks 1) {
      host =
          with_accepted (with_accepted (with_accepted host 1 A (command_named (writes 0x11)) 0x0009 1) 2 A (command_named (writes 0x22)) 0x0009 2)
          3 A (command_named (writes 0x33)) 0x0009 3;
    }

-- three writes for A, each of another byte
abbrev pub submits_three : List Case
submits_three = submit 1 A (writes 0x11) ∷ submit 2 A (writes 0x22) ∷ submit 3 A (writes 0x33) ∷ []

-- each gets the next identifier
writes_accepted : Goes (up_world disks 1) submits_three (entry.Accept 1 A 1 ∷ entry.Accept 2 A 2 ∷ entry.Accept 3 A 3 ∷ []) three_open
unfolding operation_of
writes_accepted = record { shows = simp (members) refl; leaves = simp (members) refl }

-- ---- their posts go to the controller's queue

-- the post of one of them
abbrev pub write_post : ℕ → ℕ → Post
write_post smid fill = command_post 0 smid 0x0009 (writes fill)

-- the controller has the posts in its normal queue
abbrev pub three_queued : World
three_queued =
    record three_open {
      host = record three_open.host { out = [] };
      ioc = record (up_ioc 1) { normal = write_post 1 0x11 ∷ write_post 2 0x22 ∷ write_post 3 0x33 ∷ [] };
    }

-- they are queued in order
writes_queued : Goes three_open (tells 3) [] three_queued
unfolding field scsi_io_layout scsi_io_values
writes_queued = record { shows = refl; leaves = refl }

-- ---- A is unplugged: the host acknowledges the event, and asks for a target reset

-- the handle is gone at the controller, and its removal begins at the host
abbrev pub a_lost : World
a_lost =
    record three_queued {
      host = (begins_removal (asks_internal (took three_queued.host 0) (request.Ack topology_change_list 2)) 0x0009 (phase.Ready A)).part;
      ioc = record (with_binding three_queued.ioc 0x0009 (binding.Gone A)) { unacked = set.insert set.empty 2; context = 3; ring = range_with_len 1 63 };
      fabric = up_fabric (record (plugged_disk A 0) { at = None } ∷ spare_disk B ∷ []);
    }

-- A is unplugged, and the host hears of it
abbrev pub unplugs_a : List Case
unplugs_a = Told (input.Unplug A) ∷ rounds 1 (choice.FabricSay ∷ choice.FabricPut ∷ choice.IocBack ∷ choice.IocPut ∷ choice.HostTake ∷ [])

-- the host tells that A is lost
a_unplugged : Goes three_queued unplugs_a (entry.Lost A 0x0009 ∷ []) a_lost
unfolding field changes_from event_reply_layout event_reply_values topology_layout topology_values topology_entry_layout topology_entry_values task_ask_layout task_ask_values event_ack_layout event_ack_values first_not_absent hears_changes
a_unplugged = record { shows = refl; leaves = refl }

-- ---- the target reset is answered at once, and the host asks to remove the handle

-- the host has taken the answer, and has a remove device to put
abbrev pub reset_answered : World
reset_answered =
    let w : World = told a_lost 1 (range_with_len 2 62 ++ 0 ∷ []) in
    record w {
      host = left (took w.host 1) 257 0x0009;
      ioc = record w.ioc { normal = w.ioc.normal ++ ack_post 265 2 ∷ [] };
    }

-- no command of the handle is at the fabric, so the target reset goes no further
reset_done : Goes a_lost (tells 4 ++ rounds 1 (choice.IocHigh ∷ choice.IocPut ∷ choice.HostTake ∷ [])) [] reset_answered
unfolding field task_ask_layout task_ask_values event_ack_layout event_ack_values task_reply_layout task_reply_values unit_control_layout unit_control_values
reset_done = record { shows = refl; leaves = refl }

-- ---- the controller works on the writes, whose disk is gone, on the acknowledgement and on the removal

-- the answers of the writes wait for the host
abbrev pub writes_refused : World
writes_refused =
    let w : World = told reset_answered 2 (range_with_len 2 62 ++ range_with_len 0 2) in
    record w {
      ioc =
          record w.ioc {
            normal = ack_post 265 2 ∷ default_post 266 (ask.Remove 0x0009) ∷ [];
            up = (refused 1 ∷ refused 2 ∷ refused 3 ∷ []) ∷ [];
          };
    }

-- no write goes to the fabric: each is answered that its device is not there
writes_not_sent : Goes reset_answered (tells 3 ++ rounds 3 (choice.IocNormal ∷ [])) [] writes_refused
unfolding field scsi_io_layout scsi_io_values
writes_not_sent = record { shows = refl; leaves = refl }

-- the event that was acknowledged
abbrev pub event_acked : World
event_acked =
    record writes_refused {
      ioc =
          ends_plainly (record writes_refused.ioc { normal = default_post 266 (ask.Remove 0x0009) ∷ []; unacked = set.remove writes_refused.ioc.unacked 2 })
          (ack_post 265 2) (byte_of function.EventAck) IOC_STATUS_SUCCESS;
    }

-- the event was not acknowledged before
event_acknowledged : Goes writes_refused (Chosen choice.IocNormal ∷ []) [] event_acked
unfolding field event_ack_layout event_ack_values
event_acknowledged =
    record {
      shows = refl;
      leaves =
          ap (λ ioc. record writes_refused { ioc = ioc })
          (acked (record writes_refused.ioc { normal = default_post 266 (ask.Remove 0x0009) ∷ [] }) (ack_post 265 2) (contains-insert nat_cmp_total set.empty 2 2));
    }

-- the handle stands for nothing
abbrev pub handle_free : World
handle_free =
    record event_acked {
      ioc =
          answers_on (record (with_binding event_acked.ioc 0x0009 binding.Unbound) { normal = [] })
          266 (reply.Removed 0x0009 remove_device IOC_STATUS_SUCCESS);
    }

-- no disk waits for a handle, so none is bound
handle_removed : Goes event_acked (Chosen choice.IocNormal ∷ []) (entry.Unbind 0x0009 ∷ []) handle_free
unfolding field unit_control_layout unit_control_values
handle_removed = record { shows = refl; leaves = refl }

-- ---- all of it

-- the pieces one after the other
abbrev pub removal : List Case
removal =
    submits_three ++ tells 3 ++ unplugs_a ++ tells 4 ++ rounds 1 (choice.IocHigh ∷ choice.IocPut ∷ choice.HostTake ∷ [])
    ++ tells 3 ++ rounds 5 (choice.IocNormal ∷ [])

-- what a short report shows of them
pub disk_removed : Goes (up_world disks 1) removal
    (entry.Accept 1 A 1 ∷ entry.Accept 2 A 2 ∷ entry.Accept 3 A 3 ∷ entry.Lost A 0x0009 ∷ entry.Unbind 0x0009 ∷ []) handle_free
disk_removed =
    and_then writes_accepted (and_then writes_queued (and_then a_unplugged (and_then reset_done
    (and_then writes_not_sent (and_then event_acknowledged handle_removed)))))
