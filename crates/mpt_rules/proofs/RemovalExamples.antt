-- A disk is unplugged, and its handle is removed and given to another one, computed.
use Rattle.std.proofs.Common.{◌≡◌, List, [], ◌∷◌, refl}
use Rattle.mpi_layout.specs.Rows.{field}
use Rattle.mpt_wire.specs.Messages.Fields.{changes_from}
use Rattle.event_msgs.specs.EventAck.{event_ack_layout, event_ack_values}
use Rattle.event_msgs.specs.EventReply.{event_reply_layout, event_reply_values}
use Rattle.event_msgs.specs.Topology.{topology_layout, topology_values}
use Rattle.event_msgs.specs.TopologyEntry.{topology_entry_layout, topology_entry_values}
use Rattle.ioc_msgs.specs.UnitControl.{unit_control_layout, unit_control_values}
use Rattle.scsi_msgs.specs.TaskAsk.{task_ask_layout, task_ask_values}
use Rattle.mpt_trace.specs.declared.choice.Choice.TheVariants as choice
use Rattle.mpt_trace.specs.declared.entry.Entry.TheVariants as entry
use Rattle.mpt_trace.specs.declared.input.Input.TheVariants as input
use Rattle.mpt_rules.specs.declared.binding.Binding.TheVariants as binding
use Rattle.mpt_rules.specs.declared.request.Request.TheVariants as request
use Rattle.mpt_rules.specs.Host.Posts.{posts_internal}
use Rattle.mpt_rules.specs.Ioc.Tables.{with_binding}
use Rattle.mpt_rules.specs.Host.Removal.{first_not_absent, hears_changes}
use Rattle.mpt_rules.specs.World.State.{World}
use Rattle.mpt_rules.specs.World.Cases.{Case, Chosen, Told}
use Rattle.mpt_rules.proofs.WorldExampleParts.{A, B, one_disk, plugged_disk, shown, spare_disk, up_world}

-- the host hears that the disk isn't responding
abbrev hears : List Case
hears = Told (input.Unplug A) ∷ Chosen choice.FabricSay ∷ Chosen choice.FabricPut ∷ Chosen choice.IocBack ∷ Chosen choice.IocPut ∷ Chosen choice.HostTake ∷ []

lost : shown (one_disk 1) hears ≡ entry.Lost A 0x0009 ∷ []
unfolding field changes_from event_reply_layout event_reply_values topology_layout topology_values topology_entry_layout topology_entry_values task_ask_layout task_ask_values event_ack_layout event_ack_values first_not_absent hears_changes
lost = refl

-- the controller has the handle as gone, and waits for nothing of it; another disk waits at the fabric
abbrev gone_world : World
gone_world =
    let w : World = up_world (spare_disk A ∷ plugged_disk B 0 ∷ []) 1 in
    record w { ioc = record (with_binding w.ioc 0x0009 (binding.Gone A)) { waiting = record { address = B; plug = 1; expander = 0; phy = 0 } ∷ [] }; host = posts_internal w.host 265 (request.Remove 0x0009) }

-- its remove device unbinds it, and it is given to the disk that waits longest
given_again : shown gone_world (Chosen choice.HostPut ∷ Chosen choice.IocTake ∷ Chosen choice.IocNormal ∷ []) ≡ entry.Unbind 0x0009 ∷ entry.Bind 0x0009 B 1 ∷ []
unfolding field unit_control_layout unit_control_values
given_again = refl
