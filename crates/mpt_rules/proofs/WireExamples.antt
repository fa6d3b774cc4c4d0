-- What the rules of handles and of the doorbell see in runs of the world.
use Rattle.std.proofs.Common.{◌≡◌, ℕ, zero, suc, List, [], ◌∷◌, ◌++◌, Some, None, refl}
use Rattle.mpi_layout.specs.Rows.{field}
use Rattle.event_msgs.specs.EventAck.{event_ack_layout, event_ack_values}
use Rattle.event_msgs.specs.EventReply.{event_reply_layout, event_reply_values}
use Rattle.event_msgs.specs.Topology.{topology_layout, topology_values}
use Rattle.event_msgs.specs.TopologyEntry.{topology_entry_layout, topology_entry_values}
use Rattle.ioc_msgs.specs.IocFacts.{ioc_facts_layout, ioc_facts_values}
use Rattle.ioc_msgs.specs.IocFactsReply.{ioc_facts_reply_layout, ioc_facts_reply_values}
use Rattle.ioc_msgs.specs.IocInit.{ioc_init_layout, ioc_init_values}
use Rattle.ioc_msgs.specs.IocInitReply.{ioc_init_reply_layout, ioc_init_reply_values}
use Rattle.ioc_msgs.specs.PortFacts.{port_facts_layout, port_facts_values}
use Rattle.ioc_msgs.specs.PortFactsReply.{port_facts_reply_layout, port_facts_reply_values}
use Rattle.ioc_msgs.specs.UnitControl.{unit_control_layout, unit_control_values}
use Rattle.scsi_msgs.specs.TaskAsk.{task_ask_layout, task_ask_values}
use Rattle.scsi_msgs.specs.TaskReply.{task_reply_layout, task_reply_values}
use Rattle.mpt_messages.specs.declared.host_ask.HostAsk.TheVariants as ask
use Rattle.mpt_messages.specs.declared.ioc_reply.IocReply.TheVariants as reply
use Rattle.mpt_trace.specs.declared.choice.Choice.TheVariants as choice
use Rattle.mpt_trace.specs.declared.input.Input.TheVariants as input
use Rattle.mpt_trace.specs.declared.entry.Entry.{Entry}
use Rattle.mpt_wire.specs.Walks.Passes.{Passes, state_after}
use Rattle.mpt_wire.specs.Messages.Fields.{changes_from}
use Rattle.mpt_wire.specs.Machine.State.{put_at}
use Rattle.mpt_wire.specs.Handles.Bindings.{least_unbound_from}
use Rattle.mpt_wire.specs.Handles.Plugs.{ServedAsks, Serving, nothing_bound, served_next}
use Rattle.mpt_wire.specs.Handles.Removals.{UnbindAsks, no_removals, removals_next}
use Rattle.mpt_wire.specs.Handles.Leaving.{Added, Answered, leaving_next}
use Rattle.mpt_wire.specs.Messages.DoorbellWords.{Talks, asked_bytes, door_next, quiet_door, replied_bytes}
use Rattle.mpt_rules.specs.declared.binding.Binding.TheVariants as binding
use Rattle.mpt_rules.specs.declared.request.Request.TheVariants as request
use Rattle.mpt_rules.specs.Host.Doorbell.{turn_from}
use Rattle.mpt_rules.specs.Host.Posts.{posts_internal}
use Rattle.mpt_rules.specs.Host.Removal.{first_not_absent, hears_changes}
use Rattle.mpt_rules.specs.Ioc.Tables.{with_binding}
use Rattle.mpt_rules.specs.World.State.{World, fresh}
use Rattle.mpt_rules.specs.World.Cases.{Case, Chosen, Told, trace}
use Rattle.mpt_rules.proofs.WorldExampleParts.{A, B, one_disk, plugged_disk, spare_disk, times, up_world}

-- ---- a handle leaves and is given again

-- the disk is unplugged, the host hears of it, and its target reset is answered
abbrev resets : List Case
resets =
    (Told (input.Unplug A) ∷ Chosen choice.FabricSay ∷ Chosen choice.FabricPut ∷ Chosen choice.IocBack ∷ Chosen choice.IocPut ∷ Chosen choice.HostTake ∷ [])
    ++ (times 4 choice.HostPut ++ (times 4 choice.IocTake ++ (Chosen choice.IocHigh ∷ Chosen choice.IocPut ∷ Chosen choice.HostTake ∷ [])))

may_be_removed : state_after (leaving_next 0x0009) Added (trace (one_disk 1) resets) ≡ Answered
unfolding field changes_from event_reply_layout event_reply_values topology_layout topology_values topology_entry_layout topology_entry_values task_ask_layout task_ask_values task_reply_layout task_reply_values event_ack_layout event_ack_values first_not_absent hears_changes
may_be_removed = refl

-- the handle is gone, its remove device is in the host's outbox, and another disk waits for a handle
abbrev gone_world : World
gone_world =
    let w : World = up_world (spare_disk A ∷ plugged_disk B 0 ∷ []) 1 in
    record w { ioc = record (with_binding w.ioc 0x0009 (binding.Gone A)) { waiting = record { address = B; plug = 1; expander = 0; phy = 0 } ∷ [] }; host = posts_internal w.host 265 (request.Remove 0x0009) }

abbrev given_again : List Entry
given_again = trace gone_world (Chosen choice.HostPut ∷ Chosen choice.IocTake ∷ Chosen choice.IocNormal ∷ [])

abbrev waits_for_one : Serving
waits_for_one = record nothing_bound { bound = put_at 0x0009 (Some (record { address = A; number = 1 })) (λ h. None); waiting = record { address = B; number = 1 } ∷ [] }

freed_by_removal : Passes removals_next UnbindAsks no_removals given_again
unfolding field unit_control_layout unit_control_values
freed_by_removal = (tt, (tt, ((265, refl), (tt, tt))))

given_in_turn : Passes served_next ServedAsks waits_for_one given_again
unfolding field unit_control_layout unit_control_values least_unbound_from
given_in_turn = (tt, (tt, (tt, ((refl, refl), tt))))

-- ---- the doorbell of a start

-- each party's step, so many times
abbrev turns : ℕ → List Case
turns zero = []
turns (suc n) = Chosen choice.HostPut ∷ Chosen choice.IocTake ∷ Chosen choice.IocPut ∷ Chosen choice.HostTake ∷ turns n

-- the entries of a start after so many of each
abbrev start : ℕ → List Entry
start n = trace (fresh [] (4 ∷ []) 1) (Told input.Start ∷ turns n)

facts_talked : (state_after door_next quiet_door (start 112)).talk ≡ Talks 3 (asked_bytes ask.Facts) (replied_bytes (reply.Facts 0 1))
unfolding turn_from field ioc_facts_layout ioc_facts_values ioc_facts_reply_layout ioc_facts_reply_values
facts_talked = refl

port_facts_talked : (state_after door_next quiet_door (start 170)).talk ≡ Talks 3 (asked_bytes ask.PortFacts) (replied_bytes (reply.PortFacts 0 0))
unfolding turn_from field ioc_facts_layout ioc_facts_values ioc_facts_reply_layout ioc_facts_reply_values port_facts_layout port_facts_values port_facts_reply_layout port_facts_reply_values
port_facts_talked = refl

init_talked : (state_after door_next quiet_door (start 250)).talk ≡ Talks 18 (asked_bytes (ask.Init 1)) (replied_bytes (reply.Plain 0x02 0))
unfolding turn_from field ioc_facts_layout ioc_facts_values ioc_facts_reply_layout ioc_facts_reply_values port_facts_layout port_facts_values port_facts_reply_layout port_facts_reply_values ioc_init_layout ioc_init_values ioc_init_reply_layout ioc_init_reply_values
init_talked = refl
