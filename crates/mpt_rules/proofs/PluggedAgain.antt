-- A disk is unplugged and plugged again: it is ready under another handle while the old one is still to be removed. Computed in pieces.
use Rattle.std.proofs.Common.{List, [], ◌∷◌, refl}
use Rattle.mpi_layout.specs.Rows.{field}
use Rattle.mpt_messages.specs.declared.host_ask.HostAsk.TheVariants as ask
use Rattle.mpt_wire.specs.Messages.Fields.{changes_from, topology_change_list}
use Rattle.event_msgs.specs.EventAck.{event_ack_layout, event_ack_values}
use Rattle.event_msgs.specs.EventReply.{event_reply_layout, event_reply_values}
use Rattle.event_msgs.specs.Topology.{topology_layout, topology_values}
use Rattle.event_msgs.specs.TopologyEntry.{topology_entry_layout, topology_entry_values}
use Rattle.config_pages.specs.ConfigAsk.{config_ask_layout, config_ask_values}
use Rattle.config_pages.specs.ConfigReply.{config_reply_layout, config_reply_values}
use Rattle.config_pages.specs.DevicePage0.{device_page0_layout, device_page0_values}
use Rattle.mpt_rules.specs.Ioc.Configuration.{ends_config, page_bytes}
use Rattle.std.proofs.Common.{◌∙◌}
use Rattle.mpt_rules.specs.declared.request.Request.{Request}
use Rattle.smid_pool.specs.Pool.{Open, Slot, all_free, with_slot}
use Rattle.event_msgs.specs.EventAckReply.{event_ack_reply_layout, event_ack_reply_values}
use Rattle.scsi_msgs.specs.TaskAsk.{task_ask_layout, task_ask_values}
use Rattle.mpt_trace.specs.declared.choice.Choice.TheVariants as choice
use Rattle.mpt_trace.specs.declared.entry.Entry.TheVariants as entry
use Rattle.mpt_trace.specs.declared.input.Input.TheVariants as input
use Rattle.mpt_rules.specs.declared.binding.Binding.TheVariants as binding
use Rattle.mpt_rules.specs.declared.post.Post.{Post}
use Rattle.mpt_rules.specs.declared.request.Request.TheVariants as request
use Rattle.std.proofs.Common.{ap, true, false}
use Rattle.std.specs.FinSet.{contains-insert, contains-remove}
use Rattle.std.specs.Cmp.{nat_cmp_total}
use Rattle.std.specs.Ordering.{nat_cmp}
use Rattle.mpt_rules.specs.Host.Parts.{Host}
use Rattle.mpt_rules.specs.Host.Removal.{first_not_absent, hears_changes}
use Rattle.mpt_rules.specs.Ioc.Parts.{Ioc}
use Rattle.mpt_rules.specs.Ioc.Tables.{with_binding}
use Rattle.std.specs.Prelude.{◌++◌}
use Rattle.std.specs.List.{range_with_len}
use Rattle.std.specs.FinSet as set
use Rattle.std.specs.FinSet.{FinSet}
use Rattle.removal.specs.declared.phase.Phase.{Phase}
use Rattle.removal.specs.Handles.{all_absent, with_phase}
use Rattle.removal.specs.declared.phase.Phase.TheVariants as phase
use Rattle.mpt_messages.specs.declared.ioc_reply.IocReply.TheVariants as reply
use Rattle.mpt_rules.specs.declared.status.TheConstants.{IOC_STATUS_SUCCESS}
use Rattle.mpt_rules.specs.declared.said.Said.{Said}
use Rattle.mpt_rules.specs.World.State.{World}
use Rattle.mpt_rules.specs.World.Cases.{Case, Chosen, Told}
use Rattle.mpt_rules.proofs.SchedulePieces.{Goes, ack_post, ack_reply, acked, and_then, default_post, host_at, ioc_at, rounds, task_post, tells, took}
use Rattle.mpt_rules.proofs.WorldExampleParts.{A, one_disk, plugged_disk, up_fabric, up_host, up_ioc}
use Rattle.mpt_wire.specs.Messages.Fields.{target_reset}
use Rattle.mpt_rules.specs.Ioc.Replies.{framed}
use Rattle.mpt_rules.specs.Fabric.Parts.{Fabric}
use Rattle.mpt_rules.specs.declared.task.Task.{Task}
use Rattle.mpt_trace.specs.declared.item.Back.{Back}

-- ---- the worlds of this schedule

-- the fabric with the disk plugged for the second time, these tasks, and this to tell
abbrev pub fabric_with : List Task → List Back → Fabric
fabric_with tasks news = record (up_fabric (record (plugged_disk A 0) { plugs = 2 } ∷ [])) { tasks = tasks; out = news }

-- the controller that has the old handle as gone, and the disk under the new one
abbrev pub with_both : Ioc → Ioc
with_both ioc = record (with_binding (with_binding ioc 0x0009 (binding.Gone A)) 0x000a (binding.Present A 2 0 0)) { context = 4 }

-- the contexts of the two events
abbrev pub both_events : FinSet nat_cmp
both_events = set.insert (set.insert set.empty 2) 3

-- the phases of the old and of the new handle
abbrev pub phases_of : Phase → Phase → List Phase
phases_of old new = with_phase (with_phase all_absent 0x0009 old) 0x000a new

-- the target reset of the old handle's removal is open, among these identifiers
abbrev pub leaving : List (Slot Request) → List (Slot Request)
leaving slots = with_slot 257 (Open (request.Leave 0x0009)) slots

-- a world with these parties and empty lanes
abbrev pub world_of : Host → Ioc → Fabric → World
world_of host ioc fabric = record (one_disk 1) { host = host; ioc = ioc; fabric = fabric }

-- ---- the disk is unplugged and plugged again

-- both are told to the controller
abbrev pub swaps : List Case
swaps = Told (input.Unplug A) ∷ Told (input.Plug A 0 0) ∷ rounds 2 (choice.FabricSay ∷ []) ++ rounds 2 (choice.FabricPut ∷ []) ++ rounds 2 (choice.IocBack ∷ [])

-- the old handle is gone, and the disk has the next one
abbrev pub bound_again : World
bound_again =
    world_of (up_host 1)
    (record (with_both (up_ioc 1)) {
      unacked = both_events;
      up = (framed 0 (reply.Topology 2 0x0009 0 4 0 false) ∷ framed 0 (reply.Topology 3 0x000a 0 4 0 true) ∷ []) ∷ [];
    })
    (fabric_with [] [])

-- the old handle is not removed yet, so the disk is given another one
plugged_again : Goes (one_disk 1) swaps (entry.Bind 0x000a A 2 ∷ []) bound_again
plugged_again = record { shows = refl; leaves = refl }

-- ---- the host loses the old handle and asks for the page of the new one

-- the host takes both events, and puts what follows of them
abbrev pub hears_both : List Case
hears_both = rounds 2 (choice.IocPut ∷ []) ++ rounds 2 (choice.HostTake ∷ []) ++ tells 8

-- the post that reads the page of the new handle
abbrev pub page_post : Post
page_post = default_post 267 (ask.PageRead 267 0x000a)

-- the target reset of the old handle
abbrev pub leave_post : Post
leave_post = task_post 257 0x0009 target_reset 0

-- the host that waits for the answers of all of them
abbrev pub asked_host : Host
asked_host =
    host_at
    (leaving (with_slot 265 (Open (request.Ack topology_change_list 2)) (with_slot 266 (Open (request.Ack topology_change_list 3)) (with_slot 267 (Open (request.Page 0x000a)) all_free))))
    (phases_of (phase.Resetting 257) (phase.Reading 267)) 2 2

-- the controller then, with these contexts, posts and replies
abbrev pub asked_ioc : FinSet nat_cmp → List Post → List Said → Ioc
asked_ioc unacked posts outbox = record (with_both (ioc_at 2 2)) { unacked = unacked; high = leave_post ∷ []; normal = posts; up = outbox ∷ [] }

-- the controller has the target reset in its high queue, and the others in its normal queue
abbrev pub both_heard : World
both_heard = world_of asked_host (asked_ioc both_events (ack_post 265 2 ∷ ack_post 266 3 ∷ page_post ∷ []) []) (fabric_with [] [])

-- the host tells the disk as lost
old_handle_lost : Goes bound_again hears_both (entry.Lost A 0x0009 ∷ []) both_heard
unfolding field changes_from event_reply_layout event_reply_values topology_layout topology_values topology_entry_layout topology_entry_values event_ack_layout event_ack_values task_ask_layout task_ask_values config_ask_layout config_ask_values first_not_absent hears_changes
old_handle_lost = record { shows = refl; leaves = refl }

-- ---- the controller works on both acknowledgements and on the page read

-- the first event is acknowledged
abbrev pub one_acked : World
one_acked = world_of asked_host (asked_ioc (set.remove both_events 2) (ack_post 266 3 ∷ page_post ∷ []) (ack_reply 265 ∷ [])) (fabric_with [] [])

-- it was not acknowledged before
first_acknowledged : Goes both_heard (Chosen choice.IocNormal ∷ []) [] one_acked
unfolding field event_ack_layout event_ack_values
first_acknowledged =
    record {
      shows = refl;
      leaves =
          ap (λ ioc. world_of asked_host ioc (fabric_with [] []))
          (acked (asked_ioc both_events (ack_post 266 3 ∷ page_post ∷ []) []) (ack_post 265 2)
          (contains-insert nat_cmp_total (set.insert set.empty 2) 3 2 ∙ contains-insert nat_cmp_total set.empty 2 2));
    }

-- the second event is acknowledged
abbrev pub both_acked : World
both_acked =
    world_of asked_host (asked_ioc (set.remove (set.remove both_events 2) 3) (page_post ∷ []) (ack_reply 265 ∷ ack_reply 266 ∷ [])) (fabric_with [] [])

-- it was not acknowledged before
second_acknowledged : Goes one_acked (Chosen choice.IocNormal ∷ []) [] both_acked
unfolding field event_ack_layout event_ack_values
second_acknowledged =
    record {
      shows = refl;
      leaves =
          ap (λ ioc. world_of asked_host ioc (fabric_with [] []))
          (acked (asked_ioc (set.remove both_events 2) (page_post ∷ []) (ack_reply 265 ∷ [])) (ack_post 266 3)
          (contains-remove nat_cmp_total both_events 2 3 ∙ contains-insert nat_cmp_total (set.insert set.empty 2) 3 3));
    }

-- no event is left to be acknowledged
abbrev pub none_unacked : FinSet nat_cmp
none_unacked = set.remove (set.remove both_events 2) 3

-- the page is answered
abbrev pub page_read : World
page_read =
    world_of asked_host
    (ends_config (asked_ioc none_unacked [] (ack_reply 265 ∷ ack_reply 266 ∷ [])) page_post IOC_STATUS_SUCCESS (page_bytes 0x000a A 0 0))
    (fabric_with [] [])

-- it is the page of the disk
page_answered : Goes both_acked (Chosen choice.IocNormal ∷ []) [] page_read
unfolding field config_ask_layout config_ask_values config_reply_layout config_reply_values device_page0_layout device_page0_values
page_answered = record { shows = refl; leaves = refl }

-- ---- the new handle is ready

-- the host that returns the frames of the three replies
abbrev pub ready_host : Host
ready_host = took (took (took (host_at (leaving all_free) (phases_of (phase.Resetting 257) (phase.Ready A)) 2 2) 2) 3) 4

-- the controller then: the target reset is still in its high queue
abbrev pub ready_ioc : Ioc
ready_ioc = record (asked_ioc none_unacked [] []) { ring = range_with_len 5 59 ++ range_with_len 0 2 }

-- the disk is ready under its new handle
abbrev pub ready : World
ready = world_of ready_host ready_ioc (fabric_with [] [])

-- the host tells the disk as ready
ready_again : Goes page_read (rounds 3 (choice.IocPut ∷ []) ++ rounds 3 (choice.HostTake ∷ [])) (entry.Ready A 0x000a ∷ []) ready
unfolding field event_ack_reply_layout event_ack_reply_values config_ask_layout config_ask_values config_reply_layout config_reply_values device_page0_layout device_page0_values
ready_again = record { shows = refl; leaves = refl }

-- ---- all of it

-- the pieces one after the other
abbrev pub again : List Case
again = swaps ++ hears_both ++ rounds 3 (choice.IocNormal ∷ []) ++ rounds 3 (choice.IocPut ∷ []) ++ rounds 3 (choice.HostTake ∷ [])

-- what a short report shows of them
pub disk_plugged_again : Goes (one_disk 1) again (entry.Bind 0x000a A 2 ∷ entry.Lost A 0x0009 ∷ entry.Ready A 0x000a ∷ []) ready
disk_plugged_again =
    and_then plugged_again (and_then old_handle_lost (and_then first_acknowledged (and_then second_acknowledged (and_then page_answered ready_again))))
