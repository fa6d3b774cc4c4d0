-- The start that follows a reset in mid-flight, with one reply queue and with two: the disk is ready again. Computed in pieces.
use Rattle.std.proofs.Common.{ℕ, true, List, [], ◌∷◌, ◌++◌, replicate, ap, refl}
use Rattle.std.specs.Prelude.{◌+◌, ◌-◌, slice_index, slice_set}
use Rattle.std.specs.List.{range_with_len}
use Rattle.std.specs.Ordering.{nat_cmp}
use Rattle.std.specs.Cmp.{nat_cmp_total}
use Rattle.std.specs.FinSet as set
use Rattle.std.specs.FinSet.{FinSet, contains-insert}
use Rattle.smid_pool.specs.Pool.{Open, Slot, all_free, with_slot}
use Rattle.removal.specs.declared.phase.Phase.{Phase}
use Rattle.removal.specs.declared.phase.Phase.TheVariants as phase
use Rattle.removal.specs.Handles.{all_absent, with_phase}
use Rattle.config_pages.specs.ConfigAsk.{config_ask_layout, config_ask_values}
use Rattle.config_pages.specs.ConfigReply.{config_reply_layout, config_reply_values}
use Rattle.config_pages.specs.DevicePage0.{device_page0_layout, device_page0_values}
use Rattle.event_msgs.specs.EventAck.{event_ack_layout, event_ack_values}
use Rattle.event_msgs.specs.EventAckReply.{event_ack_reply_layout, event_ack_reply_values}
use Rattle.event_msgs.specs.EventAsk.{event_ask_layout, event_ask_values}
use Rattle.event_msgs.specs.EventReply.{event_reply_layout, event_reply_values}
use Rattle.event_msgs.specs.Topology.{topology_layout, topology_values}
use Rattle.event_msgs.specs.TopologyEntry.{topology_entry_layout, topology_entry_values}
use Rattle.ioc_msgs.specs.PortEnable.{port_enable_layout, port_enable_values}
use Rattle.ioc_msgs.specs.PortEnableReply.{port_enable_reply_layout, port_enable_reply_values}
use Rattle.mpt_messages.specs.Function.{byte_of}
use Rattle.mpt_messages.specs.declared.function.Function.TheVariants as function
use Rattle.mpt_messages.specs.declared.host_ask.HostAsk.TheVariants as ask
use Rattle.mpt_messages.specs.declared.ioc_reply.IocReply.TheVariants as reply
use Rattle.mpt_wire.specs.Messages.Fields.{changes_from, topology_change_list}
use Rattle.mpt_trace.specs.declared.entry.Entry.TheVariants as entry
use Rattle.mpt_trace.specs.declared.host_state.HostState.{HostState}
use Rattle.mpt_trace.specs.declared.host_state.HostState.TheVariants as mode
use Rattle.mpt_trace.specs.declared.outcome.Outcome.TheVariants as outcome
use Rattle.mpt_rules.specs.declared.binding.Binding.TheVariants as binding
use Rattle.mpt_rules.specs.declared.host_frame.HostFrame.TheVariants as frame
use Rattle.mpt_rules.specs.declared.post.Post.{Post}
use Rattle.mpt_rules.specs.declared.request.Request.{Request}
use Rattle.mpt_rules.specs.declared.request.Request.TheVariants as request
use Rattle.mpt_rules.specs.declared.said.Said.{Said}
use Rattle.mpt_rules.specs.declared.status.TheConstants.{IOC_STATUS_SUCCESS}
use Rattle.mpt_rules.specs.Fabric.Disks.{places_from}
use Rattle.mpt_rules.specs.Host.Removal.{first_not_absent, hears_changes}
use Rattle.mpt_rules.specs.Ioc.Configuration.{ends_config, page_bytes}
use Rattle.mpt_rules.specs.Ioc.Parts.{Ioc}
use Rattle.mpt_rules.specs.Ioc.Replies.{framed}
use Rattle.mpt_rules.specs.Ioc.Tables.{with_binding}
use Rattle.mpi_layout.specs.Rows.{field}
use Rattle.mpi_doorbell.specs.declared.state.IocState.TheVariants as state
use Rattle.mpt_trace.specs.declared.choice.Choice.TheVariants as choice
use Rattle.mpt_rules.specs.Host.Parts.{Host}
use Rattle.mpt_rules.specs.Host.Doorbell.{turn_from}
use Rattle.mpt_rules.specs.World.State.{World}
use Rattle.mpt_rules.specs.World.Cases.{Case, Chosen}
use Rattle.mpt_rules.proofs.ResetInMidFlight.{reset_cases, reset_in_mid_flight, restarting}
use Rattle.mpt_rules.proofs.ResetOnTwoQueues.{reset_cases_on_two, reset_with_two_queues, restarting_on_two}
use Rattle.mpt_rules.proofs.SchedulePieces.{Goes, ack_post, ack_reply, acked, and_then, answers, default_post, rounds, tells}
use Rattle.mpt_rules.proofs.WorldExampleParts.{A, one_disk}
use Rattle.mpt_rules.proofs.HandshakesAfterReset.{ended, init_done, ioc_facts, ioc_facts_on_two, ioc_init, ioc_init_on_two, port_facts, port_facts_on_two, talks}

-- ---- worlds, by the one in which the reset was told as done

-- the host with these identifiers and this phase of the handle, once it has taken so many replies since the reset
abbrev started : World → HostState → List (Slot Request) → Phase → ℕ → Host
started w m slots p replies =
    record (ended w.host) {
      mode = m;
      out = [];
      pool = slots;
      phases = with_phase all_absent 0x0009 p;
      frames = replicate 64 frame.Away;
      returned = 48 + replies;
      indices = slice_set w.host.indices 0 replies;
    }

-- the controller with these posts and replies, once it has so many frames back, and this number in ReplyPostHostIndex
abbrev started_ioc : World → List Post → List Said → ℕ → ℕ → Ioc
started_ioc w posts outbox frames index =
    record w.ioc {
      door = record w.ioc.door { state = state.Operational; who_init = 4; reply_post_host_index = index };
      up = slice_set w.ioc.up 0 outbox;
      normal = posts;
      ring = range_with_len frames (64 - frames) ++ range_with_len 0 frames;
    }

-- the controller has all frames, and the request for the events in its queue
abbrev events_asked : World → World
events_asked w =
    record w {
      host = started w mode.Starting (with_slot 265 (Open request.Notification) all_free) phase.Absent (slice_index w.host.indices 0);
      ioc = started_ioc w (default_post 265 ask.Notification ∷ []) [] 0 w.ioc.door.reply_post_host_index;
    }

-- topology events are let through, and a port enable is queued
abbrev enable_asked : World → World
enable_asked w =
    record w {
      host = started w mode.Starting (with_slot 265 (Open request.PortEnable) all_free) phase.Absent 1;
      ioc = record (started_ioc w (default_post 265 ask.PortEnable ∷ []) [] 1 1) { through = true };
    }

-- the controller that has found the disk
abbrev found_ioc : World → FinSet nat_cmp → List Post → List Said → ℕ → Ioc
found_ioc w unacked posts outbox replies =
    record (with_binding (started_ioc w posts outbox replies replies) 0x0009 (binding.Present A 1 0 0)) {
      through = true;
      enabled = true;
      unacked = unacked;
      context = 2;
    }

-- the world then: the fabric is on again
abbrev found : World → Host → Ioc → World
found w host ioc = record w { host = host; ioc = ioc; fabric = record w.fabric { on = true } }

-- the disk has the least handle, and the event and the answer wait for the host
abbrev disk_found : World → World
disk_found w =
    found w (enable_asked w).host
    (found_ioc w (set.insert set.empty 1) []
    (framed 0 (reply.Topology 1 0x0009 0 4 0 true) ∷ framed 265 (reply.Plain (byte_of function.PortEnable) IOC_STATUS_SUCCESS) ∷ []) 1)

-- the post that reads the page of the handle
abbrev page_post : Post
page_post = default_post 267 (ask.PageRead 267 0x0009)

-- the host that waits for the page
abbrev reading_host : World → Host
reading_host w =
    started w mode.Up (with_slot 266 (Open (request.Ack topology_change_list 1)) (with_slot 267 (Open (request.Page 0x0009)) all_free)) (phase.Reading 267) 3

-- the world with the controller that has these contexts, posts and replies
abbrev reads : World → FinSet nat_cmp → List Post → List Said → World
reads w unacked posts outbox = found w (reading_host w) (found_ioc w unacked posts outbox 3)

-- the controller has the acknowledgement and the page read in its queue
abbrev up_again : World → World
up_again w = reads w (set.insert set.empty 1) (ack_post 266 1 ∷ page_post ∷ []) []

-- no event is left to be acknowledged
abbrev none_unacked : FinSet nat_cmp
none_unacked = set.remove (set.insert set.empty 1) 1

-- the acknowledgement is answered
abbrev event_acked : World → World
event_acked w = reads w none_unacked (page_post ∷ []) (ack_reply 266 ∷ [])

-- the page is answered
abbrev page_read : World → World
page_read w =
    found w (reading_host w) (ends_config (found_ioc w none_unacked [] (ack_reply 266 ∷ []) 3) page_post IOC_STATUS_SUCCESS (page_bytes 0x0009 A 0 0))

-- nothing is open, and the handle is ready
abbrev ready_again : World → World
ready_again w = found w (started w mode.Up all_free (phase.Ready A) 5) (found_ioc w none_unacked [] [] 5)

-- ---- cases

-- the port enable is processed, and the fabric names what is plugged
abbrev finds : List Case
finds = rounds 1 (choice.IocNormal ∷ choice.IocOut ∷ choice.FabricTake ∷ []) ++ rounds 2 (choice.FabricPut ∷ choice.IocBack ∷ [])

-- the start that follows a reset
abbrev start_cases : List Case
start_cases =
    talks 110 ++ talks 57 ++ talks 75 ++ tells 66 ++ Chosen choice.IocNormal ∷ answers 1 ++ tells 3 ++ finds ++ answers 2 ++ tells 6
    ++ rounds 2 (choice.IocNormal ∷ []) ++ answers 2 ++ tells 4

-- ---- with one reply queue

-- the frames are returned, and nothing is told of it
frames_returned : Goes (init_done restarting) (tells 66) [] (events_asked restarting)
unfolding field turn_from event_ask_layout event_ask_values
frames_returned = record { shows = refl; leaves = refl }

-- the event notification is answered, and the port enable asked
events_let_through : Goes (events_asked restarting) (Chosen choice.IocNormal ∷ answers 1 ++ tells 3) [] (enable_asked restarting)
unfolding field turn_from event_ask_layout event_ask_values event_reply_layout event_reply_values port_enable_layout port_enable_values
events_let_through = record { shows = refl; leaves = refl }

-- the fabric is on again, and names the disk as plugged once
disk_bound : Goes (enable_asked restarting) finds (entry.Bind 0x0009 A 1 ∷ []) (disk_found restarting)
unfolding field turn_from port_enable_layout port_enable_values places_from
disk_bound = record { shows = refl; leaves = refl }

-- the port enable is answered, so the host is up
host_up : Goes (disk_found restarting) (answers 2 ++ tells 6) (entry.HostUp ∷ []) (up_again restarting)
unfolding field turn_from changes_from event_reply_layout event_reply_values topology_layout topology_values topology_entry_layout topology_entry_values event_ack_layout event_ack_values config_ask_layout config_ask_values port_enable_reply_layout port_enable_reply_values first_not_absent hears_changes
host_up = record { shows = refl; leaves = refl }

-- the event was not acknowledged before
event_acknowledged : Goes (up_again restarting) (Chosen choice.IocNormal ∷ []) [] (event_acked restarting)
unfolding field turn_from event_ack_layout event_ack_values
event_acknowledged =
    record {
      shows = refl;
      leaves =
          ap (found restarting (reading_host restarting))
          (acked (found_ioc restarting (set.insert set.empty 1) (page_post ∷ []) [] 3) (ack_post 266 1) (contains-insert nat_cmp_total set.empty 1 1));
    }

-- the page is the disk's
page_answered : Goes (event_acked restarting) (Chosen choice.IocNormal ∷ []) [] (page_read restarting)
unfolding field turn_from config_ask_layout config_ask_values config_reply_layout config_reply_values device_page0_layout device_page0_values
page_answered = record { shows = refl; leaves = refl }

-- the host tells the disk as ready
disk_ready : Goes (page_read restarting) (answers 2 ++ tells 4) (entry.Ready A 0x0009 ∷ []) (ready_again restarting)
unfolding field turn_from event_ack_reply_layout event_ack_reply_values config_ask_layout config_ask_values config_reply_layout config_reply_values device_page0_layout device_page0_values
disk_ready = record { shows = refl; leaves = refl }

-- what a short report shows of it, and of the reset before
the_disk_is_ready_after_the_reset : Goes (one_disk 1) (reset_cases ++ start_cases)
    (entry.Accept 1 A 1 ∷ entry.Accept 2 A 2 ∷ entry.Run A 1 ∷ entry.UnbindAll ∷ entry.Answer 1 outcome.Reset ∷ entry.Answer 2 outcome.Reset
    ∷ entry.ResetDone ∷ entry.Bind 0x0009 A 1 ∷ entry.HostUp ∷ entry.Ready A 0x0009 ∷ []) (ready_again restarting)
the_disk_is_ready_after_the_reset =
    and_then reset_in_mid_flight (and_then ioc_facts (and_then port_facts (and_then ioc_init (and_then frames_returned (and_then events_let_through
    (and_then disk_bound (and_then host_up (and_then event_acknowledged (and_then page_answered disk_ready)))))))))

-- ---- with two

-- the frames are returned, and nothing is told of it
frames_returned_on_two : Goes (init_done restarting_on_two) (tells 66) [] (events_asked restarting_on_two)
unfolding field turn_from event_ask_layout event_ask_values
frames_returned_on_two = record { shows = refl; leaves = refl }

-- the event notification is answered, and the port enable asked
events_let_through_on_two : Goes (events_asked restarting_on_two) (Chosen choice.IocNormal ∷ answers 1 ++ tells 3) [] (enable_asked restarting_on_two)
unfolding field turn_from event_ask_layout event_ask_values event_reply_layout event_reply_values port_enable_layout port_enable_values
events_let_through_on_two = record { shows = refl; leaves = refl }

-- the fabric is on again, and names the disk as plugged once
disk_bound_on_two : Goes (enable_asked restarting_on_two) finds (entry.Bind 0x0009 A 1 ∷ []) (disk_found restarting_on_two)
unfolding field turn_from port_enable_layout port_enable_values places_from
disk_bound_on_two = record { shows = refl; leaves = refl }

-- the port enable is answered, so the host is up
host_up_on_two : Goes (disk_found restarting_on_two) (answers 2 ++ tells 6) (entry.HostUp ∷ []) (up_again restarting_on_two)
unfolding field turn_from changes_from event_reply_layout event_reply_values topology_layout topology_values topology_entry_layout topology_entry_values event_ack_layout event_ack_values config_ask_layout config_ask_values port_enable_reply_layout port_enable_reply_values first_not_absent hears_changes
host_up_on_two = record { shows = refl; leaves = refl }

-- the event was not acknowledged before
event_acknowledged_on_two : Goes (up_again restarting_on_two) (Chosen choice.IocNormal ∷ []) [] (event_acked restarting_on_two)
unfolding field turn_from event_ack_layout event_ack_values
event_acknowledged_on_two =
    record {
      shows = refl;
      leaves =
          ap (found restarting_on_two (reading_host restarting_on_two))
          (acked (found_ioc restarting_on_two (set.insert set.empty 1) (page_post ∷ []) [] 3) (ack_post 266 1) (contains-insert nat_cmp_total set.empty 1 1));
    }

-- the page is the disk's
page_answered_on_two : Goes (event_acked restarting_on_two) (Chosen choice.IocNormal ∷ []) [] (page_read restarting_on_two)
unfolding field turn_from config_ask_layout config_ask_values config_reply_layout config_reply_values device_page0_layout device_page0_values
page_answered_on_two = record { shows = refl; leaves = refl }

-- the host tells the disk as ready
disk_ready_on_two : Goes (page_read restarting_on_two) (answers 2 ++ tells 4) (entry.Ready A 0x0009 ∷ []) (ready_again restarting_on_two)
unfolding field turn_from event_ack_reply_layout event_ack_reply_values config_ask_layout config_ask_values config_reply_layout config_reply_values device_page0_layout device_page0_values
disk_ready_on_two = record { shows = refl; leaves = refl }

-- what a short report shows of it, and of the reset before
the_disk_is_ready_after_the_reset_on_two : Goes (one_disk 2) (reset_cases_on_two ++ start_cases)
    (entry.Accept 1 A 1 ∷ entry.Accept 2 A 2 ∷ entry.Run A 2 ∷ entry.UnbindAll ∷ entry.Answer 2 (outcome.Done (record { status = 0; payload = []; sense = [] }))
    ∷ entry.Answer 1 outcome.Reset ∷ entry.ResetDone ∷ entry.Bind 0x0009 A 1 ∷ entry.HostUp ∷ entry.Ready A 0x0009 ∷ []) (ready_again restarting_on_two)
the_disk_is_ready_after_the_reset_on_two =
    and_then reset_with_two_queues (and_then ioc_facts_on_two (and_then port_facts_on_two (and_then ioc_init_on_two (and_then frames_returned_on_two
    (and_then events_let_through_on_two (and_then disk_bound_on_two (and_then host_up_on_two (and_then event_acknowledged_on_two
    (and_then page_answered_on_two disk_ready_on_two)))))))))
