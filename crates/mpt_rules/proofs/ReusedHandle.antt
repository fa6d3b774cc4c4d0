-- A disk that was given the handle of another one is ready, and nothing of the other runs there. Computed in pieces.
use Rattle.std.proofs.Common.{◌≡◌, List, [], ◌∷◌, None, replicate, refl}
use Rattle.std.specs.FinSet.{members}
use Rattle.mpi_layout.specs.Rows.{field}
use Rattle.mpt_messages.specs.declared.host_ask.HostAsk.TheVariants as ask
use Rattle.mpt_trace.specs.Command.{command_named}
use Rattle.mpt_wire.specs.Messages.Fields.{changes_from}
use Rattle.event_msgs.specs.EventAck.{event_ack_layout, event_ack_values}
use Rattle.event_msgs.specs.EventReply.{event_reply_layout, event_reply_values}
use Rattle.event_msgs.specs.Topology.{topology_layout, topology_values}
use Rattle.event_msgs.specs.TopologyEntry.{topology_entry_layout, topology_entry_values}
use Rattle.scsi_disk.specs.Operation.{operation_of}
use Rattle.scsi_msgs.specs.ScsiIo.{scsi_io_layout, scsi_io_values}
use Rattle.config_pages.specs.ConfigAsk.{config_ask_layout, config_ask_values}
use Rattle.config_pages.specs.ConfigReply.{config_reply_layout, config_reply_values}
use Rattle.config_pages.specs.DevicePage0.{device_page0_layout, device_page0_values}
use Rattle.mpt_rules.specs.Ioc.Configuration.{ends_config, page_bytes}
use Rattle.smid_pool.specs.Pool.{all_free}
use Rattle.mpt_wire.specs.Messages.Fields.{success_descriptor}
use Rattle.event_msgs.specs.EventAckReply.{event_ack_reply_layout, event_ack_reply_values}
use Rattle.mpt_trace.specs.declared.choice.Choice.TheVariants as choice
use Rattle.mpt_trace.specs.declared.command_form.CommandForm.{CommandForm}
use Rattle.mpt_trace.specs.declared.command_form.CommandForm.TheVariants as form
use Rattle.mpt_trace.specs.declared.entry.Entry.TheVariants as entry
use Rattle.mpt_trace.specs.declared.item.Up.TheVariants as up
use Rattle.mpt_trace.specs.declared.outcome.Outcome.TheVariants as outcome
use Rattle.mpt_rules.specs.declared.post.Post.{Post}
use Rattle.mpt_rules.specs.declared.request.Request.TheVariants as request
use Rattle.std.proofs.Common.{ap}
use Rattle.std.specs.FinSet.{contains-insert}
use Rattle.std.specs.Cmp.{nat_cmp_total}
use Rattle.mpt_rules.specs.Host.Parts.{Host}
use Rattle.mpt_rules.specs.Host.Inputs.{with_accepted}
use Rattle.mpt_rules.specs.Host.Removal.{first_not_absent, hears_changes}
use Rattle.std.specs.Prelude.{◌++◌}
use Rattle.std.specs.FinSet as set
use Rattle.removal.specs.declared.phase.Phase.TheVariants as phase
use Rattle.mpt_rules.specs.declared.status.TheConstants.{IOC_STATUS_SUCCESS}
use Rattle.mpt_rules.specs.World.State.{World}
use Rattle.mpt_rules.specs.World.Cases.{Case, Chosen, run}
use Rattle.mpt_rules.proofs.HandleRemoved.{disk_removed, disks, removal}
use Rattle.mpt_rules.proofs.SchedulePieces.{Goes, ack_post, ack_reply, acked, and_then, answers, default_post, rounds, tells}
use Rattle.mpt_rules.proofs.WorldExampleParts.{A, B, shown, submit, up_world}
use Rattle.mpt_rules.proofs.HandleGivenAgain.{host_with, with_event, ioc_with, b_world, two_open, plugs_b, b_plugged, writes_answered, handle_absent, removal_answered}

-- ---- the host hears of B, and asks for its page

-- the post that reads the page of the handle
abbrev page_post : Post
page_post = default_post 266 (ask.PageRead 266 0x0009)

-- the host that waits for the page
abbrev reading_host : Host
reading_host = host_with (two_open 3 (request.Page 0x0009)) (phase.Reading 266) 8

-- the controller has both posts in its queue
abbrev page_asked : World
page_asked = b_world reading_host (ioc_with with_event (ack_post 265 3 ∷ page_post ∷ []) [] 8)

-- the host hears that the handle was added
b_heard : Goes handle_absent (answers 1 ++ tells 4) [] page_asked
unfolding field changes_from event_reply_layout event_reply_values topology_layout topology_values topology_entry_layout topology_entry_values event_ack_layout event_ack_values config_ask_layout config_ask_values first_not_absent hears_changes
b_heard = record { shows = refl; leaves = refl }

-- ---- the controller works on the acknowledgement and on the page read

-- the acknowledgement is answered
abbrev b_acked : World
b_acked = b_world reading_host (ioc_with (set.remove with_event 3) (page_post ∷ []) (ack_reply 265 ∷ []) 8)

-- the event was not acknowledged before
b_acknowledged : Goes page_asked (Chosen choice.IocNormal ∷ []) [] b_acked
unfolding field event_ack_layout event_ack_values
b_acknowledged =
    record {
      shows = refl;
      leaves =
          ap (b_world reading_host)
          (acked (ioc_with with_event (page_post ∷ []) [] 8) (ack_post 265 3) (contains-insert nat_cmp_total (set.remove (set.insert set.empty 2) 2) 3 3));
    }

-- the page has the address of B
abbrev page_read : World
page_read =
    b_world reading_host (ends_config (ioc_with (set.remove with_event 3) [] (ack_reply 265 ∷ []) 8) page_post IOC_STATUS_SUCCESS (page_bytes 0x0009 B 0 0))

-- the page of the handle is answered
page_answered : Goes b_acked (Chosen choice.IocNormal ∷ []) [] page_read
unfolding field config_ask_layout config_ask_values config_reply_layout config_reply_values device_page0_layout device_page0_values
page_answered = record { shows = refl; leaves = refl }

-- ---- B is ready

-- the handle is ready for B, and no identifier is taken
abbrev b_ready : World
b_ready = b_world (host_with all_free (phase.Ready B) 10) (ioc_with (set.remove with_event 3) [] [] 10)

-- the host tells that B is ready
b_made_ready : Goes page_read (answers 2 ++ tells 4) (entry.Ready B 0x0009 ∷ []) b_ready
unfolding field event_ack_reply_layout event_ack_reply_values config_ask_layout config_ask_values config_reply_layout config_reply_values device_page0_layout device_page0_values
b_made_ready = record { shows = refl; leaves = refl }

-- ---- a read of B runs at B

-- a read of the first block
abbrev reads : CommandForm
reads = form.Read 0 1

-- the host has it open
abbrev read_open : World
read_open = record b_ready { host = with_accepted b_ready.host 4 B (command_named reads) 0x0009 1 }

-- it gets the identifier that the first write had
read_accepted : Goes b_ready (submit 4 B reads ∷ []) (entry.Accept 4 B 1 ∷ []) read_open
unfolding operation_of
read_accepted = record { shows = simp (members) refl; leaves = simp (members) refl }

-- its reply is on the lane up
abbrev read_done : World
read_done = record read_open { host = record read_open.host { out = [] }; up = (up.Reply (success_descriptor 1) None (replicate 512 0) [] ∷ []) ∷ [] }

-- the read goes to its disk and back
abbrev read_choices : List Case
read_choices = rounds 1 (choice.IocNormal ∷ choice.IocOut ∷ choice.FabricTake ∷ choice.FabricRun 1 ∷ choice.FabricPut ∷ choice.IocBack ∷ choice.IocPut ∷ [])

-- it runs at B
read_runs : Goes read_open (tells 1 ++ read_choices) (entry.Run B 1 ∷ []) read_done
unfolding field operation_of scsi_io_layout scsi_io_values
read_runs = record { shows = refl; leaves = refl }

-- the host takes the reply, and tells of it
abbrev read_over : List Case
read_over = Chosen choice.HostTake ∷ tells 1

-- B has zeros: no write of A came there
read_answered : Goes read_done read_over (entry.Answer 4 (outcome.Done (record { status = 0; payload = replicate 512 0; sense = [] })) ∷ []) (run read_done read_over)
unfolding field
read_answered = record { shows = refl; leaves = refl }

-- ---- all of it

-- the pieces one after the other
abbrev reuse : List Case
reuse =
    plugs_b ++ answers 3 ++ tells 6 ++ answers 2 ++ tells 4 ++ answers 1 ++ tells 4 ++ rounds 2 (choice.IocNormal ∷ []) ++ answers 2 ++ tells 4
    ++ submit 4 B reads ∷ tells 1 ++ read_choices ++ read_over

-- what a short report shows: nothing of A's runs
the_handle_is_reused : shown (up_world disks 1) (removal ++ reuse)
    ≡ entry.Accept 1 A 1 ∷ entry.Accept 2 A 2 ∷ entry.Accept 3 A 3 ∷ entry.Lost A 0x0009 ∷ entry.Unbind 0x0009 ∷ entry.Bind 0x0009 B 1
    ∷ entry.Answer 1 outcome.Gone ∷ entry.Answer 2 outcome.Gone ∷ entry.Answer 3 outcome.Gone ∷ entry.Ready B 0x0009 ∷ entry.Accept 4 B 1
    ∷ entry.Run B 1 ∷ entry.Answer 4 (outcome.Done (record { status = 0; payload = replicate 512 0; sense = [] })) ∷ []
the_handle_is_reused =
    (and_then disk_removed (and_then b_plugged (and_then writes_answered (and_then removal_answered (and_then b_heard (and_then b_acknowledged
    (and_then page_answered (and_then b_made_ready (and_then read_accepted (and_then read_runs read_answered)))))))))).shows
