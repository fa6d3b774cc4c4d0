-- Messages that belong to what they name, and ones that don't: posts, replies, events, pages and acknowledgements.
use Rattle.std.proofs.Common.{◌≡◌, ◌∙◌, ℕ, ◌==◌, true, false, slice_index, List, [], ◌∷◌, ◌++◌, Some, replicate, refl, ap, arith}
use Rattle.std.proofs.lemmas.Grind.{common_steps}
use Rattle.mpi_layout.specs.Rows.{field}
use Rattle.mpi_rings.specs.declared.request_descriptor.PostKind.TheVariants as post
use Rattle.config_pages.specs.ConfigAsk.{config_ask_layout, config_ask_values}
use Rattle.config_pages.specs.ConfigReply.{config_reply_layout, config_reply_values}
use Rattle.config_pages.specs.DevicePage0.{device_page0_layout, device_page0_values}
use Rattle.event_msgs.specs.EventAck.{event_ack_layout, event_ack_values}
use Rattle.event_msgs.specs.EventAsk.{event_ask_layout, event_ask_values}
use Rattle.event_msgs.specs.EventReply.{event_reply_layout, event_reply_values}
use Rattle.event_msgs.specs.Topology.{topology_layout, topology_values}
use Rattle.event_msgs.specs.TopologyEntry.{topology_entry_layout, topology_entry_values}
use Rattle.ioc_msgs.specs.IocFacts.{ioc_facts_layout, ioc_facts_values}
use Rattle.ioc_msgs.specs.IocInit.{ioc_init_layout, ioc_init_values}
use Rattle.ioc_msgs.specs.PortEnable.{port_enable_layout, port_enable_values}
use Rattle.ioc_msgs.specs.PortFacts.{port_facts_layout, port_facts_values}
use Rattle.ioc_msgs.specs.UnitControl.{unit_control_layout, unit_control_values}
use Rattle.ioc_msgs.specs.UnitControlReply.{unit_control_reply_layout, unit_control_reply_values}
use Rattle.scsi_msgs.specs.ScsiIo.{scsi_io_layout, scsi_io_values}
use Rattle.scsi_msgs.specs.TaskAsk.{task_ask_layout, task_ask_values}
use Rattle.scsi_disk.specs.Operation.{operation_of}
use Rattle.mpt_messages.specs.FrameBytes.{layout_bytes, message_frame}
use Rattle.mpt_messages.specs.DevicePage.{disk_page}
use Rattle.mpt_messages.specs.Function.{byte_of}
use Rattle.mpt_messages.specs.declared.function.Function.TheVariants as function
use Rattle.mpt_messages.specs.HostFrames.{host_message}
use Rattle.mpt_messages.specs.IocFrames.{reply_frame}
use Rattle.mpt_messages.specs.declared.host_ask.HostAsk.{HostAsk}
use Rattle.mpt_messages.specs.declared.host_ask.HostAsk.TheVariants as ask
use Rattle.mpt_messages.specs.declared.ioc_reply.IocReply.{IocReply}
use Rattle.mpt_messages.specs.declared.ioc_reply.IocReply.TheVariants as reply
use Rattle.mpt_trace.specs.declared.command_form.CommandForm.{CommandForm}
use Rattle.mpt_trace.specs.declared.command_form.CommandForm.TheVariants as form
use Rattle.mpt_trace.specs.declared.input.Input.TheVariants as input
use Rattle.mpt_trace.specs.declared.lane.LaneName.TheVariants as lane
use Rattle.mpt_trace.specs.declared.item.Item.TheVariants as item
use Rattle.mpt_trace.specs.declared.item.Down.TheVariants as down
use Rattle.mpt_trace.specs.declared.item.Up.TheVariants as up
use Rattle.mpt_trace.specs.declared.item.Back.TheVariants as back
use Rattle.mpt_trace.specs.declared.entry.Entry.{Entry}
use Rattle.mpt_trace.specs.declared.entry.Entry.TheVariants as entry
use Rattle.mpt_trace.specs.Command.{command_named}
use Rattle.mpt_wire.specs.Messages.Fields.{address_descriptor, changes_from, post_descriptor, reply_frame_address}
use Rattle.mpt_wire.specs.Ties.Acknowledged.{AcksSucceed, EventsAreAcknowledged}
use Rattle.mpt_wire.specs.Ties.CommandPosts.{CommandPostsPass, OnlyCommandsHaveData, command_message}
use Rattle.mpt_wire.specs.Ties.EventsTold.{EventsAreOfChanges}
use Rattle.mpt_wire.specs.Ties.HandlesAimed.{NamesKnown, HandlesToldPass, no_handles_told}
use Rattle.mpt_wire.specs.Ties.LastPosts.{AnswersAsk, RepliesAnswerPass}
use Rattle.mpt_wire.specs.Ties.PagesTold.{PagesAreOfDisks}
use Rattle.mpt_wire.specs.Ties.RemovalsUnbind.{RemovalsUnbind}

-- two numbers that differ
apart : (a b : ℕ) → (a == b) ≡ false → a ≡ b → ⊥
apart a b n e = grind (arith, common_steps)

-- ---- items

abbrev frame_of : HostAsk → List ℕ
frame_of asked = message_frame (host_message asked)

abbrev posts : ℕ → HostAsk → Entry
posts s asked = entry.Put lane.Down (item.Down (down.Post (post_descriptor post.Default 0 s 0) (frame_of asked) []))

abbrev says : ℕ → IocReply → List ℕ → Entry
says s r page = entry.Put lane.Up (item.Up (up.Reply (address_descriptor s (reply_frame_address 0)) (Some (reply_frame r)) page []))

abbrev hears : IocReply → Entry
hears r = entry.Take lane.Up (item.Up (up.Reply (address_descriptor 0 (reply_frame_address 0)) (Some (reply_frame r)) [] []))

-- the reply frame is returned
abbrev returned : List Entry
returned = entry.Put lane.Down (item.Down (down.Return (reply_frame_address 0) 1)) ∷ entry.Take lane.Down (item.Down (down.Return (reply_frame_address 0) 1)) ∷ []

-- ---- the post of a command

abbrev accepted : List Entry
accepted = entry.Given (input.Submit 1 5 form.Tur) ∷ entry.Accept 1 5 1 ∷ []

-- it has this command, and these data
abbrev posts_command : CommandForm → List ℕ → Entry
posts_command f payload =
    entry.Put lane.Down (item.Down (down.Post (post_descriptor post.ScsiIo 0 1 9) (frame_of (command_message 1 9 (command_named f))) payload))

command_posted : CommandPostsPass 1 (accepted ++ posts_command form.Tur [] ∷ [])
command_posted = (tt, (tt, (record { message = refl; moved = refl }, tt)))

-- the post of another command than the one that was accepted
another_command : CommandPostsPass 1 (accepted ++ posts_command form.Capacity [] ∷ []) → ⊥
unfolding scsi_io_layout scsi_io_values operation_of
another_command p = apart 10 6 refl (ap (λ xs. slice_index xs 0x24) p.1.1.0.message)

-- with data, though the command writes none
data_unasked : CommandPostsPass 1 (accepted ++ posts_command form.Tur (7 ∷ []) ∷ []) → ⊥
data_unasked p = let wrong : ◌≡◌ {A = List ℕ} (7 ∷ []) [] = p.1.1.0.moved in absurd cc

-- a post that is no command's has no data
without_data : OnlyCommandsHaveData (posts 265 (ask.Remove 9) ∷ [])
without_data = (refl, tt)

with_data : OnlyCommandsHaveData (entry.Put lane.Down (item.Down (down.Post (post_descriptor post.Default 0 265 0) (frame_of ask.Notification) (7 ∷ []))) ∷ []) → ⊥
with_data p = let wrong : ◌≡◌ {A = List ℕ} (7 ∷ []) [] = p.0 in absurd cc

-- ---- a reply answers the last post of its identifier

removed : RepliesAnswerPass 265 (posts 265 (ask.Remove 9) ∷ says 265 (reply.Removed 9 0x0d 0) [] ∷ [])
removed = (tt, (record { ask = ask.Remove 9; reply = reply.Removed 9 0x0d 0; asked = refl; replied = refl; answers = (refl, refl, refl) }, tt))

-- BUSY isn't an answer that a remove device of the host gets
removed_busy : RepliesAnswerPass 265 (posts 265 (ask.Remove 9) ∷ says 265 (reply.Removed 9 0x0d 2) [] ∷ []) → ⊥
unfolding scsi_io_layout scsi_io_values task_ask_layout task_ask_values config_ask_layout config_ask_values unit_control_layout unit_control_values unit_control_reply_layout unit_control_reply_values event_ack_layout event_ack_values event_ask_layout event_ask_values port_enable_layout port_enable_values
removed_busy p = by_ask p.1.0.ask p.1.0.reply p.1.0.asked p.1.0.replied p.1.0.answers
  where
    by_ask : (a : HostAsk) (r : IocReply) → frame_of (ask.Remove 9) ≡ frame_of a → reply_frame (reply.Removed 9 0x0d 2) ≡ reply_frame r → AnswersAsk 265 a r → ⊥
    by_ask (ask.Remove handle) (reply.Removed h operation status) e f x =
        apart 2 0 refl (ap (λ xs. slice_index xs 0x0e) (f ∙ ap (λ s. reply_frame (reply.Removed h operation s)) x.2))
    by_ask (ask.ScsiIo smid handle lun cdb cdb_len len write) (reply.Scsi h tag scsi_status status moved sense) e f x = apart 0x1b 0 refl (ap (λ xs. slice_index xs 3) e)
    by_ask (ask.Task handle task_type task_mid) (reply.Task h kind status code count) e f x = apart 0x1b 1 refl (ap (λ xs. slice_index xs 3) e)
    by_ask (ask.PageRead smid handle) (reply.Config action ext_type status) e f x = apart 0x1b 4 refl (ap (λ xs. slice_index xs 3) e)
    by_ask (ask.Ack event context) (reply.Plain fn status) e f x = apart 0x1b 8 refl (ap (λ xs. slice_index xs 3) e)
    by_ask ask.Notification reply.Notified e f x = apart 0x1b 7 refl (ap (λ xs. slice_index xs 3) e)
    by_ask ask.PortEnable (reply.Plain fn status) e f x = apart 0x1b 6 refl (ap (λ xs. slice_index xs 3) e)
    by_ask _ _ e f x = absurd x

-- a reply to what was never posted
unposted : RepliesAnswerPass 265 (says 265 (reply.Removed 9 0x0d 0) [] ∷ []) → ⊥
unposted p = p.0

-- ---- events

abbrev plugs : List Entry
plugs = entry.Take lane.Back (item.Back (back.Plugged 5 1 0 3)) ∷ entry.Bind 9 5 1 ∷ []

event_told : EventsAreOfChanges (4 ∷ []) (plugs ++ says 0 (reply.Topology 1 9 0 4 3 true) [] ∷ [])
event_told = (tt, (tt, (refl, tt)))

same_frame : (a b : List ℕ) → Some a ≡ Some b → a ≡ b
same_frame a b e = cc

-- with another phy than that of the disk
another_phy : EventsAreOfChanges (4 ∷ []) (plugs ++ says 0 (reply.Topology 1 9 0 4 2 true) [] ∷ []) → ⊥
unfolding event_reply_layout event_reply_values topology_layout topology_values topology_entry_layout topology_entry_values
another_phy p =
    apart 2 3 refl (ap (λ xs. slice_index xs 0x25) (same_frame (reply_frame (reply.Topology 1 9 0 4 2 true)) (reply_frame (reply.Topology 1 9 0 4 3 true)) p.1.1.0))

-- of nothing that changed
of_nothing : EventsAreOfChanges (4 ∷ []) (returned ++ says 0 (reply.Topology 1 9 0 4 3 true) [] ∷ []) → ⊥
of_nothing p = p.1.1.0

-- ---- pages

abbrev page_bytes : List ℕ
page_bytes = layout_bytes device_page0_layout (device_page0_values (disk_page 9 5 0 3))

page_told : PagesAreOfDisks (plugs ++ posts 265 (ask.PageRead 265 9) ∷ says 265 (reply.Config 1 0x12 0) page_bytes ∷ [])
unfolding field config_reply_layout config_reply_values
page_told =
    (tt, (tt, (tt, (record { handle = 9; disk = record { plug = record { address = 5; number = 1 }; place = record { expander = 0; phy = 3 } }; asked = refl; bound = refl; bytes = refl }, tt))))

-- a read that succeeds without a page
no_page : PagesAreOfDisks (plugs ++ posts 265 (ask.PageRead 265 9) ∷ says 265 (reply.Config 1 0x12 0) [] ∷ []) → ⊥
unfolding field config_reply_layout config_reply_values device_page0_layout device_page0_values
no_page p = let wrong = p.1.1.1.0.bytes in absurd cc

-- ---- acknowledgements

acknowledged : EventsAreAcknowledged (hears (reply.Topology 1 9 0 4 3 true) ∷ posts 265 (ask.Ack 0x1c 1) ∷ [])
unfolding field event_reply_layout event_reply_values topology_layout topology_values topology_entry_layout topology_entry_values event_ack_layout event_ack_values
acknowledged = (tt, (refl, tt))

-- of another context
another_event : EventsAreAcknowledged (hears (reply.Topology 1 9 0 4 3 true) ∷ posts 265 (ask.Ack 0x1c 2) ∷ []) → ⊥
unfolding field event_reply_layout event_reply_values topology_layout topology_values topology_entry_layout topology_entry_values event_ack_layout event_ack_values
another_event p = apart 2 1 refl (ap (λ xs. slice_index xs 0x10) p.1.0)

-- the reply to one
ack_succeeds : AcksSucceed (says 265 (reply.Plain (byte_of function.EventAck) 0) [] ∷ [])
unfolding field
ack_succeeds = (refl, tt)

ack_fails : AcksSucceed (says 265 (reply.Plain (byte_of function.EventAck) 7) [] ∷ []) → ⊥
unfolding field
ack_fails p = apart 7 0 refl p.0

-- ---- the handles that are named

handle_told : HandlesToldPass (hears (reply.Topology 1 9 0 4 3 true) ∷ posts 265 (ask.PageRead 265 9) ∷ [])
unfolding field changes_from event_reply_layout event_reply_values topology_layout topology_values topology_entry_layout topology_entry_values
handle_told = (tt, (record { request = ask.PageRead 265 9; asked = refl; names = refl }, tt))

-- a page is read of a handle that the host wasn't told of
handle_untold : HandlesToldPass (posts 265 (ask.PageRead 265 9) ∷ []) → ⊥
unfolding scsi_io_layout scsi_io_values task_ask_layout task_ask_values config_ask_layout config_ask_values unit_control_layout unit_control_values event_ack_layout event_ack_values event_ask_layout event_ask_values port_enable_layout port_enable_values ioc_facts_layout ioc_facts_values port_facts_layout port_facts_values ioc_init_layout ioc_init_values
handle_untold p = by_ask p.0.request p.0.asked p.0.names
  where
    by_ask : (a : HostAsk) → frame_of (ask.PageRead 265 9) ≡ frame_of a → NamesKnown no_handles_told a → ⊥
    by_ask (ask.PageRead smid handle) e n = absurd cc
    by_ask (ask.ScsiIo smid handle lun cdb cdb_len len write) e n = apart 4 0 refl (ap (λ xs. slice_index xs 3) e)
    by_ask (ask.Task handle task_type task_mid) e n = apart 4 1 refl (ap (λ xs. slice_index xs 3) e)
    by_ask (ask.Remove handle) e n = apart 4 0x1b refl (ap (λ xs. slice_index xs 3) e)
    by_ask (ask.Ack event context) e n = apart 4 8 refl (ap (λ xs. slice_index xs 3) e)
    by_ask ask.Notification e n = apart 4 7 refl (ap (λ xs. slice_index xs 3) e)
    by_ask ask.PortEnable e n = apart 4 6 refl (ap (λ xs. slice_index xs 3) e)
    by_ask ask.Facts e n = apart 4 3 refl (ap (λ xs. slice_index xs 3) e)
    by_ask ask.PortFacts e n = apart 4 5 refl (ap (λ xs. slice_index xs 3) e)
    by_ask (ask.Init queues) e n = apart 4 2 refl (ap (λ xs. slice_index xs 3) e)

-- ---- remove devices

abbrev takes_removal : Entry
takes_removal = entry.Take lane.Down (item.Down (down.Post (post_descriptor post.Default 0 265 0) (0x0d ∷ 0 ∷ 0 ∷ 0x1b ∷ 9 ∷ 0 ∷ []) []))

-- a reply with this low byte of its IOCStatus
abbrev ends_removal : ℕ → Entry
ends_removal status = entry.Put lane.Up (item.Up (up.Reply (address_descriptor 265 (reply_frame_address 0)) (Some (replicate 14 0 ++ status ∷ 0 ∷ [])) [] []))

unbinds : RemovalsUnbind 265 (takes_removal ∷ entry.Unbind 9 ∷ ends_removal 0 ∷ [])
unfolding field
unbinds = (tt, (tt, (refl, tt)))

-- one that succeeds and leaves the handle bound
leaves_bound : RemovalsUnbind 265 (takes_removal ∷ ends_removal 0 ∷ []) → ⊥
unfolding field
leaves_bound p = let wrong : true ≡ false = p.1.0 in absurd cc
