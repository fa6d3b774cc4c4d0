-- What the rules read in the frames that the host and the controller write, and a whole handshake.
use Rattle.std.proofs.Common.{◌≡◌, ℕ, ◌+◌, true, false, List, [], ◌∷◌, ◌++◌, flat_map, Some, None, replicate, refl}
use Rattle.byteorder.specs.Endian.{little_number}
use Rattle.mpi_layout.specs.Rows.{field}
use Rattle.mpi_rings.specs.declared.request_descriptor.PostKind.TheVariants as post
use Rattle.config_pages.specs.ConfigReply.{config_reply_layout, config_reply_values}
use Rattle.config_pages.specs.DevicePage0.{device_page0_layout, device_page0_values}
use Rattle.event_msgs.specs.EventReply.{event_reply_layout, event_reply_values}
use Rattle.event_msgs.specs.Topology.{topology_layout, topology_values}
use Rattle.event_msgs.specs.TopologyEntry.{topology_entry_layout, topology_entry_values}
use Rattle.ioc_msgs.specs.IocFacts.{ioc_facts_layout, ioc_facts_values}
use Rattle.ioc_msgs.specs.IocFactsReply.{ioc_facts_reply_layout, ioc_facts_reply_values}
use Rattle.ioc_msgs.specs.UnitControl.{unit_control_layout, unit_control_values}
use Rattle.scsi_msgs.specs.ScsiIo.{scsi_io_layout, scsi_io_values}
use Rattle.scsi_msgs.specs.TaskAsk.{task_ask_layout, task_ask_values}
use Rattle.mpt_messages.specs.DevicePage.{disk_page}
use Rattle.mpt_messages.specs.FrameBytes.{layout_bytes, message_frame}
use Rattle.mpt_messages.specs.HostFrames.{host_message}
use Rattle.mpt_messages.specs.IocFrames.{reply_frame}
use Rattle.mpt_messages.specs.declared.host_ask.HostAsk.{HostAsk}
use Rattle.mpt_messages.specs.declared.host_ask.HostAsk.TheVariants as ask
use Rattle.mpt_messages.specs.declared.ioc_reply.IocReply.{IocReply}
use Rattle.mpt_messages.specs.declared.ioc_reply.IocReply.TheVariants as reply
use Rattle.mpt_trace.specs.declared.item.Down.{Down}
use Rattle.mpt_trace.specs.declared.item.Down.TheVariants as down
use Rattle.mpt_trace.specs.declared.item.Up.{Up}
use Rattle.mpt_trace.specs.declared.item.Up.TheVariants as up
use Rattle.mpt_trace.specs.declared.entry.Entry.{Entry}
use Rattle.mpt_wire.specs.Walks.Passes.{state_after}
use Rattle.mpt_wire.specs.Messages.Fields.{address_descriptor, changes_from, post_descriptor, reply_frame_address}
use Rattle.mpt_wire.specs.Handles.Names.{changes_told, page_carried, post_in, removal_posted, reset_posted}
use Rattle.mpt_wire.specs.Messages.DoorbellWords.{Talks, asked_bytes, door_next, is_over, quiet_door, replied_bytes}
use Rattle.mpt_wire.proofs.MessageExamples.{reads, writes}

abbrev posts : ℕ → HostAsk → Down
posts descriptor asked = down.Post descriptor (message_frame (host_message asked)) []

abbrev replies : ℕ → IocReply → List ℕ → Up
replies s r page = up.Reply (address_descriptor s (reply_frame_address 0)) (Some (reply_frame r)) page []

a_removal : removal_posted (posts (post_descriptor post.Default 0 265 0) (ask.Remove 9)) ≡ Some (record { smid = 265; handle = 9 })
unfolding field unit_control_layout unit_control_values
a_removal = refl

a_target_reset : reset_posted (posts (post_descriptor post.HighPriority 0 257 0) (ask.Task 9 3 0)) ≡ Some (record { smid = 257; handle = 9 })
unfolding field task_ask_layout task_ask_values
a_target_reset = refl

-- an abort is none
an_abort : reset_posted (posts (post_descriptor post.HighPriority 0 257 0) (ask.Task 9 1 1)) ≡ None
unfolding field task_ask_layout task_ask_values
an_abort = refl

a_command : post_in (posts (post_descriptor post.ScsiIo 0 1 9) (ask.ScsiIo 1 9 0 (replicate 16 0) 6 0 false)) ≡ Some (record { smid = 1; handle = 9 })
unfolding field scsi_io_layout scsi_io_values
a_command = refl

an_event : changes_told (replies 0 (reply.Topology 1 9 0 4 0 true) []) ≡ record { handle = 9; status = 1 } ∷ []
unfolding field changes_from event_reply_layout event_reply_values topology_layout topology_values topology_entry_layout topology_entry_values
an_event = refl

another_event : changes_told (replies 0 (reply.Topology 2 9 0 4 0 false) []) ≡ record { handle = 9; status = 2 } ∷ []
unfolding field changes_from event_reply_layout event_reply_values topology_layout topology_values topology_entry_layout topology_entry_values
another_event = refl

a_page : page_carried (replies 265 (reply.Config 1 0x12 0) (layout_bytes device_page0_layout (device_page0_values (disk_page 9 0x5000_c500_0000_0001 0 0)))) ≡ Some (record { handle = 9; address = 0x5000_c500_0000_0001 })
unfolding field config_reply_layout config_reply_values device_page0_layout device_page0_values
a_page = refl

-- a refused read carries none
no_page : page_carried (replies 265 (reply.Config 1 0x12 0x22) []) ≡ None
unfolding field config_reply_layout config_reply_values device_page0_layout device_page0_values
no_page = refl

-- ---- IOC Facts, whole

-- the words of bytes
abbrev words : List ℕ → List ℕ
words [] = []
words (a ∷ []) = a ∷ []
words (a ∷ b ∷ bytes) = little_number 2 (a ∷ b ∷ []) ∷ words bytes

-- all words of the reply are read, and at last the Doorbell that isn't used any longer
abbrev facts_asked : List Entry
facts_asked = (writes 0x4203_0000 ∷ writes 0x0300_0000 ∷ writes 0 ∷ writes 0 ∷ []) ++ (flat_map (λ word. reads (0x1800_0000 + word)) (words (replied_bytes (reply.Facts 0 1))) ++ reads 0x1000_0000)

facts_talked : (state_after door_next quiet_door facts_asked).talk ≡ Talks 3 (asked_bytes ask.Facts) (replied_bytes (reply.Facts 0 1))
unfolding ioc_facts_layout ioc_facts_values ioc_facts_reply_layout ioc_facts_reply_values
facts_talked = refl

facts_over : is_over (state_after door_next quiet_door facts_asked).talk ≡ true
unfolding ioc_facts_layout ioc_facts_values ioc_facts_reply_layout ioc_facts_reply_values
facts_over = refl
