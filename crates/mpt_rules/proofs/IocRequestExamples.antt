-- Configuration, event notification and acknowledgement, port enable, and remove device at the controller.
use Rattle.std.proofs.Common.{◌≡◌, ℕ, List, [], ◌∷◌, ◌++◌, true, false, length, map, refl}
use Rattle.std.specs.List.{flat_map}
use Rattle.std.specs.FinSet as set
use Rattle.std.specs.Ordering.{nat_cmp}
use Rattle.mpi_layout.specs.Rows.{field}
use Rattle.config_pages.specs.ConfigAsk.{config_ask_layout, config_ask_values}
use Rattle.config_pages.specs.ConfigReply.{config_reply_layout, config_reply_values}
use Rattle.config_pages.specs.DevicePage0.{device_page0_layout, device_page0_values}
use Rattle.config_pages.specs.declared.config_ask.ConfigAsk.{ConfigAsk}
use Rattle.event_msgs.specs.EventAck.{event_ack_layout, event_ack_values}
use Rattle.event_msgs.specs.EventAsk.{event_ask_layout, event_ask_values}
use Rattle.event_msgs.specs.EventReply.{event_reply_layout, event_reply_values}
use Rattle.ioc_msgs.specs.PortEnable.{port_enable_layout, port_enable_values}
use Rattle.ioc_msgs.specs.UnitControl.{unit_control_layout, unit_control_values}
use Rattle.ioc_msgs.specs.UnitControlReply.{unit_control_reply_layout, unit_control_reply_values}
use Rattle.scsi_msgs.specs.ScsiIo.{scsi_io_layout, scsi_io_values}
use Rattle.mpi_rings.specs.declared.request_descriptor.PostKind.TheVariants as post
use Rattle.mpt_messages.specs.FrameBytes.{message_frame}
use Rattle.mpt_messages.specs.HostFrames.{page_asked, removal_asked}
use Rattle.mpt_messages.specs.declared.host_ask.HostAsk.TheVariants as ask
use Rattle.mpt_messages.specs.declared.message.Message.{Message}
use Rattle.mpt_messages.specs.declared.message.Message.TheVariants as message
use Rattle.mpt_wire.specs.Messages.Fields.{page_dev_handle_in, page_sas_address_in, post_descriptor}
use Rattle.mpt_trace.specs.declared.item.Back.TheVariants as back
use Rattle.mpt_trace.specs.declared.item.Down.{Down}
use Rattle.mpt_trace.specs.declared.item.Down.TheVariants as down
use Rattle.mpt_trace.specs.declared.item.Out.TheVariants as out
use Rattle.mpt_rules.specs.declared.binding.Binding.TheVariants as binding
use Rattle.mpt_rules.specs.declared.said.Said.{Said}
use Rattle.mpt_rules.specs.declared.said.Said.TheVariants as said
use Rattle.mpt_rules.specs.Ioc.Parts.{Ioc}
use Rattle.mpt_rules.specs.Ioc.Replies.{outbox_of}
use Rattle.mpt_rules.specs.Ioc.Tables.{binding_of, with_binding}
use Rattle.mpt_rules.proofs.IocExampleParts.{at_work, default_post, hears_all, normal, operational, ready_test, seen, takes_all, with_disk, with_gone_disk}

-- a message as a default post of identifier 265
abbrev asks : Message → Down
asks m = down.Post (post_descriptor post.Default 0 265 0) (message_frame m) []

abbrev answered : Ioc → Message → Ioc
answered ioc m = normal (takes_all ioc (asks m ∷ []))

-- a SCSI IO's frame by a default descriptor, and a frame with a field that has to be 0
other_kind : seen (normal (takes_all (with_disk 1) (default_post 265 (ready_test 1 0x0009) ∷ []))) 0 ≡ (265 ∷ 0x00 ∷ 0x0001 ∷ []) ∷ []
unfolding field scsi_io_layout scsi_io_values
other_kind = refl

faulty_field : seen (answered (with_disk 1) (message.UnitControl (record (removal_asked 0x0009) { reserved_15 = 1 }))) 0 ≡ (265 ∷ 0x1b ∷ 0x0007 ∷ []) ∷ []
unfolding field unit_control_layout unit_control_values
faulty_field = refl

-- ---- configuration

abbrev configured : ConfigAsk → Ioc
configured m = answered (with_disk 1) (message.ConfigAsk m)

abbrev page_in : Said → List (List ℕ)
page_in (said.Framed smid frame page sense) = page ∷ []
page_in _ = []

abbrev pages : Ioc → List (List ℕ)
pages ioc = flat_map page_in (outbox_of ioc 0)

no_action : seen (configured (record (page_asked 265 0x0009) { action = 2 })) 0 ≡ (265 ∷ 0x04 ∷ 0x0020 ∷ []) ∷ []
unfolding field config_ask_layout config_ask_values config_reply_layout config_reply_values
no_action = refl

no_type : seen (configured (record (page_asked 265 0x0009) { page_type = 0x1e })) 0 ≡ (265 ∷ 0x04 ∷ 0x0021 ∷ []) ∷ []
unfolding field config_ask_layout config_ask_values config_reply_layout config_reply_values
no_type = refl

other_type : seen (configured (record (page_asked 265 0x0009) { ext_page_type = 0x10 })) 0 ≡ (265 ∷ 0x04 ∷ 0x0021 ∷ []) ∷ []
unfolding field config_ask_layout config_ask_values config_reply_layout config_reply_values
other_type = refl

no_page : seen (configured (record (page_asked 265 0x0009) { page_number = 1 })) 0 ≡ (265 ∷ 0x04 ∷ 0x0022 ∷ []) ∷ []
unfolding field config_ask_layout config_ask_values config_reply_layout config_reply_values
no_page = refl

no_form : seen (configured (record (page_asked 265 0x0009) { page_address = 0x1000_0009 })) 0 ≡ (265 ∷ 0x04 ∷ 0x0022 ∷ []) ∷ []
unfolding field config_ask_layout config_ask_values config_reply_layout config_reply_values
no_form = refl

no_disk : seen (configured (page_asked 265 0x000a)) 0 ≡ (265 ∷ 0x04 ∷ 0x0022 ∷ []) ∷ []
unfolding field config_ask_layout config_ask_values config_reply_layout config_reply_values
no_disk = refl

page_read : seen (configured (page_asked 265 0x0009)) 0 ≡ (265 ∷ 0x04 ∷ 0x0000 ∷ []) ∷ []
unfolding field config_ask_layout config_ask_values config_reply_layout config_reply_values device_page0_layout device_page0_values
page_read = refl

page_of_the_disk : map page_sas_address_in (pages (configured (page_asked 265 0x0009))) ≡ 0xA ∷ []
unfolding field config_ask_layout config_ask_values config_reply_layout config_reply_values device_page0_layout device_page0_values
page_of_the_disk = refl

-- the page is cut to the element, and a header action has none
cut_page : map length (pages (configured (record (page_asked 265 0x0009) { sge_length = 20 }))) ≡ 20 ∷ []
unfolding field config_ask_layout config_ask_values config_reply_layout config_reply_values device_page0_layout device_page0_values
cut_page = refl

no_page_of_a_header : pages (configured (record (page_asked 265 0x0009) { action = 0 })) ≡ [] ∷ []
unfolding field config_ask_layout config_ask_values config_reply_layout config_reply_values device_page0_layout device_page0_values
no_page_of_a_header = refl

-- the walk over handles: it begins with 0xffff, passes over what isn't plugged, and ends
abbrev after_handle : ℕ → Ioc
after_handle handle =
    answered (with_binding (with_disk 1) 0x000b (binding.Present 0xB 1 0 1)) (message.ConfigAsk (record (page_asked 265 0) { page_address = handle }))

walk : map page_dev_handle_in (pages (after_handle 0xffff) ++ pages (after_handle 0x0009)) ≡ 0x0009 ∷ 0x000b ∷ []
unfolding field config_ask_layout config_ask_values config_reply_layout config_reply_values device_page0_layout device_page0_values
walk = refl

walk_ends : seen (after_handle 0x000b) 0 ≡ (265 ∷ 0x04 ∷ 0x0022 ∷ []) ∷ []
unfolding field config_ask_layout config_ask_values config_reply_layout config_reply_values
walk_ends = refl

-- ---- event notification

abbrev notified : Ioc
notified = normal (takes_all (record (operational 1) { through = false }) (default_post 265 ask.Notification ∷ []))

notified_reply : seen notified 0 ≡ (265 ∷ 0x07 ∷ 0x0000 ∷ []) ∷ []
unfolding field event_ask_layout event_ask_values event_reply_layout event_reply_values
notified_reply = refl

notified_through : notified.through ≡ true
unfolding field event_ask_layout event_ask_values
notified_through = refl

-- ---- acknowledgement

abbrev acked : set.FinSet nat_cmp → ℕ → Ioc
acked contexts event = normal (takes_all (record (operational 1) { unacked = contexts }) (default_post 265 (ask.Ack event 1) ∷ []))

other_event : seen (acked set.empty 0x001d) 0 ≡ (265 ∷ 0x08 ∷ 0x0007 ∷ []) ∷ []
unfolding field event_ack_layout event_ack_values
other_event = refl

-- an event that isn't acknowledged, one that was, and one that is acknowledged now
context : (contexts : set.FinSet nat_cmp) → set.contains contexts 1 ≡ true → seen (acked contexts 0x001c) 0 ≡ (265 ∷ 0x08 ∷ 0x0000 ∷ []) ∷ []
unfolding field event_ack_layout event_ack_values
context contexts here = rw here refl

other_context : (contexts : set.FinSet nat_cmp) → set.contains contexts 1 ≡ false → seen (acked contexts 0x001c) 0 ≡ (265 ∷ 0x08 ∷ 0x0007 ∷ []) ∷ []
unfolding field event_ack_layout event_ack_values
other_context contexts missing = rw missing refl

acked_once : (contexts : set.FinSet nat_cmp) → set.contains contexts 1 ≡ true → (acked contexts 0x001c).unacked ≡ set.remove contexts 1
unfolding field event_ack_layout event_ack_values
acked_once contexts here = rw here refl

-- ---- port enable

abbrev enabled : Ioc
enabled = normal (normal (takes_all (operational 1) (default_post 265 ask.PortEnable ∷ default_post 266 ask.PortEnable ∷ [])))

discovers : enabled.out ≡ out.Discover ∷ []
unfolding field port_enable_layout port_enable_values
discovers = refl

-- the second one is refused, and the first one answered once
enabled_replies : seen (hears_all enabled (back.Discovered ∷ back.Discovered ∷ [])) 0 ≡ (266 ∷ 0x06 ∷ 0x0008 ∷ []) ∷ (265 ∷ 0x06 ∷ 0x0000 ∷ []) ∷ []
unfolding field port_enable_layout port_enable_values
enabled_replies = refl

-- ---- remove device

abbrev removed : Ioc → Ioc
removed ioc = answered ioc (message.UnitControl (removal_asked 0x0009))

other_operation : seen (answered with_gone_disk (message.UnitControl (record (removal_asked 0x0009) { operation = 0x0e }))) 0 ≡ (265 ∷ 0x1b ∷ 0x0007 ∷ []) ∷ []
unfolding field unit_control_layout unit_control_values unit_control_reply_layout unit_control_reply_values
other_operation = refl

removed_unbound : seen (removed (operational 1)) 0 ≡ (265 ∷ 0x1b ∷ 0x0042 ∷ []) ∷ []
unfolding field unit_control_layout unit_control_values unit_control_reply_layout unit_control_reply_values
removed_unbound = refl

removed_present : seen (removed (with_disk 1)) 0 ≡ (265 ∷ 0x1b ∷ 0x0008 ∷ []) ∷ []
unfolding field unit_control_layout unit_control_values unit_control_reply_layout unit_control_reply_values
removed_present = refl

removed_busy : seen (removed (with_binding (at_work 1) 0x0009 (binding.Gone 0xA))) 0 ≡ (265 ∷ 0x1b ∷ 0x0002 ∷ []) ∷ []
unfolding field scsi_io_layout scsi_io_values unit_control_layout unit_control_values unit_control_reply_layout unit_control_reply_values
removed_busy = refl

removed_gone : seen (removed with_gone_disk) 0 ≡ (265 ∷ 0x1b ∷ 0x0000 ∷ []) ∷ []
unfolding field unit_control_layout unit_control_values unit_control_reply_layout unit_control_reply_values
removed_gone = refl

unbound : binding_of (removed with_gone_disk) 0x0009 ≡ binding.Unbound
unfolding field unit_control_layout unit_control_values unit_control_reply_layout unit_control_reply_values
unbound = refl
