-- Of the default posts only the event notification's frame is one.
use Rattle.std.proofs.Common.{◌≡◌, ℕ, false, refl}
use Rattle.config_pages.specs.ConfigAsk.{config_ask_layout, config_ask_values}
use Rattle.event_msgs.specs.EventAck.{event_ack_layout, event_ack_values}
use Rattle.ioc_msgs.specs.PortEnable.{port_enable_layout, port_enable_values}
use Rattle.ioc_msgs.specs.UnitControl.{unit_control_layout, unit_control_values}
use Rattle.mpi_layout.specs.Rows.{field}
use Rattle.mpt_messages.specs.declared.host_ask.HostAsk.TheVariants as ask
use Rattle.mpt_rules.specs.Host.Posts.{frame_asked}
use Rattle.mpt_wire.specs.Queues.LeastPosts.{is_notification}

pub page_isnt : (s handle : ℕ) → is_notification (frame_asked (ask.PageRead s handle)) ≡ false
unfolding config_ask_layout config_ask_values field
page_isnt s handle = refl

pub removal_isnt : (handle : ℕ) → is_notification (frame_asked (ask.Remove handle)) ≡ false
unfolding unit_control_layout unit_control_values field
removal_isnt handle = refl

pub ack_isnt : (event context : ℕ) → is_notification (frame_asked (ask.Ack event context)) ≡ false
unfolding event_ack_layout event_ack_values field
ack_isnt event context = refl

pub enable_isnt : is_notification (frame_asked ask.PortEnable) ≡ false
unfolding port_enable_layout port_enable_values field
enable_isnt = refl
