-- The layouts of the messages: their lengths, and that their rows cover each byte once.
use Rattle.std.proofs.Common.{◌≡◌, ℕ, refl}
use Rattle.mpi_layout.specs.Rows.{Shape, IsTiled}
use Rattle.scsi_msgs.specs.ScsiIo.{scsi_io_layout}
use Rattle.scsi_msgs.specs.TaskAsk.{task_ask_layout}
use Rattle.ioc_msgs.specs.IocInit.{ioc_init_layout}
use Rattle.ioc_msgs.specs.IocFacts.{ioc_facts_layout}
use Rattle.config_pages.specs.ConfigAsk.{config_ask_layout}
use Rattle.ioc_msgs.specs.PortFacts.{port_facts_layout}
use Rattle.ioc_msgs.specs.PortEnable.{port_enable_layout}
use Rattle.event_msgs.specs.EventAsk.{event_ask_layout}
use Rattle.event_msgs.specs.EventAck.{event_ack_layout}
use Rattle.ioc_msgs.specs.UnitControl.{unit_control_layout}
use Rattle.scsi_msgs.specs.ScsiReply.{scsi_reply_layout}
use Rattle.scsi_msgs.specs.TaskReply.{task_reply_layout}
use Rattle.ioc_msgs.specs.IocInitReply.{ioc_init_reply_layout}
use Rattle.ioc_msgs.specs.IocFactsReply.{ioc_facts_reply_layout}
use Rattle.config_pages.specs.ConfigReply.{config_reply_layout}
use Rattle.ioc_msgs.specs.PortFactsReply.{port_facts_reply_layout}
use Rattle.ioc_msgs.specs.PortEnableReply.{port_enable_reply_layout}
use Rattle.event_msgs.specs.EventReply.{event_reply_layout}
use Rattle.event_msgs.specs.EventAckReply.{event_ack_reply_layout}
use Rattle.ioc_msgs.specs.UnitControlReply.{unit_control_reply_layout}
use Rattle.event_msgs.specs.Topology.{topology_layout}
use Rattle.event_msgs.specs.TopologyEntry.{topology_entry_layout}

-- a layout of so many bytes, each in one row
pub record IsWhole (layout : Shape) (n : ℕ) : Type 0 where
  pub long : layout.length ≡ n
  pub tiled : IsTiled layout

pub scsi_io-whole : IsWhole scsi_io_layout 108
unfolding scsi_io_layout
scsi_io-whole = record { long = refl; tiled = refl }

pub task_ask-whole : IsWhole task_ask_layout 52
unfolding task_ask_layout
task_ask-whole = record { long = refl; tiled = refl }

pub ioc_init-whole : IsWhole ioc_init_layout 72
unfolding ioc_init_layout
ioc_init-whole = record { long = refl; tiled = refl }

pub ioc_facts-whole : IsWhole ioc_facts_layout 12
unfolding ioc_facts_layout
ioc_facts-whole = record { long = refl; tiled = refl }

pub config_ask-whole : IsWhole config_ask_layout 40
unfolding config_ask_layout
config_ask-whole = record { long = refl; tiled = refl }

pub port_facts-whole : IsWhole port_facts_layout 12
unfolding port_facts_layout
port_facts-whole = record { long = refl; tiled = refl }

pub port_enable-whole : IsWhole port_enable_layout 12
unfolding port_enable_layout
port_enable-whole = record { long = refl; tiled = refl }

pub event_ask-whole : IsWhole event_ask_layout 44
unfolding event_ask_layout
event_ask-whole = record { long = refl; tiled = refl }

pub event_ack-whole : IsWhole event_ack_layout 20
unfolding event_ack_layout
event_ack-whole = record { long = refl; tiled = refl }

pub unit_control-whole : IsWhole unit_control_layout 44
unfolding unit_control_layout
unit_control-whole = record { long = refl; tiled = refl }

pub scsi_reply-whole : IsWhole scsi_reply_layout 40
unfolding scsi_reply_layout
scsi_reply-whole = record { long = refl; tiled = refl }

pub task_reply-whole : IsWhole task_reply_layout 28
unfolding task_reply_layout
task_reply-whole = record { long = refl; tiled = refl }

pub ioc_init_reply-whole : IsWhole ioc_init_reply_layout 20
unfolding ioc_init_reply_layout
ioc_init_reply-whole = record { long = refl; tiled = refl }

pub ioc_facts_reply-whole : IsWhole ioc_facts_reply_layout 64
unfolding ioc_facts_reply_layout
ioc_facts_reply-whole = record { long = refl; tiled = refl }

pub config_reply-whole : IsWhole config_reply_layout 24
unfolding config_reply_layout
config_reply-whole = record { long = refl; tiled = refl }

pub port_facts_reply-whole : IsWhole port_facts_reply_layout 28
unfolding port_facts_reply_layout
port_facts_reply-whole = record { long = refl; tiled = refl }

pub port_enable_reply-whole : IsWhole port_enable_reply_layout 20
unfolding port_enable_reply_layout
port_enable_reply-whole = record { long = refl; tiled = refl }

pub event_reply-whole : IsWhole event_reply_layout 28
unfolding event_reply_layout
event_reply-whole = record { long = refl; tiled = refl }

pub event_ack_reply-whole : IsWhole event_ack_reply_layout 20
unfolding event_ack_reply_layout
event_ack_reply-whole = record { long = refl; tiled = refl }

pub unit_control_reply-whole : IsWhole unit_control_reply_layout 20
unfolding unit_control_reply_layout
unit_control_reply-whole = record { long = refl; tiled = refl }

pub topology-whole : IsWhole topology_layout 12
unfolding topology_layout
topology-whole = record { long = refl; tiled = refl }

pub topology_entry-whole : IsWhole topology_entry_layout 4
unfolding topology_entry_layout
topology_entry-whole = record { long = refl; tiled = refl }
