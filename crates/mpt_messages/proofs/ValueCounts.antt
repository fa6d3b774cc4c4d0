-- A message has as many numbers as its layout has rows.
use Rattle.std.proofs.Common.{IsTrue, refl}
use Rattle.scsi_msgs.specs.declared.scsi_io.ScsiIo.{ScsiIo}
use Rattle.scsi_msgs.specs.ScsiIo.{scsi_io_layout, scsi_io_values}
use Rattle.scsi_msgs.specs.declared.task_ask.TaskAsk.{TaskAsk}
use Rattle.scsi_msgs.specs.TaskAsk.{task_ask_layout, task_ask_values}
use Rattle.ioc_msgs.specs.declared.ioc_init.IocInit.{IocInit}
use Rattle.ioc_msgs.specs.IocInit.{ioc_init_layout, ioc_init_values}
use Rattle.ioc_msgs.specs.declared.ioc_facts.IocFacts.{IocFacts}
use Rattle.ioc_msgs.specs.IocFacts.{ioc_facts_layout, ioc_facts_values}
use Rattle.config_pages.specs.declared.config_ask.ConfigAsk.{ConfigAsk}
use Rattle.config_pages.specs.ConfigAsk.{config_ask_layout, config_ask_values}
use Rattle.ioc_msgs.specs.declared.port_facts.PortFacts.{PortFacts}
use Rattle.ioc_msgs.specs.PortFacts.{port_facts_layout, port_facts_values}
use Rattle.ioc_msgs.specs.declared.port_enable.PortEnable.{PortEnable}
use Rattle.ioc_msgs.specs.PortEnable.{port_enable_layout, port_enable_values}
use Rattle.event_msgs.specs.declared.event_ask.EventAsk.{EventAsk}
use Rattle.event_msgs.specs.EventAsk.{event_ask_layout, event_ask_values}
use Rattle.event_msgs.specs.declared.event_ack.EventAck.{EventAck}
use Rattle.event_msgs.specs.EventAck.{event_ack_layout, event_ack_values}
use Rattle.ioc_msgs.specs.declared.unit_control.UnitControl.{UnitControl}
use Rattle.ioc_msgs.specs.UnitControl.{unit_control_layout, unit_control_values}
use Rattle.scsi_msgs.specs.declared.scsi_reply.ScsiReply.{ScsiReply}
use Rattle.scsi_msgs.specs.ScsiReply.{scsi_reply_layout, scsi_reply_values}
use Rattle.scsi_msgs.specs.declared.task_reply.TaskReply.{TaskReply}
use Rattle.scsi_msgs.specs.TaskReply.{task_reply_layout, task_reply_values}
use Rattle.ioc_msgs.specs.declared.ioc_facts_reply.IocFactsReply.{IocFactsReply}
use Rattle.ioc_msgs.specs.IocFactsReply.{ioc_facts_reply_layout, ioc_facts_reply_values}
use Rattle.config_pages.specs.declared.config_reply.ConfigReply.{ConfigReply}
use Rattle.config_pages.specs.ConfigReply.{config_reply_layout, config_reply_values}
use Rattle.ioc_msgs.specs.declared.port_facts_reply.PortFactsReply.{PortFactsReply}
use Rattle.ioc_msgs.specs.PortFactsReply.{port_facts_reply_layout, port_facts_reply_values}
use Rattle.event_msgs.specs.declared.event_reply.EventReply.{EventReply}
use Rattle.event_msgs.specs.EventReply.{event_reply_layout, event_reply_values}
use Rattle.ioc_msgs.specs.declared.unit_control_reply.UnitControlReply.{UnitControlReply}
use Rattle.ioc_msgs.specs.UnitControlReply.{unit_control_reply_layout, unit_control_reply_values}
use Rattle.event_msgs.specs.declared.topology.Topology.{Topology}
use Rattle.event_msgs.specs.Topology.{topology_layout, topology_values}
use Rattle.event_msgs.specs.declared.topology_entry.TopologyEntry.{TopologyEntry}
use Rattle.event_msgs.specs.TopologyEntry.{topology_entry_layout, topology_entry_values}
use Rattle.mpt_messages.proofs.LayoutStands.{pair_up}

pub scsi_io-paired : (m : ScsiIo) → IsTrue (pair_up (scsi_io_layout).rows (scsi_io_values m))
unfolding scsi_io_layout scsi_io_values
scsi_io-paired m = refl

pub task_ask-paired : (m : TaskAsk) → IsTrue (pair_up (task_ask_layout).rows (task_ask_values m))
unfolding task_ask_layout task_ask_values
task_ask-paired m = refl

pub ioc_init-paired : (m : IocInit) → IsTrue (pair_up (ioc_init_layout).rows (ioc_init_values m))
unfolding ioc_init_layout ioc_init_values
ioc_init-paired m = refl

pub ioc_facts-paired : (m : IocFacts) → IsTrue (pair_up (ioc_facts_layout).rows (ioc_facts_values m))
unfolding ioc_facts_layout ioc_facts_values
ioc_facts-paired m = refl

pub config_ask-paired : (m : ConfigAsk) → IsTrue (pair_up (config_ask_layout).rows (config_ask_values m))
unfolding config_ask_layout config_ask_values
config_ask-paired m = refl

pub port_facts-paired : (m : PortFacts) → IsTrue (pair_up (port_facts_layout).rows (port_facts_values m))
unfolding port_facts_layout port_facts_values
port_facts-paired m = refl

pub port_enable-paired : (m : PortEnable) → IsTrue (pair_up (port_enable_layout).rows (port_enable_values m))
unfolding port_enable_layout port_enable_values
port_enable-paired m = refl

pub event_ask-paired : (m : EventAsk) → IsTrue (pair_up (event_ask_layout).rows (event_ask_values m))
unfolding event_ask_layout event_ask_values
event_ask-paired m = refl

pub event_ack-paired : (m : EventAck) → IsTrue (pair_up (event_ack_layout).rows (event_ack_values m))
unfolding event_ack_layout event_ack_values
event_ack-paired m = refl

pub unit_control-paired : (m : UnitControl) → IsTrue (pair_up (unit_control_layout).rows (unit_control_values m))
unfolding unit_control_layout unit_control_values
unit_control-paired m = refl

pub scsi_reply-paired : (m : ScsiReply) → IsTrue (pair_up (scsi_reply_layout).rows (scsi_reply_values m))
unfolding scsi_reply_layout scsi_reply_values
scsi_reply-paired m = refl

pub task_reply-paired : (m : TaskReply) → IsTrue (pair_up (task_reply_layout).rows (task_reply_values m))
unfolding task_reply_layout task_reply_values
task_reply-paired m = refl

pub ioc_facts_reply-paired : (m : IocFactsReply) → IsTrue (pair_up (ioc_facts_reply_layout).rows (ioc_facts_reply_values m))
unfolding ioc_facts_reply_layout ioc_facts_reply_values
ioc_facts_reply-paired m = refl

pub config_reply-paired : (m : ConfigReply) → IsTrue (pair_up (config_reply_layout).rows (config_reply_values m))
unfolding config_reply_layout config_reply_values
config_reply-paired m = refl

pub port_facts_reply-paired : (m : PortFactsReply) → IsTrue (pair_up (port_facts_reply_layout).rows (port_facts_reply_values m))
unfolding port_facts_reply_layout port_facts_reply_values
port_facts_reply-paired m = refl

pub event_reply-paired : (m : EventReply) → IsTrue (pair_up (event_reply_layout).rows (event_reply_values m))
unfolding event_reply_layout event_reply_values
event_reply-paired m = refl

pub unit_control_reply-paired : (m : UnitControlReply) → IsTrue (pair_up (unit_control_reply_layout).rows (unit_control_reply_values m))
unfolding unit_control_reply_layout unit_control_reply_values
unit_control_reply-paired m = refl

pub topology-paired : (m : Topology) → IsTrue (pair_up (topology_layout).rows (topology_values m))
unfolding topology_layout topology_values
topology-paired m = refl

pub topology_entry-paired : (m : TopologyEntry) → IsTrue (pair_up (topology_entry_layout).rows (topology_entry_values m))
unfolding topology_entry_layout topology_entry_values
topology_entry-paired m = refl
