-- The bytes of a message and of its whole frame, as lists.
use Rattle.std.specs.Prelude.{ℕ, ◌-◌, ◌*◌, List, [], ◌∷◌, ◌++◌, take, replicate}
use Rattle.std.specs.List.{flat_map}
use Rattle.byteorder.specs.Endian.{little_bytes}
use Rattle.mpi_layout.specs.Rows.{Shape, RowShape}
use Rattle.event_msgs.specs.declared.event_data.EventData.{EventData}
use Rattle.event_msgs.specs.declared.event_data.EventData.TheVariants as kind
use Rattle.event_msgs.specs.declared.topology_entry.TopologyEntry.{TopologyEntry}
use Rattle.event_msgs.specs.Topology.{topology_end, topology_layout, topology_values}
use Rattle.event_msgs.specs.TopologyEntry.{topology_entry_layout, topology_entry_values}
use Rattle.scsi_msgs.specs.ScsiIo.{scsi_io_layout, scsi_io_values}
use Rattle.scsi_msgs.specs.TaskAsk.{task_ask_layout, task_ask_values}
use Rattle.ioc_msgs.specs.IocInit.{ioc_init_layout, ioc_init_values}
use Rattle.ioc_msgs.specs.IocFacts.{ioc_facts_layout, ioc_facts_values}
use Rattle.config_pages.specs.ConfigAsk.{config_ask_layout, config_ask_values}
use Rattle.ioc_msgs.specs.PortFacts.{port_facts_layout, port_facts_values}
use Rattle.ioc_msgs.specs.PortEnable.{port_enable_layout, port_enable_values}
use Rattle.event_msgs.specs.EventAsk.{event_ask_layout, event_ask_values}
use Rattle.event_msgs.specs.EventAck.{event_ack_layout, event_ack_values}
use Rattle.ioc_msgs.specs.UnitControl.{unit_control_layout, unit_control_values}
use Rattle.scsi_msgs.specs.ScsiReply.{scsi_reply_layout, scsi_reply_length, scsi_reply_values}
use Rattle.scsi_msgs.specs.TaskReply.{task_reply_layout, task_reply_values}
use Rattle.ioc_msgs.specs.IocInitReply.{ioc_init_reply_layout, ioc_init_reply_values}
use Rattle.ioc_msgs.specs.IocFactsReply.{ioc_facts_reply_layout, ioc_facts_reply_values}
use Rattle.config_pages.specs.ConfigReply.{config_reply_layout, config_reply_values}
use Rattle.ioc_msgs.specs.PortFactsReply.{port_facts_reply_layout, port_facts_reply_values}
use Rattle.ioc_msgs.specs.PortEnableReply.{port_enable_reply_layout, port_enable_reply_values}
use Rattle.event_msgs.specs.EventReply.{event_reply_layout, event_reply_values}
use Rattle.event_msgs.specs.EventAckReply.{event_ack_reply_layout, event_ack_reply_values}
use Rattle.ioc_msgs.specs.UnitControlReply.{unit_control_reply_layout, unit_control_reply_values}
use Rattle.mpt_messages.specs.declared.message.Message.{Message}
use Rattle.mpt_messages.specs.declared.message.Message.TheVariants as message
use Rattle.mpt_messages.specs.Message.{message_length}

-- the bytes of rows with these numbers, one row after the other, each with its lowest byte first
abbrev pub rows_bytes : List RowShape → List ℕ → List ℕ
rows_bytes [] values = []
rows_bytes (row ∷ rows) [] = []
rows_bytes (row ∷ rows) (value ∷ values) = little_bytes row.width value ++ rows_bytes rows values

-- the bytes of a layout with these numbers
abbrev pub layout_bytes : Shape → List ℕ → List ℕ
layout_bytes layout values = rows_bytes layout.rows values

-- the bytes of an entry of a topology change list
abbrev pub entry_bytes : TopologyEntry → List ℕ
entry_bytes e = layout_bytes topology_entry_layout (topology_entry_values e)

-- an event's data of so many bytes
abbrev pub data_bytes : ℕ → EventData → List ℕ
data_bytes long (kind.Topology t) = layout_bytes topology_layout (topology_values t) ++ flat_map entry_bytes (take t.num_entries t.entries) ++ take (long - topology_end t) t.tail
data_bytes long (kind.Other kept) = take long kept

-- the bytes of a message
abbrev pub message_bytes : Message → List ℕ
message_bytes (message.ScsiIo m) = layout_bytes scsi_io_layout (scsi_io_values m)
message_bytes (message.TaskAsk m) = layout_bytes task_ask_layout (task_ask_values m)
message_bytes (message.IocInit m) = layout_bytes ioc_init_layout (ioc_init_values m)
message_bytes (message.IocFacts m) = layout_bytes ioc_facts_layout (ioc_facts_values m)
message_bytes (message.ConfigAsk m) = layout_bytes config_ask_layout (config_ask_values m)
message_bytes (message.PortFacts m) = layout_bytes port_facts_layout (port_facts_values m)
message_bytes (message.PortEnable m) = layout_bytes port_enable_layout (port_enable_values m)
message_bytes (message.EventAsk m) = layout_bytes event_ask_layout (event_ask_values m)
message_bytes (message.EventAck m) = layout_bytes event_ack_layout (event_ack_values m)
message_bytes (message.UnitControl m) = layout_bytes unit_control_layout (unit_control_values m)
message_bytes (message.ScsiReply m) = layout_bytes scsi_reply_layout (scsi_reply_values m) ++ take (scsi_reply_length m - 40) m.tail
message_bytes (message.TaskReply m) = layout_bytes task_reply_layout (task_reply_values m)
message_bytes (message.IocInitReply m) = layout_bytes ioc_init_reply_layout (ioc_init_reply_values m)
message_bytes (message.IocFactsReply m) = layout_bytes ioc_facts_reply_layout (ioc_facts_reply_values m)
message_bytes (message.ConfigReply m) = layout_bytes config_reply_layout (config_reply_values m)
message_bytes (message.PortFactsReply m) = layout_bytes port_facts_reply_layout (port_facts_reply_values m)
message_bytes (message.PortEnableReply m) = layout_bytes port_enable_reply_layout (port_enable_reply_values m)
message_bytes (message.EventReply m) = layout_bytes event_reply_layout (event_reply_values m) ++ data_bytes (4 * m.event_data_length) m.event_data
message_bytes (message.EventAckReply m) = layout_bytes event_ack_reply_layout (event_ack_reply_values m)
message_bytes (message.UnitControlReply m) = layout_bytes unit_control_reply_layout (unit_control_reply_values m)

-- the whole frame of a message: its bytes, and zeros past them
abbrev pub message_frame : Message → List ℕ
message_frame m = message_bytes m ++ replicate (128 - message_length m) 0
