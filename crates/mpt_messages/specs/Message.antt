-- All messages of the profile together: the bytes that stand for one, whether some do, its length and its listing.
use Rattle.std.specs.Prelude.{ℕ, ◌-◌, Bool, Option, Some, None, List, ◌++◌, take, codes}
use Rattle.mpi_layout.specs.Rows.{values_fit}
use Rattle.mpt_messages.specs.declared.message.Message.{Message}
use Rattle.mpt_messages.specs.declared.message.Message.TheVariants as message
use Rattle.mpt_messages.specs.declared.function.Function.{Function}
use Rattle.mpt_messages.specs.declared.function.Function.TheVariants as function
use Rattle.mpt_messages.specs.Listing.{heading_text, listing_text, rows_text, tail_text}
use Rattle.scsi_msgs.specs.ScsiIo.{ScsiIoStands, scsi_io_layout, scsi_io_values}
use Rattle.scsi_msgs.specs.TaskAsk.{TaskAskStands, task_ask_layout, task_ask_values}
use Rattle.ioc_msgs.specs.IocInit.{IocInitStands, ioc_init_layout, ioc_init_values}
use Rattle.ioc_msgs.specs.IocFacts.{IocFactsStands, ioc_facts_layout, ioc_facts_values}
use Rattle.config_pages.specs.ConfigAsk.{ConfigAskStands, config_ask_layout, config_ask_values}
use Rattle.ioc_msgs.specs.PortFacts.{PortFactsStands, port_facts_layout, port_facts_values}
use Rattle.ioc_msgs.specs.PortEnable.{PortEnableStands, port_enable_layout, port_enable_values}
use Rattle.event_msgs.specs.EventAsk.{EventAskStands, event_ask_layout, event_ask_values}
use Rattle.event_msgs.specs.EventAck.{EventAckStands, event_ack_layout, event_ack_values}
use Rattle.ioc_msgs.specs.UnitControl.{UnitControlStands, unit_control_layout, unit_control_values}
use Rattle.scsi_msgs.specs.declared.scsi_reply.ScsiReply.{ScsiReply}
use Rattle.scsi_msgs.specs.ScsiReply.{ScsiReplyStands, scsi_reply_fit, scsi_reply_layout, scsi_reply_length, scsi_reply_values}
use Rattle.scsi_msgs.specs.TaskReply.{TaskReplyStands, task_reply_layout, task_reply_values}
use Rattle.ioc_msgs.specs.IocInitReply.{IocInitReplyStands, ioc_init_reply_layout, ioc_init_reply_values}
use Rattle.ioc_msgs.specs.IocFactsReply.{IocFactsReplyStands, ioc_facts_reply_layout, ioc_facts_reply_values}
use Rattle.config_pages.specs.ConfigReply.{ConfigReplyStands, config_reply_layout, config_reply_values}
use Rattle.ioc_msgs.specs.PortFactsReply.{PortFactsReplyStands, port_facts_reply_layout, port_facts_reply_values}
use Rattle.ioc_msgs.specs.PortEnableReply.{PortEnableReplyStands, port_enable_reply_layout, port_enable_reply_values}
use Rattle.event_msgs.specs.EventReply.{EventReplyStands, event_reply_fit, event_reply_length}
use Rattle.mpt_messages.specs.EventListing.{event_listing}
use Rattle.event_msgs.specs.EventAckReply.{EventAckReplyStands, event_ack_reply_layout, event_ack_reply_values}
use Rattle.ioc_msgs.specs.UnitControlReply.{UnitControlReplyStands, unit_control_reply_layout, unit_control_reply_values}

-- the bytes stand for the message
abbrev pub MessageStands : Message → List ℕ → Type 0
MessageStands (message.ScsiIo m) bytes = ScsiIoStands m bytes
MessageStands (message.TaskAsk m) bytes = TaskAskStands m bytes
MessageStands (message.IocInit m) bytes = IocInitStands m bytes
MessageStands (message.IocFacts m) bytes = IocFactsStands m bytes
MessageStands (message.ConfigAsk m) bytes = ConfigAskStands m bytes
MessageStands (message.PortFacts m) bytes = PortFactsStands m bytes
MessageStands (message.PortEnable m) bytes = PortEnableStands m bytes
MessageStands (message.EventAsk m) bytes = EventAskStands m bytes
MessageStands (message.EventAck m) bytes = EventAckStands m bytes
MessageStands (message.UnitControl m) bytes = UnitControlStands m bytes
MessageStands (message.ScsiReply m) bytes = ScsiReplyStands m bytes
MessageStands (message.TaskReply m) bytes = TaskReplyStands m bytes
MessageStands (message.IocInitReply m) bytes = IocInitReplyStands m bytes
MessageStands (message.IocFactsReply m) bytes = IocFactsReplyStands m bytes
MessageStands (message.ConfigReply m) bytes = ConfigReplyStands m bytes
MessageStands (message.PortFactsReply m) bytes = PortFactsReplyStands m bytes
MessageStands (message.PortEnableReply m) bytes = PortEnableReplyStands m bytes
MessageStands (message.EventReply m) bytes = EventReplyStands m bytes
MessageStands (message.EventAckReply m) bytes = EventAckReplyStands m bytes
MessageStands (message.UnitControlReply m) bytes = UnitControlReplyStands m bytes

-- whether some bytes stand for the message
abbrev pub message_fit : Message → Bool
message_fit (message.ScsiIo m) = values_fit (scsi_io_layout).rows (scsi_io_values m)
message_fit (message.TaskAsk m) = values_fit (task_ask_layout).rows (task_ask_values m)
message_fit (message.IocInit m) = values_fit (ioc_init_layout).rows (ioc_init_values m)
message_fit (message.IocFacts m) = values_fit (ioc_facts_layout).rows (ioc_facts_values m)
message_fit (message.ConfigAsk m) = values_fit (config_ask_layout).rows (config_ask_values m)
message_fit (message.PortFacts m) = values_fit (port_facts_layout).rows (port_facts_values m)
message_fit (message.PortEnable m) = values_fit (port_enable_layout).rows (port_enable_values m)
message_fit (message.EventAsk m) = values_fit (event_ask_layout).rows (event_ask_values m)
message_fit (message.EventAck m) = values_fit (event_ack_layout).rows (event_ack_values m)
message_fit (message.UnitControl m) = values_fit (unit_control_layout).rows (unit_control_values m)
message_fit (message.ScsiReply m) = scsi_reply_fit m
message_fit (message.TaskReply m) = values_fit (task_reply_layout).rows (task_reply_values m)
message_fit (message.IocInitReply m) = values_fit (ioc_init_reply_layout).rows (ioc_init_reply_values m)
message_fit (message.IocFactsReply m) = values_fit (ioc_facts_reply_layout).rows (ioc_facts_reply_values m)
message_fit (message.ConfigReply m) = values_fit (config_reply_layout).rows (config_reply_values m)
message_fit (message.PortFactsReply m) = values_fit (port_facts_reply_layout).rows (port_facts_reply_values m)
message_fit (message.PortEnableReply m) = values_fit (port_enable_reply_layout).rows (port_enable_reply_values m)
message_fit (message.EventReply m) = event_reply_fit m
message_fit (message.EventAckReply m) = values_fit (event_ack_reply_layout).rows (event_ack_reply_values m)
message_fit (message.UnitControlReply m) = values_fit (unit_control_reply_layout).rows (unit_control_reply_values m)

-- the message's length in bytes
abbrev pub message_length : Message → ℕ
message_length (message.ScsiIo m) = 108
message_length (message.TaskAsk m) = 52
message_length (message.IocInit m) = 72
message_length (message.IocFacts m) = 12
message_length (message.ConfigAsk m) = 40
message_length (message.PortFacts m) = 12
message_length (message.PortEnable m) = 12
message_length (message.EventAsk m) = 44
message_length (message.EventAck m) = 20
message_length (message.UnitControl m) = 44
message_length (message.ScsiReply m) = scsi_reply_length m
message_length (message.TaskReply m) = 28
message_length (message.IocInitReply m) = 20
message_length (message.IocFactsReply m) = 64
message_length (message.ConfigReply m) = 24
message_length (message.PortFactsReply m) = 28
message_length (message.PortEnableReply m) = 20
message_length (message.EventReply m) = event_reply_length m
message_length (message.EventAckReply m) = 20
message_length (message.UnitControlReply m) = 20

-- the listing of a SCSI IO reply: its rows and its tail
abbrev pub scsi_reply_listing : ScsiReply → List ℕ
scsi_reply_listing m =
    heading_text (codes "scsi-io-reply") (scsi_reply_length m) ++ rows_text 0 (scsi_reply_layout).rows (scsi_reply_values m)
    ++ tail_text 0x28 (take (scsi_reply_length m - 40) m.tail)

-- the listing of the message
abbrev pub message_listing : Message → List ℕ
message_listing (message.ScsiIo m) = listing_text (codes "scsi-io") scsi_io_layout (scsi_io_values m)
message_listing (message.TaskAsk m) = listing_text (codes "task-mgmt") task_ask_layout (task_ask_values m)
message_listing (message.IocInit m) = listing_text (codes "ioc-init") ioc_init_layout (ioc_init_values m)
message_listing (message.IocFacts m) = listing_text (codes "ioc-facts") ioc_facts_layout (ioc_facts_values m)
message_listing (message.ConfigAsk m) = listing_text (codes "config") config_ask_layout (config_ask_values m)
message_listing (message.PortFacts m) = listing_text (codes "port-facts") port_facts_layout (port_facts_values m)
message_listing (message.PortEnable m) = listing_text (codes "port-enable") port_enable_layout (port_enable_values m)
message_listing (message.EventAsk m) = listing_text (codes "event-notification") event_ask_layout (event_ask_values m)
message_listing (message.EventAck m) = listing_text (codes "event-ack") event_ack_layout (event_ack_values m)
message_listing (message.UnitControl m) = listing_text (codes "sas-unit-control") unit_control_layout (unit_control_values m)
message_listing (message.ScsiReply m) = scsi_reply_listing m
message_listing (message.TaskReply m) = listing_text (codes "task-mgmt-reply") task_reply_layout (task_reply_values m)
message_listing (message.IocInitReply m) = listing_text (codes "ioc-init-reply") ioc_init_reply_layout (ioc_init_reply_values m)
message_listing (message.IocFactsReply m) = listing_text (codes "ioc-facts-reply") ioc_facts_reply_layout (ioc_facts_reply_values m)
message_listing (message.ConfigReply m) = listing_text (codes "config-reply") config_reply_layout (config_reply_values m)
message_listing (message.PortFactsReply m) = listing_text (codes "port-facts-reply") port_facts_reply_layout (port_facts_reply_values m)
message_listing (message.PortEnableReply m) = listing_text (codes "port-enable-reply") port_enable_reply_layout (port_enable_reply_values m)
message_listing (message.EventReply m) = event_listing m
message_listing (message.EventAckReply m) = listing_text (codes "event-ack-reply") event_ack_reply_layout (event_ack_reply_values m)
message_listing (message.UnitControlReply m) = listing_text (codes "sas-unit-control-reply") unit_control_reply_layout (unit_control_reply_values m)

-- the function of a request, and none of a reply
abbrev pub request_function : Message → Option Function
request_function (message.ScsiIo m) = Some function.ScsiIo
request_function (message.TaskAsk m) = Some function.TaskManagement
request_function (message.IocInit m) = Some function.IocInit
request_function (message.IocFacts m) = Some function.IocFacts
request_function (message.ConfigAsk m) = Some function.Config
request_function (message.PortFacts m) = Some function.PortFacts
request_function (message.PortEnable m) = Some function.PortEnable
request_function (message.EventAsk m) = Some function.EventNotification
request_function (message.EventAck m) = Some function.EventAck
request_function (message.UnitControl m) = Some function.UnitControl
request_function (message.ScsiReply m) = None
request_function (message.TaskReply m) = None
request_function (message.IocInitReply m) = None
request_function (message.IocFactsReply m) = None
request_function (message.ConfigReply m) = None
request_function (message.PortFactsReply m) = None
request_function (message.PortEnableReply m) = None
request_function (message.EventReply m) = None
request_function (message.EventAckReply m) = None
request_function (message.UnitControlReply m) = None

-- the function of a reply, and none of a request
abbrev pub reply_function : Message → Option Function
reply_function (message.ScsiIo m) = None
reply_function (message.TaskAsk m) = None
reply_function (message.IocInit m) = None
reply_function (message.IocFacts m) = None
reply_function (message.ConfigAsk m) = None
reply_function (message.PortFacts m) = None
reply_function (message.PortEnable m) = None
reply_function (message.EventAsk m) = None
reply_function (message.EventAck m) = None
reply_function (message.UnitControl m) = None
reply_function (message.ScsiReply m) = Some function.ScsiIo
reply_function (message.TaskReply m) = Some function.TaskManagement
reply_function (message.IocInitReply m) = Some function.IocInit
reply_function (message.IocFactsReply m) = Some function.IocFacts
reply_function (message.ConfigReply m) = Some function.Config
reply_function (message.PortFactsReply m) = Some function.PortFacts
reply_function (message.PortEnableReply m) = Some function.PortEnable
reply_function (message.EventReply m) = Some function.EventNotification
reply_function (message.EventAckReply m) = Some function.EventAck
reply_function (message.UnitControlReply m) = Some function.UnitControl
