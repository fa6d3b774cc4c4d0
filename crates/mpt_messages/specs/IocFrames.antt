-- What the controller writes: each of its replies as a message or a plain reply, and which it may give.
use Rattle.std.specs.Prelude.{◌≡◌, ℕ, ◌≤◌, ◌<◌, Bool, ◌==◌, nat_le, if◌then◌else◌, Option, Some, None, List, [], ◌∷◌, ◌++◌, take, replicate}
use Rattle.byteorder.specs.Endian.{little_bytes}
use Rattle.scsi_msgs.specs.declared.scsi_reply.ScsiReply.{ScsiReply}
use Rattle.scsi_msgs.specs.declared.task_reply.TaskReply.{TaskReply}
use Rattle.ioc_msgs.specs.declared.ioc_facts_reply.IocFactsReply.{IocFactsReply}
use Rattle.ioc_msgs.specs.declared.port_facts_reply.PortFactsReply.{PortFactsReply}
use Rattle.ioc_msgs.specs.declared.unit_control_reply.UnitControlReply.{UnitControlReply}
use Rattle.config_pages.specs.declared.config_reply.ConfigReply.{ConfigReply}
use Rattle.event_msgs.specs.declared.event_reply.EventReply.{EventReply}
use Rattle.event_msgs.specs.declared.event_data.EventData.TheVariants as kind
use Rattle.event_msgs.specs.declared.topology.Topology.{Topology}
use Rattle.event_msgs.specs.declared.topology_entry.TopologyEntry.{TopologyEntry}
use Rattle.mpi_names.specs.declared.config.TheConstants.{MPI2_CONFIG_ACTION_PAGE_READ_CURRENT, MPI2_CONFIG_PAGETYPE_EXTENDED, MPI2_SASDEVICE0_PAGEVERSION, SAS_DEVICE_PAGE_0_DWORDS}
use Rattle.mpi_names.specs.declared.event.TheConstants.{MPI2_EVENT_NOTIFICATION_ACK_REQUIRED, MPI2_EVENT_SAS_TOPOLOGY_CHANGE_LIST, MPI2_EVENT_SAS_TOPO_ES_RESPONDING, MPI2_EVENT_SAS_TOPO_RC_TARG_ADDED, MPI2_EVENT_SAS_TOPO_RC_TARG_NOT_RESPONDING}
use Rattle.mpi_names.specs.declared.handle.TheConstants.{DISK_HANDLES, EXPANDERS, FIRST_DISK_HANDLE, LAST_EXPANDER_HANDLE}
use Rattle.mpi_names.specs.declared.ioc_init.TheConstants.{MPI2_VERSION_02_00, REPLY_QUEUES}
use Rattle.mpi_names.specs.declared.memory.TheConstants.{FRAME_DWORDS, POST_RING_ENTRIES}
use Rattle.mpi_names.specs.declared.scsi_status.TheConstants.{MPI2_SCSI_STATE_AUTOSENSE_VALID}
use Rattle.mpi_names.specs.declared.smid.TheConstants.{HIGH_PRIORITY_SMIDS, SMIDS}
use Rattle.scsi_msgs.specs.declared.scsi_reply.TheConstants.ScsiReply.{BLANK as blank_scsi_reply}
use Rattle.scsi_msgs.specs.declared.task_reply.TheConstants.TaskReply.{BLANK as blank_task_reply}
use Rattle.ioc_msgs.specs.declared.ioc_facts_reply.TheConstants.IocFactsReply.{BLANK as blank_ioc_facts_reply}
use Rattle.ioc_msgs.specs.declared.port_facts_reply.TheConstants.PortFactsReply.{BLANK as blank_port_facts_reply}
use Rattle.config_pages.specs.declared.config_reply.TheConstants.ConfigReply.{BLANK as blank_config_reply}
use Rattle.ioc_msgs.specs.declared.unit_control_reply.TheConstants.UnitControlReply.{BLANK as blank_unit_control_reply}
use Rattle.event_msgs.specs.declared.event_reply.TheConstants.EventReply.{BLANK as blank_event_reply}
use Rattle.event_msgs.specs.declared.topology.TheConstants.Topology.{BLANK as blank_topology}
use Rattle.event_msgs.specs.TopologyEntry.{blank as blank_topology_entry}
use Rattle.mpt_messages.specs.FrameBytes.{message_frame}
use Rattle.mpt_messages.specs.DevicePage.{expander_handle}
use Rattle.mpt_messages.specs.declared.ioc_reply.IocReply.{IocReply}
use Rattle.mpt_messages.specs.declared.ioc_reply.IocReply.TheVariants as reply
use Rattle.mpt_messages.specs.declared.message.Message.{Message}
use Rattle.mpt_messages.specs.declared.message.Message.TheVariants as message
use Rattle.mpt_messages.specs.Message.{MessageStands, message_length}

-- the 20 bytes of a plain reply: all 0 but MsgLength 5, the Function and the IOCStatus
abbrev pub plain_reply : ℕ → ℕ → List ℕ
plain_reply function status = (0 ∷ 0 ∷ 5 ∷ function ∷ replicate 10 0) ++ little_bytes 2 status ++ replicate 4 0

-- a SCSI IO's reply, whose TaskTag is its identifier; SCSIState says whether there are sense data
abbrev pub scsi_answered : ℕ → ℕ → ℕ → ℕ → ℕ → ℕ → ScsiReply
scsi_answered handle smid scsi_status status moved sense = record blank_scsi_reply {
  dev_handle = handle;
  scsi_status = scsi_status;
  scsi_state = if sense == 0 then 0 else MPI2_SCSI_STATE_AUTOSENSE_VALID;
  ioc_status = status;
  transfer_count = moved;
  sense_count = sense;
  task_tag = smid;
}

-- a task management reply
abbrev pub task_answered : ℕ → ℕ → ℕ → ℕ → ℕ → TaskReply
task_answered handle task_type status code count = record blank_task_reply {
  dev_handle = handle;
  response_code = code;
  task_type = task_type;
  ioc_status = status;
  termination_count = count;
}

-- the action asks for a page or its header
abbrev pub has_page : ℕ → Bool
has_page action = nat_le action MPI2_CONFIG_ACTION_PAGE_READ_CURRENT

-- a configuration reply: the header of SAS Device Page 0 where its action asks for it
abbrev pub config_answered : ℕ → ℕ → ℕ → ConfigReply
config_answered action ext_type status = record blank_config_reply {
  action = action;
  ext_page_length = if has_page action then SAS_DEVICE_PAGE_0_DWORDS else 0;
  ext_page_type = ext_type;
  ioc_status = status;
  page_version = if has_page action then MPI2_SASDEVICE0_PAGEVERSION else 0;
  page_type = if has_page action then MPI2_CONFIG_PAGETYPE_EXTENDED else 0;
}

-- what the controller has and takes, with so many reply post queues
abbrev pub facts_answered : ℕ → ℕ → IocFactsReply
facts_answered who_init queues = record blank_ioc_facts_reply {
  msg_version = MPI2_VERSION_02_00;
  who_init = who_init;
  number_of_ports = 1;
  max_msix_vectors = queues;
  request_credit = SMIDS;
  fw_version = 0x0100_0000;
  ioc_request_frame_size = FRAME_DWORDS;
  max_targets = DISK_HANDLES;
  max_sas_expanders = EXPANDERS;
  max_enclosures = 1;
  protocol_flags = 0x0002;
  high_priority_credit = HIGH_PRIORITY_SMIDS;
  max_reply_descriptor_post_queue_depth = POST_RING_ENTRIES;
  reply_frame_size = FRAME_DWORDS;
  max_dev_handle = LAST_EXPANDER_HANDLE;
  min_dev_handle = FIRST_DISK_HANDLE;
}

-- a port's facts: its type is a physical SAS port
abbrev pub port_answered : ℕ → ℕ → PortFactsReply
port_answered port status = record blank_port_facts_reply { port_number = port; port_type = 0x30; ioc_status = status }

-- the reply to the removal of a device
abbrev pub removal_answered : ℕ → ℕ → ℕ → UnitControlReply
removal_answered handle operation status = record blank_unit_control_reply { operation = operation; dev_handle = handle; ioc_status = status }

-- one change at a phy of an expander: the device was added, or no longer responds
abbrev pub change_entry : ℕ → Bool → TopologyEntry
change_entry handle added = record blank_topology_entry { attached_dev_handle = handle; phy_status = if added then MPI2_EVENT_SAS_TOPO_RC_TARG_ADDED else MPI2_EVENT_SAS_TOPO_RC_TARG_NOT_RESPONDING }

-- a topology change list of that one change
abbrev pub change_list : ℕ → ℕ → ℕ → ℕ → Bool → Topology
change_list handle expander phys phy added = record blank_topology {
  enclosure_handle = 1;
  expander_dev_handle = expander_handle expander;
  num_phys = phys;
  num_entries = 1;
  start_phy_num = phy;
  exp_status = MPI2_EVENT_SAS_TOPO_ES_RESPONDING;
  entries = change_entry handle added ∷ replicate 21 blank_topology_entry;
}

-- its event
abbrev pub topology_told : ℕ → ℕ → ℕ → ℕ → ℕ → Bool → EventReply
topology_told context handle expander phys phy added = record blank_event_reply {
  event_data_length = 4;
  msg_length = 11;
  ack_required = MPI2_EVENT_NOTIFICATION_ACK_REQUIRED;
  event = MPI2_EVENT_SAS_TOPOLOGY_CHANGE_LIST;
  event_context = context;
  event_data = kind.Topology (change_list handle expander phys phy added);
}

-- the answer to event notification: no event
abbrev pub notified : EventReply
notified = record blank_event_reply { msg_length = 7 }

-- the message of a reply; a plain reply needn't be one
abbrev pub ioc_message : IocReply → Option Message
ioc_message (reply.Plain function status) = None
ioc_message (reply.Scsi handle smid scsi_status status moved sense) = Some (message.ScsiReply (scsi_answered handle smid scsi_status status moved sense))
ioc_message (reply.Task handle task_type status code count) = Some (message.TaskReply (task_answered handle task_type status code count))
ioc_message (reply.Config action ext_type status) = Some (message.ConfigReply (config_answered action ext_type status))
ioc_message (reply.Facts who_init queues) = Some (message.IocFactsReply (facts_answered who_init queues))
ioc_message (reply.PortFacts port status) = Some (message.PortFactsReply (port_answered port status))
ioc_message (reply.Removed handle operation status) = Some (message.UnitControlReply (removal_answered handle operation status))
ioc_message reply.Notified = Some (message.EventReply notified)
ioc_message (reply.Topology context handle expander phys phy added) = Some (message.EventReply (topology_told context handle expander phys phy added))

-- the bytes stand for a message that there is
abbrev pub StandFor : Option Message → List ℕ → Type 0
StandFor None bytes = ⊥
StandFor (Some m) bytes = MessageStands m bytes

-- the bytes stand for the reply
abbrev pub ReplyStands : IocReply → List ℕ → Type 0
ReplyStands (reply.Plain function status) bytes = take 20 bytes ≡ plain_reply function status
ReplyStands other bytes = StandFor (ioc_message other) bytes

-- the length in bytes of a message, or of a plain reply
abbrev pub length_said : Option Message → ℕ
length_said None = 20
length_said (Some m) = message_length m

-- the reply's length in bytes
abbrev pub reply_length : IocReply → ℕ
reply_length r = length_said (ioc_message r)

-- the whole frame of a message that there is
abbrev pub frame_said : Option Message → List ℕ
frame_said None = []
frame_said (Some m) = message_frame m

-- the whole frame of a reply
abbrev pub reply_frame : IocReply → List ℕ
reply_frame (reply.Plain function status) = plain_reply function status ++ replicate 108 0
reply_frame other = frame_said (ioc_message other)

-- what the controller may answer
abbrev pub IsAnswer : IocReply → Type 0
IsAnswer (reply.Facts who_init queues) = (1 ≤ queues) × (queues ≤ REPLY_QUEUES)
IsAnswer (reply.Topology context handle expander phys phy added) = expander < EXPANDERS
IsAnswer other = Unit {0}
