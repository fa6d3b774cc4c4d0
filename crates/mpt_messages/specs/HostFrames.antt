-- What the host writes: each of its requests as a message, and which it may ask.
use Rattle.std.specs.Prelude.{◌≡◌, ℕ, ◌+◌, ◌*◌, ◌≤◌, ◌⊎◌, Bool, false, ◌==◌, if◌then◌else◌, List, All, drop}
use Rattle.mpi_layout.specs.Rows.{field}
use Rattle.scsi_msgs.specs.declared.scsi_io.ScsiIo.{ScsiIo}
use Rattle.scsi_msgs.specs.declared.task_ask.TaskAsk.{TaskAsk}
use Rattle.ioc_msgs.specs.declared.ioc_init.IocInit.{IocInit}
use Rattle.ioc_msgs.specs.declared.unit_control.UnitControl.{UnitControl}
use Rattle.config_pages.specs.declared.config_ask.ConfigAsk.{ConfigAsk}
use Rattle.event_msgs.specs.declared.event_ask.EventAsk.{EventAsk}
use Rattle.event_msgs.specs.declared.event_ack.EventAck.{EventAck}
use Rattle.mpi_names.specs.declared.config.TheConstants.{MPI2_CONFIG_ACTION_PAGE_READ_CURRENT, MPI2_CONFIG_EXTPAGETYPE_SAS_DEVICE, MPI2_CONFIG_PAGETYPE_EXTENDED, MPI2_SASDEVICE0_PAGEVERSION, MPI2_SAS_DEVICE_PGAD_FORM_HANDLE, SAS_DEVICE_PAGE_0_BYTES, SAS_DEVICE_PAGE_0_DWORDS}
use Rattle.mpi_names.specs.declared.ioc_init.TheConstants.{MPI2_WHOINIT_HOST_DRIVER, REPLY_QUEUES}
use Rattle.mpi_names.specs.declared.limit.TheConstants.{MAX_TRANSFER}
use Rattle.mpi_names.specs.declared.memory.TheConstants.{DATA_BUFFERS, DATA_BUFFER_BYTES, FRAME_DWORDS, FREE_RING_ENTRIES, POST_RING_ENTRIES, REPLY_FREE_QUEUE, REPLY_POST_QUEUE, REQUEST_FRAMES, SENSE_BUFFERS, SENSE_BUFFER_BYTES}
use Rattle.mpi_names.specs.declared.sas_operation.TheConstants.{MPI2_SAS_OP_REMOVE_DEVICE}
use Rattle.mpi_names.specs.declared.smid.TheConstants.{FIRST_INTERNAL_SMID, FIRST_SCSI_IO_SMID, LAST_INTERNAL_SMID, LAST_SCSI_IO_SMID}
use Rattle.mpi_names.specs.declared.task_management.TheConstants.{MPI2_SCSITASKMGMT_TASKTYPE_ABORT_TASK, MPI2_SCSITASKMGMT_TASKTYPE_TARGET_RESET}
use Rattle.scsi_msgs.specs.declared.scsi_io.TheConstants.ScsiIo.{BLANK as blank_scsi_io}
use Rattle.scsi_msgs.specs.declared.task_ask.TheConstants.TaskAsk.{BLANK as blank_task_ask}
use Rattle.ioc_msgs.specs.declared.ioc_init.TheConstants.IocInit.{BLANK as blank_ioc_init}
use Rattle.ioc_msgs.specs.declared.ioc_facts.TheConstants.IocFacts.{BLANK as blank_ioc_facts}
use Rattle.config_pages.specs.declared.config_ask.TheConstants.ConfigAsk.{BLANK as blank_config_ask}
use Rattle.ioc_msgs.specs.declared.port_facts.TheConstants.PortFacts.{BLANK as blank_port_facts}
use Rattle.ioc_msgs.specs.declared.port_enable.TheConstants.PortEnable.{BLANK as blank_port_enable}
use Rattle.event_msgs.specs.declared.event_ask.TheConstants.EventAsk.{BLANK as blank_event_ask}
use Rattle.event_msgs.specs.declared.event_ack.TheConstants.EventAck.{BLANK as blank_event_ack}
use Rattle.ioc_msgs.specs.declared.unit_control.TheConstants.UnitControl.{BLANK as blank_unit_control}
use Rattle.mpt_messages.specs.declared.host_ask.HostAsk.{HostAsk}
use Rattle.mpt_messages.specs.declared.host_ask.HostAsk.TheVariants as ask
use Rattle.mpt_messages.specs.declared.message.Message.{Message}
use Rattle.mpt_messages.specs.declared.message.Message.TheVariants as message

-- where the host's memory has an identifier's data and sense buffers
abbrev pub data_address : ℕ → ℕ
data_address smid = DATA_BUFFERS + DATA_BUFFER_BYTES * smid

abbrev pub sense_address : ℕ → ℕ
sense_address smid = SENSE_BUFFERS + SENSE_BUFFER_BYTES * smid

-- ControlDirection: 0 no data, 1 write, 2 read
abbrev pub direction : ℕ → Bool → ℕ
direction len write = if len == 0 then 0 else if write then 1 else 2

-- a simple element with a 64-bit address, the last of its list and buffer: d7 for data to the controller, d3 else
abbrev pub element_flags : Bool → ℕ
element_flags write = if write then 0xd7 else 0xd3

-- where a SCSI IO's element points: all ones where there are no data
abbrev pub element_address : ℕ → ℕ → ℕ
element_address smid len = if len == 0 then 0xffff_ffff_ffff_ffff else data_address smid

-- a SCSI IO
abbrev pub scsi_io_asked : ℕ → ℕ → ℕ → List ℕ → ℕ → ℕ → Bool → ScsiIo
scsi_io_asked smid handle lun cdb cdb_len len write = record blank_scsi_io {
  dev_handle = handle;
  sense_buffer_low_address = sense_address smid;
  sense_buffer_length = SENSE_BUFFER_BYTES;
  data_length = len;
  io_flags = cdb_len;
  lun = lun;
  control_direction = direction len write;
  cdb_40 = field cdb 0 8;
  cdb_48 = field cdb 8 8;
  sge_length = len;
  sge_flags = element_flags write;
  sge_address = element_address smid len;
}

-- task management
abbrev pub task_asked : ℕ → ℕ → ℕ → TaskAsk
task_asked handle task_type task_mid = record blank_task_ask { dev_handle = handle; task_type = task_type; task_mid = task_mid }

-- a read of SAS Device Page 0 by its handle
abbrev pub page_asked : ℕ → ℕ → ConfigAsk
page_asked smid handle = record blank_config_ask {
  action = MPI2_CONFIG_ACTION_PAGE_READ_CURRENT;
  ext_page_length = SAS_DEVICE_PAGE_0_DWORDS;
  ext_page_type = MPI2_CONFIG_EXTPAGETYPE_SAS_DEVICE;
  page_version = MPI2_SASDEVICE0_PAGEVERSION;
  page_type = MPI2_CONFIG_PAGETYPE_EXTENDED;
  page_address = MPI2_SAS_DEVICE_PGAD_FORM_HANDLE + handle;
  sge_length = SAS_DEVICE_PAGE_0_BYTES;
  sge_flags = 0xd3;
  sge_address = data_address smid;
}

-- the removal of a device
abbrev pub removal_asked : ℕ → UnitControl
removal_asked handle = record blank_unit_control { operation = MPI2_SAS_OP_REMOVE_DEVICE; dev_handle = handle }

-- the acknowledgement of an event
abbrev pub ack_asked : ℕ → ℕ → EventAck
ack_asked event context = record blank_event_ack { event = event; event_context = context }

-- every event is held back but a topology change list, bit 28
abbrev pub notification_asked : EventAsk
notification_asked = record blank_event_ask {
  event_masks0 = 0xefff_ffff;
  event_masks1 = 0xffff_ffff;
  event_masks2 = 0xffff_ffff;
  event_masks3 = 0xffff_ffff;
}

-- IOC Init with so many reply post queues
abbrev pub init_asked : ℕ → IocInit
init_asked queues = record blank_ioc_init {
  who_init = MPI2_WHOINIT_HOST_DRIVER;
  host_msix_vectors = queues;
  system_request_frame_size = FRAME_DWORDS;
  reply_descriptor_post_queue_depth = POST_RING_ENTRIES;
  reply_free_queue_depth = FREE_RING_ENTRIES;
  system_request_frame_base_address = REQUEST_FRAMES;
  reply_descriptor_post_queue_address = REPLY_POST_QUEUE;
  reply_free_queue_address = REPLY_FREE_QUEUE;
}

-- the message of a request
abbrev pub host_message : HostAsk → Message
host_message (ask.ScsiIo smid handle lun cdb cdb_len len write) = message.ScsiIo (scsi_io_asked smid handle lun cdb cdb_len len write)
host_message (ask.Task handle task_type task_mid) = message.TaskAsk (task_asked handle task_type task_mid)
host_message (ask.PageRead smid handle) = message.ConfigAsk (page_asked smid handle)
host_message (ask.Remove handle) = message.UnitControl (removal_asked handle)
host_message (ask.Ack event context) = message.EventAck (ack_asked event context)
host_message ask.Notification = message.EventAsk notification_asked
host_message ask.PortEnable = message.PortEnable blank_port_enable
host_message ask.Facts = message.IocFacts blank_ioc_facts
host_message ask.PortFacts = message.PortFacts blank_port_facts
host_message (ask.Init queues) = message.IocInit (init_asked queues)

-- a command that the host may ask: an identifier of a SCSI IO, a CDB of 1 to 16 bytes with zeros behind it, at most 4,096 bytes of data, and no write of none
pub record IsCommand (smid : ℕ) (cdb : List ℕ) (cdb_len len : ℕ) (write : Bool) : Type 0 where
  pub identifier : (FIRST_SCSI_IO_SMID ≤ smid) × (smid ≤ LAST_SCSI_IO_SMID)
  pub command : (1 ≤ cdb_len) × (cdb_len ≤ 16)
  pub zeros : All (λ byte. byte ≡ 0) (drop cdb_len cdb)
  pub short : len ≤ MAX_TRANSFER
  pub write_moves : len ≡ 0 → write ≡ false

-- an abort of a SCSI IO's identifier, or a target reset
abbrev pub IsTask : ℕ → ℕ → Type 0
IsTask task_type task_mid =
    ((task_type ≡ MPI2_SCSITASKMGMT_TASKTYPE_ABORT_TASK) × (FIRST_SCSI_IO_SMID ≤ task_mid) × (task_mid ≤ LAST_SCSI_IO_SMID))
    ⊎ ((task_type ≡ MPI2_SCSITASKMGMT_TASKTYPE_TARGET_RESET) × (task_mid ≡ 0))

-- what the host may ask
abbrev pub IsAsk : HostAsk → Type 0
IsAsk (ask.ScsiIo smid handle lun cdb cdb_len len write) = IsCommand smid cdb cdb_len len write
IsAsk (ask.Task handle task_type task_mid) = IsTask task_type task_mid
IsAsk (ask.PageRead smid handle) = (FIRST_INTERNAL_SMID ≤ smid) × (smid ≤ LAST_INTERNAL_SMID)
IsAsk (ask.Remove handle) = Unit {0}
IsAsk (ask.Ack event context) = Unit {0}
IsAsk ask.Notification = Unit {0}
IsAsk ask.PortEnable = Unit {0}
IsAsk ask.Facts = Unit {0}
IsAsk ask.PortFacts = Unit {0}
IsAsk (ask.Init queues) = (1 ≤ queues) × (queues ≤ REPLY_QUEUES)
