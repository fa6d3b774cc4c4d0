-- Each constant has the value of its header, standard or page: a worked lemma each.
use Rattle.std.specs.Prelude.{◌≡◌}
use Rattle.std.proofs.Common.{refl}
use Rattle.mpi_names.specs.declared.config.TheConstants.{MPI2_CONFIG_ACTION_PAGE_HEADER, MPI2_CONFIG_ACTION_PAGE_READ_CURRENT, MPI2_CONFIG_PAGETYPE_EXTENDED, MPI2_CONFIG_EXTPAGETYPE_SAS_DEVICE, MPI2_SASDEVICE0_PAGEVERSION, MPI2_SAS_DEVICE_PGAD_FORM_HANDLE, SAS_DEVICE_PAGE_0_BYTES, SAS_DEVICE_PAGE_0_DWORDS}
use Rattle.mpi_names.specs.declared.descriptor.TheConstants.{MPI2_REQ_DESCRIPT_FLAGS_SCSI_IO, MPI2_REQ_DESCRIPT_FLAGS_HIGH_PRIORITY, MPI2_REQ_DESCRIPT_FLAGS_DEFAULT_TYPE, MPI2_RPY_DESCRIPT_FLAGS_SCSI_IO_SUCCESS, MPI2_RPY_DESCRIPT_FLAGS_ADDRESS_REPLY, MPI2_RPY_DESCRIPT_FLAGS_UNUSED, UNUSED_ENTRY}
use Rattle.mpi_names.specs.declared.event.TheConstants.{MPI2_EVENT_SAS_TOPOLOGY_CHANGE_LIST, MPI2_EVENT_NOTIFICATION_ACK_REQUIRED, MPI2_EVENT_SAS_TOPO_RC_MASK, MPI2_EVENT_SAS_TOPO_RC_TARG_ADDED, MPI2_EVENT_SAS_TOPO_RC_TARG_NOT_RESPONDING, MPI2_EVENT_SAS_TOPO_ES_RESPONDING}
use Rattle.mpi_names.specs.declared.function.TheConstants.{MPI2_FUNCTION_SCSI_IO_REQUEST, MPI2_FUNCTION_SCSI_TASK_MGMT, MPI2_FUNCTION_IOC_INIT, MPI2_FUNCTION_IOC_FACTS, MPI2_FUNCTION_CONFIG, MPI2_FUNCTION_PORT_FACTS, MPI2_FUNCTION_PORT_ENABLE, MPI2_FUNCTION_EVENT_NOTIFICATION, MPI2_FUNCTION_EVENT_ACK, MPI2_FUNCTION_SAS_IO_UNIT_CONTROL, MPI2_FUNCTION_IOC_MESSAGE_UNIT_RESET, MPI2_FUNCTION_HANDSHAKE}
use Rattle.mpi_names.specs.declared.handle.TheConstants.{FIRST_DISK_HANDLE, LAST_DISK_HANDLE, DISK_HANDLES, FIRST_EXPANDER_HANDLE, LAST_EXPANDER_HANDLE, EXPANDERS}
use Rattle.mpi_names.specs.declared.ioc_init.TheConstants.{MPI2_VERSION_02_00, MPI2_WHOINIT_HOST_DRIVER, REPLY_QUEUES}
use Rattle.mpi_names.specs.declared.ioc_status.TheConstants.{MPI2_IOCSTATUS_MASK, MPI2_IOCSTATUS_SUCCESS, MPI2_IOCSTATUS_INVALID_FUNCTION, MPI2_IOCSTATUS_BUSY, MPI2_IOCSTATUS_INVALID_SGL, MPI2_IOCSTATUS_INVALID_FIELD, MPI2_IOCSTATUS_INVALID_STATE, MPI2_IOCSTATUS_CONFIG_INVALID_ACTION, MPI2_IOCSTATUS_CONFIG_INVALID_TYPE, MPI2_IOCSTATUS_CONFIG_INVALID_PAGE, MPI2_IOCSTATUS_SCSI_INVALID_DEVHANDLE, MPI2_IOCSTATUS_SCSI_DEVICE_NOT_THERE, MPI2_IOCSTATUS_SCSI_DATA_UNDERRUN, MPI2_IOCSTATUS_SCSI_TASK_TERMINATED, MPI2_IOCSTATUS_SCSI_TASK_MGMT_FAILED}
use Rattle.mpi_names.specs.declared.limit.TheConstants.{MAX_TRANSFER, MAX_PLAN_LINES, MAX_PLUGS}
use Rattle.mpi_names.specs.declared.memory.TheConstants.{POST_RING_ENTRIES, FREE_RING_ENTRIES, FRAME_BYTES, FRAME_DWORDS, REPLY_FRAMES, REPLY_FRAMES_ADDRESS, REQUEST_FRAMES, DATA_BUFFERS, DATA_BUFFER_BYTES, SENSE_BUFFERS, SENSE_BUFFER_BYTES, REPLY_POST_QUEUE, REPLY_FREE_QUEUE}
use Rattle.mpi_names.specs.declared.operation_code.TheConstants.{TEST_UNIT_READY, INQUIRY, READ_CAPACITY_10, READ_10, WRITE_10, READ_16, WRITE_16}
use Rattle.mpi_names.specs.declared.sas_operation.TheConstants.{MPI2_SAS_OP_REMOVE_DEVICE}
use Rattle.mpi_names.specs.declared.scsi_status.TheConstants.{MPI2_SCSI_STATUS_GOOD, MPI2_SCSI_STATUS_CHECK_CONDITION, MPI2_SCSI_STATE_AUTOSENSE_VALID}
use Rattle.mpi_names.specs.declared.smid.TheConstants.{SMIDS, SCSI_IO_SMIDS, HIGH_PRIORITY_SMIDS, INTERNAL_SMIDS, FIRST_SCSI_IO_SMID, LAST_SCSI_IO_SMID, FIRST_HIGH_PRIORITY_SMID, LAST_HIGH_PRIORITY_SMID, FIRST_INTERNAL_SMID, LAST_INTERNAL_SMID}
use Rattle.mpi_names.specs.declared.task_management.TheConstants.{MPI2_SCSITASKMGMT_TASKTYPE_ABORT_TASK, MPI2_SCSITASKMGMT_TASKTYPE_TARGET_RESET}

-- ---- config

pub config_action_page_header : MPI2_CONFIG_ACTION_PAGE_HEADER ≡ 0x00
config_action_page_header = refl

pub config_action_page_read_current : MPI2_CONFIG_ACTION_PAGE_READ_CURRENT ≡ 0x01
config_action_page_read_current = refl

pub config_pagetype_extended : MPI2_CONFIG_PAGETYPE_EXTENDED ≡ 0x0f
config_pagetype_extended = refl

pub config_extpagetype_sas_device : MPI2_CONFIG_EXTPAGETYPE_SAS_DEVICE ≡ 0x12
config_extpagetype_sas_device = refl

pub sasdevice0_pageversion : MPI2_SASDEVICE0_PAGEVERSION ≡ 0x08
sasdevice0_pageversion = refl

pub sas_device_pgad_form_handle : MPI2_SAS_DEVICE_PGAD_FORM_HANDLE ≡ 0x2000_0000
sas_device_pgad_form_handle = refl

pub sas_device_page_0_bytes : SAS_DEVICE_PAGE_0_BYTES ≡ 56
sas_device_page_0_bytes = refl

pub sas_device_page_0_dwords : SAS_DEVICE_PAGE_0_DWORDS ≡ 14
sas_device_page_0_dwords = refl

-- ---- descriptor

pub req_descript_flags_scsi_io : MPI2_REQ_DESCRIPT_FLAGS_SCSI_IO ≡ 0x00
req_descript_flags_scsi_io = refl

pub req_descript_flags_high_priority : MPI2_REQ_DESCRIPT_FLAGS_HIGH_PRIORITY ≡ 0x06
req_descript_flags_high_priority = refl

pub req_descript_flags_default_type : MPI2_REQ_DESCRIPT_FLAGS_DEFAULT_TYPE ≡ 0x08
req_descript_flags_default_type = refl

pub rpy_descript_flags_scsi_io_success : MPI2_RPY_DESCRIPT_FLAGS_SCSI_IO_SUCCESS ≡ 0x00
rpy_descript_flags_scsi_io_success = refl

pub rpy_descript_flags_address_reply : MPI2_RPY_DESCRIPT_FLAGS_ADDRESS_REPLY ≡ 0x01
rpy_descript_flags_address_reply = refl

pub rpy_descript_flags_unused : MPI2_RPY_DESCRIPT_FLAGS_UNUSED ≡ 0x0f
rpy_descript_flags_unused = refl

pub unused_entry : UNUSED_ENTRY ≡ 0xffff_ffff_ffff_ffff
unused_entry = refl

-- ---- event

pub event_sas_topology_change_list : MPI2_EVENT_SAS_TOPOLOGY_CHANGE_LIST ≡ 0x001c
event_sas_topology_change_list = refl

pub event_notification_ack_required : MPI2_EVENT_NOTIFICATION_ACK_REQUIRED ≡ 0x01
event_notification_ack_required = refl

pub event_sas_topo_rc_mask : MPI2_EVENT_SAS_TOPO_RC_MASK ≡ 0x0f
event_sas_topo_rc_mask = refl

pub event_sas_topo_rc_targ_added : MPI2_EVENT_SAS_TOPO_RC_TARG_ADDED ≡ 0x01
event_sas_topo_rc_targ_added = refl

pub event_sas_topo_rc_targ_not_responding : MPI2_EVENT_SAS_TOPO_RC_TARG_NOT_RESPONDING ≡ 0x02
event_sas_topo_rc_targ_not_responding = refl

pub event_sas_topo_es_responding : MPI2_EVENT_SAS_TOPO_ES_RESPONDING ≡ 0x03
event_sas_topo_es_responding = refl

-- ---- function

pub function_scsi_io_request : MPI2_FUNCTION_SCSI_IO_REQUEST ≡ 0x00
function_scsi_io_request = refl

pub function_scsi_task_mgmt : MPI2_FUNCTION_SCSI_TASK_MGMT ≡ 0x01
function_scsi_task_mgmt = refl

pub function_ioc_init : MPI2_FUNCTION_IOC_INIT ≡ 0x02
function_ioc_init = refl

pub function_ioc_facts : MPI2_FUNCTION_IOC_FACTS ≡ 0x03
function_ioc_facts = refl

pub function_config : MPI2_FUNCTION_CONFIG ≡ 0x04
function_config = refl

pub function_port_facts : MPI2_FUNCTION_PORT_FACTS ≡ 0x05
function_port_facts = refl

pub function_port_enable : MPI2_FUNCTION_PORT_ENABLE ≡ 0x06
function_port_enable = refl

pub function_event_notification : MPI2_FUNCTION_EVENT_NOTIFICATION ≡ 0x07
function_event_notification = refl

pub function_event_ack : MPI2_FUNCTION_EVENT_ACK ≡ 0x08
function_event_ack = refl

pub function_sas_io_unit_control : MPI2_FUNCTION_SAS_IO_UNIT_CONTROL ≡ 0x1b
function_sas_io_unit_control = refl

pub function_ioc_message_unit_reset : MPI2_FUNCTION_IOC_MESSAGE_UNIT_RESET ≡ 0x40
function_ioc_message_unit_reset = refl

pub function_handshake : MPI2_FUNCTION_HANDSHAKE ≡ 0x42
function_handshake = refl

-- ---- handle

pub first_disk_handle : FIRST_DISK_HANDLE ≡ 0x0009
first_disk_handle = refl

pub last_disk_handle : LAST_DISK_HANDLE ≡ 0x0048
last_disk_handle = refl

pub disk_handles : DISK_HANDLES ≡ 64
disk_handles = refl

pub first_expander_handle : FIRST_EXPANDER_HANDLE ≡ 0x0049
first_expander_handle = refl

pub last_expander_handle : LAST_EXPANDER_HANDLE ≡ 0x0058
last_expander_handle = refl

pub expanders : EXPANDERS ≡ 16
expanders = refl

-- ---- ioc init

pub version_02_00 : MPI2_VERSION_02_00 ≡ 0x0200
version_02_00 = refl

pub whoinit_host_driver : MPI2_WHOINIT_HOST_DRIVER ≡ 0x04
whoinit_host_driver = refl

pub reply_queues : REPLY_QUEUES ≡ 8
reply_queues = refl

-- ---- ioc status

pub iocstatus_mask : MPI2_IOCSTATUS_MASK ≡ 0x7fff
iocstatus_mask = refl

pub iocstatus_success : MPI2_IOCSTATUS_SUCCESS ≡ 0x0000
iocstatus_success = refl

pub iocstatus_invalid_function : MPI2_IOCSTATUS_INVALID_FUNCTION ≡ 0x0001
iocstatus_invalid_function = refl

pub iocstatus_busy : MPI2_IOCSTATUS_BUSY ≡ 0x0002
iocstatus_busy = refl

pub iocstatus_invalid_sgl : MPI2_IOCSTATUS_INVALID_SGL ≡ 0x0003
iocstatus_invalid_sgl = refl

pub iocstatus_invalid_field : MPI2_IOCSTATUS_INVALID_FIELD ≡ 0x0007
iocstatus_invalid_field = refl

pub iocstatus_invalid_state : MPI2_IOCSTATUS_INVALID_STATE ≡ 0x0008
iocstatus_invalid_state = refl

pub iocstatus_config_invalid_action : MPI2_IOCSTATUS_CONFIG_INVALID_ACTION ≡ 0x0020
iocstatus_config_invalid_action = refl

pub iocstatus_config_invalid_type : MPI2_IOCSTATUS_CONFIG_INVALID_TYPE ≡ 0x0021
iocstatus_config_invalid_type = refl

pub iocstatus_config_invalid_page : MPI2_IOCSTATUS_CONFIG_INVALID_PAGE ≡ 0x0022
iocstatus_config_invalid_page = refl

pub iocstatus_scsi_invalid_devhandle : MPI2_IOCSTATUS_SCSI_INVALID_DEVHANDLE ≡ 0x0042
iocstatus_scsi_invalid_devhandle = refl

pub iocstatus_scsi_device_not_there : MPI2_IOCSTATUS_SCSI_DEVICE_NOT_THERE ≡ 0x0043
iocstatus_scsi_device_not_there = refl

pub iocstatus_scsi_data_underrun : MPI2_IOCSTATUS_SCSI_DATA_UNDERRUN ≡ 0x0045
iocstatus_scsi_data_underrun = refl

pub iocstatus_scsi_task_terminated : MPI2_IOCSTATUS_SCSI_TASK_TERMINATED ≡ 0x0048
iocstatus_scsi_task_terminated = refl

pub iocstatus_scsi_task_mgmt_failed : MPI2_IOCSTATUS_SCSI_TASK_MGMT_FAILED ≡ 0x004a
iocstatus_scsi_task_mgmt_failed = refl

-- ---- limit

pub max_transfer : MAX_TRANSFER ≡ 4096
max_transfer = refl

pub max_plan_lines : MAX_PLAN_LINES ≡ 4096
max_plan_lines = refl

pub max_plugs : MAX_PLUGS ≡ 100_000
max_plugs = refl

-- ---- memory

pub post_ring_entries : POST_RING_ENTRIES ≡ 352
post_ring_entries = refl

pub free_ring_entries : FREE_RING_ENTRIES ≡ 80
free_ring_entries = refl

pub frame_bytes : FRAME_BYTES ≡ 128
frame_bytes = refl

pub frame_dwords : FRAME_DWORDS ≡ 32
frame_dwords = refl

pub reply_frames : REPLY_FRAMES ≡ 64
reply_frames = refl

pub reply_frames_address : REPLY_FRAMES_ADDRESS ≡ 0x0001_0000
reply_frames_address = refl

pub request_frames : REQUEST_FRAMES ≡ 0x0000_0001_0000_0000
request_frames = refl

pub data_buffers : DATA_BUFFERS ≡ 0x0000_0002_0000_0000
data_buffers = refl

pub data_buffer_bytes : DATA_BUFFER_BYTES ≡ 4096
data_buffer_bytes = refl

pub sense_buffers : SENSE_BUFFERS ≡ 0x0010_0000
sense_buffers = refl

pub sense_buffer_bytes : SENSE_BUFFER_BYTES ≡ 96
sense_buffer_bytes = refl

pub reply_post_queue : REPLY_POST_QUEUE ≡ 0x0000_0003_0000_0000
reply_post_queue = refl

pub reply_free_queue : REPLY_FREE_QUEUE ≡ 0x0000_0004_0000_0000
reply_free_queue = refl

-- ---- operation code

pub test_unit_ready : TEST_UNIT_READY ≡ 0x00
test_unit_ready = refl

pub inquiry : INQUIRY ≡ 0x12
inquiry = refl

pub read_capacity_10 : READ_CAPACITY_10 ≡ 0x25
read_capacity_10 = refl

pub read_10 : READ_10 ≡ 0x28
read_10 = refl

pub write_10 : WRITE_10 ≡ 0x2a
write_10 = refl

pub read_16 : READ_16 ≡ 0x88
read_16 = refl

pub write_16 : WRITE_16 ≡ 0x8a
write_16 = refl

-- ---- sas operation

pub sas_op_remove_device : MPI2_SAS_OP_REMOVE_DEVICE ≡ 0x0d
sas_op_remove_device = refl

-- ---- scsi status

pub scsi_status_good : MPI2_SCSI_STATUS_GOOD ≡ 0x00
scsi_status_good = refl

pub scsi_status_check_condition : MPI2_SCSI_STATUS_CHECK_CONDITION ≡ 0x02
scsi_status_check_condition = refl

pub scsi_state_autosense_valid : MPI2_SCSI_STATE_AUTOSENSE_VALID ≡ 0x01
scsi_state_autosense_valid = refl

-- ---- smid

pub smids : SMIDS ≡ 280
smids = refl

pub scsi_io_smids : SCSI_IO_SMIDS ≡ 256
scsi_io_smids = refl

pub high_priority_smids : HIGH_PRIORITY_SMIDS ≡ 8
high_priority_smids = refl

pub internal_smids : INTERNAL_SMIDS ≡ 16
internal_smids = refl

pub first_scsi_io_smid : FIRST_SCSI_IO_SMID ≡ 1
first_scsi_io_smid = refl

pub last_scsi_io_smid : LAST_SCSI_IO_SMID ≡ 256
last_scsi_io_smid = refl

pub first_high_priority_smid : FIRST_HIGH_PRIORITY_SMID ≡ 257
first_high_priority_smid = refl

pub last_high_priority_smid : LAST_HIGH_PRIORITY_SMID ≡ 264
last_high_priority_smid = refl

pub first_internal_smid : FIRST_INTERNAL_SMID ≡ 265
first_internal_smid = refl

pub last_internal_smid : LAST_INTERNAL_SMID ≡ 280
last_internal_smid = refl

-- ---- task management

pub scsitaskmgmt_tasktype_abort_task : MPI2_SCSITASKMGMT_TASKTYPE_ABORT_TASK ≡ 0x01
scsitaskmgmt_tasktype_abort_task = refl

pub scsitaskmgmt_tasktype_target_reset : MPI2_SCSITASKMGMT_TASKTYPE_TARGET_RESET ≡ 0x03
scsitaskmgmt_tasktype_target_reset = refl
