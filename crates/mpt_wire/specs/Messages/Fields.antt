-- The fields of descriptors, frames and pages by their names, at the offsets of the headers.
-- Each means what its name says where the frame is of the message that has it.
use Rattle.std.specs.Prelude.{ℕ, zero, suc, ◌+◌, ◌*◌, ◌/◌, ◌%◌, ◌^◌, ◌==◌, if◌then◌else◌, List, [], ◌∷◌, take, drop, bit_and, Option, Some, None}
use Rattle.mpi_names.specs.declared.descriptor.TheConstants.{MPI2_RPY_DESCRIPT_FLAGS_ADDRESS_REPLY, MPI2_RPY_DESCRIPT_FLAGS_SCSI_IO_SUCCESS}
use Rattle.mpi_names.specs.declared.event.TheConstants.{MPI2_EVENT_SAS_TOPOLOGY_CHANGE_LIST, MPI2_EVENT_SAS_TOPO_RC_MASK, MPI2_EVENT_SAS_TOPO_RC_TARG_ADDED, MPI2_EVENT_SAS_TOPO_RC_TARG_NOT_RESPONDING}
use Rattle.mpi_names.specs.declared.memory.TheConstants.{FRAME_BYTES, REPLY_FRAMES_ADDRESS}
use Rattle.mpi_names.specs.declared.sas_operation.TheConstants.{MPI2_SAS_OP_REMOVE_DEVICE}
use Rattle.mpi_names.specs.declared.task_management.TheConstants.{MPI2_SCSITASKMGMT_TASKTYPE_ABORT_TASK, MPI2_SCSITASKMGMT_TASKTYPE_TARGET_RESET}
use Rattle.mpi_layout.specs.Rows.{field}
use Rattle.mpi_rings.specs.declared.request_descriptor.PostKind.{PostKind}
use Rattle.mpi_rings.specs.declared.request_descriptor.PostKind.TheVariants as post
use Rattle.mpi_rings.specs.RequestDescriptor.{flags_of}

-- ---- descriptors, as the little-endian number of their 8 bytes

-- RequestFlags or ReplyFlags
abbrev pub flags_in : ℕ → ℕ
flags_in descriptor = descriptor % 2 ^ 8

abbrev pub msix_in : ℕ → ℕ
msix_in descriptor = descriptor / 2 ^ 8 % 2 ^ 8

abbrev pub smid_in : ℕ → ℕ
smid_in descriptor = descriptor / 2 ^ 16 % 2 ^ 16

-- DevHandle of a request descriptor
abbrev pub handle_in : ℕ → ℕ
handle_in descriptor = descriptor / 2 ^ 48

-- ReplyFrameAddress of an address reply descriptor
abbrev pub frame_address_in : ℕ → ℕ
frame_address_in descriptor = descriptor / 2 ^ 32

-- the kind of a request descriptor, by its flags
abbrev pub kind_by_flags : ℕ → Option PostKind
kind_by_flags flags =
    if flags == flags_of post.ScsiIo then Some post.ScsiIo
    else (if flags == flags_of post.HighPriority then Some post.HighPriority
    else (if flags == flags_of post.Default then Some post.Default else None))

abbrev pub kind_in : ℕ → Option PostKind
kind_in descriptor = kind_by_flags (flags_in descriptor)

-- a request descriptor
abbrev pub post_descriptor : PostKind → ℕ → ℕ → ℕ → ℕ
post_descriptor kind msix smid handle = flags_of kind + msix * 2 ^ 8 + smid * 2 ^ 16 + handle * 2 ^ 48

-- ReplyFlags: mpi2.h, MPI2_RPY_DESCRIPT_FLAGS_SCSI_IO_SUCCESS and MPI2_RPY_DESCRIPT_FLAGS_ADDRESS_REPLY
abbrev pub success_flags : ℕ
success_flags = MPI2_RPY_DESCRIPT_FLAGS_SCSI_IO_SUCCESS

abbrev pub address_flags : ℕ
address_flags = MPI2_RPY_DESCRIPT_FLAGS_ADDRESS_REPLY

-- a SCSI IO success reply descriptor, whose TaskTag is the SMID, and an address reply descriptor
abbrev pub success_descriptor : ℕ → ℕ
success_descriptor smid = success_flags + smid * 2 ^ 16 + smid * 2 ^ 32

abbrev pub address_descriptor : ℕ → ℕ → ℕ
address_descriptor smid address = address_flags + smid * 2 ^ 16 + address * 2 ^ 32

-- where the host's memory has its 64 reply frames
abbrev pub reply_frame_address : ℕ → ℕ
reply_frame_address frame = REPLY_FRAMES_ADDRESS + FRAME_BYTES * frame

-- ---- every message

abbrev pub function_in : List ℕ → ℕ
function_in frame = field frame 0x03 1

abbrev pub ioc_status_in : List ℕ → ℕ
ioc_status_in frame = field frame 0x0e 2

-- ---- requests

-- DevHandle of a SCSI IO, of task management and of their replies
abbrev pub dev_handle_in : List ℕ → ℕ
dev_handle_in frame = field frame 0x00 2

-- SCSI IO

abbrev pub data_length_in : List ℕ → ℕ
data_length_in frame = field frame 0x1c 4

abbrev pub lun_in : List ℕ → ℕ
lun_in frame = field frame 0x34 8

-- ControlDirection: 0 no data, 1 write, 2 read
abbrev pub direction_in : List ℕ → ℕ
direction_in frame = field frame 0x3f 1

-- the CDB, whose length IoFlags has
abbrev pub cdb_in : List ℕ → List ℕ
cdb_in frame = take (field frame 0x24 2) (drop 0x40 frame)

abbrev pub element_length_in : List ℕ → ℕ
element_length_in frame = field frame 0x60 3

abbrev pub element_flags_in : List ℕ → ℕ
element_flags_in frame = field frame 0x63 1

-- task management

abbrev pub task_type_in : List ℕ → ℕ
task_type_in frame = field frame 0x05 1

abbrev pub task_mid_in : List ℕ → ℕ
task_mid_in frame = field frame 0x30 2

-- TaskType: mpi2_init.h, MPI2_SCSITASKMGMT_TASKTYPE_ABORT_TASK and MPI2_SCSITASKMGMT_TASKTYPE_TARGET_RESET
abbrev pub abort_task : ℕ
abort_task = MPI2_SCSITASKMGMT_TASKTYPE_ABORT_TASK

abbrev pub target_reset : ℕ
target_reset = MPI2_SCSITASKMGMT_TASKTYPE_TARGET_RESET

-- IOC Init

abbrev pub host_msix_vectors_in : List ℕ → ℕ
host_msix_vectors_in frame = field frame 0x17 1

abbrev pub request_frame_size_in : List ℕ → ℕ
request_frame_size_in frame = field frame 0x1a 2

abbrev pub reply_post_queue_depth_in : List ℕ → ℕ
reply_post_queue_depth_in frame = field frame 0x1c 2

abbrev pub reply_free_queue_depth_in : List ℕ → ℕ
reply_free_queue_depth_in frame = field frame 0x1e 2

-- Port Facts

abbrev pub port_number_in : List ℕ → ℕ
port_number_in frame = field frame 0x06 1

-- configuration

abbrev pub action_in : List ℕ → ℕ
action_in frame = field frame 0x00 1

abbrev pub ext_page_type_in : List ℕ → ℕ
ext_page_type_in frame = field frame 0x06 1

abbrev pub page_number_in : List ℕ → ℕ
page_number_in frame = field frame 0x16 1

abbrev pub page_type_in : List ℕ → ℕ
page_type_in frame = field frame 0x17 1

abbrev pub page_address_in : List ℕ → ℕ
page_address_in frame = field frame 0x18 4

abbrev pub page_buffer_in : List ℕ → ℕ
page_buffer_in frame = field frame 0x1c 3

-- event notification

abbrev pub event_masks_in : List ℕ → ℕ
event_masks_in frame = field frame 0x14 4

-- event acknowledgement

abbrev pub acked_event_in : List ℕ → ℕ
acked_event_in frame = field frame 0x0c 2

abbrev pub acked_context_in : List ℕ → ℕ
acked_context_in frame = field frame 0x10 4

-- SAS IO unit control

abbrev pub operation_in : List ℕ → ℕ
operation_in frame = field frame 0x00 1

abbrev pub controlled_handle_in : List ℕ → ℕ
controlled_handle_in frame = field frame 0x04 2

-- Operation: mpi2_sas.h, MPI2_SAS_OP_REMOVE_DEVICE
abbrev pub remove_device : ℕ
remove_device = MPI2_SAS_OP_REMOVE_DEVICE

-- ---- replies

-- SCSI IO

abbrev pub scsi_status_in : List ℕ → ℕ
scsi_status_in frame = field frame 0x0c 1

abbrev pub transfer_count_in : List ℕ → ℕ
transfer_count_in frame = field frame 0x14 4

abbrev pub sense_count_in : List ℕ → ℕ
sense_count_in frame = field frame 0x18 4

-- task management

abbrev pub termination_count_in : List ℕ → ℕ
termination_count_in frame = field frame 0x14 4

-- IOC Facts

abbrev pub max_msix_vectors_in : List ℕ → ℕ
max_msix_vectors_in frame = field frame 0x17 1

abbrev pub request_credit_in : List ℕ → ℕ
request_credit_in frame = field frame 0x18 2

abbrev pub ioc_request_frame_size_in : List ℕ → ℕ
ioc_request_frame_size_in frame = field frame 0x24 2

abbrev pub high_priority_credit_in : List ℕ → ℕ
high_priority_credit_in frame = field frame 0x32 2

abbrev pub reply_frame_size_in : List ℕ → ℕ
reply_frame_size_in frame = field frame 0x36 1

abbrev pub max_dev_handle_in : List ℕ → ℕ
max_dev_handle_in frame = field frame 0x38 2

abbrev pub min_dev_handle_in : List ℕ → ℕ
min_dev_handle_in frame = field frame 0x3c 2

-- event notification

abbrev pub event_in : List ℕ → ℕ
event_in frame = field frame 0x14 2

abbrev pub event_context_in : List ℕ → ℕ
event_context_in frame = field frame 0x18 4

-- Event: mpi2_ioc.h, MPI2_EVENT_SAS_TOPOLOGY_CHANGE_LIST
abbrev pub topology_change_list : ℕ
topology_change_list = MPI2_EVENT_SAS_TOPOLOGY_CHANGE_LIST

-- a change in a topology change list: AttachedDevHandle, and the low four bits of PhyStatus
pub record Change : Type 0 where
  pub handle : ℕ
  pub status : ℕ

-- PhyStatus: mpi2_ioc.h, MPI2_EVENT_SAS_TOPO_RC_TARG_ADDED and MPI2_EVENT_SAS_TOPO_RC_TARG_NOT_RESPONDING
abbrev pub target_added : ℕ
target_added = MPI2_EVENT_SAS_TOPO_RC_TARG_ADDED

abbrev pub target_not_responding : ℕ
target_not_responding = MPI2_EVENT_SAS_TOPO_RC_TARG_NOT_RESPONDING

abbrev pub change_at : List ℕ → ℕ → Change
change_at frame at = record { handle = field frame at 2; status = bit_and (field frame (at + 3) 1) MPI2_EVENT_SAS_TOPO_RC_MASK }

-- so many changes from an offset on
unfoldable pub changes_from : List ℕ → ℕ → ℕ → List Change
changes_from frame at zero = []
changes_from frame at (suc n) = change_at frame at ∷ changes_from frame (at + 4) n

-- the changes that an event tells: those of a topology change list, and none of any other
abbrev pub changes_in : List ℕ → List Change
changes_in frame = if event_in frame == topology_change_list then changes_from frame 0x28 (field frame 0x24 1) else []

-- ---- SAS Device Page 0

abbrev pub page_sas_address_in : List ℕ → ℕ
page_sas_address_in page = field page 0x0c 8

abbrev pub page_dev_handle_in : List ℕ → ℕ
page_dev_handle_in page = field page 0x18 2
