-- The words of Fields read the rows of the layouts: each is the number of the row with its name.
use Rattle.std.proofs.Common.{◌≡◌, ℕ, ◌+◌, ◌==◌, List, [], ◌∷◌, map, take, drop, replicate, codes, bit_and, Option, Some, None, refl}
use Rattle.std.specs.List.{find}
use Rattle.std.specs.Prelude.{bytes_eq, if◌then◌else◌}
use Rattle.mpi_layout.specs.Rows.{RowShape, Shape, field, number_in}
use Rattle.scsi_msgs.specs.ScsiIo.{scsi_io_layout}
use Rattle.scsi_msgs.specs.TaskAsk.{task_ask_layout}
use Rattle.ioc_msgs.specs.IocInit.{ioc_init_layout}
use Rattle.ioc_msgs.specs.IocFacts.{ioc_facts_layout}
use Rattle.config_pages.specs.ConfigAsk.{config_ask_layout}
use Rattle.ioc_msgs.specs.PortFacts.{port_facts_layout}
use Rattle.ioc_msgs.specs.PortEnable.{port_enable_layout}
use Rattle.event_msgs.specs.EventAsk.{event_ask_layout}
use Rattle.event_msgs.specs.EventAck.{event_ack_layout}
use Rattle.ioc_msgs.specs.UnitControl.{unit_control_layout}
use Rattle.scsi_msgs.specs.ScsiReply.{scsi_reply_layout}
use Rattle.scsi_msgs.specs.TaskReply.{task_reply_layout}
use Rattle.ioc_msgs.specs.IocInitReply.{ioc_init_reply_layout}
use Rattle.ioc_msgs.specs.IocFactsReply.{ioc_facts_reply_layout}
use Rattle.config_pages.specs.ConfigReply.{config_reply_layout}
use Rattle.ioc_msgs.specs.PortFactsReply.{port_facts_reply_layout}
use Rattle.ioc_msgs.specs.PortEnableReply.{port_enable_reply_layout}
use Rattle.event_msgs.specs.EventReply.{event_reply_layout}
use Rattle.event_msgs.specs.Topology.{topology_layout}
use Rattle.event_msgs.specs.TopologyEntry.{topology_entry_layout}
use Rattle.event_msgs.specs.EventAckReply.{event_ack_reply_layout}
use Rattle.ioc_msgs.specs.UnitControlReply.{unit_control_reply_layout}
use Rattle.config_pages.specs.DevicePage0.{device_page0_layout}
use Rattle.mpt_wire.specs.Messages.Fields.{acked_context_in, acked_event_in, action_in, cdb_in, change_at, changes_from, changes_in, controlled_handle_in, data_length_in, dev_handle_in, direction_in, element_flags_in, element_length_in, event_context_in, event_in, event_masks_in, ext_page_type_in, function_in, high_priority_credit_in, host_msix_vectors_in, ioc_request_frame_size_in, ioc_status_in, lun_in, max_dev_handle_in, max_msix_vectors_in, min_dev_handle_in, operation_in, page_address_in, page_buffer_in, page_dev_handle_in, page_number_in, page_sas_address_in, page_type_in, port_number_in, reply_frame_size_in, reply_free_queue_depth_in, reply_post_queue_depth_in, request_credit_in, request_frame_size_in, scsi_status_in, sense_count_in, task_mid_in, task_type_in, termination_count_in, topology_change_list, transfer_count_in}

-- the number of a row, or 0 where there is none
abbrev number_of : List ℕ → Option RowShape → ℕ
number_of bytes None = 0
number_of bytes (Some row) = number_in bytes row

-- the number of the layout's first row with this name
abbrev row_named : List ℕ → Shape → Option RowShape
row_named name layout = find (λ (row : RowShape). bytes_eq row.name name) layout.rows

abbrev named : List ℕ → Shape → List ℕ → ℕ
named name layout bytes = number_of bytes (row_named name layout)

-- the offset of a row, or 0 where there is none
abbrev offset_of : Option RowShape → ℕ
offset_of None = 0
offset_of (Some row) = row.at

function-rows : (frame : List ℕ) → map (λ layout. named (codes "Function") layout frame) (scsi_io_layout ∷ task_ask_layout ∷ ioc_init_layout ∷ ioc_facts_layout ∷ config_ask_layout ∷ port_facts_layout ∷ port_enable_layout ∷ event_ask_layout ∷ event_ack_layout ∷ unit_control_layout ∷ scsi_reply_layout ∷ task_reply_layout ∷ ioc_init_reply_layout ∷ ioc_facts_reply_layout ∷ config_reply_layout ∷ port_facts_reply_layout ∷ port_enable_reply_layout ∷ event_reply_layout ∷ event_ack_reply_layout ∷ unit_control_reply_layout ∷ []) ≡ replicate 20 (function_in frame)
unfolding scsi_io_layout task_ask_layout ioc_init_layout ioc_facts_layout config_ask_layout port_facts_layout port_enable_layout event_ask_layout event_ack_layout unit_control_layout scsi_reply_layout task_reply_layout ioc_init_reply_layout ioc_facts_reply_layout config_reply_layout port_facts_reply_layout port_enable_reply_layout event_reply_layout event_ack_reply_layout unit_control_reply_layout
function-rows frame = refl

ioc_status-rows : (frame : List ℕ) → map (λ layout. named (codes "IOCStatus") layout frame) (scsi_reply_layout ∷ task_reply_layout ∷ ioc_init_reply_layout ∷ ioc_facts_reply_layout ∷ config_reply_layout ∷ port_facts_reply_layout ∷ port_enable_reply_layout ∷ event_reply_layout ∷ event_ack_reply_layout ∷ unit_control_reply_layout ∷ []) ≡ replicate 10 (ioc_status_in frame)
unfolding scsi_reply_layout task_reply_layout ioc_init_reply_layout ioc_facts_reply_layout config_reply_layout port_facts_reply_layout port_enable_reply_layout event_reply_layout event_ack_reply_layout unit_control_reply_layout
ioc_status-rows frame = refl

dev_handle-rows : (frame : List ℕ) → map (λ layout. named (codes "DevHandle") layout frame) (scsi_io_layout ∷ task_ask_layout ∷ scsi_reply_layout ∷ task_reply_layout ∷ []) ≡ replicate 4 (dev_handle_in frame)
unfolding scsi_io_layout task_ask_layout scsi_reply_layout task_reply_layout
dev_handle-rows frame = refl

data_length-row : (frame : List ℕ) → data_length_in frame ≡ named (codes "DataLength") scsi_io_layout frame
unfolding scsi_io_layout
data_length-row frame = refl

lun-row : (frame : List ℕ) → lun_in frame ≡ named (codes "LUN") scsi_io_layout frame
unfolding scsi_io_layout
lun-row frame = refl

direction-row : (frame : List ℕ) → direction_in frame ≡ named (codes "ControlDirection") scsi_io_layout frame
unfolding scsi_io_layout
direction-row frame = refl

element_length-row : (frame : List ℕ) → element_length_in frame ≡ named (codes "SgeLength") scsi_io_layout frame
unfolding scsi_io_layout
element_length-row frame = refl

element_flags-row : (frame : List ℕ) → element_flags_in frame ≡ named (codes "SgeFlags") scsi_io_layout frame
unfolding scsi_io_layout
element_flags-row frame = refl

task_type-rows : (frame : List ℕ) → map (λ layout. named (codes "TaskType") layout frame) (task_ask_layout ∷ task_reply_layout ∷ []) ≡ replicate 2 (task_type_in frame)
unfolding task_ask_layout task_reply_layout
task_type-rows frame = refl

task_mid-row : (frame : List ℕ) → task_mid_in frame ≡ named (codes "TaskMID") task_ask_layout frame
unfolding task_ask_layout
task_mid-row frame = refl

host_msix_vectors-row : (frame : List ℕ) → host_msix_vectors_in frame ≡ named (codes "HostMSIxVectors") ioc_init_layout frame
unfolding ioc_init_layout
host_msix_vectors-row frame = refl

request_frame_size-row : (frame : List ℕ) → request_frame_size_in frame ≡ named (codes "SystemRequestFrameSize") ioc_init_layout frame
unfolding ioc_init_layout
request_frame_size-row frame = refl

reply_post_queue_depth-row : (frame : List ℕ) → reply_post_queue_depth_in frame ≡ named (codes "ReplyDescriptorPostQueueDepth") ioc_init_layout frame
unfolding ioc_init_layout
reply_post_queue_depth-row frame = refl

reply_free_queue_depth-row : (frame : List ℕ) → reply_free_queue_depth_in frame ≡ named (codes "ReplyFreeQueueDepth") ioc_init_layout frame
unfolding ioc_init_layout
reply_free_queue_depth-row frame = refl

port_number-row : (frame : List ℕ) → port_number_in frame ≡ named (codes "PortNumber") port_facts_layout frame
unfolding port_facts_layout
port_number-row frame = refl

action-row : (frame : List ℕ) → action_in frame ≡ named (codes "Action") config_ask_layout frame
unfolding config_ask_layout
action-row frame = refl

ext_page_type-row : (frame : List ℕ) → ext_page_type_in frame ≡ named (codes "ExtPageType") config_ask_layout frame
unfolding config_ask_layout
ext_page_type-row frame = refl

page_number-row : (frame : List ℕ) → page_number_in frame ≡ named (codes "PageNumber") config_ask_layout frame
unfolding config_ask_layout
page_number-row frame = refl

page_type-row : (frame : List ℕ) → page_type_in frame ≡ named (codes "PageType") config_ask_layout frame
unfolding config_ask_layout
page_type-row frame = refl

page_address-row : (frame : List ℕ) → page_address_in frame ≡ named (codes "PageAddress") config_ask_layout frame
unfolding config_ask_layout
page_address-row frame = refl

page_buffer-row : (frame : List ℕ) → page_buffer_in frame ≡ named (codes "SgeLength") config_ask_layout frame
unfolding config_ask_layout
page_buffer-row frame = refl

event_masks-row : (frame : List ℕ) → event_masks_in frame ≡ named (codes "EventMasks0") event_ask_layout frame
unfolding event_ask_layout
event_masks-row frame = refl

acked_event-row : (frame : List ℕ) → acked_event_in frame ≡ named (codes "Event") event_ack_layout frame
unfolding event_ack_layout
acked_event-row frame = refl

acked_context-row : (frame : List ℕ) → acked_context_in frame ≡ named (codes "EventContext") event_ack_layout frame
unfolding event_ack_layout
acked_context-row frame = refl

operation-row : (frame : List ℕ) → operation_in frame ≡ named (codes "Operation") unit_control_layout frame
unfolding unit_control_layout
operation-row frame = refl

controlled_handle-row : (frame : List ℕ) → controlled_handle_in frame ≡ named (codes "DevHandle") unit_control_layout frame
unfolding unit_control_layout
controlled_handle-row frame = refl

scsi_status-row : (frame : List ℕ) → scsi_status_in frame ≡ named (codes "SCSIStatus") scsi_reply_layout frame
unfolding scsi_reply_layout
scsi_status-row frame = refl

transfer_count-row : (frame : List ℕ) → transfer_count_in frame ≡ named (codes "TransferCount") scsi_reply_layout frame
unfolding scsi_reply_layout
transfer_count-row frame = refl

sense_count-row : (frame : List ℕ) → sense_count_in frame ≡ named (codes "SenseCount") scsi_reply_layout frame
unfolding scsi_reply_layout
sense_count-row frame = refl

termination_count-row : (frame : List ℕ) → termination_count_in frame ≡ named (codes "TerminationCount") task_reply_layout frame
unfolding task_reply_layout
termination_count-row frame = refl

max_msix_vectors-row : (frame : List ℕ) → max_msix_vectors_in frame ≡ named (codes "MaxMSIxVectors") ioc_facts_reply_layout frame
unfolding ioc_facts_reply_layout
max_msix_vectors-row frame = refl

request_credit-row : (frame : List ℕ) → request_credit_in frame ≡ named (codes "RequestCredit") ioc_facts_reply_layout frame
unfolding ioc_facts_reply_layout
request_credit-row frame = refl

ioc_request_frame_size-row : (frame : List ℕ) → ioc_request_frame_size_in frame ≡ named (codes "IOCRequestFrameSize") ioc_facts_reply_layout frame
unfolding ioc_facts_reply_layout
ioc_request_frame_size-row frame = refl

high_priority_credit-row : (frame : List ℕ) → high_priority_credit_in frame ≡ named (codes "HighPriorityCredit") ioc_facts_reply_layout frame
unfolding ioc_facts_reply_layout
high_priority_credit-row frame = refl

reply_frame_size-row : (frame : List ℕ) → reply_frame_size_in frame ≡ named (codes "ReplyFrameSize") ioc_facts_reply_layout frame
unfolding ioc_facts_reply_layout
reply_frame_size-row frame = refl

max_dev_handle-row : (frame : List ℕ) → max_dev_handle_in frame ≡ named (codes "MaxDevHandle") ioc_facts_reply_layout frame
unfolding ioc_facts_reply_layout
max_dev_handle-row frame = refl

min_dev_handle-row : (frame : List ℕ) → min_dev_handle_in frame ≡ named (codes "MinDevHandle") ioc_facts_reply_layout frame
unfolding ioc_facts_reply_layout
min_dev_handle-row frame = refl

event-row : (frame : List ℕ) → event_in frame ≡ named (codes "Event") event_reply_layout frame
unfolding event_reply_layout
event-row frame = refl

event_context-row : (frame : List ℕ) → event_context_in frame ≡ named (codes "EventContext") event_reply_layout frame
unfolding event_reply_layout
event_context-row frame = refl

page_sas_address-row : (page : List ℕ) → page_sas_address_in page ≡ named (codes "SASAddress") device_page0_layout page
unfolding device_page0_layout
page_sas_address-row page = refl

page_dev_handle-row : (page : List ℕ) → page_dev_handle_in page ≡ named (codes "DevHandle") device_page0_layout page
unfolding device_page0_layout
page_dev_handle-row page = refl

cdb-rows : (frame : List ℕ) → cdb_in frame ≡ take (named (codes "IoFlags") scsi_io_layout frame) (drop (offset_of (row_named (codes "CDB") scsi_io_layout)) frame)
unfolding scsi_io_layout
cdb-rows frame = refl

-- a change at the front of bytes is an entry of a topology change list
change-rows : (entry : List ℕ) → change_at entry 0 ≡ record { handle = named (codes "AttachedDevHandle") topology_entry_layout entry; status = bit_and (named (codes "PhyStatus") topology_entry_layout entry) 0x0f }
unfolding topology_entry_layout
change-rows entry = refl

-- an event's list begins behind the event's rows, and its entries behind the list's rows
changes-rows : (frame : List ℕ) → changes_in frame ≡ (if event_in frame == topology_change_list then changes_from frame (event_reply_layout.length + topology_layout.length) (field frame (event_reply_layout.length + offset_of (row_named (codes "NumEntries") topology_layout)) 1) else [])
unfolding event_reply_layout topology_layout
changes-rows frame = refl
