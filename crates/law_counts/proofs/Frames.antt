-- What a rule reads of the frame of a request: of task management its type and what it names, of any other that it is none.
use Rattle.std.proofs.Common.{◌≡◌, ℕ, ◌-◌, ◌^◌, ◌<◌, ◌==◌, false, List, get_or, refl, ap, sym, subst}
use Rattle.hex.specs.Hex.{IsBytes}
use Rattle.config_pages.specs.ConfigAsk.{config_ask_layout, config_ask_values}
use Rattle.event_msgs.specs.EventAck.{event_ack_layout, event_ack_values}
use Rattle.event_msgs.specs.EventAsk.{event_ask_layout, event_ask_values}
use Rattle.ioc_msgs.specs.PortEnable.{port_enable_layout, port_enable_values}
use Rattle.ioc_msgs.specs.UnitControl.{unit_control_layout, unit_control_values}
use Rattle.scsi_msgs.specs.ScsiIo.{scsi_io_layout, scsi_io_values}
use Rattle.scsi_msgs.specs.TaskAsk.{task_ask_layout, task_ask_values}
use Rattle.scsi_disk.specs.declared.command.Command.{Command}
use Rattle.mpi_layout.specs.Rows.{field}
use Rattle.mpt_messages.specs.Function.{byte_of}
use Rattle.mpt_messages.specs.HostFrames.{IsTask, task_asked}
use Rattle.mpt_messages.specs.declared.function.Function.TheVariants as function
use Rattle.mpt_messages.specs.declared.host_ask.HostAsk.TheVariants as ask
use Rattle.mpt_messages.proofs.FrameStands.{host_frame_stands}
use Rattle.mpt_messages.proofs.HostFits.{task_fits}
use Rattle.mpt_wire.specs.Messages.Fields.{dev_handle_in, function_in, task_mid_in, task_type_in}
use Rattle.mpt_rules.specs.Host.Posts.{command_asked, frame_asked}
use Rattle.law_standing.proofs.FrameBytes.{field_lt, layout}

-- ---- task management

pub record TaskReads (frame : List ℕ) (task_type task : ℕ) : Type 0 where
  pub function : function_in frame ≡ byte_of function.TaskManagement
  pub kind : task_type_in frame ≡ task_type
  pub names : task_mid_in frame ≡ task

reads : (handle task_type task : ℕ) → handle < 2 ^ 16 → IsTask task_type task → TaskReads (frame_asked (ask.Task handle task_type task)) task_type task
unfolding task_ask_layout task_ask_values
reads handle task_type task l t =
    let s = (host_frame_stands (ask.Task handle task_type task) (task_fits handle task_type task l t)).numbers in
    record { function = ap (λ vs. get_or vs 2 0) s; kind = ap (λ vs. get_or vs 4 0) s; names = ap (λ vs. get_or vs 15 0) s }

task_bytes : (handle task_type task : ℕ) → IsBytes (frame_asked (ask.Task handle task_type task))
task_bytes handle task_type task = layout task_ask_layout (task_ask_values (task_asked handle task_type task)) (128 - 52)

-- a frame that is task management of its own handle
pub task_reads : (frame : List ℕ) (task_type task : ℕ) → frame ≡ frame_asked (ask.Task (dev_handle_in frame) task_type task) → IsTask task_type task → TaskReads frame task_type task
task_reads frame task_type task e t =
    let l = field_lt frame 0 2 (subst IsBytes (sym e) (task_bytes (dev_handle_in frame) task_type task)) in
    subst (λ x. TaskReads x task_type task) (sym e) (reads (dev_handle_in frame) task_type task l t)

-- ---- others

pub page_no_task : (s handle : ℕ) → (function_in (frame_asked (ask.PageRead s handle)) == byte_of function.TaskManagement) ≡ false
unfolding config_ask_layout config_ask_values field
page_no_task s handle = refl

pub removal_no_task : (handle : ℕ) → (function_in (frame_asked (ask.Remove handle)) == byte_of function.TaskManagement) ≡ false
unfolding unit_control_layout unit_control_values field
removal_no_task handle = refl

pub ack_no_task : (event context : ℕ) → (function_in (frame_asked (ask.Ack event context)) == byte_of function.TaskManagement) ≡ false
unfolding event_ack_layout event_ack_values field
ack_no_task event context = refl

pub notification_no_task : (function_in (frame_asked ask.Notification) == byte_of function.TaskManagement) ≡ false
unfolding event_ask_layout event_ask_values field
notification_no_task = refl

pub enable_no_task : (function_in (frame_asked ask.PortEnable) == byte_of function.TaskManagement) ≡ false
unfolding port_enable_layout port_enable_values field
enable_no_task = refl

pub command_no_task : (s handle : ℕ) (c : Command) → (function_in (frame_asked (command_asked s handle c)) == byte_of function.TaskManagement) ≡ false
unfolding scsi_io_layout scsi_io_values field
command_no_task s handle c = refl
