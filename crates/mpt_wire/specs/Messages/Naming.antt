-- Which entries name the identifier of a command, and what each says of it.
use Rattle.std.specs.Prelude.{ℕ, ◌==◌, ◌&&◌, nat_le, Bool, true, false, if◌then◌else◌, Option, Some, None, List}
use Rattle.mpi_names.specs.declared.ioc_status.TheConstants.{MPI2_IOCSTATUS_SCSI_DATA_UNDERRUN, MPI2_IOCSTATUS_SCSI_DEVICE_NOT_THERE, MPI2_IOCSTATUS_SCSI_TASK_TERMINATED, MPI2_IOCSTATUS_SUCCESS}
use Rattle.mpi_rings.specs.declared.request_descriptor.PostKind.{PostKind}
use Rattle.mpi_rings.specs.declared.request_descriptor.PostKind.TheVariants as post
use Rattle.mpt_messages.specs.declared.function.Function.TheVariants as function
use Rattle.mpt_messages.specs.Function.{byte_of}
use Rattle.mpt_trace.specs.declared.item.Down.TheVariants as down
use Rattle.mpt_trace.specs.declared.item.Item.{Item}
use Rattle.mpt_trace.specs.declared.item.Item.TheVariants as item
use Rattle.mpt_wire.specs.Queues.Identifiers.{first_smid, last_smid}
use Rattle.mpt_wire.specs.Messages.Fields.{smid_in, kind_in, function_in, ioc_status_in, task_type_in, task_mid_in, abort_task, target_reset}

-- the descriptor names s, and s is an identifier of commands
abbrev pub names_command : ℕ → ℕ → Bool
names_command s descriptor = nat_le (first_smid post.ScsiIo) s && nat_le s (last_smid post.ScsiIo) && smid_in descriptor == s

-- IOCStatus: mpi2.h, MPI2_IOCSTATUS_SUCCESS, MPI2_IOCSTATUS_SCSI_DEVICE_NOT_THERE, MPI2_IOCSTATUS_SCSI_DATA_UNDERRUN
-- and MPI2_IOCSTATUS_SCSI_TASK_TERMINATED
abbrev pub success : ℕ
success = MPI2_IOCSTATUS_SUCCESS

abbrev pub device_not_there : ℕ
device_not_there = MPI2_IOCSTATUS_SCSI_DEVICE_NOT_THERE

abbrev pub data_underrun : ℕ
data_underrun = MPI2_IOCSTATUS_SCSI_DATA_UNDERRUN

abbrev pub task_terminated : ℕ
task_terminated = MPI2_IOCSTATUS_SCSI_TASK_TERMINATED

-- what the reply to a command says: that the disk isn't there, that the command was stopped, or anything else,
-- which is a result
pub data Says : Type 0 where
  NotThere : Says
  Stopped : Says
  AResult : Says

-- by the whole IOCStatus, its flags included
abbrev pub says_status : ℕ → Says
says_status status =
    if status == device_not_there then NotThere
    else (if status == task_terminated then Stopped else AResult)

abbrev pub said_in : Option (List ℕ) → Says
said_in None = AResult
said_in (Some frame) = says_status (ioc_status_in frame)

-- the post is a task management request of this type, and its descriptor is high priority
abbrev pub is_high_priority : Option PostKind → Bool
is_high_priority (Some post.HighPriority) = true
is_high_priority _ = false

abbrev pub asks_task : ℕ → ℕ → List ℕ → Bool
asks_task task_type descriptor frame =
    is_high_priority (kind_in descriptor) && function_in frame == byte_of function.TaskManagement && task_type_in frame == task_type

abbrev pub is_abort : ℕ → List ℕ → Bool
is_abort descriptor frame = asks_task abort_task descriptor frame

abbrev pub is_target_reset_post : ℕ → List ℕ → Bool
is_target_reset_post descriptor frame = asks_task target_reset descriptor frame

-- the item is the post of an abort that names s
abbrev pub is_abort_of : ℕ → Item → Bool
is_abort_of s (item.Down (down.Post descriptor frame payload)) = is_abort descriptor frame && task_mid_in frame == s
is_abort_of s _ = false
