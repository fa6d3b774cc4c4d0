-- A task management reply: its layout, the numbers of its fields, and the bytes that stand for it.
use Rattle.std.specs.Prelude.{ℕ, List, [], ◌∷◌, codes}
use Rattle.mpi_layout.specs.Rows.{Shape, Stands, number}
use Rattle.mpi_layout.specs.declared.row.Rule.TheVariants.{Any, Is, Between}
use Rattle.scsi_msgs.specs.declared.task_reply.TaskReply.{TaskReply}

-- mpi2_init.h, MPI2_SCSI_TASK_MANAGE_REPLY
unfoldable pub task_reply_layout : Shape
task_reply_layout = record {
  length = 28;
  rows =
      number 0x00 2 (codes "DevHandle") Any
      ∷ number 0x02 1 (codes "MsgLength") (Between 7 32)
      ∷ number 0x03 1 (codes "Function") (Is 0x01)
      ∷ number 0x04 1 (codes "ResponseCode") Any
      ∷ number 0x05 1 (codes "TaskType") Any
      ∷ number 0x06 1 (codes "Reserved") Any
      ∷ number 0x07 1 (codes "MsgFlags") Any
      ∷ number 0x08 1 (codes "VP_ID") Any
      ∷ number 0x09 1 (codes "VF_ID") Any
      ∷ number 0x0a 2 (codes "Reserved") Any
      ∷ number 0x0c 2 (codes "Reserved") Any
      ∷ number 0x0e 2 (codes "IOCStatus") Any
      ∷ number 0x10 4 (codes "IOCLogInfo") Any
      ∷ number 0x14 4 (codes "TerminationCount") Any
      ∷ number 0x18 4 (codes "ResponseInfo") Any
      ∷ [];
}

-- the numbers of the fields in the layout's order
unfoldable pub task_reply_values : TaskReply → List ℕ
task_reply_values m =
    m.dev_handle ∷ m.msg_length ∷ m.function ∷ m.response_code ∷ m.task_type ∷ m.reserved_06
    ∷ m.msg_flags ∷ m.vp_id ∷ m.vf_id ∷ m.reserved_0a ∷ m.reserved_0c ∷ m.ioc_status
    ∷ m.ioc_log_info ∷ m.termination_count ∷ m.response_info ∷ []

-- the bytes stand for the message
abbrev pub TaskReplyStands : TaskReply → List ℕ → Type 0
TaskReplyStands m bytes = Stands task_reply_layout (task_reply_values m) bytes
