-- A task management request: its layout, the numbers of its fields, and the bytes that stand for it.
use Rattle.std.specs.Prelude.{ℕ, List, [], ◌∷◌, codes}
use Rattle.mpi_layout.specs.Rows.{Shape, Stands, bytes, number}
use Rattle.mpi_layout.specs.declared.row.Rule.TheVariants.{Any, Zero, Is, OneOf}
use Rattle.scsi_msgs.specs.declared.task_ask.TaskAsk.{TaskAsk}

-- mpi2_init.h, MPI2_SCSI_TASK_MANAGE_REQUEST
unfoldable pub task_ask_layout : Shape
task_ask_layout = record {
  length = 52;
  rows =
      number 0x00 2 (codes "DevHandle") Any
      ∷ number 0x02 1 (codes "ChainOffset") Zero
      ∷ number 0x03 1 (codes "Function") (Is 0x01)
      ∷ number 0x04 1 (codes "Reserved") Zero
      ∷ number 0x05 1 (codes "TaskType") (OneOf (1 ∷ 3 ∷ 5 ∷ 7 ∷ []) 4)
      ∷ number 0x06 1 (codes "Reserved") Zero
      ∷ number 0x07 1 (codes "MsgFlags") Zero
      ∷ number 0x08 1 (codes "VP_ID") Zero
      ∷ number 0x09 1 (codes "VF_ID") Zero
      ∷ number 0x0a 2 (codes "Reserved") Zero
      ∷ bytes 0x0c 8 (codes "LUN") Any
      ∷ bytes 0x14 8 (codes "Reserved") Zero
      ∷ bytes 0x1c 8 (codes "Reserved") Zero
      ∷ bytes 0x24 8 (codes "Reserved") Zero
      ∷ bytes 0x2c 4 (codes "Reserved") Zero
      ∷ number 0x30 2 (codes "TaskMID") Any
      ∷ number 0x32 2 (codes "Reserved") Zero
      ∷ [];
}

-- the numbers of the fields in the layout's order
unfoldable pub task_ask_values : TaskAsk → List ℕ
task_ask_values m =
    m.dev_handle ∷ m.chain_offset ∷ m.function ∷ m.reserved_04 ∷ m.task_type ∷ m.reserved_06
    ∷ m.msg_flags ∷ m.vp_id ∷ m.vf_id ∷ m.reserved_0a ∷ m.lun ∷ m.reserved_14 ∷ m.reserved_1c
    ∷ m.reserved_24 ∷ m.reserved_2c ∷ m.task_mid ∷ m.reserved_32 ∷ []

-- the bytes stand for the message
abbrev pub TaskAskStands : TaskAsk → List ℕ → Type 0
TaskAskStands m bytes = Stands task_ask_layout (task_ask_values m) bytes
