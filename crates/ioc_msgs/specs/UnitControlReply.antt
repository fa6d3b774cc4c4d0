-- A SAS IO unit control reply: its layout, the numbers of its fields, and the bytes that stand for it.
use Rattle.std.specs.Prelude.{ℕ, List, [], ◌∷◌, codes}
use Rattle.mpi_layout.specs.Rows.{Shape, Stands, number}
use Rattle.mpi_layout.specs.declared.row.Rule.TheVariants.{Any, Is, Between}
use Rattle.ioc_msgs.specs.declared.unit_control_reply.UnitControlReply.{UnitControlReply}

-- mpi2_sas.h, MPI2_SAS_IOUNIT_CONTROL_REPLY
unfoldable pub unit_control_reply_layout : Shape
unit_control_reply_layout = record {
  length = 20;
  rows =
      number 0x00 1 (codes "Operation") Any
      ∷ number 0x01 1 (codes "Reserved") Any
      ∷ number 0x02 1 (codes "MsgLength") (Between 5 32)
      ∷ number 0x03 1 (codes "Function") (Is 0x1b)
      ∷ number 0x04 2 (codes "DevHandle") Any
      ∷ number 0x06 1 (codes "IOCParameter") Any
      ∷ number 0x07 1 (codes "MsgFlags") Any
      ∷ number 0x08 1 (codes "VP_ID") Any
      ∷ number 0x09 1 (codes "VF_ID") Any
      ∷ number 0x0a 2 (codes "Reserved") Any
      ∷ number 0x0c 2 (codes "Reserved") Any
      ∷ number 0x0e 2 (codes "IOCStatus") Any
      ∷ number 0x10 4 (codes "IOCLogInfo") Any
      ∷ [];
}

-- the numbers of the fields in the layout's order
unfoldable pub unit_control_reply_values : UnitControlReply → List ℕ
unit_control_reply_values m =
    m.operation ∷ m.reserved_01 ∷ m.msg_length ∷ m.function ∷ m.dev_handle ∷ m.ioc_parameter
    ∷ m.msg_flags ∷ m.vp_id ∷ m.vf_id ∷ m.reserved_0a ∷ m.reserved_0c ∷ m.ioc_status
    ∷ m.ioc_log_info ∷ []

-- the bytes stand for the message
abbrev pub UnitControlReplyStands : UnitControlReply → List ℕ → Type 0
UnitControlReplyStands m bytes = Stands unit_control_reply_layout (unit_control_reply_values m) bytes
