-- A Port Facts reply: its layout, the numbers of its fields, and the bytes that stand for it.
use Rattle.std.specs.Prelude.{ℕ, List, [], ◌∷◌, codes}
use Rattle.mpi_layout.specs.Rows.{Shape, Stands, number}
use Rattle.mpi_layout.specs.declared.row.Rule.TheVariants.{Any, Is, Between}
use Rattle.ioc_msgs.specs.declared.port_facts_reply.PortFactsReply.{PortFactsReply}

-- mpi2_ioc.h, MPI2_PORT_FACTS_REPLY
unfoldable pub port_facts_reply_layout : Shape
port_facts_reply_layout = record {
  length = 28;
  rows =
      number 0x00 2 (codes "Reserved") Any
      ∷ number 0x02 1 (codes "MsgLength") (Between 7 32)
      ∷ number 0x03 1 (codes "Function") (Is 0x05)
      ∷ number 0x04 2 (codes "Reserved") Any
      ∷ number 0x06 1 (codes "PortNumber") Any
      ∷ number 0x07 1 (codes "MsgFlags") Any
      ∷ number 0x08 1 (codes "VP_ID") Any
      ∷ number 0x09 1 (codes "VF_ID") Any
      ∷ number 0x0a 2 (codes "Reserved") Any
      ∷ number 0x0c 2 (codes "Reserved") Any
      ∷ number 0x0e 2 (codes "IOCStatus") Any
      ∷ number 0x10 4 (codes "IOCLogInfo") Any
      ∷ number 0x14 1 (codes "Reserved") Any
      ∷ number 0x15 1 (codes "PortType") Any
      ∷ number 0x16 2 (codes "Reserved") Any
      ∷ number 0x18 2 (codes "MaxPostedCmdBuffers") Any
      ∷ number 0x1a 2 (codes "Reserved") Any
      ∷ [];
}

-- the numbers of the fields in the layout's order
unfoldable pub port_facts_reply_values : PortFactsReply → List ℕ
port_facts_reply_values m =
    m.reserved_00 ∷ m.msg_length ∷ m.function ∷ m.reserved_04 ∷ m.port_number ∷ m.msg_flags
    ∷ m.vp_id ∷ m.vf_id ∷ m.reserved_0a ∷ m.reserved_0c ∷ m.ioc_status ∷ m.ioc_log_info
    ∷ m.reserved_14 ∷ m.port_type ∷ m.reserved_16 ∷ m.max_posted_cmd_buffers ∷ m.reserved_1a ∷ []

-- the bytes stand for the message
abbrev pub PortFactsReplyStands : PortFactsReply → List ℕ → Type 0
PortFactsReplyStands m bytes = Stands port_facts_reply_layout (port_facts_reply_values m) bytes
