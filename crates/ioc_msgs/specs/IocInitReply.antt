-- An IOC Init reply: its layout, the numbers of its fields, and the bytes that stand for it.
use Rattle.std.specs.Prelude.{ℕ, List, [], ◌∷◌, codes}
use Rattle.mpi_layout.specs.Rows.{Shape, Stands, number}
use Rattle.mpi_layout.specs.declared.row.Rule.TheVariants.{Any, Is, Between}
use Rattle.ioc_msgs.specs.declared.ioc_init_reply.IocInitReply.{IocInitReply}

-- mpi2_ioc.h, MPI2_IOC_INIT_REPLY
unfoldable pub ioc_init_reply_layout : Shape
ioc_init_reply_layout = record {
  length = 20;
  rows =
      number 0x00 1 (codes "WhoInit") Any
      ∷ number 0x01 1 (codes "Reserved") Any
      ∷ number 0x02 1 (codes "MsgLength") (Between 5 32)
      ∷ number 0x03 1 (codes "Function") (Is 0x02)
      ∷ number 0x04 2 (codes "Reserved") Any
      ∷ number 0x06 1 (codes "Reserved") Any
      ∷ number 0x07 1 (codes "MsgFlags") Any
      ∷ number 0x08 1 (codes "VP_ID") Any
      ∷ number 0x09 1 (codes "VF_ID") Any
      ∷ number 0x0a 2 (codes "Reserved") Any
      ∷ number 0x0c 2 (codes "Reserved") Any
      ∷ number 0x0e 2 (codes "IOCStatus") Any
      ∷ number 0x10 4 (codes "IOCLogInfo") Any
      ∷ [];
}

-- the numbers of the fields in the layout's order
unfoldable pub ioc_init_reply_values : IocInitReply → List ℕ
ioc_init_reply_values m =
    m.who_init ∷ m.reserved_01 ∷ m.msg_length ∷ m.function ∷ m.reserved_04 ∷ m.reserved_06
    ∷ m.msg_flags ∷ m.vp_id ∷ m.vf_id ∷ m.reserved_0a ∷ m.reserved_0c ∷ m.ioc_status
    ∷ m.ioc_log_info ∷ []

-- the bytes stand for the message
abbrev pub IocInitReplyStands : IocInitReply → List ℕ → Type 0
IocInitReplyStands m bytes = Stands ioc_init_reply_layout (ioc_init_reply_values m) bytes
