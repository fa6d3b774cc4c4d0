-- A configuration reply: its layout, the numbers of its fields, and the bytes that stand for it.
use Rattle.std.specs.Prelude.{ℕ, List, [], ◌∷◌, codes}
use Rattle.mpi_layout.specs.Rows.{Shape, Stands, number}
use Rattle.mpi_layout.specs.declared.row.Rule.TheVariants.{Any, Is, Between}
use Rattle.config_pages.specs.declared.config_reply.ConfigReply.{ConfigReply}

-- mpi2_cnfg.h, MPI2_CONFIG_REPLY
unfoldable pub config_reply_layout : Shape
config_reply_layout = record {
  length = 24;
  rows =
      number 0x00 1 (codes "Action") Any
      ∷ number 0x01 1 (codes "SGLFlags") Any
      ∷ number 0x02 1 (codes "MsgLength") (Between 6 32)
      ∷ number 0x03 1 (codes "Function") (Is 0x04)
      ∷ number 0x04 2 (codes "ExtPageLength") Any
      ∷ number 0x06 1 (codes "ExtPageType") Any
      ∷ number 0x07 1 (codes "MsgFlags") Any
      ∷ number 0x08 1 (codes "VP_ID") Any
      ∷ number 0x09 1 (codes "VF_ID") Any
      ∷ number 0x0a 2 (codes "Reserved") Any
      ∷ number 0x0c 2 (codes "Reserved") Any
      ∷ number 0x0e 2 (codes "IOCStatus") Any
      ∷ number 0x10 4 (codes "IOCLogInfo") Any
      ∷ number 0x14 1 (codes "PageVersion") Any
      ∷ number 0x15 1 (codes "PageLength") Any
      ∷ number 0x16 1 (codes "PageNumber") Any
      ∷ number 0x17 1 (codes "PageType") Any
      ∷ [];
}

-- the numbers of the fields in the layout's order
unfoldable pub config_reply_values : ConfigReply → List ℕ
config_reply_values m =
    m.action ∷ m.sgl_flags ∷ m.msg_length ∷ m.function ∷ m.ext_page_length ∷ m.ext_page_type
    ∷ m.msg_flags ∷ m.vp_id ∷ m.vf_id ∷ m.reserved_0a ∷ m.reserved_0c ∷ m.ioc_status
    ∷ m.ioc_log_info ∷ m.page_version ∷ m.page_length ∷ m.page_number ∷ m.page_type ∷ []

-- the bytes stand for the message
abbrev pub ConfigReplyStands : ConfigReply → List ℕ → Type 0
ConfigReplyStands m bytes = Stands config_reply_layout (config_reply_values m) bytes
