-- A configuration request: its layout, the numbers of its fields, and the bytes that stand for it.
use Rattle.std.specs.Prelude.{ℕ, List, [], ◌∷◌, codes}
use Rattle.mpi_layout.specs.Rows.{Shape, Stands, number}
use Rattle.mpi_layout.specs.declared.row.Rule.TheVariants.{Any, Zero, Is, OneOf}
use Rattle.config_pages.specs.declared.config_ask.ConfigAsk.{ConfigAsk}

-- mpi2_cnfg.h, MPI2_CONFIG_REQUEST
unfoldable pub config_ask_layout : Shape
config_ask_layout = record {
  length = 40;
  rows =
      number 0x00 1 (codes "Action") Any
      ∷ number 0x01 1 (codes "SGLFlags") Any
      ∷ number 0x02 1 (codes "ChainOffset") Zero
      ∷ number 0x03 1 (codes "Function") (Is 0x04)
      ∷ number 0x04 2 (codes "ExtPageLength") Any
      ∷ number 0x06 1 (codes "ExtPageType") Any
      ∷ number 0x07 1 (codes "MsgFlags") Zero
      ∷ number 0x08 1 (codes "VP_ID") Zero
      ∷ number 0x09 1 (codes "VF_ID") Zero
      ∷ number 0x0a 2 (codes "Reserved") Zero
      ∷ number 0x0c 1 (codes "Reserved") Zero
      ∷ number 0x0d 1 (codes "ProxyVF_ID") Zero
      ∷ number 0x0e 2 (codes "Reserved") Zero
      ∷ number 0x10 4 (codes "Reserved") Zero
      ∷ number 0x14 1 (codes "PageVersion") Any
      ∷ number 0x15 1 (codes "PageLength") Any
      ∷ number 0x16 1 (codes "PageNumber") Any
      ∷ number 0x17 1 (codes "PageType") Any
      ∷ number 0x18 4 (codes "PageAddress") Any
      ∷ number 0x1c 3 (codes "SgeLength") Any
      ∷ number 0x1f 1 (codes "SgeFlags") (OneOf (0xd3 ∷ 0xd7 ∷ 0 ∷ 0 ∷ []) 2)
      ∷ number 0x20 8 (codes "SgeAddress") Any
      ∷ [];
}

-- the numbers of the fields in the layout's order
unfoldable pub config_ask_values : ConfigAsk → List ℕ
config_ask_values m =
    m.action ∷ m.sgl_flags ∷ m.chain_offset ∷ m.function ∷ m.ext_page_length ∷ m.ext_page_type
    ∷ m.msg_flags ∷ m.vp_id ∷ m.vf_id ∷ m.reserved_0a ∷ m.reserved_0c ∷ m.proxy_vf_id
    ∷ m.reserved_0e ∷ m.reserved_10 ∷ m.page_version ∷ m.page_length ∷ m.page_number ∷ m.page_type
    ∷ m.page_address ∷ m.sge_length ∷ m.sge_flags ∷ m.sge_address ∷ []

-- the bytes stand for the message
abbrev pub ConfigAskStands : ConfigAsk → List ℕ → Type 0
ConfigAskStands m bytes = Stands config_ask_layout (config_ask_values m) bytes
