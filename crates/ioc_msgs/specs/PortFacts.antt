-- A Port Facts request: its layout, the numbers of its fields, and the bytes that stand for it.
use Rattle.std.specs.Prelude.{ℕ, List, [], ◌∷◌, codes}
use Rattle.mpi_layout.specs.Rows.{Shape, Stands, number}
use Rattle.mpi_layout.specs.declared.row.Rule.TheVariants.{Any, Zero, Is}
use Rattle.ioc_msgs.specs.declared.port_facts.PortFacts.{PortFacts}

-- mpi2_ioc.h, MPI2_PORT_FACTS_REQUEST
unfoldable pub port_facts_layout : Shape
port_facts_layout = record {
  length = 12;
  rows =
      number 0x00 2 (codes "Reserved") Zero
      ∷ number 0x02 1 (codes "ChainOffset") Zero
      ∷ number 0x03 1 (codes "Function") (Is 0x05)
      ∷ number 0x04 2 (codes "Reserved") Zero
      ∷ number 0x06 1 (codes "PortNumber") Any
      ∷ number 0x07 1 (codes "MsgFlags") Zero
      ∷ number 0x08 1 (codes "VP_ID") Zero
      ∷ number 0x09 1 (codes "VF_ID") Zero
      ∷ number 0x0a 2 (codes "Reserved") Zero
      ∷ [];
}

-- the numbers of the fields in the layout's order
unfoldable pub port_facts_values : PortFacts → List ℕ
port_facts_values m =
    m.reserved_00 ∷ m.chain_offset ∷ m.function ∷ m.reserved_04 ∷ m.port_number ∷ m.msg_flags
    ∷ m.vp_id ∷ m.vf_id ∷ m.reserved_0a ∷ []

-- the bytes stand for the message
abbrev pub PortFactsStands : PortFacts → List ℕ → Type 0
PortFactsStands m bytes = Stands port_facts_layout (port_facts_values m) bytes
