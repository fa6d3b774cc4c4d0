-- A SAS IO unit control request: its layout, the numbers of its fields, and the bytes that stand for it.
use Rattle.std.specs.Prelude.{ℕ, List, [], ◌∷◌, codes}
use Rattle.mpi_layout.specs.Rows.{Shape, Stands, number}
use Rattle.mpi_layout.specs.declared.row.Rule.TheVariants.{Any, Zero, Is}
use Rattle.ioc_msgs.specs.declared.unit_control.UnitControl.{UnitControl}

-- mpi2_sas.h, MPI2_SAS_IOUNIT_CONTROL_REQUEST
unfoldable pub unit_control_layout : Shape
unit_control_layout = record {
  length = 44;
  rows =
      number 0x00 1 (codes "Operation") Any
      ∷ number 0x01 1 (codes "Reserved") Zero
      ∷ number 0x02 1 (codes "ChainOffset") Zero
      ∷ number 0x03 1 (codes "Function") (Is 0x1b)
      ∷ number 0x04 2 (codes "DevHandle") Any
      ∷ number 0x06 1 (codes "IOCParameter") Any
      ∷ number 0x07 1 (codes "MsgFlags") Zero
      ∷ number 0x08 1 (codes "VP_ID") Zero
      ∷ number 0x09 1 (codes "VF_ID") Zero
      ∷ number 0x0a 2 (codes "Reserved") Zero
      ∷ number 0x0c 2 (codes "Reserved") Zero
      ∷ number 0x0e 1 (codes "PhyNum") Any
      ∷ number 0x0f 1 (codes "PrimFlags") Any
      ∷ number 0x10 4 (codes "Primitive") Any
      ∷ number 0x14 1 (codes "LookupMethod") Any
      ∷ number 0x15 1 (codes "Reserved") Zero
      ∷ number 0x16 2 (codes "SlotNumber") Any
      ∷ number 0x18 8 (codes "LookupAddress") Any
      ∷ number 0x20 4 (codes "IOCParameterValue") Any
      ∷ number 0x24 8 (codes "Reserved") Zero
      ∷ [];
}

-- the numbers of the fields in the layout's order
unfoldable pub unit_control_values : UnitControl → List ℕ
unit_control_values m =
    m.operation ∷ m.reserved_01 ∷ m.chain_offset ∷ m.function ∷ m.dev_handle ∷ m.ioc_parameter
    ∷ m.msg_flags ∷ m.vp_id ∷ m.vf_id ∷ m.reserved_0a ∷ m.reserved_0c ∷ m.phy_num ∷ m.prim_flags
    ∷ m.primitive ∷ m.lookup_method ∷ m.reserved_15 ∷ m.slot_number ∷ m.lookup_address
    ∷ m.ioc_parameter_value ∷ m.reserved_24 ∷ []

-- the bytes stand for the message
abbrev pub UnitControlStands : UnitControl → List ℕ → Type 0
UnitControlStands m bytes = Stands unit_control_layout (unit_control_values m) bytes
