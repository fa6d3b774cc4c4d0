-- An event acknowledgement: its layout, the numbers of its fields, and the bytes that stand for it.
use Rattle.std.specs.Prelude.{ℕ, List, [], ◌∷◌, codes}
use Rattle.mpi_layout.specs.Rows.{Shape, Stands, number}
use Rattle.mpi_layout.specs.declared.row.Rule.TheVariants.{Any, Zero, Is}
use Rattle.event_msgs.specs.declared.event_ack.EventAck.{EventAck}

-- mpi2_ioc.h, MPI2_EVENT_ACK_REQUEST
unfoldable pub event_ack_layout : Shape
event_ack_layout = record {
  length = 20;
  rows =
      number 0x00 2 (codes "Reserved") Zero
      ∷ number 0x02 1 (codes "ChainOffset") Zero
      ∷ number 0x03 1 (codes "Function") (Is 0x08)
      ∷ number 0x04 2 (codes "Reserved") Zero
      ∷ number 0x06 1 (codes "Reserved") Zero
      ∷ number 0x07 1 (codes "MsgFlags") Zero
      ∷ number 0x08 1 (codes "VP_ID") Zero
      ∷ number 0x09 1 (codes "VF_ID") Zero
      ∷ number 0x0a 2 (codes "Reserved") Zero
      ∷ number 0x0c 2 (codes "Event") Any
      ∷ number 0x0e 2 (codes "Reserved") Zero
      ∷ number 0x10 4 (codes "EventContext") Any
      ∷ [];
}

-- the numbers of the fields in the layout's order
unfoldable pub event_ack_values : EventAck → List ℕ
event_ack_values m =
    m.reserved_00 ∷ m.chain_offset ∷ m.function ∷ m.reserved_04 ∷ m.reserved_06 ∷ m.msg_flags
    ∷ m.vp_id ∷ m.vf_id ∷ m.reserved_0a ∷ m.event ∷ m.reserved_0e ∷ m.event_context ∷ []

-- the bytes stand for the message
abbrev pub EventAckStands : EventAck → List ℕ → Type 0
EventAckStands m bytes = Stands event_ack_layout (event_ack_values m) bytes
