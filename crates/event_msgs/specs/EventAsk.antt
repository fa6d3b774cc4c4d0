-- An event notification request: its layout, the numbers of its fields, and the bytes that stand for it.
use Rattle.std.specs.Prelude.{ℕ, List, [], ◌∷◌, codes}
use Rattle.mpi_layout.specs.Rows.{Shape, Stands, number}
use Rattle.mpi_layout.specs.declared.row.Rule.TheVariants.{Any, Zero, Is}
use Rattle.event_msgs.specs.declared.event_ask.EventAsk.{EventAsk}

-- mpi2_ioc.h, MPI2_EVENT_NOTIFICATION_REQUEST
unfoldable pub event_ask_layout : Shape
event_ask_layout = record {
  length = 44;
  rows =
      number 0x00 2 (codes "Reserved") Zero
      ∷ number 0x02 1 (codes "ChainOffset") Zero
      ∷ number 0x03 1 (codes "Function") (Is 0x07)
      ∷ number 0x04 2 (codes "Reserved") Zero
      ∷ number 0x06 1 (codes "Reserved") Zero
      ∷ number 0x07 1 (codes "MsgFlags") Zero
      ∷ number 0x08 1 (codes "VP_ID") Zero
      ∷ number 0x09 1 (codes "VF_ID") Zero
      ∷ number 0x0a 2 (codes "Reserved") Zero
      ∷ number 0x0c 8 (codes "Reserved") Zero
      ∷ number 0x14 4 (codes "EventMasks0") Any
      ∷ number 0x18 4 (codes "EventMasks1") Any
      ∷ number 0x1c 4 (codes "EventMasks2") Any
      ∷ number 0x20 4 (codes "EventMasks3") Any
      ∷ number 0x24 2 (codes "SASBroadcastPrimitiveMasks") Any
      ∷ number 0x26 2 (codes "SASNotifyPrimitiveMasks") Any
      ∷ number 0x28 4 (codes "Reserved") Zero
      ∷ [];
}

-- the numbers of the fields in the layout's order
unfoldable pub event_ask_values : EventAsk → List ℕ
event_ask_values m =
    m.reserved_00 ∷ m.chain_offset ∷ m.function ∷ m.reserved_04 ∷ m.reserved_06 ∷ m.msg_flags
    ∷ m.vp_id ∷ m.vf_id ∷ m.reserved_0a ∷ m.reserved_0c ∷ m.event_masks0 ∷ m.event_masks1
    ∷ m.event_masks2 ∷ m.event_masks3 ∷ m.sas_broadcast_primitive_masks
    ∷ m.sas_notify_primitive_masks ∷ m.reserved_28 ∷ []

-- the bytes stand for the message
abbrev pub EventAskStands : EventAsk → List ℕ → Type 0
EventAskStands m bytes = Stands event_ask_layout (event_ask_values m) bytes
