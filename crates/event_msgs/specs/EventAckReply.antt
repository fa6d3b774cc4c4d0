-- A reply to an event acknowledgement: its layout, the numbers of its fields, and the bytes that stand for it.
use Rattle.std.specs.Prelude.{ℕ, List, [], ◌∷◌, codes}
use Rattle.mpi_layout.specs.Rows.{Shape, Stands, number}
use Rattle.mpi_layout.specs.declared.row.Rule.TheVariants.{Any, Is, Between}
use Rattle.event_msgs.specs.declared.event_ack_reply.EventAckReply.{EventAckReply}

-- mpi2_ioc.h, MPI2_EVENT_ACK_REPLY
unfoldable pub event_ack_reply_layout : Shape
event_ack_reply_layout = record {
  length = 20;
  rows =
      number 0x00 2 (codes "Reserved") Any
      ∷ number 0x02 1 (codes "MsgLength") (Between 5 32)
      ∷ number 0x03 1 (codes "Function") (Is 0x08)
      ∷ number 0x04 2 (codes "Reserved") Any
      ∷ number 0x06 1 (codes "Reserved") Any
      ∷ number 0x07 1 (codes "MsgFlags") Any
      ∷ number 0x08 1 (codes "VP_ID") Any
      ∷ number 0x09 1 (codes "VF_ID") Any
      ∷ number 0x0a 2 (codes "Reserved") Any
      ∷ number 0x0c 2 (codes "Reserved") Any
      ∷ number 0x0e 2 (codes "IOCStatus") Any
      ∷ number 0x10 4 (codes "IOCLogInfo") Any
      ∷ [];
}

-- the numbers of the fields in the layout's order
unfoldable pub event_ack_reply_values : EventAckReply → List ℕ
event_ack_reply_values m =
    m.reserved_00 ∷ m.msg_length ∷ m.function ∷ m.reserved_04 ∷ m.reserved_06 ∷ m.msg_flags
    ∷ m.vp_id ∷ m.vf_id ∷ m.reserved_0a ∷ m.reserved_0c ∷ m.ioc_status ∷ m.ioc_log_info ∷ []

-- the bytes stand for the message
abbrev pub EventAckReplyStands : EventAckReply → List ℕ → Type 0
EventAckReplyStands m bytes = Stands event_ack_reply_layout (event_ack_reply_values m) bytes
