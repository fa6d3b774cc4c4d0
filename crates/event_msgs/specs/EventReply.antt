-- An event: the layout of its fixed part, the numbers of its fields, its length and data, the bytes that stand for it, and which bytes are refused.
use Rattle.std.specs.Prelude.{ℕ, ◌+◌, ◌*◌, ◌≤◌, IsTrue, Bool, ◌&&◌, ◌==◌, if◌then◌else◌, Option, None, List, [], ◌∷◌, length, take, drop, codes}
use Rattle.std.specs.Option.{option_or}
use Rattle.mpi_layout.specs.Rows.{Shape, Stands, field, first_fault, number, values_fit}
use Rattle.mpi_layout.specs.declared.row.Rule.TheVariants.{Any, Is, Between}
use Rattle.mpi_layout.specs.Tail.{cut_short}
use Rattle.mpi_names.specs.declared.event.TheConstants.{MPI2_EVENT_SAS_TOPOLOGY_CHANGE_LIST}
use Rattle.mpi_layout.specs.declared.fault.Fault.{Fault}
use Rattle.event_msgs.specs.declared.event_reply.EventReply.{EventReply}
use Rattle.event_msgs.specs.EventData.{DataStands, data_fit, kind_fits}
use Rattle.event_msgs.specs.Topology.{topology_refusal}

-- mpi2_ioc.h, MPI2_EVENT_NOTIFICATION_REPLY
unfoldable pub event_reply_layout : Shape
event_reply_layout = record {
  length = 28;
  rows =
      number 0x00 2 (codes "EventDataLength") (Between 0 25)
      ∷ number 0x02 1 (codes "MsgLength") Any
      ∷ number 0x03 1 (codes "Function") (Is 0x07)
      ∷ number 0x04 2 (codes "Reserved") Any
      ∷ number 0x06 1 (codes "AckRequired") Any
      ∷ number 0x07 1 (codes "MsgFlags") Any
      ∷ number 0x08 1 (codes "VP_ID") Any
      ∷ number 0x09 1 (codes "VF_ID") Any
      ∷ number 0x0a 2 (codes "Reserved") Any
      ∷ number 0x0c 2 (codes "Reserved") Any
      ∷ number 0x0e 2 (codes "IOCStatus") Any
      ∷ number 0x10 4 (codes "IOCLogInfo") Any
      ∷ number 0x14 2 (codes "Event") Any
      ∷ number 0x16 2 (codes "Reserved") Any
      ∷ number 0x18 4 (codes "EventContext") Any
      ∷ [];
}

-- the numbers of the fields in the layout's order
unfoldable pub event_reply_values : EventReply → List ℕ
event_reply_values m =
    m.event_data_length ∷ m.msg_length ∷ m.function ∷ m.reserved_04 ∷ m.ack_required ∷ m.msg_flags
    ∷ m.vp_id ∷ m.vf_id ∷ m.reserved_0a ∷ m.reserved_0c ∷ m.ioc_status ∷ m.ioc_log_info ∷ m.event
    ∷ m.reserved_16 ∷ m.event_context ∷ []

-- the event's length in bytes
abbrev pub event_reply_length : EventReply → ℕ
event_reply_length m = 28 + 4 * m.event_data_length

-- the bytes stand for the event: they are enough, the fixed part's rows have its numbers, and the bytes from 28 up to its length stand for its data, which are of its kind
pub record EventReplyStands (m : EventReply) (bytes : List ℕ) : Type 0 where
  pub fixed : Stands event_reply_layout (event_reply_values m) bytes
  pub whole : event_reply_length m ≤ length bytes
  pub kind : IsTrue (kind_fits m.event m.event_data)
  pub event_data : DataStands m.event_data (take (4 * m.event_data_length) (drop 28 bytes))

-- the refusal of the bytes: the first fault of the fixed part, or else too few bytes for the EventDataLength, or else that of a topology change list
abbrev pub event_reply_refusal : List ℕ → Option Fault
event_reply_refusal bytes =
    let words = field bytes 0x00 2 in
    option_or (first_fault event_reply_layout bytes)
    (option_or (cut_short (28 + 4 * words) bytes)
    (if field bytes 0x14 2 == MPI2_EVENT_SAS_TOPOLOGY_CHANGE_LIST
    then topology_refusal words (field bytes 0x24 1) else None))

-- whether some bytes stand for the event
abbrev pub event_reply_fit : EventReply → Bool
event_reply_fit m =
    values_fit event_reply_layout.rows (event_reply_values m) && kind_fits m.event m.event_data && data_fit (4 * m.event_data_length) m.event_data
