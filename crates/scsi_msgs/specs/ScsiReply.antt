-- A SCSI IO reply: the layout of its fixed part, the numbers of its fields, its length and tail, the bytes that stand for it, and which bytes are refused.
use Rattle.std.specs.Prelude.{◌≡◌, ℕ, ◌-◌, ◌*◌, ◌≤◌, Bool, ◌&&◌, ◌==◌, Option, List, [], ◌∷◌, length, take, drop, codes}
use Rattle.std.specs.List.{list_all}
use Rattle.std.specs.Option.{option_or}
use Rattle.mpi_layout.specs.Rows.{Shape, Stands, field, first_fault, number, values_fit}
use Rattle.mpi_layout.specs.Tail.{cut_short, padded}
use Rattle.mpi_layout.specs.declared.fault.Fault.{Fault}
use Rattle.mpi_layout.specs.declared.row.Rule.TheVariants.{Any, Is, Between}
use Rattle.scsi_msgs.specs.declared.scsi_reply.ScsiReply.{ScsiReply}

-- mpi2_init.h, MPI2_SCSI_IO_REPLY
unfoldable pub scsi_reply_layout : Shape
scsi_reply_layout = record {
  length = 40;
  rows =
      number 0x00 2 (codes "DevHandle") Any
      ∷ number 0x02 1 (codes "MsgLength") (Between 10 32)
      ∷ number 0x03 1 (codes "Function") (Is 0x00)
      ∷ number 0x04 2 (codes "Reserved") Any
      ∷ number 0x06 1 (codes "Reserved") Any
      ∷ number 0x07 1 (codes "MsgFlags") Any
      ∷ number 0x08 1 (codes "VP_ID") Any
      ∷ number 0x09 1 (codes "VF_ID") Any
      ∷ number 0x0a 2 (codes "Reserved") Any
      ∷ number 0x0c 1 (codes "SCSIStatus") Any
      ∷ number 0x0d 1 (codes "SCSIState") Any
      ∷ number 0x0e 2 (codes "IOCStatus") Any
      ∷ number 0x10 4 (codes "IOCLogInfo") Any
      ∷ number 0x14 4 (codes "TransferCount") Any
      ∷ number 0x18 4 (codes "SenseCount") Any
      ∷ number 0x1c 4 (codes "ResponseInfo") Any
      ∷ number 0x20 2 (codes "TaskTag") Any
      ∷ number 0x22 2 (codes "SCSIStatusQualifier") Any
      ∷ number 0x24 4 (codes "BidirectionalTransferCount") Any
      ∷ [];
}

-- the numbers of the fields in the layout's order
unfoldable pub scsi_reply_values : ScsiReply → List ℕ
scsi_reply_values m =
    m.dev_handle ∷ m.msg_length ∷ m.function ∷ m.reserved_04 ∷ m.reserved_06 ∷ m.msg_flags ∷ m.vp_id
    ∷ m.vf_id ∷ m.reserved_0a ∷ m.scsi_status ∷ m.scsi_state ∷ m.ioc_status ∷ m.ioc_log_info
    ∷ m.transfer_count ∷ m.sense_count ∷ m.response_info ∷ m.task_tag ∷ m.scsi_status_qualifier
    ∷ m.bidirectional_transfer_count ∷ []

-- the reply's length in bytes
abbrev pub scsi_reply_length : ScsiReply → ℕ
scsi_reply_length m = 4 * m.msg_length

-- the bytes stand for the reply: they are enough, the fixed part's rows have its numbers, and the bytes from 40 up to its length are its tail, which is 0 past them
pub record ScsiReplyStands (m : ScsiReply) (bytes : List ℕ) : Type 0 where
  pub fixed : Stands scsi_reply_layout (scsi_reply_values m) bytes
  pub whole : scsi_reply_length m ≤ length bytes
  pub tail : m.tail ≡ padded 88 (take (scsi_reply_length m - 40) (drop 40 bytes))

-- the refusal of the bytes: the first fault of the fixed part, or else too few bytes for the MsgLength
abbrev pub scsi_reply_refusal : List ℕ → Option Fault
scsi_reply_refusal bytes = option_or (first_fault scsi_reply_layout bytes) (cut_short (4 * field bytes 0x02 1) bytes)

-- whether some bytes stand for the reply
abbrev pub scsi_reply_fit : ScsiReply → Bool
scsi_reply_fit m = values_fit scsi_reply_layout.rows (scsi_reply_values m) && list_all (λ byte. byte == 0) (drop (scsi_reply_length m - 40) m.tail)
