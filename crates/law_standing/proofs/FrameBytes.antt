-- The frames of messages that have no tail are bytes.
use Rattle.std.proofs.Common.{◌≡◌, drop, get_or-drop, ℕ, zero, suc, ◌+◌, ◌/◌, ◌^◌, ◌<◌, List, [], ◌∷◌, ◌++◌, replicate, slice_index, mod-lt, sym, subst, arith}
use Rattle.byteorder.specs.Endian.{little_bytes}
use Rattle.hex.specs.Hex.{IsBytes}
use Rattle.mpi_layout.specs.Rows.{RowShape, Shape, field}
use Rattle.mpi_layout.proofs.Fields.{field_reads}
use Rattle.byteorder.specs.Numbers.{little_from-lt}
use Rattle.mpt_messages.specs.FrameBytes.{layout_bytes, rows_bytes}
use Rattle.config_pages.specs.ConfigReply.{config_reply_layout, config_reply_values}
use Rattle.event_msgs.specs.EventReply.{event_reply_layout, event_reply_values}
use Rattle.ioc_msgs.specs.UnitControlReply.{unit_control_reply_layout, unit_control_reply_values}
use Rattle.scsi_msgs.specs.TaskReply.{task_reply_layout, task_reply_values}
use Rattle.mpt_messages.specs.IocFrames.{config_answered, notified, removal_answered, reply_frame, task_answered}
use Rattle.mpt_messages.specs.declared.ioc_reply.IocReply.{IocReply}
use Rattle.mpt_messages.specs.declared.ioc_reply.IocReply.TheVariants as reply
use Rattle.law_standing.specs.Written.{FieldsFit}

pub none_bytes : IsBytes []
none_bytes k = omega arith

pub cons_bytes : (x : ℕ) (xs : List ℕ) → x < 256 → IsBytes xs → IsBytes (x ∷ xs)
cons_bytes x xs a b zero = a
cons_bytes x xs a b (suc k) = b k

pub append_bytes : (xs ys : List ℕ) → IsBytes xs → IsBytes ys → IsBytes (xs ++ ys)
append_bytes [] ys a b = b
append_bytes (x ∷ xs) ys a b = cons_bytes x (xs ++ ys) (a 0) (append_bytes xs ys (λ k. a (suc k)) b)

pub zero_bytes : (n : ℕ) → IsBytes (replicate n 0)
zero_bytes zero = none_bytes
zero_bytes (suc n) = cons_bytes 0 (replicate n 0) (omega arith) (zero_bytes n)

pub low_byte : (i x : ℕ) → Rattle.std.specs.Int.byte_at i x < 256
low_byte zero x = mod-lt x (let z : 0 < 256 = omega arith in z)
low_byte (suc i) x = mod-lt (x / 256 ^ suc i) (let z : 0 < 256 = omega arith in z)

low_bytes : (i n x : ℕ) → IsBytes (Rattle.std.specs.Int.bytes_low_first i n x)
low_bytes i zero x = none_bytes
low_bytes i (suc n) x = cons_bytes (Rattle.std.specs.Int.byte_at i x) (Rattle.std.specs.Int.bytes_low_first (suc i) n x) (low_byte i x) (low_bytes (suc i) n x)

little : (n x : ℕ) → IsBytes (little_bytes n x)
little n x = low_bytes 0 n x

rows : (rs : List RowShape) (vs : List ℕ) → IsBytes (rows_bytes rs vs)
rows [] vs = none_bytes
rows (r ∷ rs) [] = none_bytes
rows (r ∷ rs) (v ∷ vs) = append_bytes (little_bytes r.width v) (rows_bytes rs vs) (little r.width v) (rows rs vs)

pub layout : (l : Shape) (vs : List ℕ) (n : ℕ) → IsBytes (layout_bytes l vs ++ replicate n 0)
layout l vs n = append_bytes (layout_bytes l vs) (replicate n 0) (rows l.rows vs) (zero_bytes n)

-- ---- fields of bytes

dropped : (xs : List ℕ) (at k : ℕ) → slice_index (drop at xs) k ≡ slice_index xs (at + k)
dropped xs at k = get_or-drop at xs k 0

pub field_lt : (xs : List ℕ) (at n : ℕ) → IsBytes xs → field xs at n < 256 ^ n
field_lt xs at n b = subst (λ z. z < 256 ^ n) (field_reads xs at n) (little_from-lt 0 n (drop at xs) (λ k. subst (λ z. z < 256) (sym (dropped xs at k)) (b (at + k))))

bytes_fit : (frame : List ℕ) → IsBytes frame → FieldsFit frame
bytes_fit frame b = (field_lt frame 0 2 b, field_lt frame 0x0e 2 b, field_lt frame 0x14 4 b)

-- ---- replies, but events and those of SCSI IOs

plain : (f status : ℕ) → FieldsFit (reply_frame (reply.Plain f status))
unfolding field
plain f status =
    let a = low_byte 0 status in let b = low_byte 1 status in
    (omega arith, omega (arith, a, b), omega arith)

-- a reply that a request of another class than the SCSI IOs' gets
pub data IsShort : IocReply → Type 0 where
  APlain : (f status : ℕ) → IsShort (reply.Plain f status)
  ATask : (handle task_type status code count : ℕ) → IsShort (reply.Task handle task_type status code count)
  AConfig : (action ext_type status : ℕ) → IsShort (reply.Config action ext_type status)
  ARemoval : (handle operation status : ℕ) → IsShort (reply.Removed handle operation status)
  ANotice : IsShort reply.Notified

pub reply_fields : (r : IocReply) → IsShort r → FieldsFit (reply_frame r)
reply_fields r (APlain f status) = plain f status
reply_fields r (ATask handle task_type status code count) = bytes_fit (reply_frame (reply.Task handle task_type status code count)) (layout task_reply_layout (task_reply_values (task_answered handle task_type status code count)) 100)
reply_fields r (AConfig action ext_type status) = bytes_fit (reply_frame (reply.Config action ext_type status)) (layout config_reply_layout (config_reply_values (config_answered action ext_type status)) 104)
reply_fields r (ARemoval handle operation status) = bytes_fit (reply_frame (reply.Removed handle operation status)) (layout unit_control_reply_layout (unit_control_reply_values (removal_answered handle operation status)) 108)
reply_fields r ANotice =
    bytes_fit (reply_frame reply.Notified)
    (append_bytes (layout_bytes event_reply_layout (event_reply_values notified) ++ []) (replicate 100 0) (append_bytes (layout_bytes event_reply_layout (event_reply_values notified)) [] (rows (event_reply_layout).rows (event_reply_values notified)) none_bytes) (zero_bytes 100))
