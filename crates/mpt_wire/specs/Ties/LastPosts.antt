-- A reply answers the last post of its identifier: it is the message of an answer to that post's message.
use Rattle.std.specs.Prelude.{◌≡◌, ◌⊎◌, ℕ, ◌==◌, Bool, true, false, if◌then◌else◌, List, ◌∷◌, ◌++◌, Option, Some, None}
use Rattle.std.specs.Bool.{MatchBool}
use Rattle.mpt_messages.specs.FrameBytes.{message_frame}
use Rattle.mpt_messages.specs.Function.{byte_of}
use Rattle.mpt_messages.specs.HostFrames.{host_message}
use Rattle.mpt_messages.specs.IocFrames.{reply_frame}
use Rattle.mpt_messages.specs.declared.function.Function.TheVariants as function
use Rattle.mpt_messages.specs.declared.host_ask.HostAsk.{HostAsk}
use Rattle.mpt_messages.specs.declared.host_ask.HostAsk.TheVariants as ask
use Rattle.mpt_messages.specs.declared.ioc_reply.IocReply.{IocReply}
use Rattle.mpt_messages.specs.declared.ioc_reply.IocReply.TheVariants as reply
use Rattle.mpt_trace.specs.declared.lane.LaneName.{LaneName}
use Rattle.mpt_trace.specs.declared.item.Down.TheVariants as down
use Rattle.mpt_trace.specs.declared.item.Up.TheVariants as up
use Rattle.mpt_trace.specs.declared.item.Item.TheVariants as item
use Rattle.mpt_trace.specs.declared.entry.Entry.{Entry}
use Rattle.mpt_trace.specs.declared.entry.Entry.TheVariants as entry
use Rattle.mpt_wire.specs.Messages.Fields.{remove_device, smid_in}
use Rattle.mpt_wire.specs.Walks.Lasting.{Lasts}
use Rattle.mpt_wire.specs.Messages.Naming.{data_underrun, device_not_there, success, task_terminated}
use Rattle.mpt_wire.specs.Walks.Passes.{Passes}

-- IOCStatus: mpi2.h, MPI2_IOCSTATUS_INVALID_FIELD, and mpi2_cnfg.h's MPI2_IOCSTATUS_CONFIG_INVALID_PAGE
abbrev pub invalid_field : ℕ
invalid_field = 0x0007

abbrev pub config_invalid_page : ℕ
config_invalid_page = 0x0022

-- Action and ExtPageType: mpi2_cnfg.h, MPI2_CONFIG_ACTION_PAGE_READ_CURRENT, MPI2_CONFIG_EXTPAGETYPE_SAS_DEVICE
abbrev pub page_read_current : ℕ
page_read_current = 0x01

abbrev pub sas_device_page : ℕ
sas_device_page = 0x12

-- ---- a request's answer

-- a command that a disk performed, whose status is one of these; another has moved nothing, and its disk says nothing
abbrev pub ScsiStatusFits : ℕ → ℕ → ℕ → ℕ → Type 0
ScsiStatusFits status scsi_status moved sense =
    ((status ≡ success) ⊎ (status ≡ data_underrun))
    ⊎ (((status ≡ device_not_there) ⊎ (status ≡ task_terminated)) × (scsi_status ≡ 0) × (moved ≡ 0) × (sense ≡ 0))

-- the reply answers the request with identifier s: it is of its function, names what the request names, and its
-- status is one that the controller gives to such a request
abbrev pub AnswersAsk : ℕ → HostAsk → IocReply → Type 0
AnswersAsk s (ask.ScsiIo smid handle lun cdb cdb_len len write) (reply.Scsi h tag scsi_status status moved sense) =
    (h ≡ handle) × (tag ≡ s) × ScsiStatusFits status scsi_status moved sense
AnswersAsk s (ask.Task handle task_type task_mid) (reply.Task h kind status code count) = (h ≡ handle) × (kind ≡ task_type) × (status ≡ success) × (code ≡ 0)
AnswersAsk s (ask.PageRead smid handle) (reply.Config action ext_type status) =
    (action ≡ page_read_current) × (ext_type ≡ sas_device_page) × ((status ≡ success) ⊎ (status ≡ config_invalid_page))
AnswersAsk s (ask.Remove handle) (reply.Removed h operation status) = (h ≡ handle) × (operation ≡ remove_device) × (status ≡ success)
AnswersAsk s (ask.Ack event context) (reply.Plain fn status) = (fn ≡ byte_of function.EventAck) × ((status ≡ success) ⊎ (status ≡ invalid_field))
AnswersAsk s ask.Notification reply.Notified = Unit {0}
AnswersAsk s ask.PortEnable (reply.Plain fn status) = (fn ≡ byte_of function.PortEnable) × (status ≡ success)
AnswersAsk s _ _ = ⊥

-- the frame of a reply answers the frame of a request
pub record AnswersFrame (s : ℕ) (request frame : List ℕ) : Type 0 where
  pub ask : HostAsk
  pub reply : IocReply
  pub asked : request ≡ message_frame (host_message ask)
  pub replied : frame ≡ reply_frame reply
  pub answers : AnswersAsk s ask reply

-- a success without a frame answers a SCSI IO
pub record AsksCommand (request : List ℕ) : Type 0 where
  pub smid : ℕ
  pub handle : ℕ
  pub lun : ℕ
  pub cdb : List ℕ
  pub cdb_len : ℕ
  pub len : ℕ
  pub write : Bool
  pub asked : request ≡ message_frame (host_message (ask.ScsiIo smid handle lun cdb cdb_len len write))

abbrev pub AnswersPost : ℕ → List ℕ → Option (List ℕ) → Type 0
AnswersPost s request None = AsksCommand request
AnswersPost s request (Some frame) = AnswersFrame s request frame

-- ---- over the entries before

-- the frame of the post under s that the entry puts
abbrev pub frame_posted : ℕ → Entry → Option (List ℕ)
frame_posted s (entry.Put lane (item.Down (down.Post descriptor frame payload))) = if smid_in descriptor == s then Some frame else None
frame_posted s _ = None

abbrev pub is_posted : ℕ → Entry → Bool
is_posted s (entry.Put lane (item.Down (down.Post descriptor frame payload))) = smid_in descriptor == s
is_posted s _ = false

-- the frame of the last post under s
abbrev pub IsLastPost : List Entry → ℕ → List ℕ → Type 0
IsLastPost before s request = Lasts (λ e. frame_posted s e ≡ Some request) (is_posted s) before

-- each reply that names s answers the last post under s
abbrev pub RepliesAnswerPosts : ℕ → List Entry → Type 0
RepliesAnswerPosts s t =
    (before after : List Entry) (lane : LaneName) (descriptor : ℕ) (frame : Option (List ℕ)) (page sense : List ℕ)
    → t ≡ before ++ entry.Put lane (item.Up (up.Reply descriptor frame page sense)) ∷ after → (smid_in descriptor == s) ≡ true
    → (request : List ℕ) × IsLastPost before s request × AnswersPost s request frame

-- ---- as a rule that goes over the entries with that frame

abbrev pub last_post_by : Option (List ℕ) → Option (List ℕ) → Option (List ℕ)
last_post_by g None = g
last_post_by g (Some frame) = Some frame

abbrev pub last_post_next : ℕ → Option (List ℕ) → Entry → Option (List ℕ)
last_post_next s g e = last_post_by g (frame_posted s e)

abbrev pub AnswersLast : ℕ → Option (List ℕ) → Option (List ℕ) → Type 0
AnswersLast s None frame = ⊥
AnswersLast s (Some request) frame = AnswersPost s request frame

abbrev pub LastPostAsks : ℕ → Option (List ℕ) → Entry → Type 0
LastPostAsks s g (entry.Put lane (item.Up (up.Reply descriptor frame page sense))) = MatchBool (smid_in descriptor == s) (AnswersLast s g frame) (Unit {0})
LastPostAsks s g _ = Unit {0}

abbrev pub RepliesAnswerPass : ℕ → List Entry → Type 0
RepliesAnswerPass s t = Passes (last_post_next s) (LastPostAsks s) None t
