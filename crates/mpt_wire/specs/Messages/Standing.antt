-- Each post is a request as the host writes it, and each reply is one as the controller writes it.
use Rattle.std.specs.Prelude.{◌≡◌, ◌⊎◌, ℕ, ◌<◌, Option, Some, None, IsSome, List, [], ◌∷◌, ◌++◌}
use Rattle.mpi_rings.specs.declared.request_descriptor.PostKind.TheVariants as post
use Rattle.config_pages.specs.DevicePage0.{device_page0_layout, device_page0_values}
use Rattle.mpt_messages.specs.DevicePage.{disk_page}
use Rattle.mpt_messages.specs.FrameBytes.{layout_bytes, message_frame}
use Rattle.mpt_messages.specs.HostFrames.{IsAsk, host_message}
use Rattle.mpt_messages.specs.IocFrames.{IsAnswer, reply_frame}
use Rattle.mpt_messages.specs.Message.{MessageStands, reply_function}
use Rattle.mpt_messages.specs.declared.message.Message.{Message}
use Rattle.mpt_messages.specs.declared.host_ask.HostAsk.{HostAsk}
use Rattle.mpt_messages.specs.declared.host_ask.HostAsk.TheVariants as ask
use Rattle.mpt_messages.specs.declared.ioc_reply.IocReply.{IocReply}
use Rattle.mpt_messages.specs.declared.ioc_reply.IocReply.TheVariants as reply
use Rattle.mpt_trace.specs.declared.item.Item.TheVariants as item
use Rattle.mpt_trace.specs.declared.item.Down.TheVariants as down
use Rattle.mpt_trace.specs.declared.item.Up.TheVariants as up
use Rattle.mpt_trace.specs.declared.entry.Entry.{Entry}
use Rattle.mpt_trace.specs.declared.entry.Entry.TheVariants as entry
use Rattle.mpt_wire.specs.Messages.Fields.{address_descriptor, frame_address_in, post_descriptor, smid_in, success_descriptor}
use Rattle.mpt_wire.specs.Queues.Marks.{reply_queue_of}

-- ---- posts

-- the descriptor that the host writes for a request under s, with q reply queues: that of a SCSI IO has its handle
-- and its reply queue. A message of the doorbell isn't posted.
abbrev pub host_descriptor : ℕ → ℕ → HostAsk → Option ℕ
host_descriptor q s (ask.ScsiIo smid handle lun cdb cdb_len len write) = Some (post_descriptor post.ScsiIo (reply_queue_of q s) s handle)
host_descriptor q s (ask.Task handle task_type task_mid) = Some (post_descriptor post.HighPriority 0 s 0)
host_descriptor q s (ask.PageRead smid handle) = Some (post_descriptor post.Default 0 s 0)
host_descriptor q s (ask.Remove handle) = Some (post_descriptor post.Default 0 s 0)
host_descriptor q s (ask.Ack event context) = Some (post_descriptor post.Default 0 s 0)
host_descriptor q s ask.Notification = Some (post_descriptor post.Default 0 s 0)
host_descriptor q s ask.PortEnable = Some (post_descriptor post.Default 0 s 0)
host_descriptor q s ask.Facts = None
host_descriptor q s ask.PortFacts = None
host_descriptor q s (ask.Init queues) = None

-- a request with buffers has those of its own identifier
abbrev pub HasOwnBuffers : ℕ → HostAsk → Type 0
HasOwnBuffers s (ask.ScsiIo smid handle lun cdb cdb_len len write) = smid ≡ s
HasOwnBuffers s (ask.PageRead smid handle) = smid ≡ s
HasOwnBuffers s _ = Unit {0}

-- a post of the host
pub record IsHostPost (q descriptor : ℕ) (frame : List ℕ) : Type 0 where
  pub ask : HostAsk
  pub allowed : IsAsk ask
  pub own : HasOwnBuffers (smid_in descriptor) ask
  pub described : host_descriptor q (smid_in descriptor) ask ≡ Some descriptor
  pub framed : frame ≡ message_frame (host_message ask)

-- ---- replies

-- the bytes of a disk's SAS Device Page 0 as the controller writes it
pub record IsDiskPage (page : List ℕ) : Type 0 where
  pub handle : ℕ
  pub address : ℕ
  pub expander : ℕ
  pub phy : ℕ
  pub known : expander < 16
  pub bytes : page ≡ layout_bytes device_page0_layout (device_page0_values (disk_page handle address expander phy))

-- a read that succeeded carries a page; a SCSI IO's reply may carry data and sense; others carry nothing
abbrev pub Carries : IocReply → List ℕ → List ℕ → Type 0
Carries (reply.Scsi handle smid scsi_status status moved sense_count) page sense = Unit {0}
Carries (reply.Config action ext_type status) page sense = (sense ≡ []) × ((page ≡ []) ⊎ ((action ≡ 1) × (status ≡ 0) × IsDiskPage page))
Carries other page sense = (page ≡ []) × (sense ≡ [])

-- a reply with a frame: it stands for a reply's message, and an address descriptor names the frame
pub record IsFramedReply (descriptor : ℕ) (frame page sense : List ℕ) : Type 0 where
  pub reply : IocReply
  pub allowed : IsAnswer reply
  pub framed : frame ≡ reply_frame reply
  pub message : Message
  pub stands : MessageStands message frame
  pub answers : IsSome (reply_function message)
  pub described : descriptor ≡ address_descriptor (smid_in descriptor) (frame_address_in descriptor)
  pub carries : Carries reply page sense

-- a reply without a frame has a success descriptor
abbrev pub IsIocReply : ℕ → Option (List ℕ) → List ℕ → List ℕ → Type 0
IsIocReply descriptor None page sense = descriptor ≡ success_descriptor (smid_in descriptor)
IsIocReply descriptor (Some frame) page sense = IsFramedReply descriptor frame page sense

-- ---- over all entries, with q reply queues

abbrev pub MessageAsks : ℕ → Entry → Type 0
MessageAsks q (entry.Put lane (item.Down (down.Post descriptor frame payload))) = IsHostPost q descriptor frame
MessageAsks q (entry.Put lane (item.Up (up.Reply descriptor frame page sense))) = IsIocReply descriptor frame page sense
MessageAsks q _ = Unit {0}

-- each post that is put is the host's, and each reply the controller's
abbrev pub MessagesStand : ℕ → List Entry → Type 0
MessagesStand q t = (before after : List Entry) (e : Entry) → t ≡ before ++ e ∷ after → MessageAsks q e
