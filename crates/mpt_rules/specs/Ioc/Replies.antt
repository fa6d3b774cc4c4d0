-- What the controller puts into its outboxes.
use Rattle.std.specs.Prelude.{ℕ, nat_lt, if◌then◌else◌, List, [], ◌∷◌, ◌++◌, slice_index_or, slice_set}
use Rattle.mpi_rings.specs.declared.request_descriptor.PostKind.{PostKind}
use Rattle.mpi_rings.specs.declared.request_descriptor.PostKind.TheVariants as post
use Rattle.mpt_messages.specs.IocFrames.{reply_frame}
use Rattle.mpt_messages.specs.declared.fault.MsgFault.{MsgFault}
use Rattle.mpt_messages.specs.declared.fault.MsgFault.TheVariants as refusal
use Rattle.mpt_messages.specs.declared.ioc_reply.IocReply.{IocReply}
use Rattle.mpt_messages.specs.declared.ioc_reply.IocReply.TheVariants as reply
use Rattle.mpt_wire.specs.Messages.Fields.{msix_in}
use Rattle.mpt_trace.specs.declared.item.Out.{Out}
use Rattle.mpt_rules.specs.declared.said.Said.{Said}
use Rattle.mpt_rules.specs.declared.said.Said.TheVariants as said
use Rattle.mpt_rules.specs.declared.status.TheConstants.{IOC_STATUS_INVALID_FIELD, IOC_STATUS_INVALID_FUNCTION}
use Rattle.mpt_rules.specs.Ioc.Parts.{Ioc}

-- what waits for a reply queue
abbrev pub outbox_of : Ioc → ℕ → List Said
outbox_of ioc queue = slice_index_or ioc.up queue []

-- these items go behind what waits for a reply queue
abbrev pub says_on : Ioc → ℕ → List Said → Ioc
says_on ioc queue items = record ioc { up = slice_set ioc.up queue (outbox_of ioc queue ++ items) }

-- an item goes behind what waits for the fabric
abbrev pub with_out_item : Ioc → Out → Ioc
with_out_item ioc item = record ioc { out = ioc.out ++ item ∷ [] }

-- the reply queue that a request descriptor's MSIxIndex names: queue 0 where IOC Init asked for fewer
abbrev pub queue_named : Ioc → ℕ → ℕ
queue_named ioc descriptor = if nat_lt (msix_in descriptor) ioc.vectors then msix_in descriptor else 0

-- the reply queue of a post: only a SCSI IO's answer goes elsewhere than to queue 0
abbrev pub ioc_queue_of : Ioc → PostKind → ℕ → ℕ
ioc_queue_of ioc post.ScsiIo descriptor = queue_named ioc descriptor
ioc_queue_of ioc post.HighPriority descriptor = 0
ioc_queue_of ioc post.Default descriptor = 0

-- a reply with its frame and nothing more
abbrev pub framed : ℕ → IocReply → Said
framed smid r = said.Framed smid (reply_frame r) [] []

-- a request is answered on queue 0
abbrev pub ioc_answers : Ioc → ℕ → IocReply → Ioc
ioc_answers ioc smid r = says_on ioc 0 (framed smid r ∷ [])

-- the answer to a SCSI IO that moved nothing: its identifier, its handle and the IOCStatus
abbrev pub scsi_ended : ℕ → ℕ → ℕ → Said
scsi_ended smid handle status = framed smid (reply.Scsi handle smid 0 status 0 0)

-- the answer to task management: the handle, the TaskType, the IOCStatus and how many commands were ended
abbrev pub task_ended : ℕ → ℕ → ℕ → ℕ → IocReply
task_ended handle task_type status count = reply.Task handle task_type status 0 count

-- the IOCStatus for a frame that stands for no request of its kind
abbrev pub refusal_status : MsgFault → ℕ
refusal_status (refusal.Short need have) = IOC_STATUS_INVALID_FIELD
refusal_status (refusal.Field at) = IOC_STATUS_INVALID_FIELD
refusal_status (refusal.UnknownFunction byte) = IOC_STATUS_INVALID_FUNCTION
refusal_status (refusal.WrongKind byte kind) = IOC_STATUS_INVALID_FUNCTION
