-- What is known of results and of replies beside the facts: they fit the fields of messages.
use Rattle.std.specs.Prelude.{◌≡◌, ℕ, ◌^◌, ◌<◌, ◌≤◌, All, Bool, List, true, length, Some}
use Rattle.scsi_disk.specs.declared.scsi_result.ScsiResult.{ScsiResult}
use Rattle.mpt_messages.specs.IocFrames.{reply_frame}
use Rattle.mpt_messages.specs.declared.ioc_reply.IocReply.TheVariants as reply
use Rattle.mpt_wire.specs.Handles.Names.{is_device_page}
use Rattle.mpt_wire.specs.Messages.Fields.{dev_handle_in, ioc_status_in, termination_count_in}
use Rattle.mpt_wire.specs.Messages.Standing.{IsDiskPage}
use Rattle.mpt_rules.specs.declared.said.Said.{Said}
use Rattle.mpt_rules.specs.declared.said.Said.TheVariants as said
use Rattle.mpt_rules.specs.Ioc.Replies.{outbox_of}
use Rattle.mpt_rules.specs.World.State.{World}
use Rattle.law_facts.specs.History.{History}

-- an outcome fits the fields of a reply
abbrev pub ResultFits : ScsiResult → Type 0
ResultFits result = (result.status < 2 ^ 8) × (length result.payload ≤ 4096) × (length result.sense ≤ 18)

abbrev pub OutcomesFit : History → Type 0
OutcomesFit h = (n : ℕ) (result : ScsiResult) → h.machine.outcome n ≡ Some result → ResultFits result

-- an event of one change at an expander that there may be
pub record EventIsWritten (frame : List ℕ) : Type 0 where
  pub context : ℕ
  pub handle : ℕ
  pub expander : ℕ
  pub phys : ℕ
  pub phy : ℕ
  pub added : Bool
  pub fits : (context < 2 ^ 32) × (handle < 2 ^ 16) × (expander < 16) × (phys < 2 ^ 8) × (phy < 2 ^ 8)
  pub is : frame ≡ reply_frame (reply.Topology context handle expander phys phy added)

-- the numbers of a reply's frame that have no other bound
abbrev pub FieldsFit : List ℕ → Type 0
FieldsFit frame = (dev_handle_in frame < 2 ^ 16) × (ioc_status_in frame < 2 ^ 16) × (termination_count_in frame < 2 ^ 32)

-- a reply to task management, or to a request of the internal class, has numbers that fit; a disk's page is as the controller writes it
pub record FrameIsWritten (smid : ℕ) (frame page : List ℕ) : Type 0 where
  pub event : smid ≡ 0 → EventIsWritten frame
  pub fields : 257 ≤ smid → FieldsFit frame
  pub disk_page : 265 ≤ smid → is_device_page frame page ≡ true → IsDiskPage page

abbrev pub IsWritten : Said → Type 0
IsWritten (said.Framed smid frame page sense) = FrameIsWritten smid frame page
IsWritten item = Unit {0}

-- what waits in the controller's outboxes
abbrev pub RepliesAreWritten : World → Type 0
RepliesAreWritten w = (queue : ℕ) → All IsWritten (outbox_of w.ioc queue)
