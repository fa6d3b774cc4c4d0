-- Replies that the host takes: the ring, the frame, and what each answers.
use Rattle.std.specs.Prelude.{ℕ, ◌+◌, ◌*◌, ◌%◌, ◌^◌, ◌==◌, nat_lt, ◌&&◌, ◌||◌, List, [], ◌∷◌, ◌++◌, bit_and, slice_index, slice_set, unwrap_or, Option, Some, None, if◌then◌else◌}
use Rattle.std.specs.FinMap as map
use Rattle.scsi_disk.specs.declared.scsi_result.ScsiResult.{ScsiResult}
use Rattle.scsi_disk.specs.declared.scsi_result.TheConstants.{GOOD}
use Rattle.smid_pool.specs.Pool.{Slot, Free, Open, Parked, record_of, slot_of, with_slot}
use Rattle.mpi_doorbell.specs.declared.registers.TheConstants.{REPLY_POST_HOST_INDEX}
use Rattle.mpi_names.specs.declared.memory.TheConstants.{POST_RING_ENTRIES}
use Rattle.mpt_trace.specs.declared.item.Down.TheVariants as down
use Rattle.mpt_trace.specs.declared.entry.Entry.TheVariants as entry
use Rattle.mpt_trace.specs.declared.host_state.HostState.TheVariants as state
use Rattle.mpt_trace.specs.declared.outcome.Outcome.{Outcome as Ending}
use Rattle.mpt_trace.specs.declared.outcome.Outcome.TheVariants as ending
use Rattle.mpt_trace.specs.declared.outcome.AbortOutcome.{AbortOutcome}
use Rattle.mpt_trace.specs.declared.outcome.AbortOutcome.TheVariants as abort
use Rattle.mpt_trace.specs.declared.outcome.TargetOutcome.TheVariants as target
use Rattle.mpt_wire.specs.Messages.Fields.{frame_address_in, ioc_status_in, page_sas_address_in, scsi_status_in, smid_in, termination_count_in}
use Rattle.mpt_rules.specs.declared.request.Request.{Request}
use Rattle.mpt_rules.specs.declared.request.Request.TheVariants as request
use Rattle.mpt_rules.specs.declared.status.TheConstants.{IOC_STATUS_MASK, IOC_STATUS_SUCCESS, IOC_STATUS_SCSI_DATA_UNDERRUN, IOC_STATUS_SCSI_TASK_TERMINATED}
use Rattle.mpt_rules.specs.Outcome.{Happening}
use Rattle.mpt_rules.specs.Host.Parts.{Host}
use Rattle.mpt_rules.specs.Host.Posts.{asks_internal, frees, frees_high, frees_internal}
use Rattle.mpt_rules.specs.Host.Removal.{hears_event, left, quietly, reads_page, removed}
use Rattle.mpt_rules.specs.Host.Returns.{frame_of, with_frame_back}
use Rattle.mpt_wire.specs.Machine.Causes.{is_resetting}

-- a reply that the host hears
pub record Heard : Type 0 where
  -- the reply descriptor, and the frame that it names, where it is an address reply
  pub descriptor : ℕ
  pub frame : Option (List ℕ)
  -- the configuration page or the data that was read, and the sense data
  pub page : List ℕ
  pub sense : List ℕ

-- it came up as these
abbrev pub heard_of : ℕ → Option (List ℕ) → List ℕ → List ℕ → Heard
heard_of descriptor frame page sense = record { descriptor = descriptor; frame = frame; page = page; sense = sense }

-- the frame's bytes, which are read only of a reply to another request than a SCSI IO, or of an event: one of these
-- without a frame is strange, so none of them is empty
abbrev pub reply_bytes : Heard → List ℕ
reply_bytes reply = unwrap_or reply.frame []

-- ---- what every reply does

-- a frame that came goes back
abbrev pub with_frame_heard : Host → ℕ → Option (List ℕ) → Host
with_frame_heard host descriptor None = host
with_frame_heard host descriptor (Some frame) = with_frame_back host (frame_of (frame_address_in descriptor))

-- the next index of the reply post ring of a queue
abbrev pub next_index : Host → ℕ → ℕ
next_index host queue = (slice_index host.indices queue + 1) % POST_RING_ENTRIES

-- the value of ReplyPostHostIndex: the queue in the highest eight bits
abbrev pub index_value : ℕ → ℕ → ℕ
index_value queue index = queue * 2 ^ 24 + index

-- the descriptor was read and its entry is unused again
abbrev pub takes_entry : Host → ℕ → Host
takes_entry host queue =
    record host {
      indices = slice_set host.indices queue (next_index host queue);
      out = host.out ++ down.Write REPLY_POST_HOST_INDEX (index_value queue (next_index host queue)) ∷ [];
    }

-- ---- the status

-- the IOCStatus without the flag that says that there is log information
abbrev pub reply_status : List ℕ → ℕ
reply_status frame = bit_and (ioc_status_in frame) IOC_STATUS_MASK

-- ---- a command

-- how a SCSI IO ended, by its status
abbrev pub ended_by : ℕ → ScsiResult → Ending
ended_by status result =
    if (status == IOC_STATUS_SUCCESS) || (status == IOC_STATUS_SCSI_DATA_UNDERRUN) then ending.Done result else
    if status == IOC_STATUS_SCSI_TASK_TERMINATED then ending.Terminated else
    ending.Gone

-- a success descriptor, which has no frame, means GOOD
abbrev pub ended : Option (List ℕ) → List ℕ → List ℕ → Ending
ended None page sense = ending.Done (record { status = GOOD; payload = page; sense = sense })
ended (Some frame) page sense = ended_by (reply_status frame) (record { status = scsi_status_in frame; payload = page; sense = sense })

-- the identifier is parked while an abort names the command
abbrev pub slot_after : Option ℕ → Slot Request
slot_after (Some abort) = Parked
slot_after None = Free

-- the command is answered, and its number isn't open any more
abbrev pub host_answers : Host → ℕ → ℕ → Ending → Happening Host
host_answers host smid n ending =
    record {
      part = record host { pool = with_slot smid (slot_after (map.get host.aborts n)) host.pool; cmds = map.remove host.cmds n };
      entries = entry.Answer n ending ∷ [];
    }

-- ---- an abort

-- it stopped the command where the controller terminated one
abbrev pub abort_outcome : List ℕ → AbortOutcome
abort_outcome frame = if (reply_status frame == IOC_STATUS_SUCCESS) && nat_lt 0 (termination_count_in frame) then abort.Stopped else abort.NotFound

-- the identifier of the command that it named is free from now on, where it was parked
abbrev pub unparks : Host → ℕ → Slot Request → Host
unparks host task Parked = frees host task
unparks host task Free = host
unparks host task (Open r) = host

-- the abort of the number isn't open any more
abbrev pub closes_abort : Host → ℕ → ℕ → Host
closes_abort host n task = unparks (record host { aborts = map.remove host.aborts n }) task (slot_of host.pool task)

-- the abort is told as ended, and its identifier is given on
abbrev pub host_ends_abort : Host → ℕ → ℕ → ℕ → List ℕ → Happening Host
host_ends_abort host smid n task frame = record { part = frees_high (closes_abort host n task) smid; entries = entry.AbortEnd n (abort_outcome frame) ∷ [] }

-- ---- a target reset that was asked from outside

-- it is told with the number of commands that it terminated, whatever the status
abbrev pub ends_target : Host → ℕ → ℕ → List ℕ → Happening Host
ends_target host smid address frame = record { part = frees_high host smid; entries = entry.TargetEnd address (target.Done (termination_count_in frame)) ∷ [] }

-- ---- the others

-- the disk's address where the page was read
abbrev pub address_read : List ℕ → List ℕ → Option ℕ
address_read frame page = if reply_status frame == IOC_STATUS_SUCCESS then Some (page_sas_address_in page) else None

-- after the reply of the event notification the port is enabled
abbrev pub hears_notified : Host → ℕ → Host
hears_notified host smid = asks_internal (frees_internal host smid) request.PortEnable

-- the host is up
abbrev pub after_port_enable : Host → ℕ → Happening Host
after_port_enable host smid = record { part = record (frees_internal host smid) { mode = state.Up }; entries = entry.HostUp ∷ [] }

-- while a reset is going on the reply frees its identifier, and nothing else
abbrev pub unless_resetting : Host → ℕ → Happening Host → Happening Host
unless_resetting host smid caused = if is_resetting host.mode then quietly (frees host smid) else caused

-- ---- a reply, by the request that it answers

-- a command, an abort and a target reset that was asked are answered also while a reset is going on
abbrev pub hears_answer : Host → ℕ → Request → Heard → Happening Host
hears_answer host smid (request.Command n) reply = host_answers host smid n (ended reply.frame reply.page reply.sense)
hears_answer host smid (request.Abort n task) reply = host_ends_abort host smid n task (reply_bytes reply)
hears_answer host smid (request.TargetReset address) reply = ends_target host smid address (reply_bytes reply)
hears_answer host smid (request.Leave handle) reply = unless_resetting host smid (quietly (left host smid handle))
hears_answer host smid (request.Page handle) reply =
    unless_resetting host smid (reads_page host smid handle (address_read (reply_bytes reply) reply.page))
hears_answer host smid (request.Remove handle) reply = unless_resetting host smid (quietly (removed host smid handle))
hears_answer host smid (request.Ack event context) reply = unless_resetting host smid (quietly (frees_internal host smid))
hears_answer host smid request.Notification reply = unless_resetting host smid (quietly (hears_notified host smid))
hears_answer host smid request.PortEnable reply = unless_resetting host smid (after_port_enable host smid)

-- a reply without a request is an event
abbrev pub hears_reply_to : Host → ℕ → Option Request → Heard → Happening Host
hears_reply_to host smid None reply = if is_resetting host.mode then quietly host else hears_event host (reply_bytes reply)
hears_reply_to host smid (Some r) reply = hears_answer host smid r reply

-- the identifier's request
abbrev pub request_of : Host → ℕ → Option Request
request_of host smid = record_of (slot_of host.pool smid)

-- first the frame goes back and the ring's entry is given free, and then the reply is heard
abbrev pub hears_reply : Host → ℕ → Heard → Happening Host
hears_reply host queue reply =
    let smid : ℕ = smid_in reply.descriptor in
    let after : Host = takes_entry (with_frame_heard host reply.descriptor reply.frame) queue in
    hears_reply_to after smid (request_of host smid) reply
