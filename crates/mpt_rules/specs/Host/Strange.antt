-- What comes up and is strange: one word for each why, in the order in which they are looked at.
use Rattle.std.specs.Prelude.{ℕ, ◌==◌, nat_lt, nat_le, ◌&&◌, ◌||◌, not, Bool, true, false, List, [], ◌∷◌, slice_index_or, is_some, is_none, Option, Some, None, option_map, if◌then◌else◌}
use Rattle.std.specs.Option.{option_or}
use Rattle.mpi_layout.specs.Rows.{first_fault}
use Rattle.config_pages.specs.DevicePage0.{device_page0_layout}
use Rattle.smid_pool.specs.declared.class.Class.TheVariants.{ScsiIo}
use Rattle.smid_pool.specs.Class.{size_of}
use Rattle.smid_pool.specs.Pool.{is_open, slot_of}
use Rattle.mpt_messages.specs.declared.function.Function.{Function}
use Rattle.mpt_messages.specs.declared.function.Function.TheVariants as function
use Rattle.mpt_messages.specs.Function.{byte_of}
use Rattle.mpt_trace.specs.declared.item.Up.{Up}
use Rattle.mpt_trace.specs.declared.item.Up.TheVariants as up
use Rattle.mpt_wire.specs.Messages.Fields.{address_flags, changes_in, flags_in, frame_address_in, function_in, page_dev_handle_in, smid_in, success_flags}
use Rattle.mpt_rules.specs.declared.request.Request.{Request}
use Rattle.mpt_rules.specs.declared.request.Request.TheVariants as request
use Rattle.mpt_rules.specs.declared.status.TheConstants.{IOC_STATUS_SUCCESS, IOC_STATUS_SCSI_INVALID_DEVHANDLE, IOC_STATUS_SCSI_DEVICE_NOT_THERE, IOC_STATUS_SCSI_DATA_UNDERRUN, IOC_STATUS_SCSI_TASK_TERMINATED}
use Rattle.mpt_rules.specs.declared.why.Why.{Why}
use Rattle.mpt_rules.specs.declared.why.Why.TheVariants as why
use Rattle.mpt_rules.specs.Host.Parts.{Host}
use Rattle.mpt_rules.specs.Host.Removal.{added_handles, first_not_absent}
use Rattle.mpt_rules.specs.Host.Replies.{request_of, reply_status}
use Rattle.mpt_rules.specs.Host.Returns.{frame_of, is_frame_address, is_frame_away}
use Rattle.mpt_rules.specs.Host.Handshakes.{bad_bytes, where_true, why_door}
use Rattle.mpt_wire.specs.Machine.Causes.{is_resetting}

-- ---- WrongQueue: a value or a reply of no SCSI IO comes on a queue above 0, or a mark on queue 0

-- the identifier is a SCSI IO's
abbrev pub is_scsi_smid : ℕ → Bool
is_scsi_smid smid = nat_le 1 smid && nat_le smid (size_of ScsiIo)

-- values come on queue 0
abbrev pub wrong_queue_of_value : ℕ → Option Why
wrong_queue_of_value queue = where_true (nat_lt 0 queue) (why.WrongQueue queue)

-- so do replies of all but SCSI IOs
abbrev pub wrong_queue_of_reply : ℕ → ℕ → Option Why
wrong_queue_of_reply queue descriptor = where_true (nat_lt 0 queue && not (is_scsi_smid (smid_in descriptor))) (why.WrongQueue queue)

-- marks come on the others
abbrev pub wrong_queue_of_mark : ℕ → Option Why
wrong_queue_of_mark queue = where_true (queue == 0) (why.WrongQueue queue)

-- ---- BadMark: no reset is going on, or it is another one's mark, or the second of its queue

-- the marks of a reset have its number among those that were asked, modulo 2^32
abbrev pub bad_mark : Host → ℕ → ℕ → Option Why
bad_mark host queue generation =
    where_true (not (is_resetting host.mode) || (not (generation == host.asked) || slice_index_or host.marks queue true)) (why.BadMark generation)

-- ---- NoRead: no value is awaited

-- a value answers a read
abbrev pub no_read : Host → Option Why
no_read host = where_true (not host.reading) why.NoRead

-- ---- BadDescriptor: a success reply is a SCSI IO's and has no frame, an address reply has one, and no other comes

-- a success reply
abbrev pub is_success : ℕ → Option (List ℕ) → Bool
is_success descriptor frame = (flags_in descriptor == success_flags) && (is_none frame && is_scsi_smid (smid_in descriptor))

-- an address reply
abbrev pub is_address : ℕ → Option (List ℕ) → Bool
is_address descriptor frame = (flags_in descriptor == address_flags) && is_some frame

-- it is neither
abbrev pub bad_descriptor : ℕ → Option (List ℕ) → Option Why
bad_descriptor descriptor frame = where_true (not (is_success descriptor frame || is_address descriptor frame)) why.BadDescriptor

-- ---- NotReturned: the address is no frame's, or the controller doesn't have the frame

-- the host returned the frame at this address, and the return was put
abbrev pub is_returned : Host → ℕ → Bool
is_returned host address = is_frame_address address && is_frame_away host (frame_of address)

-- only a reply with a frame names one
abbrev pub not_returned : Host → ℕ → Option (List ℕ) → Option Why
not_returned host descriptor None = None
not_returned host descriptor (Some frame) = where_true (not (is_returned host (frame_address_in descriptor))) (why.NotReturned (frame_address_in descriptor))

-- ---- BadFrame: the bytes stand for no reply

-- only a reply with a frame has bytes
abbrev pub bad_frame : Option (List ℕ) → Option Why
bad_frame None = None
bad_frame (Some frame) = bad_bytes frame

-- ---- NotOpen: nothing is open under the identifier; an event has none

-- the identifier is free or parked, or is none
abbrev pub not_open : Host → ℕ → Option Why
not_open host smid = where_true (not (smid == 0) && not (is_open (slot_of host.pool smid))) (why.NotOpen smid)

-- ---- BadAnswer: it isn't the answer to what was asked

-- the function of a reply: one without a frame is a SCSI IO's, which succeeded
abbrev pub function_by : Option (List ℕ) → ℕ
function_by None = byte_of function.ScsiIo
function_by (Some frame) = function_in frame

-- and its status is SUCCESS
abbrev pub status_by : Option (List ℕ) → ℕ
status_by None = IOC_STATUS_SUCCESS
status_by (Some frame) = reply_status frame

-- the function of a request
abbrev pub function_asked : Request → Function
function_asked (request.Command n) = function.ScsiIo
function_asked (request.Abort n task) = function.TaskManagement
function_asked (request.TargetReset address) = function.TaskManagement
function_asked (request.Leave handle) = function.TaskManagement
function_asked (request.Page handle) = function.Config
function_asked (request.Remove handle) = function.UnitControl
function_asked (request.Ack event context) = function.EventAck
function_asked request.Notification = function.EventNotification
function_asked request.PortEnable = function.PortEnable

-- the function that a reply has to have; without a request it has to be an event
abbrev pub function_due : Option Request → Function
function_due None = function.EventNotification
function_due (Some r) = function_asked r

-- the page is SAS Device Page 0 of the handle
abbrev pub is_page_for : ℕ → List ℕ → Bool
is_page_for handle page = is_none (first_fault device_page0_layout page) && (page_dev_handle_in page == handle)

-- a page that was read has to be the handle's
abbrev pub is_wrong_page : Option Request → ℕ → List ℕ → Bool
is_wrong_page (Some (request.Page handle)) status page = (status == IOC_STATUS_SUCCESS) && not (is_page_for handle page)
is_wrong_page r status page = false

-- it has another function, or another page
abbrev pub bad_answer : Option Request → Option (List ℕ) → List ℕ → Option Why
bad_answer r frame page = where_true (not (function_by frame == byte_of (function_due r)) || is_wrong_page r (status_by frame) page) why.BadAnswer

-- ---- BadStatus: the host doesn't take the status

-- a SCSI IO is done, or its disk is gone, or it was terminated
abbrev pub is_scsi_status : ℕ → Bool
is_scsi_status status =
    (status == IOC_STATUS_SUCCESS) || ((status == IOC_STATUS_SCSI_INVALID_DEVHANDLE) || ((status == IOC_STATUS_SCSI_DEVICE_NOT_THERE)
    || ((status == IOC_STATUS_SCSI_DATA_UNDERRUN) || (status == IOC_STATUS_SCSI_TASK_TERMINATED))))

-- the start's two requests have to succeed; all others take any status
abbrev pub takes_status : Option Request → ℕ → Bool
takes_status (Some (request.Command n)) status = is_scsi_status status
takes_status (Some request.Notification) status = status == IOC_STATUS_SUCCESS
takes_status (Some request.PortEnable) status = status == IOC_STATUS_SUCCESS
takes_status r status = true

-- the status without the flag of log information
abbrev pub bad_status : Option Request → ℕ → Option Why
bad_status r status = where_true (not (takes_status r status)) (why.BadStatus status)

-- ---- NotAbsent: while no reset is going on, an event names a disk's handle as added that isn't absent

-- an event that came while no reset is going on
abbrev pub not_absent_in : Host → List ℕ → Option Why
not_absent_in host frame = if is_resetting host.mode then None else option_map why.NotAbsent (first_not_absent host.phases (added_handles (changes_in frame)))

-- a reply without an identifier is an event
abbrev pub not_absent : Host → ℕ → Option (List ℕ) → Option Why
not_absent host smid None = None
not_absent host smid (Some frame) = if smid == 0 then not_absent_in host frame else None

-- ---- the first why that holds

-- of some that are looked at in their order
abbrev pub first_some : List (Option Why) → Option Why
first_some [] = None
first_some (why ∷ rest) = option_or why (first_some rest)

-- of a value
abbrev pub why_value : Host → ℕ → ℕ → Option Why
why_value host queue value = first_some (wrong_queue_of_value queue ∷ no_read host ∷ why_door host host.machine value ∷ [])

-- of a reply
abbrev pub why_reply : Host → ℕ → ℕ → Option (List ℕ) → List ℕ → Option Why
why_reply host queue descriptor frame page =
    let smid : ℕ = smid_in descriptor in
    let asked : Option Request = request_of host smid in
    first_some (
    wrong_queue_of_reply queue descriptor
    ∷ bad_descriptor descriptor frame
    ∷ not_returned host descriptor frame
    ∷ bad_frame frame
    ∷ not_open host smid
    ∷ bad_answer asked frame page
    ∷ bad_status asked (status_by frame)
    ∷ not_absent host smid frame
    ∷ [])

-- of a mark
abbrev pub why_mark : Host → ℕ → ℕ → Option Why
why_mark host queue generation = first_some (wrong_queue_of_mark queue ∷ bad_mark host queue generation ∷ [])

-- why an item that comes on a queue is strange, where it is
abbrev pub why_strange : Host → ℕ → Up → Option Why
why_strange host queue (up.Value value) = why_value host queue value
why_strange host queue (up.Reply descriptor frame page sense) = why_reply host queue descriptor frame page
why_strange host queue (up.Mark generation) = why_mark host queue generation
why_strange host queue up.Calm = None
