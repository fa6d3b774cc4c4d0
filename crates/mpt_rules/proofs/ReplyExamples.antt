-- What the host makes of each kind of reply.
use Rattle.std.proofs.Common.{◌≡◌, [], ◌∷◌, false, Option, None, refl}
use Rattle.std.specs.Prelude.{replicate, slice_set, slice_index_or}
use Rattle.std.specs.FinMap as map
use Rattle.std.specs.FinMap.{gets}
use Rattle.mpi_layout.specs.Rows.{field}
use Rattle.scsi_disk.specs.declared.scsi_result.TheConstants.{GOOD, CHECK_CONDITION}
use Rattle.scsi_msgs.specs.ScsiReply.{scsi_reply_layout}
use Rattle.scsi_msgs.specs.TaskReply.{task_reply_layout}
use Rattle.config_pages.specs.ConfigReply.{config_reply_layout}
use Rattle.config_pages.specs.DevicePage0.{device_page0_layout}
use Rattle.event_msgs.specs.EventReply.{event_reply_layout}
use Rattle.event_msgs.specs.EventAckReply.{event_ack_reply_layout}
use Rattle.ioc_msgs.specs.UnitControlReply.{unit_control_reply_layout}
use Rattle.ioc_msgs.specs.PortEnableReply.{port_enable_reply_layout}
use Rattle.smid_pool.specs.Pool.{Free, Open, Parked, all_free, slot_of, with_slot}
use Rattle.removal.specs.declared.phase.Phase.TheVariants as phase
use Rattle.removal.specs.Handles.{all_absent, phase_at}
use Rattle.mpt_trace.specs.declared.entry.Entry.TheVariants as entry
use Rattle.mpt_trace.specs.declared.host_state.HostState.TheVariants as state
use Rattle.mpt_trace.specs.declared.item.Up.{Up}
use Rattle.mpt_trace.specs.declared.outcome.Outcome.TheVariants as outcome
use Rattle.mpt_trace.specs.declared.outcome.AbortOutcome.TheVariants as abort
use Rattle.mpt_trace.specs.declared.outcome.TargetOutcome.TheVariants as target
use Rattle.mpt_wire.specs.Messages.Fields.{changes_from, reply_frame_address}
use Rattle.mpt_rules.specs.declared.host_frame.HostFrame.TheVariants.{Held, Out}
use Rattle.mpt_rules.specs.declared.request.Request.{Request}
use Rattle.mpt_rules.specs.declared.request.Request.TheVariants as request
use Rattle.mpt_rules.specs.Outcome.{Called}
use Rattle.mpt_rules.specs.declared.why.Why.{Why}
use Rattle.mpt_rules.specs.Host.Parts.{Host}
use Rattle.mpt_rules.specs.Host.Removal.{first_not_absent}
use Rattle.mpt_rules.specs.Host.Takes.{takes_up}
use Rattle.mpt_rules.proofs.HostUp.{disk, frame_with, page_of, posted, puts_of, replies, returned, says, succeeds, with_open, with_open_in, with_two, wrote}

-- an item comes on the first queue
abbrev takes : Host → Up → Called Host (Option Why)
takes host item = takes_up host 0 item

-- ---- a command

-- number 7 is open under identifier 1
abbrev one_open : Host
one_open = record (with_open 1 (request.Command 7)) { cmds = map.insert map.empty 7 (record { smid = 1; handle = 0x0009 }) }

succeeded : (takes one_open (succeeds 1 (1 ∷ 2 ∷ []))).told ≡ entry.Answer 7 (outcome.Done (record { status = GOOD; payload = 1 ∷ 2 ∷ []; sense = [] })) ∷ []
unfolding field
succeeded = refl

-- no frame came, so none is returned
succeeded_puts : puts_of (takes one_open (succeeds 1 [])).part ≡ wrote 0x6c 1 ∷ []
unfolding field
succeeded_puts = refl

succeeded_free : slot_of (takes one_open (succeeds 1 [])).part.pool 1 ≡ Free
unfolding field
succeeded_free = simp (gets) refl

succeeded_closed : map.get (takes one_open (succeeds 1 [])).part.cmds 7 ≡ None
unfolding field
succeeded_closed = simp (gets) refl

-- CHECK CONDITION with sense: the status has the flag of log information
checked : (takes one_open (replies 1 (slice_set (frame_with 0x00 0x8045) 0x0c CHECK_CONDITION) [] (0x70 ∷ []))).told
    ≡ entry.Answer 7 (outcome.Done (record { status = CHECK_CONDITION; payload = []; sense = 0x70 ∷ [] })) ∷ []
unfolding field scsi_reply_layout
checked = refl

-- the frame is returned before the ring's index is written
checked_puts : puts_of (takes one_open (says 1 0x00 0x0045)).part ≡ returned (reply_frame_address 0) 1 ∷ wrote 0x6c 1 ∷ []
unfolding field scsi_reply_layout
checked_puts = refl

checked_frame : slice_index_or (takes one_open (says 1 0x00 0x0045)).part.frames 0 Held ≡ Out
unfolding field scsi_reply_layout
checked_frame = refl

terminated : (takes one_open (says 1 0x00 0x0048)).told ≡ entry.Answer 7 outcome.Terminated ∷ []
unfolding field scsi_reply_layout
terminated = refl

gone : (takes one_open (says 1 0x00 0x0043)).told ≡ entry.Answer 7 outcome.Gone ∷ []
unfolding field scsi_reply_layout
gone = refl

bad_handle : (takes one_open (says 1 0x00 0x0042)).told ≡ entry.Answer 7 outcome.Gone ∷ []
unfolding field scsi_reply_layout
bad_handle = refl

-- its reply came on the second queue
on_the_second_queue : puts_of (takes_up (record one_open { indices = 0 ∷ 351 ∷ []; marks = false ∷ false ∷ [] }) 1 (succeeds 1 [])).part ≡ wrote 0x6c 0x0100_0000 ∷ []
unfolding field
on_the_second_queue = refl

-- ---- an abort

-- an abort of number 7 is open under identifier 257
abbrev one_aborted : Host
one_aborted = record one_open { aborts = map.insert map.empty 7 257; pool = with_slot 1 (Open (request.Command 7)) (with_slot 257 (Open (request.Abort 7 1)) all_free) }

-- the command's reply comes first: its identifier is parked
parked : slot_of (takes one_aborted (says 1 0x00 0x0048)).part.pool 1 ≡ Parked
unfolding field scsi_reply_layout
parked = simp (gets) refl

-- the command was answered before
abbrev one_parked : Host
one_parked = record one_aborted { cmds = map.empty; pool = with_slot 1 Parked (with_slot 257 (Open (request.Abort 7 1)) all_free); wait_high = 0x0020 ∷ [] }

-- the abort's reply, with a count of one
abbrev one_terminated : Up
one_terminated = replies 257 (with_two 0x14 1 (frame_with 0x01 0)) [] []

stopped : (takes one_parked one_terminated).told ≡ entry.AbortEnd 7 abort.Stopped ∷ []
unfolding field task_reply_layout
stopped = refl

unparked : slot_of (takes one_parked one_terminated).part.pool 1 ≡ Free
unfolding field task_reply_layout
unparked = refl

-- the freed identifier goes to the handle that waits
given_on : slot_of (takes one_parked one_terminated).part.pool 257 ≡ Open (request.Leave 0x0020)
unfolding field task_reply_layout
given_on = refl

given_on_puts : puts_of (takes one_parked one_terminated).part ≡ returned (reply_frame_address 0) 1 ∷ wrote 0x6c 1 ∷ posted 0x06 257 ∷ []
unfolding field task_reply_layout
given_on_puts = refl

-- the abort's reply overtook the command's: the command stays open
overtaken : slot_of (takes one_aborted one_terminated).part.pool 1 ≡ Open (request.Command 7)
unfolding field task_reply_layout
overtaken = refl

not_found : (takes one_parked (says 257 0x01 0)).told ≡ entry.AbortEnd 7 abort.NotFound ∷ []
unfolding field task_reply_layout
not_found = refl

-- ---- a target reset that was asked, with any status

target_done : (takes (with_open 257 (request.TargetReset disk)) (replies 257 (with_two 0x14 3 (frame_with 0x01 0x004a)) [] [])).told ≡ entry.TargetEnd disk (target.Done 3) ∷ []
unfolding field task_reply_layout
target_done = refl

target_free : slot_of (takes (with_open 257 (request.TargetReset disk)) (says 257 0x01 0)).part.pool 257 ≡ Free
unfolding field task_reply_layout
target_free = refl

-- ---- the page of a handle

abbrev reads : Host
reads = with_open_in 265 (request.Page 0x000a) 0x000a (phase.Reading 265)

ready : (takes reads (replies 265 (frame_with 0x04 0) (page_of 0x000a) [])).told ≡ entry.Ready disk 0x000a ∷ []
unfolding field config_reply_layout device_page0_layout
ready = refl

ready_phase : phase_at (takes reads (replies 265 (frame_with 0x04 0) (page_of 0x000a) [])).part.phases 0x000a ≡ phase.Ready disk
unfolding field config_reply_layout device_page0_layout
ready_phase = refl

page_refused : phase_at (takes reads (says 265 0x04 0x0022)).part.phases 0x000a ≡ phase.Absent
unfolding field config_reply_layout
page_refused = refl

-- a page that comes late is dropped, and its identifier is free
abbrev late : Host
late = with_open_in 265 (request.Page 0x000a) 0x000a (phase.Resetting 257)

page_late : (takes late (replies 265 (frame_with 0x04 0) (page_of 0x000a) [])).told ≡ []
unfolding field config_reply_layout device_page0_layout
page_late = refl

page_late_phase : phase_at (takes late (replies 265 (frame_with 0x04 0) (page_of 0x000a) [])).part.phases 0x000a ≡ phase.Resetting 257
unfolding field config_reply_layout device_page0_layout
page_late_phase = refl

page_late_free : slot_of (takes late (replies 265 (frame_with 0x04 0) (page_of 0x000a) [])).part.pool 265 ≡ Free
unfolding field config_reply_layout device_page0_layout
page_late_free = refl

-- ---- the removal

abbrev leaves : Host
leaves = with_open_in 257 (request.Leave 0x000a) 0x000a (phase.Resetting 257)

-- the target was reset: the remove device goes out
left : phase_at (takes leaves (says 257 0x01 0x0042)).part.phases 0x000a ≡ phase.Removing 265
unfolding field task_reply_layout
left = refl

left_puts : puts_of (takes leaves (says 257 0x01 0)).part ≡ returned (reply_frame_address 0) 1 ∷ wrote 0x6c 1 ∷ posted 0x08 265 ∷ []
unfolding field task_reply_layout
left_puts = refl

-- or waits for an identifier
left_waits : (takes (record leaves { pool = with_slot 257 (Open (request.Leave 0x000a)) (replicate 280 Parked) }) (says 257 0x01 0)).part.wait_internal ≡ request.Remove 0x000a ∷ []
unfolding field task_reply_layout
left_waits = refl

removed : phase_at (takes (with_open_in 265 (request.Remove 0x000a) 0x000a (phase.Removing 265)) (says 265 0x1b 0)).part.phases 0x000a ≡ phase.Absent
unfolding field unit_control_reply_layout
removed = refl

-- ---- acknowledgements, and the start's two

-- the first that waits gets the identifier
acknowledged : slot_of (takes (record (with_open 265 (request.Ack 0x001c 1)) { wait_internal = request.Ack 0x001c 2 ∷ request.Ack 0x001c 3 ∷ [] }) (says 265 0x08 0)).part.pool 265 ≡ Open (request.Ack 0x001c 2)
unfolding field event_ack_reply_layout
acknowledged = refl

abbrev starting : Request → Host
starting r = record (with_open 265 r) { mode = state.Starting; phases = all_absent }

notified : slot_of (takes (starting request.Notification) (says 265 0x07 0)).part.pool 265 ≡ Open request.PortEnable
unfolding field event_reply_layout changes_from first_not_absent
notified = refl

is_up : (takes (starting request.PortEnable) (says 265 0x06 0)).told ≡ entry.HostUp ∷ []
unfolding field port_enable_reply_layout
is_up = refl

is_up_mode : (takes (starting request.PortEnable) (says 265 0x06 0)).part.mode ≡ state.Up
unfolding field port_enable_reply_layout
is_up_mode = refl
