-- What the host makes of events, and what it doesn't do while a reset is going on.
use Rattle.std.proofs.Common.{◌≡◌, [], ◌∷◌, false, Option, refl}
use Rattle.std.specs.Prelude.{replicate, slice_index_or}
use Rattle.std.specs.FinMap as map
use Rattle.mpi_layout.specs.Rows.{field}
use Rattle.scsi_disk.specs.declared.scsi_result.TheConstants.{GOOD}
use Rattle.scsi_msgs.specs.TaskReply.{task_reply_layout}
use Rattle.event_msgs.specs.EventReply.{event_reply_layout}
use Rattle.smid_pool.specs.Pool.{Free, Parked, slot_of}
use Rattle.removal.specs.declared.phase.Phase.TheVariants as phase
use Rattle.removal.specs.Handles.{all_absent, phase_at, with_phase}
use Rattle.mpt_trace.specs.declared.entry.Entry.TheVariants as entry
use Rattle.mpt_trace.specs.declared.item.Up.{Up}
use Rattle.mpt_trace.specs.declared.outcome.Outcome.TheVariants as outcome
use Rattle.mpt_wire.specs.Messages.Fields.{changes_from, reply_frame_address}
use Rattle.mpt_rules.specs.declared.host_frame.HostFrame.TheVariants.{Held, Away}
use Rattle.mpt_rules.specs.declared.request.Request.TheVariants as request
use Rattle.mpt_rules.specs.Outcome.{Called}
use Rattle.mpt_rules.specs.declared.why.Why.{Why}
use Rattle.mpt_rules.specs.Host.Parts.{Host}
use Rattle.mpt_rules.specs.Host.Removal.{first_not_absent, hears_changes}
use Rattle.mpt_rules.specs.Host.Takes.{takes_up}
use Rattle.mpt_rules.proofs.HostUp.{changed, disk, host_up, posted, puts_of, resetting, returned, says, succeeds, with_open, with_open_in, wrote}

-- an item comes on the first queue
abbrev takes : Host → Up → Called Host (Option Why)
takes host item = takes_up host 0 item

-- ---- events

-- a disk is added: the acknowledgement goes out, and then the page read
added : puts_of (takes host_up (changed 0x000a 0x01)).part ≡ returned (reply_frame_address 0) 1 ∷ wrote 0x6c 1 ∷ posted 0x08 265 ∷ posted 0x08 266 ∷ []
unfolding field event_reply_layout changes_from first_not_absent hears_changes
added = refl

added_phase : phase_at (takes host_up (changed 0x000a 0x01)).part.phases 0x000a ≡ phase.Reading 266
unfolding field event_reply_layout changes_from first_not_absent hears_changes
added_phase = refl

-- without a free identifier both wait
added_waits : (takes (record host_up { pool = replicate 280 Parked }) (changed 0x000a 0x01)).part.wait_internal ≡ request.Ack 0x001c 7 ∷ request.Page 0x000a ∷ []
unfolding field event_reply_layout changes_from first_not_absent hears_changes
added_waits = refl

-- a handle that no disk has causes the acknowledgement alone
expander : puts_of (takes host_up (changed 0x0049 0x01)).part ≡ returned (reply_frame_address 0) 1 ∷ wrote 0x6c 1 ∷ posted 0x08 265 ∷ []
unfolding field event_reply_layout changes_from first_not_absent hears_changes
expander = refl

-- the ready disk isn't responding
lost : (takes host_up (changed 0x0009 0x02)).told ≡ entry.Lost disk 0x0009 ∷ []
unfolding field event_reply_layout changes_from first_not_absent hears_changes
lost = refl

lost_puts : puts_of (takes host_up (changed 0x0009 0x02)).part ≡ returned (reply_frame_address 0) 1 ∷ wrote 0x6c 1 ∷ posted 0x08 265 ∷ posted 0x06 257 ∷ []
unfolding field event_reply_layout changes_from first_not_absent hears_changes
lost_puts = refl

lost_phase : phase_at (takes host_up (changed 0x0009 0x02)).part.phases 0x0009 ≡ phase.Resetting 257
unfolding field event_reply_layout changes_from first_not_absent hears_changes
lost_phase = refl

-- a page read that waits is given up
abbrev waits : Host
waits = record host_up { pool = replicate 280 Parked; phases = with_phase all_absent 0x000a phase.WaitRead; wait_internal = request.Ack 0x001c 1 ∷ request.Page 0x000a ∷ [] }

given_up : (takes waits (changed 0x000a 0x02)).part.wait_internal ≡ request.Ack 0x001c 1 ∷ request.Ack 0x001c 7 ∷ []
unfolding field event_reply_layout changes_from first_not_absent hears_changes
given_up = refl

given_up_high : (takes waits (changed 0x000a 0x02)).part.wait_high ≡ 0x000a ∷ []
unfolding field event_reply_layout changes_from first_not_absent hears_changes
given_up_high = refl

-- nothing is told of one that isn't ready
given_up_told : (takes waits (changed 0x000a 0x02)).told ≡ []
unfolding field event_reply_layout changes_from first_not_absent hears_changes
given_up_told = refl

-- ---- while a reset is going on

-- number 7 is open under identifier 1
abbrev one_open : Host
one_open = record (with_open 1 (request.Command 7)) { cmds = map.insert map.empty 7 (record { smid = 1; handle = 0x0009 }) }

-- the target of a handle that is removed is reset
abbrev leaves : Host
leaves = with_open_in 257 (request.Leave 0x000a) 0x000a (phase.Resetting 257)

-- a command is answered as ever
answered_while_resetting : (takes (resetting one_open) (succeeds 1 [])).told ≡ entry.Answer 7 (outcome.Done (record { status = GOOD; payload = []; sense = [] })) ∷ []
unfolding field
answered_while_resetting = refl

-- a removal doesn't go on
left_while_resetting : phase_at (takes (resetting leaves) (says 257 0x01 0)).part.phases 0x000a ≡ phase.Resetting 257
unfolding field task_reply_layout
left_while_resetting = refl

left_while_resetting_free : slot_of (takes (resetting leaves) (says 257 0x01 0)).part.pool 257 ≡ Free
unfolding field task_reply_layout
left_while_resetting_free = refl

-- an event isn't acknowledged, and its frame isn't returned any more
event_while_resetting : puts_of (takes (record (resetting host_up) { returning = false }) (changed 0x000a 0x01)).part ≡ wrote 0x6c 1 ∷ []
unfolding field event_reply_layout changes_from first_not_absent hears_changes
event_while_resetting = refl

frame_kept : slice_index_or (takes (record (resetting host_up) { returning = false }) (changed 0x000a 0x01)).part.frames 0 Away ≡ Held
unfolding field event_reply_layout changes_from first_not_absent hears_changes
frame_kept = refl
