-- Two reply queues: an abort is answered on the first one before its command is on the second one. Computed in pieces.
use Rattle.std.proofs.Common.{◌≡◌, List, [], ◌∷◌, None, refl}
use Rattle.std.specs.Prelude.{ℕ}
use Rattle.std.specs.FinMap.{gets}
use Rattle.std.specs.FinMap as map
use Rattle.std.specs.FinSet.{members}
use Rattle.mpi_layout.specs.Rows.{field}
use Rattle.mpt_trace.specs.Command.{command_named}
use Rattle.scsi_disk.specs.Operation.{operation_of}
use Rattle.scsi_msgs.specs.ScsiIo.{scsi_io_layout, scsi_io_values}
use Rattle.mpt_rules.specs.declared.request.Request.{Request}
use Rattle.smid_pool.specs.Pool.{Free, Open, Slot, all_free, with_slot}
use Rattle.mpt_rules.specs.Host.Replies.{slot_after}
use Rattle.scsi_msgs.specs.TaskReply.{task_reply_layout, task_reply_values}
use Rattle.scsi_msgs.specs.ScsiReply.{scsi_reply_layout, scsi_reply_values}
use Rattle.scsi_msgs.specs.TaskAsk.{task_ask_layout, task_ask_values}
use Rattle.mpt_trace.specs.declared.choice.Choice.TheVariants as choice
use Rattle.mpt_trace.specs.declared.command_form.CommandForm.{CommandForm}
use Rattle.mpt_trace.specs.declared.command_form.CommandForm.TheVariants as form
use Rattle.mpt_trace.specs.declared.entry.Entry.TheVariants as entry
use Rattle.mpt_trace.specs.declared.input.Input.TheVariants as input
use Rattle.mpt_trace.specs.declared.outcome.Outcome.TheVariants as outcome
use Rattle.mpt_rules.specs.declared.post.Post.{Post}
use Rattle.mpt_rules.specs.declared.request.Request.TheVariants as request
use Rattle.std.proofs.Common.{ap}
use Rattle.std.specs.Ordering.{nat_cmp}
use Rattle.mpt_rules.specs.Host.Parts.{Host}
use Rattle.mpt_rules.specs.Host.Inputs.{with_accepted}
use Rattle.mpt_rules.specs.Host.Returns.{with_frame_back}
use Rattle.mpt_rules.specs.Ioc.Parts.{Ioc}
use Rattle.std.specs.Prelude.{◌++◌}
use Rattle.std.specs.List.{range_with_len}
use Rattle.std.specs.FinSet as set
use Rattle.std.specs.FinSet.{FinSet}
use Rattle.std.specs.Prelude.{◌+◌}
use Rattle.mpt_rules.specs.declared.status.TheConstants.{IOC_STATUS_SUCCESS}
use Rattle.mpt_rules.specs.declared.said.Said.{Said}
use Rattle.mpt_rules.specs.World.State.{World}
use Rattle.mpt_rules.specs.World.Cases.{Case, Chosen, Told}
use Rattle.mpt_rules.proofs.SchedulePieces.{Goes, answers, command_post, tells, took}
use Rattle.mpt_rules.proofs.WorldExampleParts.{A, one_disk, submit, up_host, up_ioc}
use Rattle.mpt_rules.specs.Ioc.Replies.{framed, task_ended}
use Rattle.mpt_rules.specs.Host.Parts.{Cmd}
use Rattle.std.specs.FinMap.{FinMap}
use Rattle.mpt_wire.specs.Messages.Fields.{abort_task}
use Rattle.mpt_rules.specs.Host.Inputs.{with_abort_asked}
use Rattle.mpt_rules.specs.Host.Replies.{takes_entry}
use Rattle.mpt_trace.specs.declared.outcome.AbortOutcome.TheVariants as abort
use Rattle.mpt_rules.specs.Ioc.Replies.{scsi_ended}
use Rattle.mpt_rules.specs.declared.status.TheConstants.{IOC_STATUS_SCSI_TASK_TERMINATED}
use Rattle.mpt_trace.specs.declared.outcome.Outcome.{Outcome}
use Rattle.mpt_rules.specs.Host.Returns.{with_frame_back}

-- ---- the worlds of this schedule

-- a write of one block
abbrev pub write : CommandForm
write = form.Write 0 1 0x11

-- an answer of TEST UNIT READY
abbrev pub good : Outcome
good = outcome.Done (record { status = 0; payload = []; sense = [] })

-- a submission for the handle
abbrev pub cmd : ℕ → Cmd
cmd smid = record { smid = smid; handle = 0x0009 }

-- the open submissions, the open aborts and the accepted numbers, one after the other
abbrev pub cmds_2 : FinMap nat_cmp Cmd
cmds_2 = map.insert (map.insert map.empty 1 (cmd 1)) 2 (cmd 2)

-- an abort of the second command is open
abbrev pub aborts_2 : FinMap nat_cmp ℕ
aborts_2 = map.insert map.empty 2 257

-- two numbers were accepted
abbrev pub accepted_2 : FinSet nat_cmp
accepted_2 = set.insert (set.insert set.empty 1) 2

-- the host with these, once it has returned so many frames and taken so many replies of each queue
abbrev pub host_with : List (Slot Request) → FinMap nat_cmp Cmd → FinMap nat_cmp ℕ → FinSet nat_cmp → ℕ → ℕ → ℕ → Host
host_with slots cmds aborts accepted frames first second =
    record (up_host 2) { pool = slots; cmds = cmds; aborts = aborts; accepted = accepted; returned = 64 + frames; indices = first ∷ second ∷ [] }

-- the identifiers of two commands
abbrev pub two_slots : List (Slot Request) → List (Slot Request)
two_slots slots = with_slot 1 (Open (request.Command 1)) (with_slot 2 (Open (request.Command 2)) slots)

-- a world with this host and this controller
abbrev pub world_of : Host → Ioc → World
world_of host ioc = record (one_disk 2) { host = host; ioc = ioc }

-- ---- two commands are accepted, and queued at the controller: the second one's answer is to come on the second queue

-- the host has both open, and their posts in its outbox
abbrev pub both_accepted : World
both_accepted = world_of (with_accepted (with_accepted (up_host 2) 1 A (command_named form.Tur) 0x0009 1) 2 A (command_named write) 0x0009 2) (up_ioc 2)

-- each gets the next identifier
pub commands_accepted : Goes (one_disk 2) (submit 1 A form.Tur ∷ submit 2 A write ∷ []) (entry.Accept 1 A 1 ∷ entry.Accept 2 A 2 ∷ []) both_accepted
unfolding operation_of
commands_accepted = record { shows = simp (members) refl; leaves = simp (members) refl }

-- the post of the first command
abbrev pub first_post : Post
first_post = command_post 0 1 0x0009 form.Tur

-- the host has put both posts
abbrev pub both_host : Host
both_host = host_with (two_slots all_free) cmds_2 map.empty accepted_2 0 0 0

-- the controller has both in its normal queue
abbrev pub both_queued : World
both_queued = world_of both_host (record (up_ioc 2) { normal = first_post ∷ command_post 1 2 0x0009 write ∷ [] })

-- the post of the second one names the second queue
pub commands_queued : Goes both_accepted (tells 2) [] both_queued
unfolding field scsi_io_layout scsi_io_values
commands_queued = record { shows = refl; leaves = refl }

-- ---- the second one is aborted

-- the host has the abort open, and its post in its outbox
abbrev pub abort_open : World
abort_open = record both_queued { host = with_abort_asked both_host 2 (cmd 2) 257 }

-- the abort is asked
pub abort_asked : Goes both_queued (Told (input.Abort 2) ∷ []) [] abort_open
abort_asked = record { shows = simp (gets) refl; leaves = simp (gets) refl }

-- the answer of the command that was stopped
abbrev pub terminated_reply : Said
terminated_reply = scsi_ended 2 0x0009 IOC_STATUS_SCSI_TASK_TERMINATED

-- each answer waits for its own queue
abbrev pub abort_processed : World
abort_processed =
    world_of (host_with (two_slots (with_slot 257 (Open (request.Abort 2 2)) all_free)) cmds_2 aborts_2 accepted_2 0 0 0)
    (record (up_ioc 2) { normal = first_post ∷ []; up = (framed 257 (task_ended 0x0009 abort_task IOC_STATUS_SUCCESS 1) ∷ []) ∷ (terminated_reply ∷ []) ∷ [] })

-- the abort finds its command in the queue
pub both_end : Goes abort_open (tells 1 ++ Chosen choice.IocHigh ∷ []) [] abort_processed
unfolding field task_ask_layout task_ask_values scsi_io_layout scsi_io_values
both_end = record { shows = refl; leaves = refl }

-- ---- the abort is answered first: the command's identifier stays open

-- no abort is open
abbrev pub aborts_none : FinMap nat_cmp ℕ
aborts_none = map.remove aborts_2 2

-- the abort is over, and the command is still open
abbrev pub abort_told : World
abort_told =
    world_of (took (host_with (two_slots all_free) cmds_2 aborts_none accepted_2 0 0 0) 0)
    (record (up_ioc 2) { normal = first_post ∷ []; up = [] ∷ (terminated_reply ∷ []) ∷ []; ring = range_with_len 1 63 })

-- the abort has stopped its command
pub abort_answered : Goes abort_processed (answers 1) (entry.AbortEnd 2 abort.Stopped ∷ []) abort_told
unfolding field task_reply_layout task_reply_values
abort_answered = record { shows = refl; leaves = refl }

-- a third command gets the next identifier
abbrev pub third_open : World
third_open = record abort_told { host = with_accepted abort_told.host 3 A (command_named form.Tur) 0x0009 3 }

-- the identifier of the second command is not given
pub open_isnt_given : Goes abort_told (submit 3 A form.Tur ∷ []) (entry.Accept 3 A 3 ∷ []) third_open
unfolding operation_of
open_isnt_given = record { shows = simp (members) refl; leaves = simp (members) refl }

-- ---- the command is answered on the second queue

-- the first and the third command are open
abbrev pub cmds_3 : FinMap nat_cmp Cmd
cmds_3 = map.remove (map.insert cmds_2 3 (cmd 3)) 2

-- the second command is answered, and its identifier has this slot
abbrev pub command_told : Slot Request → World
command_told slot =
    world_of
    (record (takes_entry (with_frame_back third_open.host 1) 1) {
      pool = with_slot 1 (Open (request.Command 1)) (with_slot 2 slot (with_slot 3 (Open (request.Command 3)) all_free));
      cmds = cmds_3;
    })
    (record (up_ioc 2) { normal = first_post ∷ []; ring = range_with_len 2 62 })

-- a reply of the second queue is put and taken
abbrev pub on_second : List Case
on_second = Chosen (choice.IocPutOn 1) ∷ Chosen (choice.HostTakeOn 1) ∷ []

-- no abort names it
pub no_second_abort : map.get aborts_none 2 ≡ None
no_second_abort = simp (gets) refl

-- the second command is told as terminated
pub command_answered : Goes third_open on_second (entry.Answer 2 outcome.Terminated ∷ []) (command_told Free)
unfolding field scsi_reply_layout scsi_reply_values
command_answered = record { shows = refl; leaves = ap (λ found. command_told (slot_after found)) no_second_abort }

-- a fourth command gets its identifier
abbrev pub fourth_open : World
fourth_open = record (command_told Free) { host = with_accepted (command_told Free).host 4 A (command_named form.Tur) 0x0009 2 }

-- the identifier is given again
pub free_is_given : Goes (command_told Free) (submit 4 A form.Tur ∷ []) (entry.Accept 4 A 2 ∷ []) fourth_open
unfolding operation_of
free_is_given = record { shows = simp (members) refl; leaves = simp (members) refl }
