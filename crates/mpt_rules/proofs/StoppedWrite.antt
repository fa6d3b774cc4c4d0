-- A write that is still queued at the controller is aborted: it is terminated, and its abort stopped it. Computed in pieces.
use Rattle.std.proofs.Common.{List, [], ◌∷◌, refl}
use Rattle.std.specs.Prelude.{ℕ}
use Rattle.std.specs.FinMap.{gets}
use Rattle.std.specs.FinMap as map
use Rattle.std.specs.FinSet.{members}
use Rattle.mpi_layout.specs.Rows.{field}
use Rattle.mpt_trace.specs.Command.{command_named}
use Rattle.scsi_disk.specs.Operation.{operation_of}
use Rattle.scsi_msgs.specs.ScsiIo.{scsi_io_layout, scsi_io_values}
use Rattle.mpt_rules.specs.declared.request.Request.{Request}
use Rattle.smid_pool.specs.Pool.{Open, Slot, all_free, with_slot}
use Rattle.mpt_rules.specs.Host.Replies.{slot_after}
use Rattle.std.specs.FinMap.{get-insert}
use Rattle.scsi_msgs.specs.TaskReply.{task_reply_layout, task_reply_values}
use Rattle.scsi_msgs.specs.ScsiReply.{scsi_reply_layout, scsi_reply_values}
use Rattle.scsi_msgs.specs.TaskAsk.{task_ask_layout, task_ask_values}
use Rattle.mpt_trace.specs.declared.choice.Choice.TheVariants as choice
use Rattle.mpt_trace.specs.declared.command_form.CommandForm.{CommandForm}
use Rattle.mpt_trace.specs.declared.command_form.CommandForm.TheVariants as form
use Rattle.mpt_trace.specs.declared.entry.Entry.TheVariants as entry
use Rattle.mpt_trace.specs.declared.input.Input.TheVariants as input
use Rattle.mpt_trace.specs.declared.outcome.Outcome.TheVariants as outcome
use Rattle.mpt_rules.specs.declared.request.Request.TheVariants as request
use Rattle.std.proofs.Common.{ap}
use Rattle.std.specs.Cmp.{nat_cmp_total}
use Rattle.std.specs.Ordering.{nat_cmp}
use Rattle.mpt_rules.specs.Host.Parts.{Host}
use Rattle.mpt_rules.specs.Host.Inputs.{with_accepted}
use Rattle.mpt_rules.specs.Ioc.Parts.{Ioc}
use Rattle.std.specs.Prelude.{◌++◌}
use Rattle.std.specs.List.{range_with_len}
use Rattle.std.specs.FinSet as set
use Rattle.std.specs.FinSet.{FinSet}
use Rattle.removal.specs.Handles.{all_absent, with_phase}
use Rattle.removal.specs.declared.phase.Phase.TheVariants as phase
use Rattle.mpt_rules.specs.declared.status.TheConstants.{IOC_STATUS_SUCCESS}
use Rattle.mpt_rules.specs.declared.said.Said.{Said}
use Rattle.mpt_rules.specs.World.State.{World}
use Rattle.mpt_rules.specs.World.Cases.{Case, Chosen, Told}
use Rattle.mpt_rules.proofs.SchedulePieces.{Goes, and_then, answers, command_post, host_at, ioc_at, tells, took}
use Rattle.mpt_rules.proofs.WorldExampleParts.{A, one_disk, submit, up_host, up_ioc}
use Rattle.mpt_rules.specs.Ioc.Replies.{framed, task_ended}
use Rattle.mpt_rules.specs.Host.Parts.{Cmd}
use Rattle.std.specs.FinMap.{FinMap}
use Rattle.mpt_wire.specs.Messages.Fields.{abort_task}
use Rattle.mpt_rules.specs.Host.Inputs.{with_abort_asked}
use Rattle.smid_pool.specs.Pool.{Parked}
use Rattle.mpt_trace.specs.declared.outcome.AbortOutcome.TheVariants as abort
use Rattle.mpt_trace.specs.declared.refusal.Refusal.TheVariants as refusal
use Rattle.mpt_trace.specs.declared.refusal.RefusedCall.TheVariants as call
use Rattle.mpt_rules.specs.Ioc.Replies.{scsi_ended}
use Rattle.mpt_rules.specs.declared.status.TheConstants.{IOC_STATUS_SCSI_TASK_TERMINATED}

-- ---- the worlds of this schedule

-- the open submissions, the open aborts and the accepted numbers, one after the other
abbrev pub cmd : ℕ → Cmd
cmd smid = record { smid = smid; handle = 0x0009 }

-- the write is open
abbrev pub cmds_1 : FinMap nat_cmp Cmd
cmds_1 = map.insert map.empty 1 (cmd 1)

-- its abort is open
abbrev pub aborts_1 : FinMap nat_cmp ℕ
aborts_1 = map.insert map.empty 1 257

-- its number was accepted
abbrev pub accepted_1 : FinSet nat_cmp
accepted_1 = set.insert set.empty 1

-- the host with these
abbrev pub host_with : List (Slot Request) → FinMap nat_cmp Cmd → FinMap nat_cmp ℕ → FinSet nat_cmp → ℕ → ℕ → Host
host_with slots cmds aborts accepted frames replies =
    record (host_at slots (with_phase all_absent 0x0009 (phase.Ready A)) frames replies) { cmds = cmds; aborts = aborts; accepted = accepted }

-- a world with this host and this controller
abbrev pub world_of : Host → Ioc → World
world_of host ioc = record (one_disk 1) { host = host; ioc = ioc }

-- a write of one block
abbrev pub write : CommandForm
write = form.Write 0 1 0x11

-- ---- a write is accepted, and queued at the controller

-- the host has it open, and its post in its outbox
abbrev pub write_open : World
write_open = world_of (with_accepted (up_host 1) 1 A (command_named write) 0x0009 1) (up_ioc 1)

-- it gets the least identifier
write_accepted : Goes (one_disk 1) (submit 1 A write ∷ []) (entry.Accept 1 A 1 ∷ []) write_open
unfolding operation_of
write_accepted = record { shows = simp (members) refl; leaves = simp (members) refl }

-- the host has put the post
abbrev pub first_host : Host
first_host = host_with (with_slot 1 (Open (request.Command 1)) all_free) cmds_1 map.empty accepted_1 0 0

-- the controller has it in its normal queue
abbrev pub write_queued : World
write_queued = world_of first_host (record (up_ioc 1) { normal = command_post 0 1 0x0009 write ∷ [] })

-- nothing is told of it
write_posted : Goes write_open (tells 1) [] write_queued
unfolding field scsi_io_layout scsi_io_values
write_posted = record { shows = refl; leaves = refl }

-- ---- it is aborted

-- the host has the abort open, and its post in its outbox
abbrev pub abort_open : World
abort_open = record write_queued { host = with_abort_asked first_host 1 (cmd 1) 257 }

-- the abort is asked
abort_asked : Goes write_queued (Told (input.Abort 1) ∷ []) [] abort_open
abort_asked = record { shows = simp (gets) refl; leaves = simp (gets) refl }

-- the reply to an abort that ended so many commands
abbrev pub abort_reply : ℕ → Said
abort_reply count = framed 257 (task_ended 0x0009 abort_task IOC_STATUS_SUCCESS count)

-- the identifiers: the one of the write has this slot, and the abort has its own
abbrev pub two_slots : Slot Request → List (Slot Request)
two_slots slot = with_slot 1 slot (with_slot 257 (Open (request.Abort 1 1)) all_free)

-- the write is off the queue, and both are answered
abbrev pub write_stopped : World
write_stopped =
    world_of (host_with (two_slots (Open (request.Command 1))) cmds_1 aborts_1 accepted_1 0 0)
    (record (up_ioc 1) { up = (scsi_ended 1 0x0009 IOC_STATUS_SCSI_TASK_TERMINATED ∷ abort_reply 1 ∷ []) ∷ [] })

-- the abort finds the write in the queue
abort_processed : Goes abort_open (tells 1 ++ Chosen choice.IocHigh ∷ []) [] write_stopped
unfolding field task_ask_layout task_ask_values scsi_io_layout scsi_io_values
abort_processed = record { shows = refl; leaves = refl }

-- ---- it is answered, and its identifier is parked until the abort is

-- the write is answered, and its identifier has this slot
abbrev pub parked : Slot Request → World
parked slot =
    world_of (took (host_with (two_slots slot) (map.remove cmds_1 1) aborts_1 accepted_1 0 0) 0)
    (record (up_ioc 1) { up = (abort_reply 1 ∷ []) ∷ []; ring = range_with_len 1 63 })

-- an abort of the write is open, so its identifier is parked
write_terminated : Goes write_stopped (answers 1) (entry.Answer 1 outcome.Terminated ∷ []) (parked Parked)
unfolding field scsi_reply_layout scsi_reply_values
write_terminated = record { shows = refl; leaves = ap (λ found. parked (slot_after found)) (get-insert nat_cmp_total map.empty 1 257 1) }

-- ---- the abort is answered, and nothing is open

-- no submission is open
abbrev pub cmds_none : FinMap nat_cmp Cmd
cmds_none = map.remove cmds_1 1

-- no abort is open
abbrev pub aborts_none : FinMap nat_cmp ℕ
aborts_none = map.remove aborts_1 1

-- the host has all identifiers free
abbrev pub nothing_open : World
nothing_open = world_of (host_with all_free cmds_none aborts_none accepted_1 2 2) (ioc_at 2 2)

-- the abort has stopped the write, and the parked identifier is free
abort_stopped : Goes (parked Parked) (answers 1 ++ tells 4) (entry.AbortEnd 1 abort.Stopped ∷ []) nothing_open
unfolding field task_reply_layout task_reply_values
abort_stopped = record { shows = refl; leaves = refl }

-- a second abort is refused
abort_refused : Goes nothing_open (Told (input.Abort 1) ∷ []) (entry.Refuse (call.Abort 1) refusal.NotOpen ∷ []) nothing_open
abort_refused = record { shows = simp (gets) refl; leaves = simp (gets) refl }

-- ---- all of it

-- the pieces one after the other
abbrev pub stops : List Case
stops = submit 1 A write ∷ tells 1 ++ Told (input.Abort 1) ∷ tells 1 ++ Chosen choice.IocHigh ∷ answers 2 ++ tells 4 ++ Told (input.Abort 1) ∷ []

-- what a short report shows of them
pub write_is_stopped : Goes (one_disk 1) stops
    (entry.Accept 1 A 1 ∷ entry.Answer 1 outcome.Terminated ∷ entry.AbortEnd 1 abort.Stopped ∷ entry.Refuse (call.Abort 1) refusal.NotOpen ∷ []) nothing_open
write_is_stopped =
    and_then write_accepted (and_then write_posted (and_then abort_asked (and_then abort_processed (and_then write_terminated (and_then abort_stopped abort_refused)))))
