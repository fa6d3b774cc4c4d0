-- The identifier of a command that was answered isn't given again while an abort of that command is open. Computed in pieces.
use Rattle.std.proofs.Common.{◌≡◌, List, [], ◌∷◌, None, refl}
use Rattle.std.specs.Prelude.{ℕ}
use Rattle.std.specs.FinMap.{gets}
use Rattle.std.specs.FinMap as map
use Rattle.std.specs.FinSet.{members}
use Rattle.mpi_layout.specs.Rows.{field}
use Rattle.mpt_trace.specs.Command.{command_named}
use Rattle.scsi_disk.specs.Operation.{operation_of}
use Rattle.scsi_msgs.specs.ScsiIo.{scsi_io_layout, scsi_io_values}
use Rattle.mpt_rules.specs.declared.request.Request.{Request}
use Rattle.smid_pool.specs.Pool.{Free, Open, Slot, all_free, with_slot}
use Rattle.mpt_rules.specs.Host.Replies.{slot_after}
use Rattle.std.specs.FinMap.{get-insert}
use Rattle.mpt_wire.specs.Messages.Fields.{success_descriptor}
use Rattle.scsi_msgs.specs.TaskReply.{task_reply_layout, task_reply_values}
use Rattle.scsi_msgs.specs.TaskAsk.{task_ask_layout, task_ask_values}
use Rattle.mpt_trace.specs.declared.choice.Choice.TheVariants as choice
use Rattle.mpt_trace.specs.declared.command_form.CommandForm.TheVariants as form
use Rattle.mpt_trace.specs.declared.entry.Entry.TheVariants as entry
use Rattle.mpt_trace.specs.declared.input.Input.TheVariants as input
use Rattle.mpt_trace.specs.declared.item.Up.TheVariants as up
use Rattle.mpt_trace.specs.declared.outcome.Outcome.TheVariants as outcome
use Rattle.mpt_rules.specs.declared.request.Request.TheVariants as request
use Rattle.std.proofs.Common.{ap}
use Rattle.std.specs.Cmp.{nat_cmp_total}
use Rattle.std.specs.Ordering.{nat_cmp}
use Rattle.mpt_rules.specs.Host.Parts.{Host}
use Rattle.mpt_rules.specs.Host.Inputs.{with_accepted}
use Rattle.std.specs.Prelude.{◌++◌}
use Rattle.std.specs.FinSet as set
use Rattle.std.specs.FinSet.{FinSet}
use Rattle.mpt_rules.specs.World.State.{World}
use Rattle.mpt_rules.specs.World.Cases.{Case, Chosen, Told}
use Rattle.mpt_rules.proofs.SchedulePieces.{Goes, and_then, answers, command_post, ioc_at, rounds, tells}
use Rattle.mpt_rules.proofs.WorldExampleParts.{A, one_disk, submit}
use Rattle.mpt_rules.specs.Host.Parts.{Cmd}
use Rattle.std.specs.FinMap.{FinMap}
use Rattle.mpt_rules.specs.Host.Inputs.{with_abort_asked}
use Rattle.mpt_rules.specs.Host.Replies.{takes_entry}
use Rattle.smid_pool.specs.Pool.{Parked}
use Rattle.mpt_trace.specs.declared.outcome.AbortOutcome.TheVariants as abort
use Rattle.mpt_trace.specs.declared.refusal.Refusal.TheVariants as refusal
use Rattle.mpt_trace.specs.declared.refusal.RefusedCall.TheVariants as call
use Rattle.mpt_rules.proofs.StoppedWrite.{aborts_none, accepted_1, cmd, cmds_none, host_with, nothing_open, stops, world_of, write_is_stopped}
use Rattle.mpt_trace.specs.declared.outcome.Outcome.{Outcome}

-- ---- a second command gets the identifier again, and is performed

-- the host has it open
abbrev second_open : World
second_open = record nothing_open { host = with_accepted nothing_open.host 2 A (command_named form.Tur) 0x0009 1 }

-- it gets the identifier that the first one had
second_accepted : Goes nothing_open (submit 2 A form.Tur ∷ []) (entry.Accept 2 A 1 ∷ []) second_open
unfolding operation_of
second_accepted = record { shows = simp (members) refl; leaves = simp (members) refl }

-- it alone is open
abbrev cmds_2 : FinMap nat_cmp Cmd
cmds_2 = map.insert cmds_none 2 (cmd 1)

-- two numbers were accepted
abbrev accepted_2 : FinSet nat_cmp
accepted_2 = set.insert accepted_1 2

-- the host has put its post
abbrev second_host : Host
second_host = host_with (with_slot 1 (Open (request.Command 2)) all_free) cmds_2 aborts_none accepted_2 2 2

-- its reply is on the lane
abbrev second_replied : World
second_replied = record (world_of second_host (ioc_at 2 2)) { up = (up.Reply (success_descriptor 1) None [] [] ∷ []) ∷ [] }

-- a command goes to its disk, and its answer to the host's lane
abbrev runs : ℕ → List Case
runs tag = rounds 1 (choice.IocNormal ∷ choice.IocOut ∷ choice.FabricTake ∷ choice.FabricRun tag ∷ choice.FabricPut ∷ choice.IocBack ∷ choice.IocPut ∷ [])

-- the disk performs it
second_runs : Goes second_open (tells 1 ++ runs 1) (entry.Run A 1 ∷ []) second_replied
unfolding field operation_of scsi_io_layout scsi_io_values
second_runs = record { shows = refl; leaves = refl }

-- ---- its abort is asked while the reply is on the lane

-- the host has the abort open, and its post in its outbox
abbrev second_aborted : World
second_aborted = record second_replied { host = with_abort_asked second_host 2 (cmd 1) 257 }

-- the command is still open, so the abort is asked
second_abort_asked : Goes second_replied (Told (input.Abort 2) ∷ []) [] second_aborted
second_abort_asked = record { shows = simp (gets) refl; leaves = simp (gets) refl }

-- ---- the command is answered, and its identifier is parked

-- the abort is open
abbrev aborts_2 : FinMap nat_cmp ℕ
aborts_2 = map.insert aborts_none 2 257

-- the command is answered, and its identifier has this slot
abbrev second_over : Slot Request → World
second_over slot =
    world_of
    (record (takes_entry (with_abort_asked second_host 2 (cmd 1) 257) 0) {
      pool = with_slot 1 slot (with_slot 257 (Open (request.Abort 2 1)) all_free);
      cmds = map.remove cmds_2 2;
    })
    (ioc_at 2 2)

-- the command is done, and its identifier parked
identifier_parked : Goes second_aborted (Chosen choice.HostTake ∷ [])
    (entry.Answer 2 (outcome.Done (record { status = 0; payload = []; sense = [] })) ∷ []) (second_over Parked)
unfolding field task_ask_layout task_ask_values
identifier_parked = record { shows = refl; leaves = ap (λ found. second_over (slot_after found)) (get-insert nat_cmp_total aborts_none 2 257 2) }

-- ---- a third command gets the next identifier

-- the host has it open
abbrev third_open : World
third_open = record (second_over Parked) { host = with_accepted (second_over Parked).host 3 A (command_named form.Tur) 0x0009 2 }

-- the parked identifier is not given
parked_isnt_given : Goes (second_over Parked) (submit 3 A form.Tur ∷ []) (entry.Accept 3 A 2 ∷ []) third_open
unfolding operation_of
parked_isnt_given = record { shows = simp (members) refl; leaves = simp (members) refl }

-- ---- the abort finds nothing, and the parked identifier is free

-- the third command is open
abbrev cmds_3 : FinMap nat_cmp Cmd
cmds_3 = map.insert (map.remove cmds_2 2) 3 (cmd 2)

-- no abort is open
abbrev aborts_over : FinMap nat_cmp ℕ
aborts_over = map.remove aborts_2 2

-- three numbers were accepted
abbrev accepted_3 : FinSet nat_cmp
accepted_3 = set.insert accepted_2 3

-- the host: the identifier of the third command has this slot
abbrev third_host : Slot Request → Host
third_host slot = host_with (with_slot 2 slot all_free) cmds_3 aborts_over accepted_3 3 4

-- the controller has the third command in its queue
abbrev third_queued : World
third_queued = world_of (third_host (Open (request.Command 3))) (record (ioc_at 3 4) { normal = command_post 0 2 0x0009 form.Tur ∷ [] })

-- the command was done before its abort was processed
abort_finds_nothing : Goes third_open (tells 3 ++ Chosen choice.IocHigh ∷ answers 1 ++ tells 2) (entry.AbortEnd 2 abort.NotFound ∷ []) third_queued
unfolding field task_ask_layout task_ask_values task_reply_layout task_reply_values scsi_io_layout scsi_io_values
abort_finds_nothing = record { shows = refl; leaves = refl }

-- ---- the third command is performed

-- the third command is answered, and its identifier has this slot
abbrev third_over : Slot Request → World
third_over slot =
    world_of (host_with (with_slot 2 slot all_free) (map.remove cmds_3 3) aborts_over accepted_3 3 5) (ioc_at 3 5)

-- no abort names it
no_third_abort : map.get aborts_over 3 ≡ None
no_third_abort = simp (gets) refl

-- it is done
third_runs : Goes third_queued (runs 2 ++ Chosen choice.HostTake ∷ tells 1)
    (entry.Run A 2 ∷ entry.Answer 3 (outcome.Done (record { status = 0; payload = []; sense = [] })) ∷ []) (third_over Free)
unfolding field operation_of scsi_io_layout scsi_io_values
third_runs = record { shows = refl; leaves = ap (λ found. third_over (slot_after found)) no_third_abort }

-- ---- a fourth command gets the least identifier again

-- the host has it open
abbrev fourth_open : World
fourth_open = record (third_over Free) { host = with_accepted (third_over Free).host 4 A (command_named form.Tur) 0x0009 1 }

-- the identifier that was parked is given again
fourth_accepted : Goes (third_over Free) (submit 4 A form.Tur ∷ []) (entry.Accept 4 A 1 ∷ []) fourth_open
unfolding operation_of
fourth_accepted = record { shows = simp (members) refl; leaves = simp (members) refl }

-- the fourth command is answered, and its identifier has this slot
abbrev fourth_over : Slot Request → World
fourth_over slot =
    world_of
    (host_with (with_slot 1 slot all_free) (map.remove (map.insert (map.remove cmds_3 3) 4 (cmd 1)) 4) aborts_over (set.insert accepted_3 4) 3 6)
    (ioc_at 3 6)

-- no abort names it
no_fourth_abort : map.get aborts_over 4 ≡ None
no_fourth_abort = simp (gets) refl

-- it is done
fourth_runs : Goes fourth_open (tells 1 ++ runs 1 ++ Chosen choice.HostTake ∷ tells 1)
    (entry.Run A 1 ∷ entry.Answer 4 (outcome.Done (record { status = 0; payload = []; sense = [] })) ∷ []) (fourth_over Free)
unfolding field operation_of scsi_io_layout scsi_io_values
fourth_runs = record { shows = refl; leaves = ap (λ found. fourth_over (slot_after found)) no_fourth_abort }

-- ---- all of it

-- the pieces one after the other
abbrev parks : List Case
parks =
    submit 2 A form.Tur ∷ tells 1 ++ runs 1 ++ Told (input.Abort 2) ∷ Chosen choice.HostTake ∷ submit 3 A form.Tur
    ∷ tells 3 ++ Chosen choice.IocHigh ∷ answers 1 ++ tells 2 ++ runs 2 ++ Chosen choice.HostTake ∷ tells 1
    ++ submit 4 A form.Tur ∷ tells 1 ++ runs 1 ++ Chosen choice.HostTake ∷ tells 1

-- an answer of TEST UNIT READY
abbrev good : Outcome
good = outcome.Done (record { status = 0; payload = []; sense = [] })

-- what a short report shows of them, and of the first write before
the_identifier_is_parked : Goes (one_disk 1) (stops ++ parks)
    (entry.Accept 1 A 1 ∷ entry.Answer 1 outcome.Terminated ∷ entry.AbortEnd 1 abort.Stopped ∷ entry.Refuse (call.Abort 1) refusal.NotOpen
    ∷ entry.Accept 2 A 1 ∷ entry.Run A 1 ∷ entry.Answer 2 good ∷ entry.Accept 3 A 2 ∷ entry.AbortEnd 2 abort.NotFound
    ∷ entry.Run A 2 ∷ entry.Answer 3 good ∷ entry.Accept 4 A 1 ∷ entry.Run A 1 ∷ entry.Answer 4 good ∷ []) (fourth_over Free)
the_identifier_is_parked =
    and_then write_is_stopped (and_then second_accepted (and_then second_runs (and_then second_abort_asked (and_then identifier_parked
    (and_then parked_isnt_given (and_then abort_finds_nothing (and_then third_runs (and_then fourth_accepted fourth_runs))))))))
