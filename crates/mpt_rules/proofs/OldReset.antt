-- The target reset of a handle whose disk is gone leaves a new command for that disk alone. Computed in pieces.
use Rattle.std.proofs.Common.{List, [], ◌∷◌, None, refl}
use Rattle.std.specs.Prelude.{ℕ}
use Rattle.std.specs.FinMap as map
use Rattle.std.specs.FinSet.{members}
use Rattle.mpi_layout.specs.Rows.{field}
use Rattle.mpt_messages.specs.declared.host_ask.HostAsk.TheVariants as ask
use Rattle.mpt_trace.specs.Command.{command_named}
use Rattle.ioc_msgs.specs.UnitControl.{unit_control_layout, unit_control_values}
use Rattle.scsi_disk.specs.Operation.{operation_of}
use Rattle.scsi_msgs.specs.ScsiIo.{scsi_io_layout, scsi_io_values}
use Rattle.mpt_rules.specs.declared.request.Request.{Request}
use Rattle.smid_pool.specs.Pool.{Free, Open, Slot, all_free, with_slot}
use Rattle.mpt_rules.specs.Host.Replies.{slot_after}
use Rattle.std.specs.FinMap.{get-empty}
use Rattle.scsi_msgs.specs.TaskReply.{task_reply_layout, task_reply_values}
use Rattle.ioc_msgs.specs.UnitControlReply.{unit_control_reply_layout, unit_control_reply_values}
use Rattle.scsi_msgs.specs.TaskAsk.{task_ask_layout, task_ask_values}
use Rattle.mpt_trace.specs.declared.choice.Choice.TheVariants as choice
use Rattle.mpt_trace.specs.declared.command_form.CommandForm.TheVariants as form
use Rattle.mpt_trace.specs.declared.entry.Entry.TheVariants as entry
use Rattle.mpt_trace.specs.declared.input.Input.TheVariants as input
use Rattle.mpt_trace.specs.declared.outcome.Outcome.TheVariants as outcome
use Rattle.mpt_rules.specs.declared.binding.Binding.TheVariants as binding
use Rattle.mpt_rules.specs.declared.post.Post.{Post}
use Rattle.mpt_rules.specs.declared.request.Request.TheVariants as request
use Rattle.std.proofs.Common.{ap}
use Rattle.std.specs.Ordering.{nat_cmp}
use Rattle.mpt_rules.specs.Host.Parts.{Host}
use Rattle.mpt_rules.specs.Host.Inputs.{with_accepted}
use Rattle.mpt_rules.specs.Ioc.Parts.{Ioc}
use Rattle.mpt_rules.specs.Ioc.Tables.{with_binding}
use Rattle.std.specs.Prelude.{◌++◌}
use Rattle.std.specs.FinSet as set
use Rattle.removal.specs.declared.phase.Phase.{Phase}
use Rattle.removal.specs.declared.phase.Phase.TheVariants as phase
use Rattle.mpt_rules.specs.declared.status.TheConstants.{IOC_STATUS_SUCCESS}
use Rattle.mpt_rules.specs.declared.said.Said.{Said}
use Rattle.mpt_rules.specs.World.State.{World}
use Rattle.mpt_rules.specs.World.Cases.{Case, Chosen, Told}
use Rattle.mpt_rules.proofs.SchedulePieces.{Goes, and_then, answers, default_post, host_at, ioc_at, rounds, tells}
use Rattle.mpt_rules.proofs.WorldExampleParts.{A, one_disk, submit}
use Rattle.mpt_wire.specs.Messages.Fields.{target_reset}
use Rattle.mpt_rules.specs.declared.at_fabric.AtFabric.TheVariants as at
use Rattle.mpt_rules.specs.Ioc.Replies.{framed, task_ended}
use Rattle.mpt_rules.specs.Ioc.Tables.{with_request}
use Rattle.mpt_rules.specs.declared.task.Task.{Task}
use Rattle.mpt_trace.specs.declared.item.Back.TheVariants as back
use Rattle.mpt_trace.specs.declared.outcome.TargetOutcome.TheVariants as target
use Rattle.mpt_rules.specs.declared.said.Said.TheVariants as said
use Rattle.mpt_rules.specs.Host.Parts.{Cmd}
use Rattle.mpt_rules.proofs.PluggedAgain.{again, disk_plugged_again, fabric_with, leave_post, leaving, none_unacked, phases_of, ready, ready_host, with_both, world_of}
use Rattle.mpt_rules.specs.declared.at_fabric.AtFabric.{AtFabric}
use Rattle.std.specs.FinMap.{FinMap}

-- ---- a command for the disk, under its new handle

-- the host has it open
abbrev command_open : World
command_open = world_of (with_accepted ready_host 1 A (command_named form.Tur) 0x000a 1) ready.ioc (fabric_with [] [])

-- it is for the new handle
command_accepted : Goes ready (submit 1 A form.Tur ∷ []) (entry.Accept 1 A 1 ∷ []) command_open
unfolding operation_of
command_accepted = record { shows = simp (members) refl; leaves = simp (members) refl }

-- ---- it goes to the disk

-- the host with these further identifiers, whose old handle is in this phase, and with these open submissions
abbrev host_with : List (Slot Request) → Phase → FinMap nat_cmp Cmd → ℕ → ℕ → Host
host_with slots old cmds frames replies =
    record (host_at slots (phases_of old (phase.Ready A)) frames replies) { cmds = cmds; accepted = set.insert set.empty 1 }

-- the one submission that is open
abbrev one_cmd : FinMap nat_cmp Cmd
one_cmd = map.insert map.empty 1 (record { smid = 1; handle = 0x000a })

-- the host that waits for it, and for the target reset of the old handle
abbrev sending_host : Host
sending_host = host_with (with_slot 1 (Open (request.Command 1)) (leaving all_free)) (phase.Resetting 257) one_cmd 5 5

-- the controller with these posts and replies
abbrev ioc_with : List Post → List Post → List Said → ℕ → ℕ → Ioc
ioc_with high normal outbox frames replies =
    record (with_both (ioc_at frames replies)) { unacked = none_unacked; high = high; normal = normal; up = outbox ∷ [] }

-- what the controller keeps of the command
abbrev at_disk : AtFabric
at_disk = at.Command 0x000a 0 0 None

-- the task at the fabric
abbrev task : Task
task = record { tag = 1; address = A; command = command_named form.Tur }

-- the task is queued at the fabric, and the target reset still waits in the high queue
abbrev command_sent : World
command_sent = world_of sending_host (with_request (ioc_with (leave_post ∷ []) [] [] 5 5) 1 at_disk) (fabric_with (task ∷ []) [])

-- the host puts all that it has, and the command goes to the fabric
abbrev sends : List Case
sends = tells 7 ++ rounds 1 (choice.IocNormal ∷ choice.IocOut ∷ choice.FabricTake ∷ [])

-- nothing is told of it
command_goes : Goes command_open sends [] command_sent
unfolding field scsi_io_layout scsi_io_values
command_goes = record { shows = refl; leaves = refl }

-- ---- the old handle's target reset is processed: it is answered at once, and the task stays at the disk

-- the answer: no command was ended
abbrev leave_reply : Said
leave_reply = framed 257 (task_ended 0x0009 target_reset IOC_STATUS_SUCCESS 0)

-- the task is queued as before
abbrev command_spared : World
command_spared = world_of sending_host (with_request (ioc_with [] [] (leave_reply ∷ []) 5 5) 1 at_disk) (fabric_with (task ∷ []) [])

-- the target reset is processed; nothing goes to the fabric
abbrev resets_old : List Case
resets_old = rounds 1 (choice.IocHigh ∷ choice.IocOut ∷ choice.FabricTake ∷ [])

-- the task stays, and nothing is told
old_reset_spares_the_new_command : Goes command_sent resets_old [] command_spared
unfolding field task_ask_layout task_ask_values
old_reset_spares_the_new_command = record { shows = refl; leaves = refl }

-- ---- it runs

-- the result waits at the fabric
abbrev command_run : World
command_run = record command_spared { fabric = fabric_with [] (back.Result 1 (record { status = 0; payload = []; sense = [] }) ∷ []) }

-- the disk performs it
command_runs : Goes command_spared (Chosen (choice.FabricRun 1) ∷ []) (entry.Run A 1 ∷ []) command_run
unfolding operation_of
command_runs = record { shows = refl; leaves = refl }

-- ---- a target reset of the new handle is asked, and finds no task

-- the target reset goes to the fabric, which first tells the result
abbrev asks : List Case
asks = Told (input.TargetReset A) ∷ tells 1 ++ rounds 1 (choice.IocHigh ∷ choice.IocOut ∷ choice.FabricTake ∷ choice.FabricPut ∷ choice.IocBack ∷ [])

-- the controller has the answers of the first target reset and of the command
abbrev asked : World
asked =
    world_of (record sending_host { pool = with_slot 258 (Open (request.TargetReset A)) sending_host.pool })
    (with_request (ioc_with [] [] (leave_reply ∷ said.Success 1 [] [] ∷ []) 5 5) 258 (at.TargetReset 0x000a)) (fabric_with [] (back.Cleared 258 0 ∷ []))

-- the fabric finds no task to end
new_reset_asked : Goes command_run asks [] asked
unfolding field task_ask_layout task_ask_values
new_reset_asked = record { shows = refl; leaves = refl }

-- ---- the removal goes on, and the command is answered

-- the remove device of the old handle
abbrev remove_post : Post
remove_post = default_post 265 (ask.Remove 0x0009)

-- the command is answered, and its identifier has this slot
abbrev answered : Slot Request → World
answered slot =
    world_of
    (host_with (with_slot 1 slot (with_slot 258 (Open (request.TargetReset A)) (with_slot 265 (Open (request.Remove 0x0009)) all_free))) (phase.Removing 265) (map.remove one_cmd 1) 6 7)
    (with_request (ioc_with [] (remove_post ∷ []) [] 6 7) 258 (at.TargetReset 0x000a)) (fabric_with [] (back.Cleared 258 0 ∷ []))

-- the command is done
command_answered : Goes asked (answers 2 ++ tells 4) (entry.Answer 1 (outcome.Done (record { status = 0; payload = []; sense = [] })) ∷ []) (answered Free)
unfolding field task_reply_layout task_reply_values unit_control_layout unit_control_values
command_answered = record { shows = refl; leaves = ap (λ slot. answered (slot_after slot)) (get-empty nat_cmp 1) }

-- ---- the target reset is answered

-- only the removal is open
abbrev reset_told : World
reset_told =
    world_of (host_with (with_slot 265 (Open (request.Remove 0x0009)) all_free) (phase.Removing 265) (map.remove one_cmd 1) 7 8)
    (ioc_with [] (remove_post ∷ []) [] 7 8) (fabric_with [] [])

-- the target reset has ended no command
reset_answered : Goes (answered Free) (rounds 1 (choice.FabricPut ∷ choice.IocBack ∷ []) ++ answers 1 ++ tells 2) (entry.TargetEnd A (target.Done 0) ∷ []) reset_told
unfolding field task_reply_layout task_reply_values
reset_answered = record { shows = refl; leaves = refl }

-- ---- the old handle is removed

-- nothing is open, and the old handle stands for nothing
abbrev removed_old : World
removed_old =
    world_of (host_with all_free phase.Absent (map.remove one_cmd 1) 8 9)
    (with_binding (ioc_with [] [] [] 8 9) 0x0009 binding.Unbound) (fabric_with [] [])

-- the old handle is unbound
old_handle_removed : Goes reset_told (rounds 1 (choice.IocNormal ∷ []) ++ answers 1 ++ tells 2) (entry.Unbind 0x0009 ∷ []) removed_old
unfolding field unit_control_layout unit_control_values unit_control_reply_layout unit_control_reply_values
old_handle_removed = record { shows = refl; leaves = refl }

-- ---- all of it

-- the pieces one after the other
abbrev old_reset : List Case
old_reset =
    submit 1 A form.Tur ∷ sends ++ resets_old ++ Chosen (choice.FabricRun 1) ∷ asks ++ answers 2 ++ tells 4
    ++ rounds 1 (choice.FabricPut ∷ choice.IocBack ∷ []) ++ answers 1 ++ tells 2 ++ rounds 1 (choice.IocNormal ∷ []) ++ answers 1 ++ tells 2

-- what a short report shows of them: the new command is done
the_new_command_is_done : Goes (one_disk 1) (again ++ old_reset)
    (entry.Bind 0x000a A 2 ∷ entry.Lost A 0x0009 ∷ entry.Ready A 0x000a ∷ entry.Accept 1 A 1 ∷ entry.Run A 1
    ∷ entry.Answer 1 (outcome.Done (record { status = 0; payload = []; sense = [] })) ∷ entry.TargetEnd A (target.Done 0) ∷ entry.Unbind 0x0009 ∷ []) removed_old
the_new_command_is_done =
    and_then disk_plugged_again (and_then command_accepted (and_then command_goes (and_then old_reset_spares_the_new_command
    (and_then command_runs (and_then new_reset_asked (and_then command_answered (and_then reset_answered old_handle_removed)))))))
