-- Two reply queues: an abort was answered before its command, and the commands that are left are performed. Computed in pieces.
use Rattle.std.proofs.Common.{◌≡◌, List, [], ◌∷◌, None, refl}
use Rattle.std.specs.Prelude.{ℕ}
use Rattle.std.specs.FinMap.{gets}
use Rattle.std.specs.FinMap as map
use Rattle.mpi_layout.specs.Rows.{field}
use Rattle.scsi_disk.specs.Operation.{operation_of}
use Rattle.scsi_msgs.specs.ScsiIo.{scsi_io_layout, scsi_io_values}
use Rattle.mpt_rules.specs.declared.request.Request.{Request}
use Rattle.smid_pool.specs.Pool.{Free, Open, Slot, all_free, with_slot}
use Rattle.mpt_rules.specs.Host.Replies.{slot_after}
use Rattle.mpt_trace.specs.declared.choice.Choice.TheVariants as choice
use Rattle.mpt_trace.specs.declared.command_form.CommandForm.TheVariants as form
use Rattle.mpt_trace.specs.declared.entry.Entry.TheVariants as entry
use Rattle.mpt_trace.specs.declared.input.Input.TheVariants as input
use Rattle.mpt_trace.specs.declared.outcome.Outcome.TheVariants as outcome
use Rattle.mpt_rules.specs.declared.post.Post.{Post}
use Rattle.mpt_rules.specs.declared.request.Request.TheVariants as request
use Rattle.std.proofs.Common.{ap}
use Rattle.std.specs.Ordering.{nat_cmp}
use Rattle.std.specs.Prelude.{◌++◌}
use Rattle.std.specs.List.{range_with_len}
use Rattle.std.specs.FinSet as set
use Rattle.std.specs.FinSet.{FinSet}
use Rattle.mpt_rules.specs.World.State.{World}
use Rattle.mpt_rules.specs.World.Cases.{Case, Chosen, Told}
use Rattle.mpt_rules.proofs.SchedulePieces.{Goes, and_then, answers, command_post, rounds, tells}
use Rattle.mpt_rules.proofs.WorldExampleParts.{A, one_disk, submit, up_ioc}
use Rattle.mpt_rules.specs.Host.Parts.{Cmd}
use Rattle.std.specs.FinMap.{FinMap}
use Rattle.mpt_trace.specs.declared.outcome.AbortOutcome.TheVariants as abort
use Rattle.mpt_rules.specs.Host.Replies.{index_value}
use Rattle.mpt_rules.proofs.SchedulePieces.{door_after}
use Rattle.mpt_rules.proofs.AbortBeforeCommand.{write, good, cmd, accepted_2, host_with, world_of, commands_accepted, first_post, commands_queued, abort_asked, both_end, aborts_none, abort_answered, open_isnt_given, cmds_3, on_second, command_answered, fourth_open, free_is_given}

-- ---- the three commands that are left are performed

-- the post of the third command
abbrev third_post : Post
third_post = command_post 0 3 0x0009 form.Tur

-- the post of the fourth command, whose answer is to come on the second queue
abbrev fourth_post : Post
fourth_post = command_post 1 2 0x0009 form.Tur

-- three commands are open
abbrev cmds_4 : FinMap nat_cmp Cmd
cmds_4 = map.insert cmds_3 4 (cmd 2)

-- four numbers were accepted
abbrev accepted_4 : FinSet nat_cmp
accepted_4 = set.insert (set.insert accepted_2 3) 4

-- the slots of the first three identifiers
abbrev slots : Slot Request → Slot Request → Slot Request → List (Slot Request)
slots a b c = with_slot 1 a (with_slot 2 b (with_slot 3 c all_free))

-- the host has taken so many replies of each queue, and the controller has these posts, and this number in ReplyPostHostIndex
abbrev left_with : List (Slot Request) → FinMap nat_cmp Cmd → ℕ → ℕ → List Post → ℕ → World
left_with slots cmds first second posts told =
    world_of (host_with slots cmds aborts_none accepted_4 2 first second)
    (record (up_ioc 2) { normal = posts; ring = range_with_len 2 62 ++ range_with_len 0 2; door = door_after told })

-- the controller has all three in its queue
abbrev all_queued : World
all_queued =
    left_with (slots (Open (request.Command 1)) (Open (request.Command 4)) (Open (request.Command 3))) cmds_4 1 1 (first_post ∷ third_post ∷ fourth_post ∷ []) (index_value 1 1)

-- nothing is told of it
rest_queued : Goes fourth_open (tells 6) [] all_queued
unfolding field scsi_io_layout scsi_io_values
rest_queued = record { shows = refl; leaves = refl }

-- a command goes to its disk and back, up to the controller's outbox
abbrev goes : ℕ → List Case
goes tag = rounds 1 (choice.IocNormal ∷ choice.IocOut ∷ choice.FabricTake ∷ choice.FabricRun tag ∷ choice.FabricPut ∷ choice.IocBack ∷ [])

-- the identifier of a command that no abort names is free
no_abort : (n : ℕ) → map.get aborts_none n ≡ None → slot_after (map.get aborts_none n) ≡ Free
no_abort n e = ap slot_after e

-- the first command is answered, and its identifier has this slot
abbrev first_over : Slot Request → World
first_over slot =
    left_with (slots slot (Open (request.Command 4)) (Open (request.Command 3))) (map.remove cmds_4 1) 2 1 (third_post ∷ fourth_post ∷ []) (index_value 0 2)

-- it is done
first_runs : Goes all_queued (goes 1 ++ answers 1 ++ tells 1) (entry.Run A 1 ∷ entry.Answer 1 good ∷ []) (first_over Free)
unfolding field operation_of scsi_io_layout scsi_io_values
first_runs = record { shows = refl; leaves = ap first_over (no_abort 1 (simp (gets) refl)) }

-- the third command is answered, and its identifier has this slot
abbrev third_over : Slot Request → World
third_over slot =
    left_with (slots Free (Open (request.Command 4)) slot) (map.remove (map.remove cmds_4 1) 3) 3 1 (fourth_post ∷ []) (index_value 0 3)

-- it is done
third_runs : Goes (first_over Free) (goes 3 ++ answers 1 ++ tells 1) (entry.Run A 3 ∷ entry.Answer 3 good ∷ []) (third_over Free)
unfolding field operation_of scsi_io_layout scsi_io_values
third_runs = record { shows = refl; leaves = ap third_over (no_abort 3 (simp (gets) refl)) }

-- the fourth command is answered, and its identifier has this slot
abbrev fourth_over : Slot Request → World
fourth_over slot = left_with (slots Free slot Free) (map.remove (map.remove (map.remove cmds_4 1) 3) 4) 3 2 [] (index_value 1 2)

-- it is done, and its answer comes on the second queue
fourth_runs : Goes (third_over Free) (goes 2 ++ on_second ++ tells 1) (entry.Run A 2 ∷ entry.Answer 4 good ∷ []) (fourth_over Free)
unfolding field operation_of scsi_io_layout scsi_io_values
fourth_runs = record { shows = refl; leaves = ap fourth_over (no_abort 4 (simp (gets) refl)) }

-- ---- all of it

-- the pieces one after the other
abbrev two_queues : List Case
two_queues =
    submit 1 A form.Tur ∷ submit 2 A write ∷ tells 2 ++ Told (input.Abort 2) ∷ tells 1 ++ Chosen choice.IocHigh ∷ answers 1
    ++ submit 3 A form.Tur ∷ on_second ++ submit 4 A form.Tur ∷ tells 6
    ++ goes 1 ++ answers 1 ++ tells 1 ++ goes 3 ++ answers 1 ++ tells 1 ++ goes 2 ++ on_second ++ tells 1

-- what a short report shows of them
the_abort_overtakes_its_command : Goes (one_disk 2) two_queues
    (entry.Accept 1 A 1 ∷ entry.Accept 2 A 2 ∷ entry.AbortEnd 2 abort.Stopped ∷ entry.Accept 3 A 3 ∷ entry.Answer 2 outcome.Terminated ∷ entry.Accept 4 A 2
    ∷ entry.Run A 1 ∷ entry.Answer 1 good ∷ entry.Run A 3 ∷ entry.Answer 3 good ∷ entry.Run A 2 ∷ entry.Answer 4 good ∷ []) (fourth_over Free)
the_abort_overtakes_its_command =
    and_then commands_accepted (and_then commands_queued (and_then abort_asked (and_then both_end (and_then abort_answered (and_then open_isnt_given
    (and_then command_answered (and_then free_is_given (and_then rest_queued (and_then first_runs (and_then third_runs fourth_runs))))))))))
