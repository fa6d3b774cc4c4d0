-- Traces on each of the five paths, and traces that leave them.
use Rattle.std.proofs.Common.{◌≡◌, ℕ, inr, List, [], ◌∷◌, ◌++◌, true, false, Some, None, refl, replicate, arith}
use Rattle.mpi_layout.specs.Rows.{field}
use Rattle.scsi_disk.specs.declared.command.Command.{Command}
use Rattle.scsi_disk.specs.declared.scsi_result.ScsiResult.{ScsiResult}
use Rattle.mpi_rings.specs.declared.request_descriptor.PostKind.TheVariants as post
use Rattle.mpt_trace.specs.declared.command_form.CommandForm.TheVariants as form
use Rattle.mpt_trace.specs.declared.input.Input.TheVariants as input
use Rattle.mpt_trace.specs.declared.lane.LaneName.TheVariants as lane
use Rattle.mpt_trace.specs.declared.item.Down.TheVariants as down
use Rattle.mpt_trace.specs.declared.item.Up.TheVariants as up
use Rattle.mpt_trace.specs.declared.item.Out.TheVariants as out
use Rattle.mpt_trace.specs.declared.item.Back.TheVariants as back
use Rattle.mpt_trace.specs.declared.item.Item.TheVariants as item
use Rattle.mpt_trace.specs.declared.outcome.Outcome.TheVariants as outcome
use Rattle.mpt_trace.specs.declared.entry.Entry.{Entry}
use Rattle.mpt_trace.specs.declared.entry.Entry.TheVariants as entry
use Rattle.mpt_trace.specs.Command.{command_named}
use Rattle.mpt_wire.specs.Messages.Fields.{address_descriptor, post_descriptor, success_descriptor}
use Rattle.mpt_wire.specs.Paths.Stages.{WalksOnPaths}
use Rattle.mpt_wire.specs.Paths.Commands.{IsOnPaths}
use Rattle.mpt_wire.specs.Paths.Replies.{RepliesPass}
use Rattle.mpt_wire.specs.Paths.Stops.{StopsPass, IsFair}
use Rattle.mpt_wire.specs.Paths.TerminationCounts.{CountsPass}
use Rattle.mpt_wire.proofs.Paths.{on_paths}

zero_one : ◌≡◌ {A = ℕ} 0 1 → ⊥
zero_one e = omega arith

one_zero : ◌≡◌ {A = ℕ} 1 0 → ⊥
one_zero e = omega arith

other_status : (a b : ScsiResult) → outcome.Done a ≡ outcome.Done b → a.status ≡ b.status
other_status a b e = cc

two_zero : ◌≡◌ {A = ℕ} 2 0 → ⊥
two_zero e = omega arith

-- a disk, and a command that reads no data
abbrev disk_a : ℕ
disk_a = 0x5000c50000000001

abbrev ready_command : Command
ready_command = command_named form.Tur

abbrev good : ScsiResult
good = record { status = 0; payload = []; sense = [] }

-- a frame of 128 bytes with this IOCStatus, and nothing else
abbrev with_status : ℕ → List ℕ
with_status status = replicate 14 0 ++ status ∷ replicate 113 0

-- the frame of an abort of the command with identifier 1, and of its reply with this count
abbrev abort_frame : List ℕ
abort_frame = 9 ∷ 0 ∷ 0 ∷ 1 ∷ 0 ∷ 1 ∷ replicate 42 0 ++ 1 ∷ replicate 79 0

abbrev abort_reply : ℕ → List ℕ
abort_reply count = 9 ∷ 0 ∷ 7 ∷ 1 ∷ replicate 16 0 ++ count ∷ replicate 107 0

abbrev accepts_1 : List Entry
accepts_1 = entry.Given (input.Submit 1 disk_a form.Tur) ∷ entry.Accept 1 disk_a 1 ∷ []

abbrev the_post : Entry
the_post = entry.Put lane.Down (item.Down (down.Post (post_descriptor post.ScsiIo 0 1 9) (replicate 128 0) []))

abbrev takes_post : Entry
takes_post = entry.Take lane.Down (item.Down (down.Post (post_descriptor post.ScsiIo 0 1 9) (replicate 128 0) []))

abbrev posted : List Entry
posted = accepts_1 ++ the_post ∷ takes_post ∷ []

abbrev sent : List Entry
sent = posted ++ entry.Put lane.Out (item.Out (out.Task 1 disk_a ready_command)) ∷ entry.Take lane.Out (item.Out (out.Task 1 disk_a ready_command)) ∷ []

abbrev whole_reply : Entry
whole_reply = entry.Put lane.Up (item.Up (up.Reply (success_descriptor 1) None [] []))

-- a reply that says with this status that there is no result
abbrev puts_reply : ℕ → Entry
puts_reply status = entry.Put lane.Up (item.Up (up.Reply (address_descriptor 1 0x00010000) (Some (with_status status)) [] []))

abbrev takes_reply : ℕ → Entry
takes_reply status = entry.Take lane.Up (item.Up (up.Reply (address_descriptor 1 0x00010000) (Some (with_status status)) [] []))

abbrev done : List Entry
done =
    sent ++ entry.Run disk_a 1
    ∷ entry.Put lane.Back (item.Back (back.Result 1 good)) ∷ entry.Take lane.Back (item.Back (back.Result 1 good))
    ∷ whole_reply ∷ entry.Take lane.Up (item.Up (up.Reply (success_descriptor 1) None [] [])) ∷ entry.Answer 1 (outcome.Done good) ∷ []

done_walks : WalksOnPaths 1 done
done_walks = (tt, (tt, (tt, (tt, ((refl, refl), ((refl, refl), (refl, (tt, (refl, (refl, (refl, (refl, tt))))))))))))

done_is_on_paths : IsOnPaths 1 done
done_is_on_paths = on_paths 1 done done_walks

gone_at_fabric : List Entry
gone_at_fabric =
    sent ++ entry.Put lane.Back (item.Back (back.Gone 1)) ∷ entry.Take lane.Back (item.Back (back.Gone 1))
    ∷ puts_reply 0x43 ∷ takes_reply 0x43 ∷ entry.Answer 1 outcome.Gone ∷ []

gone_at_fabric_walks : WalksOnPaths 1 gone_at_fabric
unfolding gone_at_fabric field
gone_at_fabric_walks = (tt, (tt, (tt, (tt, ((refl, refl), ((refl, refl), (tt, (tt, (refl, (refl, (refl, tt)))))))))))

abbrev terminated : List Entry
terminated = sent ++ entry.Put lane.Back (item.Back (back.Terminated 1)) ∷ entry.Take lane.Back (item.Back (back.Terminated 1)) ∷ []

stopped_at_fabric_walks : WalksOnPaths 1 (terminated ++ puts_reply 0x48 ∷ takes_reply 0x48 ∷ entry.Answer 1 outcome.Terminated ∷ [])
unfolding field
stopped_at_fabric_walks = (tt, (tt, (tt, (tt, ((refl, refl), ((refl, refl), (tt, (tt, (refl, (refl, (refl, tt)))))))))))

gone_at_controller_walks : WalksOnPaths 1 (posted ++ puts_reply 0x43 ∷ takes_reply 0x43 ∷ entry.Answer 1 outcome.Gone ∷ [])
unfolding field
gone_at_controller_walks = (tt, (tt, (tt, (tt, (tt, (refl, (refl, tt)))))))

-- an abort of the command, under the identifier 257
abbrev puts_abort : Entry
puts_abort = entry.Put lane.Down (item.Down (down.Post (post_descriptor post.HighPriority 0 257 0) abort_frame []))

abbrev takes_abort : Entry
takes_abort = entry.Take lane.Down (item.Down (down.Post (post_descriptor post.HighPriority 0 257 0) abort_frame []))

abbrev stopped : List Entry
stopped = posted ++ puts_abort ∷ takes_abort ∷ puts_reply 0x48 ∷ []

stopped_in_queue_walks : WalksOnPaths 1 (stopped ++ takes_reply 0x48 ∷ entry.Answer 1 outcome.Terminated ∷ [])
unfolding field
stopped_in_queue_walks = (tt, (tt, (tt, (tt, (tt, (tt, (refl, (refl, (refl, tt)))))))))

-- a reset answer ends a path anywhere
reset_walks : WalksOnPaths 1 (posted ++ entry.Answer 1 outcome.Reset ∷ [])
unfolding field
reset_walks = (tt, (tt, (tt, (tt, (tt, tt)))))

-- a result where nothing was accepted
unaccepted : WalksOnPaths 1 (entry.Put lane.Back (item.Back (back.Result 1 good)) ∷ []) → ⊥
unaccepted p = p.0

-- a command that is answered a second time after its abort
answered_twice : WalksOnPaths 1 (stopped ++ puts_reply 0x48 ∷ []) → ⊥
unfolding field
answered_twice p = p.1.1.1.1.1.1.1.0

-- something under the identifier after the answer
after_answer : WalksOnPaths 1 (posted ++ entry.Answer 1 outcome.Reset ∷ whole_reply ∷ []) → ⊥
unfolding field
after_answer p = p.1.1.1.1.1.0

-- the reply of a result that the fabric hasn't given
reply_too_early : WalksOnPaths 1 (sent ++ whole_reply ∷ []) → ⊥
unfolding field
reply_too_early p = p.1.1.1.1.1.1.0

-- a command that nobody aborted, stopped in the queue
stopped_unasked : WalksOnPaths 1 (posted ++ puts_reply 0x48 ∷ []) → ⊥
unfolding field
stopped_unasked p = let e : false ≡ true = p.1.1.1.1.0 in absurd (cc)

-- a task for another disk
other_disk : WalksOnPaths 1 (posted ++ entry.Put lane.Out (item.Out (out.Task 1 0x5000c50000000002 ready_command)) ∷ []) → ⊥
unfolding field
other_disk p = let e : 0x5000c50000000002 ≡ disk_a = p.1.1.1.1.0.0 in absurd (omega arith)

-- another accept under the identifier before the answer
accepted_again : WalksOnPaths 1 (posted ++ entry.Accept 2 disk_a 1 ∷ []) → ⊥
unfolding field
accepted_again p = p.1.1.1.1.0

-- the answer of another result
other_result : WalksOnPaths 1 (sent ++ entry.Run disk_a 1 ∷ entry.Put lane.Back (item.Back (back.Result 1 good)) ∷ entry.Take lane.Back (item.Back (back.Result 1 good)) ∷ whole_reply ∷ entry.Take lane.Up (item.Up (up.Reply (success_descriptor 1) None [] [])) ∷ entry.Answer 1 (outcome.Done (record { status = 2; payload = []; sense = [] })) ∷ []) → ⊥
unfolding field
other_result p = two_zero (other_status (record { status = 2; payload = []; sense = [] }) good p.1.1.1.1.1.1.1.1.1.1.1.0)

-- ---- replies

done_replies : RepliesPass 1 done
done_replies = (tt, (tt, (tt, (tt, (tt, (tt, (tt, (tt, (tt, ((refl, refl, (refl, refl)), (tt, (tt, tt))))))))))))

abbrev failed : ScsiResult
failed = record { status = 2; payload = []; sense = 0x70 ∷ [] }

-- a failure that is told as a success
told_as_good : RepliesPass 1 (sent ++ entry.Run disk_a 1 ∷ entry.Put lane.Back (item.Back (back.Result 1 failed)) ∷ entry.Take lane.Back (item.Back (back.Result 1 failed)) ∷ whole_reply ∷ []) → ⊥
unfolding field
told_as_good p = zero_one p.1.1.1.1.1.1.1.1.1.0.2.0

-- ---- counts

-- the reply of the abort
abort_says : ℕ → Entry
abort_says count = entry.Put lane.Up (item.Up (up.Reply (address_descriptor 257 0x00010080) (Some (abort_reply count)) [] []))

abort_counts : CountsPass 257 (stopped ++ abort_says 1 ∷ [])
unfolding abort_says field
abort_counts = (tt, (tt, (tt, (tt, (tt, (tt, (tt, (inr refl, tt))))))))

-- an abort that found nothing at the fabric and says that it did
abort_miscounts : CountsPass 257 (puts_abort ∷ entry.Put lane.Out (item.Out (out.Abort 257 1)) ∷ entry.Take lane.Back (item.Back (back.Aborted 257 false)) ∷ abort_says 1 ∷ []) → ⊥
unfolding abort_says field
abort_miscounts p = one_zero p.1.1.1.0

unstopped : (waiting : ℕ) → IsFair (record { tasked = false; stopped = false; other = false; waiting = waiting; taken_out = 0 })
unstopped waiting = record { at_most_one = omega arith; no_task = λ h. refl; no_other = λ h. refl; one = λ a b c. absurd (cc) }

abort_stops : StopsPass 1 (stopped ++ abort_says 1 ∷ [])
unfolding abort_says field
abort_stops = (
  (tt, unstopped 0),
  (
    (tt, unstopped 0),
    (
      (tt, unstopped 0),
      (
        (tt, unstopped 0),
        (
          (tt, unstopped 1),
          (
            (tt, unstopped 1),
            (
              (tt, record { at_most_one = omega arith; no_task = λ h. refl; no_other = λ h. refl; one = λ a b c. absurd (one_zero c) }),
              ((omega arith, record { at_most_one = omega arith; no_task = λ h. refl; no_other = λ h. refl; one = λ a b c. refl }), tt),
            ),
          ),
        ),
      ),
    ),
  ),
)

-- a command that was stopped in the queue, by an abort that says that it stopped nothing
nobody_stops : StopsPass 1 (stopped ++ abort_says 0 ∷ []) → ⊥
unfolding abort_says field
nobody_stops p = zero_one (p.1.1.1.1.1.1.1.0.1.one refl refl refl)
