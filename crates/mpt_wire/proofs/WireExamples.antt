-- Traces that compute: one whose view is a run and that passes the wire's rules, and for each rule one that breaks it.
use Rattle.std.proofs.Common.{◌≡◌, ℕ, List, [], ◌∷◌, ◌++◌, Some, None, refl, arith}
use Rattle.std.specs.Ordering.{nat_cmp}
use Rattle.std.specs.Cmp.{nat_cmp_total}
use Rattle.std.specs.FinMap as finmap
use Rattle.std.specs.FinSet as set
use Rattle.scsi_disk.specs.Operation.{operation_of}
use Rattle.scsi_disk.specs.Performed.{good}
use Rattle.mpi_layout.specs.Rows.{field}
use Rattle.mpi_rings.specs.declared.request_descriptor.PostKind.TheVariants as post
use Rattle.mpt_trace.specs.declared.command_form.CommandForm.TheVariants as form
use Rattle.mpt_trace.specs.declared.disk_spec.DiskSpec.{DiskSpec}
use Rattle.mpt_trace.specs.declared.input.Input.TheVariants as input
use Rattle.mpt_trace.specs.declared.lane.LaneName.TheVariants as lane
use Rattle.mpt_trace.specs.declared.item.Item.{Item}
use Rattle.mpt_trace.specs.declared.item.Item.TheVariants as item
use Rattle.mpt_trace.specs.declared.item.Down.TheVariants as down
use Rattle.mpt_trace.specs.declared.item.Up.TheVariants as up
use Rattle.mpt_trace.specs.declared.item.Out.TheVariants as out
use Rattle.mpt_trace.specs.declared.item.Back.TheVariants as back
use Rattle.mpt_trace.specs.declared.outcome.Outcome.TheVariants as outcome
use Rattle.mpt_trace.specs.declared.entry.Entry.{Entry}
use Rattle.mpt_trace.specs.declared.entry.Entry.TheVariants as entry
use Rattle.mpt_trace.specs.Command.{command_named}
use Rattle.mpt_wire.specs.Messages.Fields.{post_descriptor, success_descriptor}
use Rattle.mpt_wire.specs.Machine.State.{Machine}
use Rattle.mpt_wire.specs.Machine.Causes.{Start, Submit, Plug}
use Rattle.mpt_wire.specs.Machine.Steps.{Step, Grants, GetsUp, Runs, Answers, GetsReady}
use Rattle.mpt_wire.specs.Machine.Steps.{IsRunFrom, after_all, Allowed, run_at}
use Rattle.mpt_wire.specs.Machine.State.{OpenRequest, first_machine}
use Rattle.mpt_wire.proofs.Views.{run_append}
use Rattle.mpt_wire.proofs.MachineFacts.{submit_granted, none_parked}
use Rattle.mpt_wire.specs.Walks.Passes.{Passes}
use Rattle.mpt_wire.specs.Queues.Lanes.{lane_next, LaneAsks}
use Rattle.mpt_wire.specs.Walks.Cycles.{TurnsPass}
use Rattle.mpt_wire.specs.Queues.Identifiers.{smid_stage, ClassesKept}
use Rattle.mpt_wire.specs.Queues.LeastFree.{LeastPass}
use Rattle.mpt_wire.specs.Machine.View.{view, ViewIsRun}

-- ---- a submission from its accept to its answer

abbrev pub disks : List DiskSpec
disks = record { address = 5; blocks = 1 } ∷ []

abbrev post_of : ℕ → Item
post_of s = item.Down (down.Post (post_descriptor post.ScsiIo 0 s 9) [] [])

abbrev reply_to : ℕ → Item
reply_to s = item.Up (up.Reply (success_descriptor s) None [] [])

abbrev the_task : Item
the_task = item.Out (out.Task 1 5 (command_named form.Tur))

abbrev the_result : Item
the_result = item.Back (back.Result 1 (good []))

abbrev brought_up : List Entry
brought_up = entry.Given input.Start ∷ entry.HostUp ∷ entry.Given (input.Plug 5 0 3) ∷ entry.Bind 9 5 1 ∷ entry.Ready 5 9 ∷ []

abbrev submission : List Entry
submission =
    entry.Given (input.Submit 1 5 form.Tur) ∷ entry.Accept 1 5 1
    ∷ entry.Put lane.Down (post_of 1) ∷ entry.Take lane.Down (post_of 1)
    ∷ entry.Put lane.Out the_task ∷ entry.Take lane.Out the_task ∷ entry.Run 5 1
    ∷ entry.Put lane.Back the_result ∷ entry.Take lane.Back the_result
    ∷ entry.Put lane.Up (reply_to 1) ∷ entry.Take lane.Up (reply_to 1)
    ∷ entry.Answer 1 (outcome.Done (good [])) ∷ []

view_of_submission : view (brought_up ++ submission)
    ≡ Grants Start ∷ GetsUp ∷ Grants (Plug 5 (record { expander = 0; phy = 3 })) ∷ GetsReady 5 1
    ∷ Grants (Submit 1 5 (command_named form.Tur)) ∷ Runs 1 5 ∷ Answers 1 (outcome.Done (good [])) ∷ []
unfolding field
view_of_submission = refl

abbrev steps_up : List Step
steps_up = Grants Start ∷ GetsUp ∷ Grants (Plug 5 (record { expander = 0; phy = 3 })) ∷ GetsReady 5 1 ∷ []

abbrev pub ready_machine : Machine
ready_machine = after_all (first_machine disks) steps_up

it_comes_up : IsRunFrom (first_machine disks) steps_up
it_comes_up = ((refl, tt), (refl, ((refl, refl), ((omega arith, omega arith, omega arith), tt))))

it_is_granted : Allowed ready_machine (Grants (Submit 1 5 (command_named form.Tur)))
unfolding operation_of
it_is_granted =
    (submit_granted ready_machine 1 5 (command_named form.Tur) (grind (arith, finmap.gets, set.members)) refl refl refl (rw (finmap.len-empty nat_cmp OpenRequest, none_parked set.empty, set.len-empty nat_cmp) refl), tt)

abbrev pub tur_request : OpenRequest
tur_request = record { address = 5; plug = 1; command = command_named form.Tur }

pub it_is_there : finmap.get (finmap.insert (finmap.empty {R = nat_cmp}) 1 tur_request) 1 ≡ Some tur_request
it_is_there = finmap.get-insert nat_cmp_total finmap.empty 1 tur_request 1

abbrev pub busy_machine : Machine
busy_machine = after_all ready_machine (Grants (Submit 1 5 (command_named form.Tur)) ∷ [])

abbrev pub done_machine : Machine
done_machine = run_at busy_machine 1 5 (Some tur_request) (busy_machine.disks 5)

it_is_answered : IsRunFrom done_machine (Answers 1 (outcome.Done (good [])) ∷ [])
unfolding operation_of
it_is_answered = (rw (it_is_there) refl, tt)

it_runs : IsRunFrom busy_machine (Runs 1 5 ∷ Answers 1 (outcome.Done (good [])) ∷ [])
it_runs = rw (it_is_there) ((refl, refl, refl, refl), it_is_answered)

abbrev steps_served : List Step
steps_served = Grants (Submit 1 5 (command_named form.Tur)) ∷ Runs 1 5 ∷ Answers 1 (outcome.Done (good [])) ∷ []

it_is_served : IsRunFrom ready_machine steps_served
it_is_served = (it_is_granted, it_runs)

-- the whole view is a run
it_is_a_run : ViewIsRun disks (brought_up ++ submission)
unfolding field
it_is_a_run = run_append (first_machine disks) steps_up steps_served it_comes_up it_is_served

-- it goes by the rules of lanes, identifiers and frames, entry by entry
its_lane : Passes (lane_next lane.Down) (LaneAsks lane.Down) [] submission
its_lane = (tt, (tt, (tt, (([], refl), (tt, (tt, (tt, (tt, (tt, (tt, (tt, (tt, tt))))))))))))

its_cycle : TurnsPass (smid_stage 1) submission
its_cycle = (tt, (tt, (refl, (refl, (tt, (tt, (tt, (tt, (tt, (refl, (refl, (tt, tt))))))))))))

its_class : ClassesKept submission
its_class = (tt, (tt, ((omega arith, omega arith), (tt, (tt, (tt, (tt, (tt, (tt, (tt, (tt, (tt, tt))))))))))))

its_identifier : LeastPass submission
its_identifier = (tt, (record { low = omega arith; high = omega arith; free = refl; least = λ k from below. absurd (omega arith) }, (tt, (tt, (tt, (tt, (tt, (tt, (tt, (tt, (tt, (tt, tt))))))))))))
