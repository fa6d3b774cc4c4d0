-- Cases that move nothing or are refused, places, weight and rounds, computed.
use Rattle.std.proofs.Common.{◌≡◌, [], ◌∷◌, true, false, refl}
use Rattle.std.specs.FinMap.{gets}
use Rattle.std.specs.FinSet.{members}
use Rattle.mpi_layout.specs.Rows.{field}
use Rattle.mpt_trace.specs.declared.choice.Choice.TheVariants as choice
use Rattle.mpt_trace.specs.declared.command_form.CommandForm.TheVariants as form
use Rattle.mpt_trace.specs.declared.entry.Entry.TheVariants as entry
use Rattle.mpt_trace.specs.declared.input.Input.TheVariants as input
use Rattle.mpt_trace.specs.declared.item.Down.TheVariants as down
use Rattle.mpt_trace.specs.declared.item.Item.TheVariants as item
use Rattle.mpt_trace.specs.declared.item.Up.TheVariants as up
use Rattle.mpt_trace.specs.declared.lane.LaneName.TheVariants as lane
use Rattle.mpt_trace.specs.declared.refusal.Refusal.TheVariants as refusal
use Rattle.mpt_trace.specs.declared.refusal.RefusedCall.TheVariants as call
use Rattle.scsi_disk.specs.Operation.{operation_of}
use Rattle.scsi_msgs.specs.ScsiIo.{scsi_io_layout, scsi_io_values}
use Rattle.mpt_rules.specs.Host.Doorbell.{turn_from}
use Rattle.mpt_rules.specs.World.State.{World, fresh}
use Rattle.mpt_rules.specs.World.Cases.{Chosen, Told, run, trace, entries}
use Rattle.mpt_rules.specs.World.Weight.{weight}
use Rattle.mpt_rules.specs.World.Drain.{followed_by, drain_with, rounds_with, drain_rounds, world_quiet}
use Rattle.mpt_rules.specs.World.Places.{SmidPlace, FramePlace, smid_place, frame_place}
use Rattle.mpt_rules.proofs.WorldExampleParts.{A, B, answered, one_disk, plugged_disk, posted, submit, up_host}

-- a world as it is made, with one disk of one block
abbrev made : World
made = fresh (record { address = A; blocks = 1 } ∷ []) (4 ∷ []) 1

-- ---- nothing to take

-- the host's first read goes down and its value comes up; then there is nothing to take
first_read : trace made (Told input.Start ∷ Chosen choice.HostPut ∷ Chosen choice.IocTake ∷ Chosen choice.IocPut ∷ Chosen choice.HostTake ∷ Chosen choice.HostTake ∷ [])
    ≡ entry.Given input.Start
    ∷ entry.Put lane.Down (item.Down (down.Read 0)) ∷ entry.Take lane.Down (item.Down (down.Read 0))
    ∷ entry.Put lane.Up (item.Up (up.Value 0x10000000)) ∷ entry.Take lane.Up (item.Up (up.Value 0x10000000))
    ∷ entry.Idle choice.HostTake ∷ []
unfolding turn_from
first_read = refl

-- there are no such queues, and no such task
no_queue_zero : entries made (Chosen (choice.HostTakeOn 0)) ≡ entry.Idle (choice.HostTakeOn 0) ∷ []
no_queue_zero = refl

no_queue : entries made (Chosen (choice.IocPutOn 1)) ≡ entry.Idle (choice.IocPutOn 1) ∷ []
no_queue = refl

no_task : entries (one_disk 1) (Chosen (choice.FabricRun 1)) ≡ entry.Idle (choice.FabricRun 1) ∷ []
no_task = refl

-- ---- inputs

not_started : entries made (Told input.Reset) ≡ entry.Given input.Reset ∷ entry.Refuse call.Reset refusal.NotStarted ∷ []
not_started = refl

already_started : entries (one_disk 1) (Told input.Start) ≡ entry.Given input.Start ∷ entry.Refuse call.Start refusal.AlreadyStarted ∷ []
already_started = refl

no_device : entries (one_disk 1) (submit 1 B form.Tur) ≡ entry.Given (input.Submit 1 B form.Tur) ∷ entry.RefuseSubmit 1 refusal.NoDevice ∷ []
unfolding operation_of
no_device = simp (members) refl

not_open : entries (one_disk 1) (Told (input.Abort 7)) ≡ entry.Given (input.Abort 7) ∷ entry.Refuse (call.Abort 7) refusal.NotOpen ∷ []
not_open = simp (gets) refl

plugged : entries made (Told (input.Plug A 0 0)) ≡ entry.Given (input.Plug A 0 0) ∷ []
plugged = refl

already_plugged : entries (one_disk 1) (Told (input.Plug A 0 1)) ≡ entry.Given (input.Plug A 0 1) ∷ entry.Refuse (call.Plug A) refusal.AlreadyPlugged ∷ []
already_plugged = refl

not_plugged : entries made (Told (input.Unplug A)) ≡ entry.Given (input.Unplug A) ∷ entry.Refuse (call.Unplug A) refusal.NotPlugged ∷ []
not_plugged = refl

-- an input that names no disk or phy that exists does nothing
no_such_disk : entries made (Told (input.Unplug B)) ≡ []
no_such_disk = refl

no_such_phy : entries made (Told (input.Plug A 0 4)) ≡ []
no_such_phy = refl

-- ---- places

free : smid_place (one_disk 1) 1 ≡ SmidPlace.Free
free = refl

in_the_outbox : smid_place (posted form.Tur (plugged_disk A 0 ∷ [])) 1 ≡ SmidPlace.HostOut
unfolding field scsi_io_values scsi_io_layout
in_the_outbox = refl

on_the_lane_down : smid_place (run (posted form.Tur (plugged_disk A 0 ∷ [])) (Chosen choice.HostPut ∷ [])) 1 ≡ SmidPlace.DownLane
unfolding field scsi_io_values scsi_io_layout
on_the_lane_down = refl

in_a_queue : smid_place (run (posted form.Tur (plugged_disk A 0 ∷ [])) (Chosen choice.HostPut ∷ Chosen choice.IocTake ∷ [])) 1 ≡ SmidPlace.NormalQueue
unfolding field scsi_io_values scsi_io_layout
in_a_queue = refl

at_the_fabric : smid_place (run (posted form.Tur (plugged_disk A 0 ∷ [])) (Chosen choice.HostPut ∷ Chosen choice.IocTake ∷ Chosen choice.IocNormal ∷ [])) 1 ≡ SmidPlace.AtFabric
unfolding field scsi_io_values scsi_io_layout
at_the_fabric = refl

on_a_lane_up : smid_place (answered form.Tur []) 1 ≡ SmidPlace.UpLane
on_a_lane_up = refl

at_the_host : frame_place made 63 ≡ FramePlace.Host
at_the_host = refl

in_the_ring : frame_place (one_disk 1) 63 ≡ FramePlace.Ring
in_the_ring = refl

-- ---- quiet

made_is_quiet : world_quiet made ≡ true
made_is_quiet = refl

up_is_quiet : world_quiet (one_disk 2) ≡ true
up_is_quiet = refl

answered_is_not : world_quiet (answered form.Tur []) ≡ false
answered_is_not = refl

-- nothing is to be done: no round is made
no_rounds : drain_rounds (one_disk 1) ≡ 0
unfolding rounds_with
no_rounds = simp (gets) refl

-- an open command and its reply
two_things : weight (answered form.Tur []) ≡ 200
two_things = simp (gets) refl

-- a disk was plugged while the fabric is on: a notice
a_notice : weight (run (one_disk 1) (Told (input.Unplug A) ∷ [])) ≡ 100
a_notice = simp (gets) refl

-- a write that the host still has to put
abbrev to_write : World
to_write = record (one_disk 1) { host = record (up_host 1) { out = down.Write 0x6c 1 ∷ [] } }

-- one round puts it and takes it, whatever the fuel
one_round : rounds_with 100 to_write ≡ 1
unfolding rounds_with followed_by
one_round = refl

round_entries : (drain_with 100 to_write).entries ≡ entry.Put lane.Down (item.Down (down.Write 0x6c 1)) ∷ entry.Take lane.Down (item.Down (down.Write 0x6c 1)) ∷ []
unfolding drain_with followed_by
round_entries = refl
