-- Commands on their way through the world, computed.
use Rattle.std.proofs.Common.{◌≡◌, List, [], ◌∷◌, None, replicate, refl}
use Rattle.std.specs.FinSet.{members}
use Rattle.mpi_layout.specs.Rows.{field}
use Rattle.mpt_wire.specs.Messages.Fields.{success_descriptor}
use Rattle.scsi_disk.specs.Operation.{operation_of}
use Rattle.scsi_msgs.specs.ScsiIo.{scsi_io_layout, scsi_io_values}
use Rattle.mpt_trace.specs.declared.choice.Choice.TheVariants as choice
use Rattle.mpt_trace.specs.declared.command_form.CommandForm.TheVariants as form
use Rattle.mpt_trace.specs.declared.entry.Entry.TheVariants as entry
use Rattle.mpt_trace.specs.declared.item.Up.TheVariants as up
use Rattle.mpt_trace.specs.declared.outcome.Outcome.TheVariants as outcome
use Rattle.mpt_rules.specs.World.Cases.{Case, Chosen, run, happens}
use Rattle.mpt_rules.proofs.WorldExampleParts.{A, accepted, answered, one_disk, plugged_disk, posted, shown, submit}

-- ---- the host accepts a command

test_accepted : shown (one_disk 1) (submit 1 A form.Tur ∷ []) ≡ entry.Accept 1 A 1 ∷ []
unfolding operation_of
test_accepted = simp (members) refl

-- what it leaves
test_open : (happens (one_disk 1) (submit 1 A form.Tur)).host ≡ accepted form.Tur
unfolding operation_of
test_open = simp (members) refl

-- ---- its post goes to the disk, and its reply comes back to the host's lane

abbrev there_and_back : List Case
there_and_back =
    Chosen choice.HostPut ∷ Chosen choice.IocTake ∷ Chosen choice.IocNormal ∷ Chosen choice.IocOut ∷ Chosen choice.FabricTake
    ∷ Chosen (choice.FabricRun 1) ∷ Chosen choice.FabricPut ∷ Chosen choice.IocBack ∷ Chosen choice.IocPut ∷ []

test_runs : shown (posted form.Tur (plugged_disk A 0 ∷ [])) there_and_back ≡ entry.Run A 1 ∷ []
unfolding field operation_of scsi_io_layout scsi_io_values
test_runs = refl

test_replied : (run (posted form.Tur (plugged_disk A 0 ∷ [])) there_and_back).up ≡ (up.Reply (success_descriptor 1) None [] [] ∷ []) ∷ []
unfolding field operation_of scsi_io_layout scsi_io_values
test_replied = refl

read_replied : (run (posted (form.Read 0 1) (plugged_disk A 0 ∷ [])) there_and_back).up ≡ (up.Reply (success_descriptor 1) None (replicate 512 0) [] ∷ []) ∷ []
unfolding field operation_of scsi_io_layout scsi_io_values
read_replied = refl

-- a write changes its block
write_done : (run (posted (form.Write 0 1 0x11) (plugged_disk A 0 ∷ [])) there_and_back).fabric.disks ≡ record (plugged_disk A 0) { bytes = replicate 512 0x11 } ∷ []
unfolding field operation_of scsi_io_layout scsi_io_values
write_done = refl

write_replied : (run (posted (form.Write 0 1 0x11) (plugged_disk A 0 ∷ [])) there_and_back).up ≡ (up.Reply (success_descriptor 1) None [] [] ∷ []) ∷ []
unfolding field operation_of scsi_io_layout scsi_io_values
write_replied = refl

-- ---- the host answers

test_answered : shown (answered form.Tur []) (Chosen choice.HostTake ∷ []) ≡ entry.Answer 1 (outcome.Done (record { status = 0; payload = []; sense = [] })) ∷ []
unfolding field
test_answered = refl

read_answered : shown (answered (form.Read 0 1) (replicate 512 0)) (Chosen choice.HostTake ∷ []) ≡ entry.Answer 1 (outcome.Done (record { status = 0; payload = replicate 512 0; sense = [] })) ∷ []
unfolding field
read_answered = refl

write_answered : shown (answered (form.Write 0 1 0x11) []) (Chosen choice.HostTake ∷ []) ≡ entry.Answer 1 (outcome.Done (record { status = 0; payload = []; sense = [] })) ∷ []
unfolding field
write_answered = refl
