-- A command for each of two reply queues: one waits at the disk, and the reply of the other is on its lane. Computed in pieces.
use Rattle.std.proofs.Common.{List, [], ◌∷◌, None, refl}
use Rattle.std.specs.FinSet.{members}
use Rattle.mpi_layout.specs.Rows.{field}
use Rattle.mpt_trace.specs.Command.{command_named}
use Rattle.scsi_disk.specs.Operation.{operation_of}
use Rattle.scsi_msgs.specs.ScsiIo.{scsi_io_layout, scsi_io_values}
use Rattle.smid_pool.specs.Pool.{Open, all_free, with_slot}
use Rattle.mpt_wire.specs.Messages.Fields.{success_descriptor}
use Rattle.mpt_trace.specs.declared.choice.Choice.TheVariants as choice
use Rattle.mpt_trace.specs.declared.command_form.CommandForm.TheVariants as form
use Rattle.mpt_trace.specs.declared.entry.Entry.TheVariants as entry
use Rattle.mpt_trace.specs.declared.item.Up.TheVariants as up
use Rattle.mpt_rules.specs.declared.request.Request.TheVariants as request
use Rattle.mpt_rules.specs.Host.Parts.{Host}
use Rattle.mpt_rules.specs.Host.Inputs.{with_accepted}
use Rattle.mpt_rules.specs.Ioc.Parts.{Ioc}
use Rattle.std.specs.Prelude.{◌++◌}
use Rattle.std.specs.FinSet as set
use Rattle.mpt_rules.specs.World.State.{World}
use Rattle.mpt_rules.specs.World.Cases.{Case}
use Rattle.mpt_rules.proofs.SchedulePieces.{Goes, rounds, tells}
use Rattle.mpt_rules.proofs.WorldExampleParts.{A, one_disk, submit, up_host, up_ioc}
use Rattle.mpt_rules.specs.declared.at_fabric.AtFabric.TheVariants as at
use Rattle.mpt_rules.specs.Ioc.Tables.{with_request}
use Rattle.mpt_rules.specs.Fabric.Parts.{Fabric}
use Rattle.mpi_doorbell.specs.DoorRegisters.{DoorRegisters}
use Rattle.mpt_rules.proofs.SchedulePieces.{door_after}
use Rattle.mpt_rules.proofs.WritesAtTheDisk.{fabric_with, two_cmds, writes}
use Rattle.mpt_trace.specs.declared.item.Up.{Up}

-- ---- the worlds of this schedule

-- the host with the commands of number 1, for the first queue, and of number 2, for the second one
abbrev pub open_host : Host
open_host =
    record (up_host 2) {
      pool = with_slot 1 (Open (request.Command 1)) (with_slot 2 (Open (request.Command 2)) all_free);
      cmds = two_cmds;
      accepted = set.insert (set.insert set.empty 1) 2;
    }

-- the first one is at the fabric, for a controller with these registers
abbrev pub sent_ioc : DoorRegisters → Ioc
sent_ioc door = record (with_request (up_ioc 2) 1 (at.Command 0x0009 0 0 None)) { door = door }

-- the first one's task is queued, and the second one was performed
abbrev pub one_run : Fabric
one_run = fabric_with 0x11 (record { tag = 1; address = A; command = command_named form.Tur } ∷ []) []

-- a world with these on its lanes up
abbrev pub world_of : Host → Ioc → Fabric → List Up → List Up → World
world_of host ioc fabric first second = record (one_disk 2) { host = host; ioc = ioc; fabric = fabric; up = first ∷ second ∷ [] }

-- the second one's reply
abbrev pub second_reply : Up
second_reply = up.Reply (success_descriptor 2) None [] []

-- ---- two commands are accepted, and the second one runs: its reply is on the second queue's lane

-- the host has both open, and their posts in its outbox
abbrev pub accepted_two : World
accepted_two =
    record (one_disk 2) { host = with_accepted (with_accepted (up_host 2) 1 A (command_named form.Tur) 0x0009 1) 2 A (command_named (writes 0x11)) 0x0009 2 }

-- a command for each queue
abbrev pub submits : List Case
submits = submit 1 A form.Tur ∷ submit 2 A (writes 0x11) ∷ []

-- each gets the next identifier
pub commands_accepted : Goes (one_disk 2) submits (entry.Accept 1 A 1 ∷ entry.Accept 2 A 2 ∷ []) accepted_two
unfolding operation_of
commands_accepted = record { shows = simp (members) refl; leaves = simp (members) refl }

-- its reply is on the lane
abbrev pub second_run : World
second_run = world_of open_host (sent_ioc (door_after 0)) one_run [] (second_reply ∷ [])

-- both go to the fabric, and the second one comes back
abbrev pub runs : List Case
runs =
    tells 2 ++ rounds 2 (choice.IocNormal ∷ []) ++ rounds 2 (choice.IocOut ∷ [])
    ++ rounds 2 (choice.FabricTake ∷ []) ++ rounds 1 (choice.FabricRun 2 ∷ choice.FabricPut ∷ choice.IocBack ∷ choice.IocPutOn 1 ∷ [])

-- the disk performs it
pub second_runs : Goes accepted_two runs (entry.Run A 2 ∷ []) second_run
unfolding field operation_of scsi_io_layout scsi_io_values
second_runs = record { shows = refl; leaves = refl }
