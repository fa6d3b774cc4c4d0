-- Two writes go to the disk, and the first one runs. Computed in pieces.
use Rattle.std.proofs.Common.{List, [], ◌∷◌, Some, replicate, refl}
use Rattle.std.specs.Prelude.{ℕ}
use Rattle.std.specs.FinMap as map
use Rattle.std.specs.FinSet.{members}
use Rattle.mpi_layout.specs.Rows.{field}
use Rattle.mpt_trace.specs.Command.{command_named}
use Rattle.scsi_disk.specs.Operation.{operation_of}
use Rattle.scsi_msgs.specs.ScsiIo.{scsi_io_layout, scsi_io_values}
use Rattle.smid_pool.specs.Pool.{Open, all_free, with_slot}
use Rattle.mpt_trace.specs.declared.choice.Choice.TheVariants as choice
use Rattle.mpt_trace.specs.declared.command_form.CommandForm.{CommandForm}
use Rattle.mpt_trace.specs.declared.command_form.CommandForm.TheVariants as form
use Rattle.mpt_trace.specs.declared.entry.Entry.TheVariants as entry
use Rattle.mpt_rules.specs.declared.request.Request.TheVariants as request
use Rattle.std.specs.Ordering.{nat_cmp}
use Rattle.mpt_rules.specs.Host.Parts.{Host}
use Rattle.mpt_rules.specs.Host.Inputs.{with_accepted}
use Rattle.mpt_rules.specs.Ioc.Parts.{Ioc}
use Rattle.std.specs.Prelude.{◌++◌}
use Rattle.std.specs.FinSet as set
use Rattle.removal.specs.Handles.{all_absent, with_phase}
use Rattle.removal.specs.declared.phase.Phase.TheVariants as phase
use Rattle.mpt_rules.specs.World.State.{World}
use Rattle.mpt_rules.specs.World.Cases.{Case, Chosen}
use Rattle.mpt_rules.proofs.SchedulePieces.{Goes, host_at, rounds, tells}
use Rattle.mpt_rules.proofs.WorldExampleParts.{A, one_disk, plugged_disk, submit, up_fabric, up_host, up_ioc}
use Rattle.mpt_rules.specs.declared.at_fabric.AtFabric.TheVariants as at
use Rattle.mpt_rules.specs.Ioc.Tables.{with_request}
use Rattle.mpt_rules.specs.Fabric.Parts.{Fabric}
use Rattle.mpt_rules.specs.declared.task.Task.{Task}
use Rattle.mpt_trace.specs.declared.item.Back.TheVariants as back
use Rattle.mpt_trace.specs.declared.item.Back.{Back}
use Rattle.mpt_rules.specs.Host.Parts.{Cmd}
use Rattle.std.specs.FinMap.{FinMap}
use Rattle.std.proofs.Common.{ℕ}
use Rattle.mpi_doorbell.specs.DoorRegisters.{DoorRegisters}
use Rattle.mpt_rules.proofs.SchedulePieces.{door_after}

-- ---- the worlds of this schedule

-- a write of one block of this byte
abbrev pub writes : ℕ → CommandForm
writes fill = form.Write 0 1 fill

-- a submission for the handle
abbrev pub cmd : ℕ → Cmd
cmd smid = record { smid = smid; handle = 0x0009 }

-- both writes are open
abbrev pub two_cmds : FinMap nat_cmp Cmd
two_cmds = map.insert (map.insert map.empty 1 (cmd 1)) 2 (cmd 2)

-- the host with both writes open
abbrev pub open_host : Host
open_host =
    record (host_at (with_slot 1 (Open (request.Command 1)) (with_slot 2 (Open (request.Command 2)) all_free)) (with_phase all_absent 0x0009 (phase.Ready A)) 0 0) {
      cmds = two_cmds;
      accepted = set.insert (set.insert set.empty 1) 2;
    }

-- both are at the fabric, for a controller with these registers
abbrev pub sent_ioc : DoorRegisters → Ioc
sent_ioc door =
    record (with_request (with_request (up_ioc 1) 1 (at.Command 0x0009 0 512 (Some 512))) 2 (at.Command 0x0009 0 512 (Some 512))) { door = door }

-- the task of a write at the fabric
abbrev pub task : ℕ → ℕ → Task
task tag fill = record { tag = tag; address = A; command = command_named (writes fill) }

-- the disk has a block of this byte over and over
abbrev pub fabric_with : ℕ → List Task → List Back → Fabric
fabric_with fill tasks news = record (up_fabric (record (plugged_disk A 0) { bytes = replicate 512 fill } ∷ [])) { tasks = tasks; out = news }

-- a world with these parties and empty lanes
abbrev pub world_of : Host → Ioc → Fabric → World
world_of host ioc fabric = record (one_disk 1) { host = host; ioc = ioc; fabric = fabric }

-- ---- two writes are accepted, and go to the disk

-- the host has both open, and their posts in its outbox
abbrev pub accepted_two : World
accepted_two =
    record (one_disk 1) { host = with_accepted (with_accepted (up_host 1) 1 A (command_named (writes 0x11)) 0x0009 1) 2 A (command_named (writes 0x22)) 0x0009 2 }

-- two writes for the disk
abbrev pub submits : List Case
submits = submit 1 A (writes 0x11) ∷ submit 2 A (writes 0x22) ∷ []

-- each gets the next identifier
pub writes_accepted : Goes (one_disk 1) submits (entry.Accept 1 A 1 ∷ entry.Accept 2 A 2 ∷ []) accepted_two
unfolding operation_of
writes_accepted = record { shows = simp (members) refl; leaves = simp (members) refl }

-- both tasks are queued at the fabric
abbrev pub both_sent : World
both_sent = world_of open_host (sent_ioc (door_after 0)) (fabric_with 0 (task 1 0x11 ∷ task 2 0x22 ∷ []) [])

-- both go from the host to the fabric
abbrev pub sends : List Case
sends =
    tells 2 ++ rounds 2 (choice.IocNormal ∷ []) ++ rounds 2 (choice.IocOut ∷ [])
    ++ rounds 2 (choice.FabricTake ∷ [])

-- nothing is told of it
pub writes_sent : Goes accepted_two sends [] both_sent
unfolding field scsi_io_layout scsi_io_values
writes_sent = record { shows = refl; leaves = refl }

-- ---- the first one runs

-- one has run, and the other hasn't
abbrev pub one_run : Fabric
one_run = fabric_with 0x11 (task 2 0x22 ∷ []) (back.Result 1 (record { status = 0; payload = []; sense = [] }) ∷ [])

-- its result waits at the fabric
abbrev pub first_run : World
first_run = world_of open_host (sent_ioc (door_after 0)) one_run

-- the disk performs it
pub first_runs : Goes both_sent (Chosen (choice.FabricRun 1) ∷ []) (entry.Run A 1 ∷ []) first_run
unfolding operation_of
first_runs = record { shows = refl; leaves = refl }
