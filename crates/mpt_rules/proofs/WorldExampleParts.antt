-- Worlds and schedules that the world's examples share.
use Rattle.std.specs.Prelude.{ℕ, true, List, [], ◌∷◌, filter, replicate, Some, None}
use Rattle.std.specs.List.{range_with_len}
use Rattle.std.specs.FinMap as map
use Rattle.std.specs.FinSet as set
use Rattle.mpi_doorbell.specs.DoorRegisters.{new_registers}
use Rattle.mpi_doorbell.specs.declared.state.IocState.TheVariants as state
use Rattle.removal.specs.Handles.{all_absent, with_phase}
use Rattle.removal.specs.declared.phase.Phase.TheVariants as phase
use Rattle.mpt_wire.specs.Messages.Fields.{success_descriptor}
use Rattle.mpt_trace.specs.declared.item.Up.TheVariants as up
use Rattle.mpt_trace.specs.Entries.{is_in_show}
use Rattle.mpt_trace.specs.declared.choice.Choice.{Choice}
use Rattle.mpt_trace.specs.declared.command_form.CommandForm.{CommandForm}
use Rattle.mpt_trace.specs.declared.entry.Entry.{Entry}
use Rattle.mpt_trace.specs.declared.host_state.HostState.TheVariants as mode
use Rattle.mpt_trace.specs.declared.input.Input.TheVariants as input
use Rattle.mpt_rules.specs.declared.binding.Binding.TheVariants as binding
use Rattle.mpt_rules.specs.declared.host_frame.HostFrame.TheVariants as frame
use Rattle.mpt_rules.specs.Host.Parts.{Host, new_host}
use Rattle.mpt_trace.specs.Command.{command_named}
use Rattle.mpt_rules.specs.Host.Posts.{posts_command}
use Rattle.mpt_rules.specs.Ioc.Parts.{Ioc, new_ioc}
use Rattle.mpt_rules.specs.Fabric.Parts.{Fabric, FabricDisk}
use Rattle.mpt_rules.specs.Ioc.Tables.{in_state, with_binding}
use Rattle.mpt_rules.specs.World.State.{World}
use Rattle.mpt_rules.specs.World.Cases.{Case, Told, Chosen, trace}

abbrev pub A : ℕ
A = 0x5000c50000000001

abbrev pub B : ℕ
B = 0x5000c50000000002

-- a disk of one block of zeros, plugged once at a phy of expander 0
abbrev pub plugged_disk : ℕ → ℕ → FabricDisk
plugged_disk address phy = record { address = address; bytes = replicate 512 0; at = Some (record { expander = 0; phy = phy }); plugs = 1 }

-- a disk of one block of zeros that was never plugged
abbrev pub spare_disk : ℕ → FabricDisk
spare_disk address = record { address = address; bytes = replicate 512 0; at = None; plugs = 0 }

-- the host is up, with q reply queues, and the disk of address A is ready as handle 0x0009
abbrev pub up_host : ℕ → Host
up_host q =
    record (new_host q) {
      mode = mode.Up;
      phases = with_phase all_absent 0x0009 (phase.Ready A);
      frames = replicate 64 frame.Away;
      returned = 64;
    }

-- the controller has that disk under that handle, and all reply frames
abbrev pub up_ioc : ℕ → Ioc
up_ioc q =
    record (with_binding (new_ioc (4 ∷ []) q) 0x0009 (binding.Present A 1 0 0)) {
      door = in_state new_registers state.Operational;
      ring = range_with_len 0 64;
      context = 2;
      enabled = true;
      through = true;
      vectors = q;
    }

-- the fabric has been found, with these disks
abbrev pub up_fabric : List FabricDisk → Fabric
up_fabric disks = record { phys = 4 ∷ []; disks = disks; on = true; tasks = []; notices = []; out = [] }

-- a world that is up, with these disks, of which the one of address A is plugged at phy 0
abbrev pub up_world : List FabricDisk → ℕ → World
up_world disks q =
    record { host = up_host q; ioc = up_ioc q; fabric = up_fabric disks; down = []; up = replicate q []; out = []; back = [] }

-- a world that is up with one disk of one block
abbrev pub one_disk : ℕ → World
one_disk q = up_world (plugged_disk A 0 ∷ []) q

-- the same, once the host has accepted a command as number 1, under identifier 1
abbrev pub accepted : CommandForm → Host
accepted form =
    record (posts_command (up_host 1) 1 1 0x0009 (command_named form)) {
      cmds = map.insert map.empty 1 (record { smid = 1; handle = 0x0009 });
      accepted = set.insert set.empty 1;
    }

-- its post stands in the host's outbox
abbrev pub posted : CommandForm → List FabricDisk → World
posted form disks = record (up_world disks 1) { host = accepted form }

-- the host has its success reply on its lane
abbrev pub answered : CommandForm → List ℕ → World
answered form page = record (one_disk 1) { host = record (accepted form) { out = [] }; up = (up.Reply (success_descriptor 1) None page [] ∷ []) ∷ [] }

-- ---- schedules

-- a choice, so many times
abbrev pub times : ℕ → Choice → List Case
times n choice = replicate n (Chosen choice)

abbrev pub submit : ℕ → ℕ → CommandForm → Case
submit n address form = Told (input.Submit n address form)

-- ---- what is shown

-- the entries of a schedule that a short report shows
abbrev pub shown : World → List Case → List Entry
shown w cases = filter is_in_show (trace w cases)
