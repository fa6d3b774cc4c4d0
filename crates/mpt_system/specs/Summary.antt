-- The summary of a whole.
use Rattle.std.specs.Prelude.{◌≡◌, ◌-◌, List, length, map, take}
use Rattle.scsi_disk.specs.Disk.{block_count}
use Rattle.mpt_trace.specs.declared.disk_spec.DiskSpec.{DiskSpec}
use Rattle.mpt_trace.specs.declared.entry.Entry.{Entry}
use Rattle.mpt_trace.specs.declared.summary.Summary.{Summary}
use Rattle.mpt_wire.specs.Machine.Reports.{last_machine}
use Rattle.mpt_rules.specs.Fabric.Parts.{FabricDisk}
use Rattle.mpt_rules.specs.World.Cases.{run}
use Rattle.mpt_rules.specs.World.Drain.{world_quiet}
use Rattle.mpt_rules.specs.World.Settings.{ForAllCases, first_world}
use Rattle.mpt_rules.specs.World.State.{World}
use Rattle.mpt_rules.specs.World.Summaries.{summary_with}
use Rattle.mpt_system.specs.Whole.{Whole}

-- how a disk is declared: by its address and its size
abbrev pub declared : FabricDisk → DiskSpec
declared disk = record { address = disk.address; blocks = block_count disk.bytes }

abbrev pub declared_disks : World → List DiskSpec
declared_disks w = map declared w.fabric.disks

-- the disks of every world that a list of cases leads to are those that its setting declares
abbrev pub DisksStay : Type 0
DisksStay = ForAllCases (λ s cases. declared_disks (run (first_world s) cases) ≡ s.disks)

-- what was told and isn't pending
abbrev pub entries_written : Whole → List Entry
entries_written whole = take (length whole.entries - length whole.pending) whole.entries

-- the summary of the trace
abbrev pub whole_summary : Whole → Summary
whole_summary whole =
    summary_with (last_machine (declared_disks whole.world) (entries_written whole)) whole.world.host.phases (world_quiet whole.world) (entries_written whole)
