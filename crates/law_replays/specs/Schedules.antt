-- A schedule as the rules see it: the setting that its head declares, and its lines behind the head.
use Rattle.std.specs.Prelude.{ℕ, List, All, filter_map, slice_index_or, Option, Some, None}
use Rattle.mpt_trace.specs.declared.disk_spec.DiskSpec.{DiskSpec}
use Rattle.mpt_script.specs.declared.line.Line.{Line as ScriptLine}
use Rattle.mpt_script.specs.declared.line.Line.TheVariants as line
use Rattle.mpt_wire.specs.Fits.Lines.{Line, Asked, Stepped, Drained}
use Rattle.mpt_rules.specs.Law.{IsLine}
use Rattle.mpt_rules.specs.World.Settings.{IsSetting, Setting}

-- ---- the head

-- the disk that a line declares
abbrev pub disk_in : ScriptLine → Option DiskSpec
disk_in (line.Disk disk) = Some disk
disk_in _ = None

-- the number of phys of the expander that it declares
abbrev pub phys_in : ScriptLine → Option ℕ
phys_in (line.Expander phys) = Some phys
phys_in _ = None

-- the number of reply queues that it declares
abbrev pub queues_in : ScriptLine → Option ℕ
queues_in (line.Queues queues) = Some queues
queues_in _ = None

-- what the lines declare; there is one reply queue where none says how many
abbrev pub setting_of : List ScriptLine → Setting
setting_of lines =
    record { disks = filter_map disk_in lines; phys = filter_map phys_in lines; queues = slice_index_or (filter_map queues_in lines) 0 1 }

-- ---- what is carried out

-- the line of the rules that a line is; one of the head is none
abbrev pub carried_in : ScriptLine → Option Line
carried_in (line.Input given) = Some (Asked given)
carried_in (line.Choice choice count) = Some (Stepped choice count)
carried_in line.Drain = Some Drained
carried_in _ = None

-- the lines that are carried out, in order
abbrev pub lines_of : List ScriptLine → List Line
lines_of lines = filter_map carried_in lines

-- ---- the limits

-- the setting is within the limits, and the lines name disks and phys that it has, with numbers that an input can have:
-- what the law asks of a schedule
pub record KeepsLimits (schedule : List ScriptLine) : Type 0 where
  pub setting : IsSetting (setting_of schedule)
  pub lines : All (IsLine (setting_of schedule)) (lines_of schedule)
