-- The printed text of a schedule.
use Rattle.std.specs.Prelude.{ℕ, ◌+◌, ◌==◌, if◌then◌else◌, List, [], ◌∷◌, ◌++◌, codes, decimal}
use Rattle.mpt_trace.specs.declared.disk_spec.DiskSpec.{DiskSpec}
use Rattle.mpt_trace.specs.Numbers.{address_text, line_end}
use Rattle.mpt_trace.specs.Schedule.{choice_line, input_line}
use Rattle.mpt_script.specs.declared.line.Line.{Line}
use Rattle.mpt_script.specs.declared.line.Line.TheVariants as line

-- a disk
abbrev pub disk_text : DiskSpec → List ℕ
disk_text disk = codes "disk " ++ address_text disk.address ++ codes " " ++ decimal disk.blocks

-- an expander of this number
abbrev pub expander_text : ℕ → ℕ → List ℕ
expander_text number phys = codes "expander " ++ decimal number ++ codes " " ++ decimal phys

-- a count, unless it is 1
abbrev pub count_text : ℕ → List ℕ
count_text count = if count == 1 then [] else codes " " ++ decimal count

-- a line after so many expanders, without the end of the line
abbrev pub line_text : ℕ → Line → List ℕ
line_text expanders (line.Queues queues) = codes "queues " ++ decimal queues
line_text expanders (line.Disk disk) = disk_text disk
line_text expanders (line.Expander phys) = expander_text expanders phys
line_text expanders (line.Input input) = input_line input
line_text expanders (line.Choice choice count) = choice_line choice ++ count_text count
line_text expanders line.Drain = codes "drain"

-- whether a line is an expander's
abbrev pub expanders_of : Line → ℕ
expanders_of (line.Expander phys) = 1
expanders_of _ = 0

-- lines after so many expanders
unfoldable pub schedule_text : ℕ → List Line → List ℕ
schedule_text expanders [] = []
schedule_text expanders (line ∷ lines) = line_text expanders line ++ line_end ++ schedule_text (expanders + expanders_of line) lines
