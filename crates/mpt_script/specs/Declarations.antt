-- What the lines of a schedule have declared, and the causes that rest on it.
use Rattle.std.specs.Prelude.{ℕ, ◌+◌, ◌*◌, ◌==◌, ◌&&◌, ◌||◌, not, nat_le, nat_lt, Bool, true, false, if◌then◌else◌, List, [], ◌∷◌, ◌++◌, length, slice_index, Result, Ok, Err, ◌<◌, ◌≤◌}
use Rattle.std.specs.List.{list_any}
use Rattle.std.specs.Ordering.{nat_cmp}
use Rattle.std.specs.BTreeSet.{insert_key}
use Rattle.mpt_trace.specs.declared.choice.Choice.{Choice}
use Rattle.mpt_trace.specs.declared.choice.Choice.TheVariants.{IocPutOn, HostTakeOn}
use Rattle.mpt_trace.specs.declared.command_form.CommandForm.{CommandForm}
use Rattle.mpt_trace.specs.declared.command_form.CommandForm.TheVariants.{Tur, Inquiry, Capacity, Read, Write, Read16, Write16, Raw}
use Rattle.mpt_trace.specs.declared.input.Input.{Input}
use Rattle.mpt_trace.specs.declared.input.Input.TheVariants as input
use Rattle.mpt_lines.specs.declared.fault.Cause.{Cause}
use Rattle.mpt_lines.specs.declared.fault.Cause.TheVariants.{Order, Again, Many, Name}
use Rattle.mpt_script.specs.declared.line.Line.{Line}
use Rattle.mpt_script.specs.declared.line.Line.TheVariants as line
use Rattle.mpt_script.specs.declared.schedule_stage.ScheduleStage.{ScheduleStage}
use Rattle.mpt_script.specs.declared.schedule_stage.ScheduleStage.TheVariants.{First, Declarations, Steps}
use Rattle.mpt_lines.specs.declared.statement.Statement.{Statement}
use Rattle.mpt_lines.specs.declared.statement.Statement.TheVariants as statement

-- where the text is, the number of reply post queues, the disks' addresses and the expanders' numbers
-- of phys in their order, how many resets were asked, and the sum of the lengths of the submissions
pub record Declared : Type 0 where
  pub stage : ScheduleStage
  pub queues : ℕ
  pub addresses : List ℕ
  pub phys : List ℕ
  pub resets : ℕ
  pub total : ℕ

-- before the first line that says something
abbrev pub nothing_declared : Declared
nothing_declared = record { stage = First; queues = 1; addresses = []; phys = []; resets = 0; total = 0 }

-- the number of bytes that a command moves at most
abbrev pub form_length : CommandForm → ℕ
form_length Tur = 0
form_length (Inquiry len) = len
form_length Capacity = 8
form_length (Read lba blocks) = 512 * blocks
form_length (Write lba blocks fill) = 512 * blocks
form_length (Read16 lba blocks) = 512 * blocks
form_length (Write16 lba blocks fill) = 512 * blocks
form_length (Raw cdb len) = len

-- what counts of it against the limit on data: a submission above 4,096 bytes is refused later
abbrev pub counted_length : CommandForm → ℕ
counted_length form = if nat_le (form_length form) 4096 then form_length form else 0

-- the data of an input
abbrev pub data_of : Input → ℕ
data_of (input.Submit n address form) = counted_length form
data_of _ = 0

-- whether an input is a `reset` or a `unit`
abbrev pub resets_of : Input → ℕ
resets_of input.Reset = 1
resets_of input.UnitReset = 1
resets_of _ = 0

-- a disk of this address was declared
abbrev pub has_disk : Declared → ℕ → Bool
has_disk d address = list_any (λ a. a == address) d.addresses

-- an expander of this number was declared, and it has this phy
abbrev pub has_phy : Declared → ℕ → ℕ → Bool
has_phy d expander phy = nat_lt expander (length d.phys) && nat_lt phy (slice_index d.phys expander)

-- a choice names no queue, or one of those that there are
abbrev pub has_queue : Declared → Choice → Bool
has_queue d (IocPutOn queue) = nat_lt queue d.queues
has_queue d (HostTakeOn queue) = nat_lt queue d.queues
has_queue d _ = true

abbrev pub is_first : ScheduleStage → Bool
is_first First = true
is_first _ = false

abbrev pub is_steps : ScheduleStage → Bool
is_steps Steps = true
is_steps _ = false

-- the line stands at a wrong place, or an expander's number isn't next
abbrev pub is_misplaced : Declared → Statement → Bool
is_misplaced d (statement.Queues queues) = not (is_first d.stage)
is_misplaced d (statement.Disk disk) = is_steps d.stage
is_misplaced d (statement.Expander number phys) = is_steps d.stage || not (number == length d.phys)
is_misplaced d _ = false

-- a disk's address was declared before
abbrev pub is_repeated : Declared → Statement → Bool
is_repeated d (statement.Disk disk) = has_disk d disk.address
is_repeated d _ = false

-- one of the limits is passed: 64 disks, 16 expanders, 64 resets, 16,777,216 bytes of data
abbrev pub is_too_many : Declared → Statement → Bool
is_too_many d (statement.Disk disk) = nat_le 64 (length d.addresses)
is_too_many d (statement.Expander number phys) = nat_le 16 (length d.phys)
is_too_many d (statement.Host input) = nat_lt 64 (d.resets + resets_of input) || nat_lt 16777216 (d.total + data_of input)
is_too_many d _ = false

-- it names a disk, an expander, a phy or a queue that wasn't declared
abbrev pub is_unknown : Declared → Statement → Bool
is_unknown d (statement.Plug address expander phy) = not (has_disk d address && has_phy d expander phy)
is_unknown d (statement.Unplug address) = not (has_disk d address)
is_unknown d (statement.Choice choice count) = not (has_queue d choice)
is_unknown d _ = false

-- the line that a statement is
abbrev pub line_of : Statement → Line
line_of (statement.Queues queues) = line.Queues queues
line_of (statement.Disk disk) = line.Disk disk
line_of (statement.Expander number phys) = line.Expander phys
line_of (statement.Plug address expander phy) = line.Input (input.Plug address expander phy)
line_of (statement.Unplug address) = line.Input (input.Unplug address)
line_of (statement.Host given) = line.Input given
line_of (statement.Choice choice count) = line.Choice choice count
line_of statement.Drain = line.Drain

-- the line that a statement is, or the first cause that it is refused for
abbrev pub judged : Declared → Statement → Result Line Cause
judged d said =
    if is_misplaced d said then Err Order
    else if is_repeated d said then Err Again
    else if is_too_many d said then Err Many
    else if is_unknown d said then Err Name
    else Ok (line_of said)

-- what is declared after a line
abbrev pub after : Declared → Line → Declared
after d (line.Queues queues) = record d { stage = Declarations; queues = queues }
after d (line.Disk disk) = record d { stage = Declarations; addresses = insert_key nat_cmp d.addresses disk.address }
after d (line.Expander phys) = record d { stage = Declarations; phys = d.phys ++ phys ∷ [] }
after d (line.Input given) = record d { stage = Steps; resets = d.resets + resets_of given; total = d.total + data_of given }
after d (line.Choice choice count) = record d { stage = Steps }
after d line.Drain = record d { stage = Steps }

-- the limits leave room for a line
abbrev pub HasRoom : Declared → Line → Type 0
HasRoom d (line.Disk disk) = length d.addresses < 64
HasRoom d (line.Expander phys) = length d.phys < 16
HasRoom d (line.Input given) = (d.resets + resets_of given ≤ 64) × (d.total + data_of given ≤ 16777216)
HasRoom d _ = Unit {0}

-- the expander and the phy of a plug are numbers of one byte
abbrev pub IsSmall : Statement → Type 0
IsSmall (statement.Plug address expander phy) = (expander < 256) × (phy < 256)
IsSmall _ = Unit {0}
