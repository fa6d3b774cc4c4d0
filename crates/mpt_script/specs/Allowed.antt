-- The schedules that a text can stand for.
use Rattle.std.specs.Prelude.{ℕ, ◌==◌, ◌&&◌, not, nat_le, Bool, true, false, List, [], ◌∷◌, length}
use Rattle.std.specs.List.{list_all}
use Rattle.mpt_lines.specs.declared.statement.Statement.{Statement}
use Rattle.mpt_lines.specs.declared.statement.Statement.TheVariants as statement
use Rattle.mpt_trace.specs.declared.choice.Choice.{Choice}
use Rattle.mpt_trace.specs.declared.choice.Choice.TheVariants as choice
use Rattle.mpt_trace.specs.declared.command_form.CommandForm.{CommandForm}
use Rattle.mpt_trace.specs.declared.command_form.CommandForm.TheVariants as form
use Rattle.mpt_trace.specs.declared.input.Input.{Input}
use Rattle.mpt_trace.specs.declared.input.Input.TheVariants as input
use Rattle.mpt_script.specs.declared.line.Line.{Line}
use Rattle.mpt_script.specs.declared.line.Line.TheVariants as line
use Rattle.mpt_script.specs.Declarations.{Declared, after, is_misplaced, is_repeated, is_too_many, is_unknown, nothing_declared}

-- an address has 64 bits
abbrev pub is_address : ℕ → Bool
is_address address = nat_le address 18446744073709551615

-- a byte
abbrev pub is_byte : ℕ → Bool
is_byte byte = nat_le byte 255

-- a block address of so many bits at most, and a number of blocks
abbrev pub are_blocks : ℕ → ℕ → ℕ → Bool
are_blocks most lba blocks = nat_le lba most && nat_le blocks 65535

-- the parameters of a command keep their ranges
abbrev pub form_fits : CommandForm → Bool
form_fits form.Tur = true
form_fits (form.Inquiry len) = nat_le len 65535
form_fits form.Capacity = true
form_fits (form.Read lba blocks) = are_blocks 4294967295 lba blocks
form_fits (form.Write lba blocks fill) = are_blocks 4294967295 lba blocks && is_byte fill
form_fits (form.Read16 lba blocks) = are_blocks 18446744073709551615 lba blocks
form_fits (form.Write16 lba blocks fill) = are_blocks 18446744073709551615 lba blocks && is_byte fill
form_fits (form.Raw cdb len) = nat_le 1 (length cdb) && nat_le (length cdb) 32 && list_all is_byte cdb && nat_le len 4294967295

-- the numbers of an input keep their ranges
abbrev pub input_fits : Input → Bool
input_fits input.Start = true
input_fits (input.Submit n address form) = nat_le n 4294967295 && is_address address && form_fits form
input_fits (input.Abort n) = nat_le n 4294967295
input_fits (input.TargetReset address) = is_address address
input_fits input.Reset = true
input_fits input.UnitReset = true
input_fits (input.Plug address expander phy) = is_address address && is_byte expander && is_byte phy
input_fits (input.Unplug address) = is_address address

-- from 1 to 64 times
abbrev pub is_count : ℕ → Bool
is_count count = nat_le 1 count && nat_le count 64

-- a queue above the first
abbrev pub is_queue : ℕ → Bool
is_queue queue = nat_le 1 queue && nat_le queue 7

-- a choice and its count keep their ranges; a task runs once
abbrev pub choice_fits : Choice → ℕ → Bool
choice_fits (choice.FabricRun tag) count = nat_le tag 65535 && (count == 1)
choice_fits (choice.IocPutOn queue) count = is_queue queue && is_count count
choice_fits (choice.HostTakeOn queue) count = is_queue queue && is_count count
choice_fits _ count = is_count count

-- the numbers of a line keep their ranges
abbrev pub line_fits : Line → Bool
line_fits (line.Queues queues) = nat_le 1 queues && nat_le queues 8
line_fits (line.Disk disk) = is_address disk.address && nat_le 1 disk.blocks && nat_le disk.blocks 1024
line_fits (line.Expander phys) = nat_le 1 phys && nat_le phys 22
line_fits (line.Input given) = input_fits given
line_fits (line.Choice choice count) = choice_fits choice count
line_fits line.Drain = true

-- an input to the host
abbrev pub is_host : Input → Bool
is_host (input.Plug address expander phy) = false
is_host (input.Unplug address) = false
is_host _ = true

-- the numbers of a statement keep their ranges
abbrev pub statement_fits : Statement → Bool
statement_fits (statement.Queues queues) = nat_le 1 queues && nat_le queues 8
statement_fits (statement.Disk disk) = is_address disk.address && nat_le 1 disk.blocks && nat_le disk.blocks 1024
statement_fits (statement.Expander number phys) = nat_le 1 phys && nat_le phys 22
statement_fits (statement.Plug address expander phy) = is_address address
statement_fits (statement.Unplug address) = is_address address
statement_fits (statement.Host given) = is_host given && input_fits given
statement_fits (statement.Choice choice count) = choice_fits choice count
statement_fits statement.Drain = true

-- the statement that an input is
abbrev pub input_statement : Input → Statement
input_statement (input.Plug address expander phy) = statement.Plug address expander phy
input_statement (input.Unplug address) = statement.Unplug address
input_statement given = statement.Host given

-- the statement that a line is after what was declared
abbrev pub statement_of : Declared → Line → Statement
statement_of d (line.Queues queues) = statement.Queues queues
statement_of d (line.Disk disk) = statement.Disk disk
statement_of d (line.Expander phys) = statement.Expander (length d.phys) phys
statement_of d (line.Input given) = input_statement given
statement_of d (line.Choice choice count) = statement.Choice choice count
statement_of d line.Drain = statement.Drain

-- no cause holds of a statement
abbrev pub is_unrefused : Declared → Statement → Bool
is_unrefused d said = not (is_misplaced d said) && not (is_repeated d said) && not (is_too_many d said) && not (is_unknown d said)

-- these lines may stand after what was declared
unfoldable pub are_allowed : Declared → List Line → Bool
are_allowed d [] = true
are_allowed d (first ∷ others) = line_fits first && is_unrefused d (statement_of d first) && are_allowed (after d first) others

-- the lines of a schedule
abbrev pub is_schedule : List Line → Bool
is_schedule lines = are_allowed nothing_declared lines
