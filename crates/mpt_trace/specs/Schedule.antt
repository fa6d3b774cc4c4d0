-- The lines of a schedule: inputs and choices, without the end of the line.
use Rattle.std.specs.Prelude.{ℕ, List, ◌++◌, codes, decimal}
use Rattle.hex.specs.Hex.{encode_lower}
use Rattle.mpt_trace.specs.declared.command_form.CommandForm.{CommandForm}
use Rattle.mpt_trace.specs.declared.command_form.CommandForm.TheVariants as form
use Rattle.mpt_trace.specs.declared.input.Input.{Input}
use Rattle.mpt_trace.specs.declared.input.Input.TheVariants as input
use Rattle.mpt_trace.specs.declared.choice.Choice.{Choice}
use Rattle.mpt_trace.specs.declared.choice.Choice.TheVariants as choice
use Rattle.mpt_trace.specs.Numbers.{address_text, byte_text, place_text}

-- a logical block address and a number of blocks
abbrev pub blocks_text : ℕ → ℕ → List ℕ
blocks_text lba blocks = decimal lba ++ codes " " ++ decimal blocks

-- a command
abbrev pub command_text : CommandForm → List ℕ
command_text form.Tur = codes "tur"
command_text (form.Inquiry len) = codes "inquiry " ++ decimal len
command_text form.Capacity = codes "capacity"
command_text (form.Read lba blocks) = codes "read " ++ blocks_text lba blocks
command_text (form.Write lba blocks fill) = codes "write " ++ blocks_text lba blocks ++ codes " " ++ byte_text fill
command_text (form.Read16 lba blocks) = codes "read16 " ++ blocks_text lba blocks
command_text (form.Write16 lba blocks fill) = codes "write16 " ++ blocks_text lba blocks ++ codes " " ++ byte_text fill
command_text (form.Raw cdb len) = codes "raw " ++ encode_lower cdb ++ codes " " ++ decimal len

-- an input
abbrev pub input_line : Input → List ℕ
input_line input.Start = codes "start"
input_line (input.Submit n address form) = codes "submit " ++ decimal n ++ codes " " ++ address_text address ++ codes " " ++ command_text form
input_line (input.Abort n) = codes "abort " ++ decimal n
input_line (input.TargetReset address) = codes "treset " ++ address_text address
input_line input.Reset = codes "reset"
input_line input.UnitReset = codes "unit"
input_line (input.Plug address expander phy) = codes "plug " ++ address_text address ++ codes " " ++ place_text expander phy
input_line (input.Unplug address) = codes "unplug " ++ address_text address

-- a choice of one step
abbrev pub choice_line : Choice → List ℕ
choice_line choice.HostPut = codes "host-put"
choice_line choice.HostTake = codes "host-take"
choice_line (choice.HostTakeOn queue) = codes "host-take-on " ++ decimal queue
choice_line choice.IocTake = codes "ioc-take"
choice_line choice.IocHigh = codes "ioc-high"
choice_line choice.IocNormal = codes "ioc-normal"
choice_line choice.IocOut = codes "ioc-out"
choice_line choice.IocBack = codes "ioc-back"
choice_line choice.IocPut = codes "ioc-put"
choice_line (choice.IocPutOn queue) = codes "ioc-put-on " ++ decimal queue
choice_line choice.FabricTake = codes "fabric-take"
choice_line choice.FabricSay = codes "fabric-say"
choice_line choice.FabricPut = codes "fabric-put"
choice_line (choice.FabricRun tag) = codes "fabric-run " ++ decimal tag
