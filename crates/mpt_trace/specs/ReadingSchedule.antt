-- The lines of a schedule read back, by their words.
use Rattle.std.specs.Prelude.{ℕ, ◌^◌, ◌<◌, if◌then◌else◌, Option, Some, None, option_map, List, [], ◌∷◌, codes, find}
use Rattle.hex.specs.Hex.{IsBytes}
use Rattle.mpt_trace.specs.declared.command_form.CommandForm.{CommandForm}
use Rattle.mpt_trace.specs.declared.command_form.CommandForm.TheVariants as form
use Rattle.mpt_trace.specs.declared.input.Input.{Input}
use Rattle.mpt_trace.specs.declared.input.Input.TheVariants as input
use Rattle.mpt_trace.specs.declared.choice.Choice.{Choice}
use Rattle.mpt_trace.specs.declared.choice.Choice.TheVariants as choice
use Rattle.mpt_trace.specs.Schedule.{choice_line}
use Rattle.mpt_trace.specs.Reading.{IsNumber, bytes_of_digits, hexadecimal, is_word, number}

-- a command
abbrev pub command_in : List (List ℕ) → Option CommandForm
command_in (w ∷ []) =
    if is_word w (codes "tur") then Some form.Tur
    else (if is_word w (codes "capacity") then Some form.Capacity else None)
command_in (w ∷ a ∷ []) = if is_word w (codes "inquiry") then Some (form.Inquiry (number a)) else None
command_in (w ∷ a ∷ b ∷ []) =
    if is_word w (codes "read") then Some (form.Read (number a) (number b))
    else (if is_word w (codes "read16") then Some (form.Read16 (number a) (number b))
    else (if is_word w (codes "raw") then Some (form.Raw (bytes_of_digits a) (number b)) else None))
command_in (w ∷ a ∷ b ∷ c ∷ []) =
    if is_word w (codes "write") then Some (form.Write (number a) (number b) (hexadecimal 1 c))
    else (if is_word w (codes "write16") then Some (form.Write16 (number a) (number b) (hexadecimal 1 c)) else None)
command_in _ = None

-- a place's phy, behind the address and the expander
abbrev pub plug_in : List ℕ → List ℕ → List (List ℕ) → Option Input
plug_in a b (c ∷ []) = Some (input.Plug (hexadecimal 8 a) (number b) (number c))
plug_in a b _ = None

-- an input
abbrev pub input_in : List (List ℕ) → Option Input
input_in [] = None
input_in (w ∷ []) =
    if is_word w (codes "start") then Some input.Start
    else (if is_word w (codes "reset") then Some input.Reset
    else (if is_word w (codes "unit") then Some input.UnitReset else None))
input_in (w ∷ a ∷ []) =
    if is_word w (codes "abort") then Some (input.Abort (number a))
    else (if is_word w (codes "treset") then Some (input.TargetReset (hexadecimal 8 a))
    else (if is_word w (codes "unplug") then Some (input.Unplug (hexadecimal 8 a)) else None))
input_in (w ∷ a ∷ b ∷ rest) =
    if is_word w (codes "submit") then option_map (λ form. input.Submit (number a) (hexadecimal 8 b) form) (command_in rest)
    else (if is_word w (codes "plug") then plug_in a b rest else None)

-- every choice that has no number
abbrev pub plain_choices : List Choice
plain_choices =
    choice.HostPut
    ∷ choice.HostTake
    ∷ choice.IocTake
    ∷ choice.IocHigh
    ∷ choice.IocNormal
    ∷ choice.IocOut
    ∷ choice.IocBack
    ∷ choice.IocPut
    ∷ choice.FabricTake
    ∷ choice.FabricSay
    ∷ choice.FabricPut
    ∷ []

-- a choice: the one that has this text, or one with a number
abbrev pub choice_in : List (List ℕ) → Option Choice
choice_in (w ∷ []) = find (λ chosen. is_word w (choice_line chosen)) plain_choices
choice_in (w ∷ a ∷ []) =
    if is_word w (codes "host-take-on") then Some (choice.HostTakeOn (number a))
    else (if is_word w (codes "ioc-put-on") then Some (choice.IocPutOn (number a))
    else (if is_word w (codes "fabric-run") then Some (choice.FabricRun (number a)) else None))
choice_in _ = None

-- ---- what words can say

abbrev pub IsCommand : CommandForm → Type 0
IsCommand form.Tur = Unit {0}
IsCommand (form.Inquiry len) = IsNumber len
IsCommand form.Capacity = Unit {0}
IsCommand (form.Read lba blocks) = IsNumber lba × IsNumber blocks
IsCommand (form.Write lba blocks fill) = IsNumber lba × IsNumber blocks × (fill < 256 ^ 1)
IsCommand (form.Read16 lba blocks) = IsNumber lba × IsNumber blocks
IsCommand (form.Write16 lba blocks fill) = IsNumber lba × IsNumber blocks × (fill < 256 ^ 1)
IsCommand (form.Raw cdb len) = IsBytes cdb × IsNumber len

abbrev pub IsInput : Input → Type 0
IsInput input.Start = Unit {0}
IsInput (input.Submit n address form) = IsNumber n × (address < 256 ^ 8) × IsCommand form
IsInput (input.Abort n) = IsNumber n
IsInput (input.TargetReset address) = address < 256 ^ 8
IsInput input.Reset = Unit {0}
IsInput input.UnitReset = Unit {0}
IsInput (input.Plug address expander phy) = (address < 256 ^ 8) × IsNumber expander × IsNumber phy
IsInput (input.Unplug address) = address < 256 ^ 8

abbrev pub IsChoice : Choice → Type 0
IsChoice (choice.HostTakeOn queue) = IsNumber queue
IsChoice (choice.IocPutOn queue) = IsNumber queue
IsChoice (choice.FabricRun tag) = IsNumber tag
IsChoice _ = Unit {0}
