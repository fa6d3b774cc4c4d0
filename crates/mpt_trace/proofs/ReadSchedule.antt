-- The lines of a schedule are read back.
use Rattle.std.proofs.Common.{◌≡◌, Some, option_map, ◌∷◌, ◌++◌, codes, decimal, refl, ap, ◌∙◌}
use Rattle.hex.specs.Hex.{encode_lower}
use Rattle.mpt_trace.specs.declared.command_form.CommandForm.{CommandForm}
use Rattle.mpt_trace.specs.declared.command_form.CommandForm.TheVariants as form
use Rattle.mpt_trace.specs.declared.input.Input.{Input}
use Rattle.mpt_trace.specs.declared.input.Input.TheVariants as input
use Rattle.mpt_trace.specs.declared.choice.Choice.{Choice}
use Rattle.mpt_trace.specs.declared.choice.Choice.TheVariants as choice
use Rattle.mpt_trace.specs.Numbers.{address_text, byte_text}
use Rattle.mpt_trace.specs.Schedule.{choice_line, command_text, input_line}
use Rattle.mpt_trace.specs.Reading.{hexadecimal, number, words}
use Rattle.mpt_trace.specs.ReadingSchedule.{IsChoice, IsCommand, IsInput, choice_in, command_in, input_in}
use Rattle.mpt_trace.proofs.WordsRead.{digits_back, first, hex_back, last, number-decimal, pair, triple, two, word-decimal, word-encode, word-hex}

pub command_back : (f : CommandForm) → IsCommand f → command_in (words (command_text f)) ≡ Some f
command_back form.Tur h = refl
command_back (form.Inquiry len) h = ap (λ ws. command_in (codes "inquiry" ∷ ws)) (last (decimal len) (word-decimal len h)) ∙ ap (λ n. Some (form.Inquiry n)) (number-decimal len h)
command_back form.Capacity h = refl
command_back (form.Read lba blocks) h =
    ap (λ ws. command_in (codes "read" ∷ ws)) (pair (decimal lba) (decimal blocks) (word-decimal lba h.0) (word-decimal blocks h.1))
    ∙ rw (number-decimal lba h.0, number-decimal blocks h.1) refl
command_back (form.Write lba blocks fill) h =
    ap (λ ws. command_in (codes "write" ∷ ws)) (triple (decimal lba) (decimal blocks) (byte_text fill) (word-decimal lba h.0) (word-decimal blocks h.1) (word-hex 1 fill))
    ∙ rw (number-decimal lba h.0, number-decimal blocks h.1, hex_back 1 fill h.2) refl
command_back (form.Read16 lba blocks) h =
    ap (λ ws. command_in (codes "read16" ∷ ws)) (pair (decimal lba) (decimal blocks) (word-decimal lba h.0) (word-decimal blocks h.1))
    ∙ rw (number-decimal lba h.0, number-decimal blocks h.1) refl
command_back (form.Write16 lba blocks fill) h =
    ap (λ ws. command_in (codes "write16" ∷ ws)) (triple (decimal lba) (decimal blocks) (byte_text fill) (word-decimal lba h.0) (word-decimal blocks h.1) (word-hex 1 fill))
    ∙ rw (number-decimal lba h.0, number-decimal blocks h.1, hex_back 1 fill h.2) refl
command_back (form.Raw cdb len) h =
    ap (λ ws. command_in (codes "raw" ∷ ws)) (pair (encode_lower cdb) (decimal len) (word-encode cdb) (word-decimal len h.1))
    ∙ rw (digits_back cdb h.0, number-decimal len h.1) refl

pub input_back : (i : Input) → IsInput i → input_in (words (input_line i)) ≡ Some i
input_back input.Start h = refl
input_back (input.Submit n address f) h =
    ap (λ ws. input_in (codes "submit" ∷ ws)) (two (decimal n) (address_text address) (command_text f) (word-decimal n h.0) (word-hex 8 address))
    ∙ ap (option_map (λ form. input.Submit (number (decimal n)) (hexadecimal 8 (address_text address)) form)) (command_back f h.2)
    ∙ rw (number-decimal n h.0, hex_back 8 address h.1) refl
input_back (input.Abort n) h = ap (λ ws. input_in (codes "abort" ∷ ws)) (last (decimal n) (word-decimal n h)) ∙ ap (λ n. Some (input.Abort n)) (number-decimal n h)
input_back (input.TargetReset address) h = ap (λ ws. input_in (codes "treset" ∷ ws)) (last (address_text address) (word-hex 8 address)) ∙ ap (λ n. Some (input.TargetReset n)) (hex_back 8 address h)
input_back input.Reset h = refl
input_back input.UnitReset h = refl
input_back (input.Plug address expander phy) h =
    ap (λ ws. input_in (codes "plug" ∷ ws)) (first (address_text address) (decimal expander ++ codes " " ++ decimal phy) (word-hex 8 address) ∙ ap (λ ws. address_text address ∷ ws) (pair (decimal expander) (decimal phy) (word-decimal expander h.1) (word-decimal phy h.2)))
    ∙ rw (hex_back 8 address h.0, number-decimal expander h.1, number-decimal phy h.2) refl
input_back (input.Unplug address) h = ap (λ ws. input_in (codes "unplug" ∷ ws)) (last (address_text address) (word-hex 8 address)) ∙ ap (λ n. Some (input.Unplug n)) (hex_back 8 address h)

pub choice_back : (c : Choice) → IsChoice c → choice_in (words (choice_line c)) ≡ Some c
choice_back (choice.HostTakeOn queue) h = ap (λ ws. choice_in (codes "host-take-on" ∷ ws)) (last (decimal queue) (word-decimal queue h)) ∙ ap (λ n. Some (choice.HostTakeOn n)) (number-decimal queue h)
choice_back (choice.IocPutOn queue) h = ap (λ ws. choice_in (codes "ioc-put-on" ∷ ws)) (last (decimal queue) (word-decimal queue h)) ∙ ap (λ n. Some (choice.IocPutOn n)) (number-decimal queue h)
choice_back (choice.FabricRun tag) h = ap (λ ws. choice_in (codes "fabric-run" ∷ ws)) (last (decimal tag) (word-decimal tag h)) ∙ ap (λ n. Some (choice.FabricRun n)) (number-decimal tag h)
choice_back _ h = refl
