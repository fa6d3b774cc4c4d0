-- The numbers by which calls end, as C reads them. The header's own tests of null pointers answer 1.
use Rattle.std.specs.Prelude.{ℕ}
use Rattle.mpt_c_messages.specs.declared.call_code.CallCode.{CallCode}
use Rattle.mpt_c_messages.specs.declared.call_code.CallCode.TheVariants as code

abbrev pub code_number : CallCode → ℕ
code_number code.Ok = 0
code_number code.NoSuch = 2
code_number code.Refused = 3
code_number code.ShortBuffer = 4
code_number code.NoMemory = 5
code_number code.Nothing = 6
code_number code.Empty = 7
