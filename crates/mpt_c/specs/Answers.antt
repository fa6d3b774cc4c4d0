-- The number that a call answers with.
use Rattle.std.specs.Prelude.{◌≡◌, ℕ}
use Rattle.mpt_c_messages.specs.declared.call_code.CallCode.{CallCode}
use Rattle.mpt_c_messages.specs.CallCode.{code_number}

-- it is the number of a code of which this holds
abbrev pub Answers : ℕ → (CallCode → Type 0) → Type 0
Answers answer holds = (code : CallCode) × (answer ≡ code_number code) × holds code
