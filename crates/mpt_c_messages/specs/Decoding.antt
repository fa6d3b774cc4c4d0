-- What a call that decodes answers, and what it leaves of the fault.
use Rattle.std.specs.Prelude.{◌≡◌, List, ℕ, Option, Some, None}
use Rattle.mpt_messages.specs.declared.fault.MsgFault.{MsgFault}
use Rattle.mpt_c_messages.specs.declared.call_code.CallCode.{CallCode}
use Rattle.mpt_c_messages.specs.declared.call_code.CallCode.TheVariants as code
use Rattle.mpt_c_messages.specs.declared.decode_as.DecodeAs.{DecodeAs}
use Rattle.mpt_c_messages.specs.declared.fault_words.FaultWords.{FaultWords}
use Rattle.mpt_c_messages.specs.FaultWords.{fault_words}
use Rattle.mpt_c_messages.specs.Reading.{Reads, refusal_as}

-- Ok: the bytes stand for something of the form. Refused: the fault is their first
abbrev pub IsDecodedAs : DecodeAs → List ℕ → FaultWords → FaultWords → CallCode → Type 0
IsDecodedAs read_as bytes old new code.Ok = Reads read_as bytes × (new ≡ old)
IsDecodedAs read_as bytes old new code.Refused =
    (fault : MsgFault) × (refusal_as read_as bytes ≡ Some fault) × (new ≡ fault_words fault)
IsDecodedAs read_as bytes old new _ = ⊥

-- NoSuch: the number names no form
abbrev pub IsDecoded : Option DecodeAs → List ℕ → FaultWords → FaultWords → CallCode → Type 0
IsDecoded None bytes old new answer = (answer ≡ code.NoSuch) × (new ≡ old)
IsDecoded (Some read_as) bytes old new answer = IsDecodedAs read_as bytes old new answer
