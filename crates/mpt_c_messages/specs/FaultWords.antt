-- A fault as four numbers.
use Rattle.mpt_messages.specs.declared.fault.MsgFault.{MsgFault}
use Rattle.mpt_messages.specs.declared.fault.MsgFault.TheVariants as refusal
use Rattle.mpt_c_messages.specs.declared.fault_words.FaultWords.{FaultWords}

abbrev pub fault_words : MsgFault → FaultWords
fault_words (refusal.Short need have) = record { kind = 1; at = 0; need = need; have = have }
fault_words (refusal.Field at) = record { kind = 2; at = at; need = 0; have = 0 }
fault_words (refusal.UnknownFunction byte) = record { kind = 3; at = 3; need = 0; have = byte }
fault_words (refusal.WrongKind byte kind) = record { kind = 4; at = 3; need = 0; have = byte }
