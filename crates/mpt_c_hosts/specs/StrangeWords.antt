-- Why an item is strange, as C has it.
use Rattle.std.specs.Prelude.{ℕ}
use Rattle.mpt_rules.specs.declared.why.Why.{Why}
use Rattle.mpt_rules.specs.declared.why.Why.TheVariants as why
use Rattle.mpt_c_messages.specs.declared.fault_words.FaultWords.{FaultWords}
use Rattle.mpt_c_messages.specs.FaultWords.{fault_words}
use Rattle.mpt_c_hosts.specs.declared.strange_words.StrangeWords.{StrangeWords}

abbrev pub no_fault : FaultWords
no_fault = record { kind = 0; at = 0; need = 0; have = 0 }

-- a cause with a number that goes with it
abbrev pub strange_with : ℕ → ℕ → StrangeWords
strange_with cause value = record { fault = no_fault; why = cause; step = 0; value = value }

abbrev pub strange_words : Why → StrangeWords
strange_words (why.WrongQueue queue) = strange_with 1 queue
strange_words (why.BadMark generation) = strange_with 2 generation
strange_words why.NoRead = strange_with 3 0
strange_words (why.DoorRefused step value) = record { fault = no_fault; why = 4; step = step; value = value }
strange_words why.BadDescriptor = strange_with 5 0
strange_words (why.NotReturned address) = strange_with 6 address
strange_words (why.BadFrame fault) = record { fault = fault_words fault; why = 7; step = 0; value = 0 }
strange_words (why.NotOpen smid) = strange_with 8 smid
strange_words why.BadAnswer = strange_with 9 0
strange_words (why.BadStatus status) = strange_with 10 status
strange_words (why.NotAbsent handle) = strange_with 11 handle
