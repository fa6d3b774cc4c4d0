use Rattle.std.proofs.Common.{◌≡◌, min, take}
use Rattle.mpt_lines.specs.Numbers.{decimal_value, too_great}
use Rattle.mpt_lines.proofs.numbers.number.Given as goal

abbrev pub invariant-loop-digit : goal.invariant-loop-digit
invariant-loop-digit l = l.value ≡ min (decimal_value (take l.digit-index l.word)) too_great
