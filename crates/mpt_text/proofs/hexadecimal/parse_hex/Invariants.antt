-- The text names the bytes so far and what the rest names after the digit that waits.
use Rattle.std.proofs.Common.{◌≡◌, ◌<◌, drop}
use Rattle.std.specs.Prelude.{IfSome}
use Rattle.mpt_text.specs.Hexadecimal.{hexadecimal}
use Rattle.mpt_text.proofs.Digits.{named}
use Rattle.mpt_text.proofs.hexadecimal.parse_hex.Given as goal

abbrev pub invariant-loop-byte : goal.invariant-loop-byte
invariant-loop-byte l = (hexadecimal l.text ≡ named l.bytes.items l.high (drop l.byte-index l.text))
    × IfSome l.high (λ digit. digit < 16)
