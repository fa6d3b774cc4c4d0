-- The limits of an input: 32 MiB, and 20,000 lines.
use Rattle.std.proofs.Common.{◌≡◌, refl}
use Rattle.mpt_cli.specs.declared.answer.TheConstants.{MOST_LINES}
use Rattle.mpt_cli.specs.declared.run.TheConstants.{MOST_BYTES}

most_bytes : MOST_BYTES ≡ 33554432
most_bytes = refl

most_lines : MOST_LINES ≡ 20000
most_lines = refl
