use Rattle.std.proofs.Common.{◌≡◌, length}
use Rattle.mpt_sgl.proofs.tests.frame_addresses.Given as goal

abbrev pub invariant-loop-i : goal.invariant-loop-i
invariant-loop-i l = length l.heads.items ≡ l.i
