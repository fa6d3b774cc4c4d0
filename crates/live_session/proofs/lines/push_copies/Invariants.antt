use Rattle.std.proofs.Common.{◌≡◌, ◌++◌, take}
use Rattle.live_session.proofs.lines.push_copies.Given as goal

abbrev pub invariant-loop-input : goal.invariant-loop-input
invariant-loop-input l = l.copies.items ≡ l.fn.copies.items ++ take l.input-index l.fn.inputs
