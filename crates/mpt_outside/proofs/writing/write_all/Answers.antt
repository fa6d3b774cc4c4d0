use Rattle.std.proofs.Common.{rules}
use Rattle.mpt_outside.proofs.PutLemmas.{appends_front}
use Rattle.mpt_outside.proofs.writing.write_all.Goals as goal

pub loop-done-preserved : goal.loop-done-preserved
loop-done-preserved g c = (search rules, appends_front _ _ _ _ _ _ c.loop-done.invariant.1 c.in_ok-done.ensures.bytes, search rules)
