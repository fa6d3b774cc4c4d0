use Rattle.law_resets.proofs.ResetsKept.{resets_kept}
use Rattle.law_resets.proofs.laws.resets_are_kept.Goals as goal

pub returns : goal.returns
returns c = resets_kept
