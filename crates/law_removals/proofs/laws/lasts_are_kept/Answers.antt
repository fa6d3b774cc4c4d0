use Rattle.law_removals.proofs.Behind.{after_case}
use Rattle.law_removals.proofs.LastsKept.{lasts_kept}
use Rattle.law_removals.proofs.laws.lasts_are_kept.Goals as goal

pub returns : goal.returns
returns c = λ w h x f plain aborts vectors. lasts_kept w h x f plain (after_case w h x f plain aborts vectors)
