use Rattle.law_removals.proofs.Behind.{after_case}
use Rattle.law_leaving.proofs.Ordered.{last_resets}
use Rattle.law_leaving.proofs.laws.last_resets_are_kept.Goals as goal

pub returns : goal.returns
returns c = λ w h x f plain aborts vectors. last_resets w h x f plain (after_case w h x f plain aborts vectors)
