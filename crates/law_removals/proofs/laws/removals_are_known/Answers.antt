use Rattle.law_removals.proofs.Behind.{after_case}
use Rattle.law_removals.proofs.Removed.{removals_known}
use Rattle.law_removals.proofs.laws.removals_are_known.Goals as goal

pub returns : goal.returns
returns c = λ w h x f plain aborts vectors. removals_known w h x f plain (after_case w h x f plain aborts vectors)
