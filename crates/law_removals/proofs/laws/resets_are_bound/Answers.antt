use Rattle.law_removals.proofs.Behind.{after_case}
use Rattle.law_removals.proofs.ResetsBound.{resets_bound}
use Rattle.law_removals.proofs.laws.resets_are_bound.Goals as goal

pub returns : goal.returns
returns c = λ w h x f plain aborts vectors. resets_bound w h x f plain (after_case w h x f plain aborts vectors)
