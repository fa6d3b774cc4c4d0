use Rattle.law_removals.proofs.Behind.{after_case}
use Rattle.law_leaving.proofs.Waiting.{held_last}
use Rattle.law_leaving.proofs.laws.held_resets_are_last.Goals as goal

pub returns : goal.returns
returns c = λ w h x f plain aborts vectors. held_last w h x f plain (after_case w h x f plain aborts vectors)
