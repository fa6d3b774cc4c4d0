use Rattle.law_counts.proofs.Shown.{counts_shown}
use Rattle.law_counts.proofs.laws.counts_are_kept.Goals as goal

pub returns : goal.returns
returns c = λ w h k f plain a x y. counts_shown w h k f plain a x y
