use Rattle.law_counts.proofs.Shown.{progress_shown}
use Rattle.law_counts.proofs.laws.progress_is_kept.Goals as goal

pub returns : goal.returns
returns c = λ w h k f plain a x. progress_shown w h k f plain a x
