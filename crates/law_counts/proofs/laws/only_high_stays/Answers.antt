use Rattle.law_counts.proofs.OnlyKept.{only_kept}
use Rattle.law_counts.proofs.laws.only_high_stays.Goals as goal

pub returns : goal.returns
returns c = λ w h k f plain. only_kept w h f plain k
