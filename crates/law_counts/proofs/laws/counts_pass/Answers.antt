use Rattle.law_counts.proofs.CountsPass.{counts_pass}
use Rattle.law_counts.proofs.laws.counts_pass.Goals as goal

pub returns : goal.returns
returns c = λ w h k f plain x s. counts_pass w h f x s plain k
