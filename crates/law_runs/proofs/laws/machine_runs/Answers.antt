use Rattle.law_runs.proofs.Runs.{runs}
use Rattle.law_runs.proofs.laws.machine_runs.Goals as goal

pub returns : goal.returns
returns c = λ w h x f plain fit. runs w h f plain fit x
