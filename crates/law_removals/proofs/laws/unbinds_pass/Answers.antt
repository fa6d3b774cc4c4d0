use Rattle.law_removals.proofs.Unbinds.{unbinds_pass}
use Rattle.law_removals.proofs.laws.unbinds_pass.Goals as goal

pub returns : goal.returns
returns c = λ w h x f plain. unbinds_pass w h x f plain
