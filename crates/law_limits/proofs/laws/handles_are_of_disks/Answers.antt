use Rattle.law_limits.proofs.NamesKept.{names_kept}
use Rattle.law_limits.proofs.laws.handles_are_of_disks.Goals as goal

pub returns : goal.returns
returns c = λ w h x f plain. names_kept w h f plain x
