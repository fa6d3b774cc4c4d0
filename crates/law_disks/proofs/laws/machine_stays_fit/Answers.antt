use Rattle.law_disks.proofs.Kept.{machine_kept}
use Rattle.law_disks.proofs.laws.machine_stays_fit.Goals as goal

pub returns : goal.returns
returns c = λ w h x f plain fit known was. machine_kept w h f plain fit known was x
