use Rattle.law_limits.proofs.LimitsKept.{limits_kept}
use Rattle.law_notices.proofs.laws.few_disks_are_there.Goals as goal

pub returns : goal.returns
returns c = λ w h x f plain. (limits_kept w h f plain x).few_disks
