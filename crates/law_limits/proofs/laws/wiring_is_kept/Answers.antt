use Rattle.law_limits.proofs.WiringKept.{wiring_kept}
use Rattle.law_limits.proofs.laws.wiring_is_kept.Goals as goal

pub returns : goal.returns
returns c = λ w h x f plain. wiring_kept w h x f plain
