use Rattle.law_waits.proofs.Kept.{waits_kept}
use Rattle.law_waits.proofs.laws.waits_are_for_identifiers.Goals as goal

pub returns : goal.returns
returns c = λ w h x f plain. waits_kept w h f plain x
