use Rattle.law_ties.proofs.RingKept.{rings_kept}
use Rattle.law_ties.proofs.laws.rings_are_kept.Goals as goal

pub returns : goal.returns
returns c = λ w h x f plain further. rings_kept w h f plain further x
