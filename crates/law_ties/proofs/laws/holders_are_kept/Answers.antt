use Rattle.law_ties.proofs.HoldersKept.{holders_kept}
use Rattle.law_ties.proofs.laws.holders_are_kept.Goals as goal

pub returns : goal.returns
returns c = λ w h x f known agree. holders_kept w h f known agree x
