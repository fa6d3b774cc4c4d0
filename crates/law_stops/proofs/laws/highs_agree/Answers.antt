use Rattle.law_stops.proofs.Highs.{highs_kept}
use Rattle.law_stops.proofs.laws.highs_agree.Goals as goal

pub returns : goal.returns
returns c = highs_kept
