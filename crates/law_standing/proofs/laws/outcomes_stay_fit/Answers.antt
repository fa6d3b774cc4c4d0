use Rattle.law_standing.proofs.Outcomes.{outcomes_fit}
use Rattle.law_standing.proofs.laws.outcomes_stay_fit.Goals as goal

pub returns : goal.returns
returns c = outcomes_fit
