use Rattle.law_standing.proofs.Outcomes.{outcomes_fit_first}
use Rattle.law_standing.proofs.laws.outcomes_fit_at_first.Goals as goal

pub returns : goal.returns
returns c = outcomes_fit_first
