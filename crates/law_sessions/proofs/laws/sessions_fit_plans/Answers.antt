use Rattle.law_sessions.proofs.Plans.{plans_law}
use Rattle.law_sessions.proofs.laws.sessions_fit_plans.Goals as goal

pub returns : goal.returns
returns c = plans_law
