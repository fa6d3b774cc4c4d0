use Rattle.law_sessions.proofs.OfCases.{of_cases_law}
use Rattle.law_sessions.proofs.laws.sessions_are_of_cases.Goals as goal

pub returns : goal.returns
returns c = of_cases_law
