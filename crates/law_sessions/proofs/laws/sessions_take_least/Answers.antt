use Rattle.law_sessions.proofs.SessionLeast.{session_least}
use Rattle.law_sessions.proofs.laws.sessions_take_least.Goals as goal

pub returns : goal.returns
returns c = session_least
