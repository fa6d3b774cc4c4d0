use Rattle.law_sessions.proofs.Answers.{session_all_answered, session_answered}
use Rattle.law_sessions.proofs.laws.sessions_are_answered.Goals as goal

pub returns : goal.returns
returns c = record { once = session_answered; quiet = session_all_answered }
