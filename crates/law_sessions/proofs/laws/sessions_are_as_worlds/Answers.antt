use Rattle.law_sessions.proofs.SessionStates.{faults_law, strange_law}
use Rattle.law_sessions.proofs.laws.sessions_are_as_worlds.Goals as goal

pub returns : goal.returns
returns c = record { strange = strange_law; fault = faults_law }
