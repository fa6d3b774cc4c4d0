use Rattle.law_sessions.proofs.SessionModes.{session_modes}
use Rattle.law_sessions.proofs.laws.session_modes_agree.Goals as goal

pub returns : goal.returns
returns c = λ s x i h lanes. session_modes s x
