use Rattle.law_sessions.proofs.Blocks.{session_in_place}
use Rattle.law_sessions.proofs.laws.session_tells_stand_behind.Goals as goal

pub returns : goal.returns
returns c = session_in_place
