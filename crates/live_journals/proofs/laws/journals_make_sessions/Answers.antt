use Rattle.live_journals.proofs.Parties.{session_of}
use Rattle.live_journals.proofs.laws.journals_make_sessions.Goals as goal

pub returns : goal.returns
returns c = session_of
