use Rattle.law_sessions.proofs.Journals.{merged}
use Rattle.law_sessions.proofs.laws.sessions_are_merged.Goals as goal

pub returns : goal.returns
returns c = merged
