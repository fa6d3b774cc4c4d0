use Rattle.law_replays.proofs.Summaries.{of_session}
use Rattle.law_replays.proofs.laws.session_summaries_tell.Goals as goal

pub returns : goal.returns
returns c = of_session
