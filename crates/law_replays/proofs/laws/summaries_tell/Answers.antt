use Rattle.law_replays.proofs.Summaries.{of_replays}
use Rattle.law_replays.proofs.laws.summaries_tell.Goals as goal

pub returns : goal.returns
returns c = of_replays
