use Rattle.law_standing.proofs.Shown.{replies_stay_written}
use Rattle.law_standing.proofs.laws.replies_stay_written.Goals as goal

pub returns : goal.returns
returns c = replies_stay_written
