use Rattle.law_standing.proofs.RepliesKept.{replies_at_first}
use Rattle.law_standing.proofs.laws.replies_are_written_at_first.Goals as goal

pub returns : goal.returns
returns c = replies_at_first
