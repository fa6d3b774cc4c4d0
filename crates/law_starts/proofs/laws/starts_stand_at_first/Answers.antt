use Rattle.law_starts.proofs.StartsKept.{starts_at_first}
use Rattle.law_starts.proofs.laws.starts_stand_at_first.Goals as goal

pub returns : goal.returns
returns c = starts_at_first
