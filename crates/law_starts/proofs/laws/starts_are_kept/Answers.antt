use Rattle.law_starts.proofs.StartsKept.{starts_kept}
use Rattle.law_starts.proofs.laws.starts_are_kept.Goals as goal

pub returns : goal.returns
returns c = starts_kept
