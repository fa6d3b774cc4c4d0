use Rattle.law_bells.proofs.BellsKept.{talks_kept}
use Rattle.law_bells.proofs.laws.talks_are_kept.Goals as goal

pub returns : goal.returns
returns c = talks_kept
