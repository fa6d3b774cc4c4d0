use Rattle.law_bells.proofs.BellsKept.{talks_at_first}
use Rattle.law_bells.proofs.laws.talks_stand_at_first.Goals as goal

pub returns : goal.returns
returns c = talks_at_first
