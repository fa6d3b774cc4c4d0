use Rattle.law_bells.proofs.BellsKept.{doorbell_kept}
use Rattle.law_bells.proofs.laws.doorbells_are_kept.Goals as goal

pub returns : goal.returns
returns c = doorbell_kept
