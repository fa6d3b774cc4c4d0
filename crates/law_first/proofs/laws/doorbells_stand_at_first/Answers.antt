use Rattle.law_first.proofs.DoorbellFirst.{doorbell_first}
use Rattle.law_first.proofs.laws.doorbells_stand_at_first.Goals as goal

pub returns : goal.returns
returns c = doorbell_first
