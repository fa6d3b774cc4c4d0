use Rattle.law_bring_up.proofs.Kept.{enables_first}
use Rattle.law_bring_up.proofs.laws.enables_stand_at_first.Goals as goal

pub returns : goal.returns
returns c = enables_first
