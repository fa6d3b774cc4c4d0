use Rattle.law_bell_status.proofs.BellStand.{stands_at_first}
use Rattle.law_bell_status.proofs.laws.bells_stand_at_first.Goals as goal

pub returns : goal.returns
returns c = stands_at_first
