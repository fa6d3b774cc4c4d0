use Rattle.law_ends.proofs.Recovery.{recovery_law}
use Rattle.law_ends.proofs.laws.controllers_come_back.Goals as goal

pub returns : goal.returns
returns c = recovery_law
