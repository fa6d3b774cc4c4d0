use Rattle.law_locks.proofs.LocksStand.{stand_at_first}
use Rattle.law_locks.proofs.laws.handshakes_stand_at_first.Goals as goal

pub returns : goal.returns
returns c = stand_at_first
