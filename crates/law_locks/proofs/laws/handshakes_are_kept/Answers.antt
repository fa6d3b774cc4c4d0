use Rattle.law_locks.proofs.LocksStand.{handshakes_kept}
use Rattle.law_locks.proofs.laws.handshakes_are_kept.Goals as goal

pub returns : goal.returns
returns c = handshakes_kept
