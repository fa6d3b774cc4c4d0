use Rattle.law_locks.proofs.LocksStand.{lock_step_of}
use Rattle.law_locks.proofs.laws.handshakes_go_in_lock_step.Goals as goal

pub returns : goal.returns
returns c = lock_step_of
