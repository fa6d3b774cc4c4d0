use Rattle.law_locks.proofs.LocksStand.{rests_kept}
use Rattle.law_locks.proofs.laws.doors_rest.Goals as goal

pub returns : goal.returns
returns c = rests_kept
