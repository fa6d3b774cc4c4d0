use Rattle.smid_pool.proofs.VacantBits.{full_has}
use Rattle.smid_pool.proofs.vacant_set.VacantSet.full.Goals as goal

pub returns : goal.returns
returns c = full_has
