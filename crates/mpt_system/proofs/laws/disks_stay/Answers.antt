use Rattle.mpt_system.proofs.Disks.{stay}
use Rattle.mpt_system.proofs.laws.disks_stay.Goals as goal

pub returns : goal.returns
returns c = stay c.other_blocks_stay.ensures.size
