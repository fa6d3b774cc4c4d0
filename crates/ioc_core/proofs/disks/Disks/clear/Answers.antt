use Rattle.ioc_core.proofs.DiskLists.{AreDisks-fresh}
use Rattle.ioc_core.proofs.disks.Disks.clear.Goals as goal

pub invariant_of-self : goal.invariant_of-self
invariant_of-self c = rw (c.clear.ensures, c.clear-2.ensures.items) AreDisks-fresh
