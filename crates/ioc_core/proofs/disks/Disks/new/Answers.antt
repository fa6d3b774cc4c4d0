use Rattle.ioc_core.proofs.DiskLists.{AreDisks-fresh}
use Rattle.ioc_core.proofs.disks.Disks.new.Goals as goal

pub invariant_of-result : goal.invariant_of-result
invariant_of-result c = rw (c.in_ok-bindings.ensures, c.new-2.ensures.items) AreDisks-fresh
