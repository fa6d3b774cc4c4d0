use Rattle.ioc_core.proofs.DiskLists.{AreDisks-unbind}
use Rattle.ioc_core.proofs.disks.Disks.unbind.Goals as goal

pub invariant_of-self : goal.invariant_of-self
invariant_of-self c = rw c.unbind.ensures (AreDisks-unbind c.self.inside.bindings c.self.inside.waiting.items c.self.invariant c.args.handle)
