use Rattle.ioc_tables.specs.Bindings.{binding_at}
use Rattle.ioc_core.proofs.DiskLists.{AreDisks-leaving}
use Rattle.ioc_core.proofs.disks.Disks.lose.Goals as goal

pub invariant_of-self : goal.invariant_of-self
invariant_of-self c =
    rw c.lose.ensures (AreDisks-leaving c.self.inside.bindings c.self.inside.waiting.items c.self.invariant c.args.handle (binding_at c.self.inside.bindings c.args.handle))
