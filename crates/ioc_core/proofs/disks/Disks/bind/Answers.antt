use Rattle.ioc_tables.specs.Bindings.{least_free}
use Rattle.ioc_core.proofs.DiskLists.{AreDisks-bind}
use Rattle.ioc_core.proofs.disks.Disks.bind.Goals as goal

pub invariant_of-self-2 : goal.invariant_of-self-2
invariant_of-self-2 c =
    rw c.in_ok-bind.ensures.bound
    (AreDisks-bind c.self.inside.bindings c.self.inside.waiting.items c.self.invariant c.args.disk (least_free c.self.inside.bindings) (rw (← c.self.view_is) at c.requires.new) c.requires.placed)
