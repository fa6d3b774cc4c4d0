use Rattle.ioc_core.proofs.DiskLists.{AreDisks-wait}
use Rattle.ioc_core.proofs.disks.Disks.wait.Goals as goal

pub invariant_of-self-2 : goal.invariant_of-self-2
invariant_of-self-2 c =
    rw c.in_ok-push_back.ensures.items
    (AreDisks-wait c.self.inside.bindings c.self.inside.waiting.items c.self.invariant c.args.disk (rw (← c.self.view_is) at c.requires.unbound) (rw (← c.self.view_is) at c.requires.new) c.requires.placed)
