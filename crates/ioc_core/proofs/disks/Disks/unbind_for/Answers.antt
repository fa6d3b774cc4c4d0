use Rattle.std.proofs.Common.{Some}
use Rattle.ioc_core.proofs.DiskLists.{AreDisks-unbind_for, first_waits}
use Rattle.ioc_core.proofs.disks.Disks.unbind_for.Goals as goal

pub unbind_for-requires-clause-absent : goal.unbind_for-requires-clause-absent
unbind_for-requires-clause-absent c =
    (first_waits c.self.inside.bindings c.self.inside.waiting.items c.args.first c.self.invariant (rw (← c.self.view_is) at c.requires.first)).unbound

pub invariant_of-self-2 : goal.invariant_of-self-2
invariant_of-self-2 c =
    rw (c.in_ok-given.ensures.bound, c.pop_front.ensures.rest)
    (AreDisks-unbind_for c.self.inside.bindings c.self.inside.waiting.items c.args.first c.args.handle (Some c.in_ok-given.given) c.self.invariant (rw (← c.self.view_is) at c.requires.first))
